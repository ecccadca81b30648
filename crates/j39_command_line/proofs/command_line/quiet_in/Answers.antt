use Rattle.std.proofs.Common.{codes, sym, ap, ◌∙◌}
use Rattle.clap.specs.Words.{found_of}
use Rattle.clap.proofs.WalkLemmas.{first_value-rows}
use Rattle.j39_command_line.specs.Orders.{quiet_in}
use Rattle.j39_command_line.proofs.command_line.quiet_in.Goals as goal

pub returns-in-Some : goal.returns-in-Some
returns-in-Some c = c.quiet_of.ensures ∙ ap quiet_in (sym (sym (first_value-rows (found_of c.args.values.now) (codes "quiet")) ∙ sym c.in-Some.ensures))

pub returns-in-None : goal.returns-in-None
returns-in-None c = ap quiet_in (sym (sym (first_value-rows (found_of c.args.values.now) (codes "quiet")) ∙ sym c.in-None.ensures))
