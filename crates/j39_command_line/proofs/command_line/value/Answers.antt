use Rattle.std.proofs.Common.{Some, sym, ap, ◌∙◌}
use Rattle.clap.specs.Words.{found_of}
use Rattle.clap.proofs.WalkLemmas.{first_value-rows}
use Rattle.j39_command_line.proofs.command_line.value.Goals as goal

pub returns-in_ok-from_str-in-Some-clause-given : goal.returns-in_ok-from_str-in-Some-clause-given
returns-in_ok-from_str-in-Some-clause-given c =
    sym (c.in-Some.ensures ∙ first_value-rows (found_of c.args.values.now) c.args.name.now) ∙ ap Some (sym c.in_ok-from_str-in-Some.ensures.ok)

pub returns-in-None-clause-missing : goal.returns-in-None-clause-missing
returns-in-None-clause-missing c = λ _. sym (c.in-None.ensures ∙ first_value-rows (found_of c.args.values.now) c.args.name.now)
