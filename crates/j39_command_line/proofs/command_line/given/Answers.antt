use Rattle.std.proofs.Common.{List, Option, [], ap, ◌∙◌}
use Rattle.std.specs.Prelude.{unwrap_or}
use Rattle.clap.specs.Words.{Text, found_of}
use Rattle.clap.proofs.WalkLemmas.{raw_values-rows}
use Rattle.j39_command_line.proofs.command_line.given.Goals as goal

pub returns-in_ok-owned-in-Some-clause-given : goal.returns-in_ok-owned-in-Some-clause-given
returns-in_ok-owned-in-Some-clause-given c =
    c.in_ok-owned-in-Some.ensures
    ∙ ap (λ (o : Option (List Text)). unwrap_or o []) (c.in-Some.ensures ∙ raw_values-rows (found_of c.args.values.now) c.args.name.now)

pub returns-in-None-clause-given : goal.returns-in-None-clause-given
returns-in-None-clause-given c = rw (c.new.ensures.items)
    (ap (λ (o : Option (List Text)). unwrap_or o []) (c.in-None.ensures ∙ raw_values-rows (found_of c.args.values.now) c.args.name.now))
