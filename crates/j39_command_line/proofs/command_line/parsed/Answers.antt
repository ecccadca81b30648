use Rattle.std.proofs.Common.{◌≡◌, ◌∙◌, ap, inr, map, string_bytes, subst, List, Option}
use Rattle.std.proofs.lemmas.Result.{IfOk-weaker}
use Rattle.clap.specs.Words.{App, Row, Text, is_simple, is_simple_and_free, kind_of, subcommand_of, subcommand_rows_of}
use Rattle.j39_command_line.specs.Commands.{commands}
use Rattle.j39_command_line.specs.Orders.{OrdersNothing}
use Rattle.j39_command_line.proofs.CommandLaws.{asks, has_fault, is_simple_and_free_commands, is_simple_commands, refuses}
use Rattle.j39_command_line.proofs.command_line.parsed.Goals as goal

pub returns-in-Ok-clause-ordered : goal.returns-in-Ok-clause-ordered
returns-in-Ok-clause-ordered c =
    let found = c.in-Ok.ensures.matches (ap is_simple c.in_ok-commands.ensures ∙ is_simple_commands) in
    let met : subcommand_rows_of c.in-Ok.matches ≡ subcommand_of commands (map string_bytes c.args.words.now) =
    found.1 ∙ ap (λ (a : App). subcommand_of a (map string_bytes c.args.words.now)) c.in_ok-commands.ensures in
    rw (← met) c.met.ensures.ordered

pub returns-in-Ok-clause-refused : goal.returns-in-Ok-clause-refused
returns-in-Ok-clause-refused c = λ bad.
    let found = c.in-Ok.ensures.matches (ap is_simple c.in_ok-commands.ensures ∙ is_simple_commands) in
    let met : subcommand_rows_of c.in-Ok.matches ≡ subcommand_of commands (map string_bytes c.args.words.now) =
    found.1 ∙ ap (λ (a : App). subcommand_of a (map string_bytes c.args.words.now)) c.in_ok-commands.ensures in
    inr (subst (λ (m : Option (Text × List Row)). OrdersNothing m) met (c.met.ensures.refused bad))

pub returns-in-Err-clause-helped : goal.returns-in-Err-clause-helped
returns-in-Err-clause-helped c =
    let words : List Text = map string_bytes c.args.words.now in
    let stated = has_fault _ words c.in-Err.error c.in_ok-commands.ensures
    (c.in-Err.ensures.kinds (ap is_simple_and_free c.in_ok-commands.ensures ∙ is_simple_and_free_commands)) in
    IfOk-weaker c.unmet.result _ _ (λ o is. λ help. asks words (kind_of c.in-Err.error) stated is) c.unmet.ensures.request

pub returns-in-Err-clause-refused : goal.returns-in-Err-clause-refused
returns-in-Err-clause-refused c = λ bad.
    let words : List Text = map string_bytes c.args.words.now in
    let stated = has_fault _ words c.in-Err.error c.in_ok-commands.ensures
    (c.in-Err.ensures.kinds (ap is_simple_and_free c.in_ok-commands.ensures ∙ is_simple_and_free_commands)) in
    refuses words (kind_of c.in-Err.error) stated (c.unmet.ensures.fault bad) (λ memory. c.unmet.ensures.memory memory bad)
