use Rattle.std.proofs.Common.{rules, ◌≡◌}
use Rattle.toml.specs.View.{table_view}
use Rattle.j39_toml.specs.Rules.{text_of}
use Rattle.j39_toml.specs.TableFaults.{key_faults}
use Rattle.j39_plan.specs.UnitTables.{queue_in, queue_rule}
use Rattle.j39_toml.proofs.FirstFaults.{refused_alike}
use Rattle.j39_plan.proofs.reading.units.queue.Goals as goal

pub returns-in_err-word : goal.returns-in_err-word
returns-in_err-word c =
    refused_alike _ c.from_residual.result c.in_err-word.field-0.0 (key_faults c.args.table (table_view c.args.members.now) queue_rule)
    (λ q. q ≡ queue_in (text_of queue_rule (table_view c.args.members.now))) (search rules) c.in_err-word.ensures.gives
