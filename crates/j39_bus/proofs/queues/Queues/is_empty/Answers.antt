use Rattle.std.proofs.Common.{ap, ◌∙◌}
use Rattle.std.specs.Prelude.{nat_eq}
use Rattle.std.specs.List.{list_all}
use Rattle.j39_bus.proofs.Rows.{nothing_counted}
use Rattle.j39_bus.proofs.queues.Queues.is_empty.Goals as goal

pub returns : goal.returns
returns g c =
    nothing_counted c.self.inside.rows.items c.args.self.now c.self.view_is c.self.inside.filled.items c.self.invariant.counts c.are_zero.result
    (c.are_zero.ensures ∙ ap (list_all (λ n. nat_eq n 0)) c.as_slice.ensures.value)
