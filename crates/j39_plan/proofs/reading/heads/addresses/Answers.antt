use Rattle.toml.proofs.Views.{items_view-drop}
use Rattle.j39_plan.proofs.HeadElements.{begins, goes_on}
use Rattle.j39_plan.proofs.reading.heads.addresses.Goals as goal

pub loop-value-init : goal.loop-value-init
loop-value-init c = rw c.new-seen.ensures (begins _)

pub loop-value-preserved : goal.loop-value-preserved
loop-value-preserved c =
    let here = items_view-drop c.args.values.now c.loop-value.value-index c.value-item.result c.loop-value-test.true in
    let read = rw (here, ← c.value-item.is) at c.loop-value.invariant in
    rw c.insert.ensures (goes_on _ _ _ _ c.in-Ok.address read c.in-Ok.ensures.stated.0 c.in-Ok.ensures.stated.1 c.in-Ok.ensures.range)
