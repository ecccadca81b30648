use Rattle.std.proofs.Common.{◌≡◌, length, map, replicate, ap, sym, ◌∙◌, arith}
use Rattle.std.proofs.lemmas.List.{length-map}
use Rattle.j39_bus.proofs.ReceiverRows.{closed_first, none_in, receivers_first, slots}
use Rattle.j39_network.specs.declared.plan.unit_plan.UnitPlan.{UnitPlan}
use Rattle.j39_bus.proofs.receivers.Receivers.new.Goals as goal

pub invariant_of-result : goal.invariant_of-result
invariant_of-result c =
    let windows = c.in_ok-windows.windows.items in
    let all : c.loop.counter ≡ length c.args.units.now = omega arith in
    let many : length windows ≡ length c.args.units.now =
    ap length c.in_ok-windows.ensures.windows ∙ length-map c.args.units.now (λ (p : UnitPlan). p.window) in
    let rows : map slots c.loop.rows.items ≡ replicate (length windows) (none_in (length windows)) =
    c.loop.invariant.rows ∙ (λ i. replicate ((all ∙ sym many) i) (none_in (sym many i))) in
    receivers_first windows c.loop.rows.items c.in_ok-windows.ensures.lets_some rows

pub returns-clause-closed : goal.returns-clause-closed
returns-clause-closed c =
    let all : c.loop.counter ≡ length c.args.units.now = omega arith in
    closed_first (length c.args.units.now) c.loop.rows.items (c.loop.invariant.rows ∙ (λ i. replicate (all i) (none_in (length c.args.units.now))))
