-- The lines of units, one after another.
use Rattle.std.proofs.Common.{◌≡◌, ℕ, ◌+◌, ◌<◌, Bool, List, ◌++◌, length, drop, get_or, sym, ap}
use Rattle.std.proofs.lemmas.List.{drop_more}
use Rattle.j39_network.specs.declared.plan.unit_plan.UnitPlan.{UnitPlan}
use Rattle.j39_plan_text.specs.AddressesText.{staying_line, staying_lines}

-- the lines from a unit on are its own and those of the units behind it
pub lines_from : (stays : UnitPlan → Bool) (units : List UnitPlan) (i : ℕ) (unit : UnitPlan) → unit ≡ get_or units i unit → i < length units
    → staying_lines stays (drop i units) ≡ staying_line stays unit ++ staying_lines stays (drop (i + 1) units)
unfolding staying_lines
lines_from stays units i unit is more =
    let next = drop_more units i unit more in
    rw next (ap (λ u. staying_line stays u ++ staying_lines stays (drop (i + 1) units)) (sym is))
