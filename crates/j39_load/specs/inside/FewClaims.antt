-- No more claims come on a live bus than a plan can report as frames that aren't planned.
use Rattle.std.proofs.Common.{ℕ, ◌≤◌, max, Bool, true, false, if◌then◌else◌, arith}
use Rattle.std.proofs.lemmas.List.Sums.{count_by-le-length}
use Rattle.j39_network.specs.declared.plan.Plan.{Plan}
use Rattle.j39_network.specs.declared.plan.timing.Timing.{Timing}
use Rattle.j39_network.specs.declared.plan.unit_plan.UnitPlan.{UnitPlan}
use Rattle.j39_load.specs.LiveClaims.{claims_stated, unplanned_of}

pub few_claims : (plan : Plan) → claims_stated plan ≤ 249
few_claims plan =
    let claiming = count_by-le-length (λ (unit : UnitPlan). unit.claims) plan.units.items in
    let units = plan.unit_count in
    let strangers = plan.strangers_range in
    omega (arith, claiming, units, strangers)

either : (live : Bool) (stated claims : ℕ) → stated ≤ 1000 → claims ≤ 249 → (if live then max stated claims else stated) ≤ 1000
either true stated claims few least = omega arith
either false stated claims few least = few

pub few_unplanned : (plan : Plan) (timing : Timing) → unplanned_of plan timing ≤ 1000
few_unplanned plan timing = either plan.live timing.unplanned (claims_stated plan) timing.unplanned_range (few_claims plan)
