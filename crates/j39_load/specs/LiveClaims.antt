-- The frames of a bus that aren't planned, where units claim at any time (SAE J1939-81): while a frame waits, with the busy time before, each unit
-- claims once at most, and one request for claims comes.
use Rattle.std.specs.Prelude.{ℕ, ◌+◌, ◌^◌, ◌==◌, ◌&&◌, max, if◌then◌else◌, Bool, false, List, count_by}
use Rattle.std.specs.Option.{option_map_or}
use Rattle.j39_id.specs.Addresses.{global_address, null_address}
use Rattle.j39_id.specs.Ident.{identifier_of}
use Rattle.j39_id.specs.Services.{address_claimed, claim_priority}
use Rattle.j39_network.specs.declared.plan.Plan.{Plan}
use Rattle.j39_network.specs.declared.plan.timing.Timing.{Timing}
use Rattle.j39_network.specs.declared.plan.unit_plan.UnitPlan.{UnitPlan}

-- how many of the units claim
abbrev pub claiming : List UnitPlan → ℕ
claiming units = count_by (λ (unit : UnitPlan). unit.claims) units

-- the claims of the plan's units and of strangers, and a request for them
abbrev pub claims_stated : Plan → ℕ
claims_stated plan = claiming plan.units.items + plan.strangers + 1

-- where the plan is live at least so many frames aren't planned
abbrev pub unplanned_of : Plan → Timing → ℕ
unplanned_of plan timing = if plan.live then max timing.unplanned (claims_stated plan) else timing.unplanned

-- no frame is foreseen that isn't planned but claims and requests for them
abbrev pub claims_alone : Plan → Bool
claims_alone plan = plan.live && option_map_or (λ (timing : Timing). timing.unplanned == 0) plan.timing false

-- the greatest identifier of these: that of a unit that could claim no address, and has the null address
abbrev pub last_claim : ℕ
last_claim = identifier_of claim_priority address_claimed global_address null_address

-- what isn't planned has identifiers below this number
abbrev pub unplanned_end : Plan → ℕ
unplanned_end plan = if claims_alone plan then last_claim + 1 else 2 ^ 29
