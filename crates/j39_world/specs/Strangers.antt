-- Strangers: units that stand in no plan and come beside those that do, as a service tool (SAE J1939-81).
use Rattle.std.specs.Prelude.{◌≡◌, ◌≢◌, ◌<◌, ◌≤◌, ◌⊎◌, ℕ, true, false, List, ◌++◌, length, All, Some}
use Rattle.std.specs.FinSet.{empty}
use Rattle.std.specs.List.{slice_get}
use Rattle.j39_id.specs.Addresses.{in_pool}
use Rattle.j39_id.specs.Name.{is_arbitrary}
use Rattle.j39_network.specs.UnitAddresses.{NeedsPoolAddress}
use Rattle.j39_network.specs.Kinds.{AreDistinctUnits}
use Rattle.j39_search.specs.ListPlaces.{SoManyMeet}
use Rattle.j39_network.specs.declared.plan.Plan.{Plan}
use Rattle.j39_network.specs.declared.plan.flow_plan.FlowPlan.{FlowPlan}
use Rattle.j39_network.specs.declared.plan.to.To.TheVariants.{One}
use Rattle.j39_network.specs.declared.plan.unit_plan.UnitPlan.{UnitPlan}
use Rattle.j39_world.specs.Opening.{AreNamesDistinct}
use Rattle.j39_network.specs.PlannedUnits.{unit_at, units_of}
use Rattle.j39_network.specs.Staying.{EachOther}

-- the second plan is the first with these strangers: it may have any groups and flows
pub record HasStrangers (plan joined : Plan) (strangers : List UnitPlan) : Type 0 where
  -- the plan has strangers, and no fewer than these
  pub stated : 0 < plan.strangers
  pub few : length strangers ≤ plan.strangers
  -- they stand behind its units
  pub behind : joined.units.items ≡ plan.units.items ++ strangers
  -- each claims and may choose, and has a NAME of its own
  pub claim : All (λ s. s.claims ≡ true) strangers
  pub choose : All (λ s. is_arbitrary s.name ≡ true) strangers
  pub names : AreNamesDistinct (units_of joined)
  -- none is set to the address of a unit that never claims, which would hear nothing of it and send nothing
  pub apart : All (λ s. All (λ u. u.claims ≡ false → u.address ≢ s.address) plan.units.items) strangers
  -- no stranger knows what the plan keeps free: each unit may choose any address, so that what these choose is among it, and what those
  -- choose that pass over it
  pub unaware : joined.keep_free ≡ empty

-- ---- beside a live plan

-- a unit that comes and claims: it isn't planned at the address of an end of a flow, nor at that of a unit that never claims, nor, where it may
-- not choose, at that of another one that may not
pub record ComesClaiming (joined : Plan) (u : ℕ) : Type 0 where
  pub claims : (unit_at (units_of joined) u).claims ≡ true
  pub sender : (f : ℕ) (flow : FlowPlan) → slice_get joined.flows.items f ≡ Some flow
      → (unit_at (units_of joined) flow.sender).preferred ≢ (unit_at (units_of joined) u).preferred
  pub receiver : (f : ℕ) (flow : FlowPlan) (v : ℕ) → slice_get joined.flows.items f ≡ Some flow → flow.to ≡ One v
      → (unit_at (units_of joined) v).preferred ≢ (unit_at (units_of joined) u).preferred
  pub silent : EachOther (units_of joined) u (λ v. (unit_at (units_of joined) v).claims ≡ false
      → (unit_at (units_of joined) v).preferred ≢ (unit_at (units_of joined) u).preferred)
  pub fixed : is_arbitrary (unit_at (units_of joined) u).name ≡ false
      → EachOther (units_of joined) u (λ v. is_arbitrary (unit_at (units_of joined) v).name ≡ false
      → (unit_at (units_of joined) v).preferred ≢ (unit_at (units_of joined) u).preferred)

-- one that comes and never claims: no other unit is planned at its address, and none moves there
pub record ComesSilent (joined : Plan) (u : ℕ) : Type 0 where
  pub silent : (unit_at (units_of joined) u).claims ≡ false
  pub outside : in_pool (unit_at (units_of joined) u).preferred ≡ false
  pub other : EachOther (units_of joined) u (λ v. (unit_at (units_of joined) v).preferred ≢ (unit_at (units_of joined) u).preferred)

-- the second plan is the first, a live one, with these units: their messages are none of its flows
pub record ComeBesideLive (plan joined : Plan) (strangers : List UnitPlan) : Type 0 where
  pub live : plan.live ≡ true
  -- the plan has strangers, and no fewer than those of these that need an address of 128 to 247
  pub stated : 0 < plan.strangers
  pub few : (m : ℕ) × SoManyMeet (NeedsPoolAddress empty) strangers m × (m ≤ plan.strangers)
  -- they stand behind its units, and no two of all of them may be one
  pub behind : joined.units.items ≡ plan.units.items ++ strangers
  pub apart : AreDistinctUnits joined
  pub each : (u : ℕ) → length plan.units.items ≤ u → u < length joined.units.items → ComesClaiming joined u ⊎ ComesSilent joined u
  -- groups, flows, needs and requests are the plan's
  pub groups : joined.groups.items ≡ plan.groups.items
  pub flows : joined.flows.items ≡ plan.flows.items
  pub needs : joined.needs.items ≡ plan.needs.items
  pub requests : joined.requests.items ≡ plan.requests.items
  -- none of them knows what is kept free, and no more come than these
  pub unaware : joined.keep_free ≡ empty
  pub no_more : joined.strangers ≡ 0
