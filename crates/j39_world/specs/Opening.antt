-- Which plans have a bus, and why another has none.
use Rattle.std.specs.Prelude.{◌≡◌, ◌≢◌, ℕ, ◌<◌, List, length, All}
use Rattle.j39_claim.specs.ClaimRule.{PlannedUnit}
use Rattle.j39_network.specs.Kinds.{MayBeOneAt, AreDistinctUnits}
use Rattle.j39_network.specs.PlannedGroups.{IsSendable, IsFirstRefused}
use Rattle.j39_network.specs.declared.plan.Plan.{Plan}
use Rattle.j39_world.specs.declared.bus_error.BusError.{BusError}
use Rattle.j39_world.specs.declared.bus_error.BusError.TheVariants.{ChooserCount, SameName, BadGroup, Memory}
use Rattle.j39_network.specs.PlannedUnits.{unit_at}

-- the units at these places have one NAME
pub record HaveOneName (units : List PlannedUnit) (i j : ℕ) : Type 0 where
  pub below : i < j
  pub inside : j < length units
  pub same : (unit_at units i).name ≡ (unit_at units j).name

abbrev pub AreNamesDistinct : List PlannedUnit → Type 0
AreNamesDistinct units = (i j : ℕ) → ¬ HaveOneName units i j

-- the places of the first two units that may be one: the first place is the least, then the second
pub record AreFirstThatMayBeOne (plan : Plan) (i j : ℕ) : Type 0 where
  pub here : MayBeOneAt plan i j
  pub no_earlier : (k l : ℕ) → k < i → ¬ MayBeOneAt plan k l
  pub no_nearer : (l : ℕ) → l < j → ¬ MayBeOneAt plan i l

-- a bus needs as many choosers as units, units of which no two may be one, and groups that can be sent
pub record CanOpen (choosers : ℕ) (plan : Plan) : Type 0 where
  pub count : choosers ≡ length plan.units.items
  pub are_apart : AreDistinctUnits plan
  pub groups : All IsSendable plan.groups.items

-- the first cause, in this order
abbrev pub IsNotOpened : ℕ → Plan → BusError → Type 0
IsNotOpened choosers plan ChooserCount = choosers ≢ length plan.units.items
IsNotOpened choosers plan (SameName i j) = (choosers ≡ length plan.units.items) × AreFirstThatMayBeOne plan i j
IsNotOpened choosers plan (BadGroup g) =
    (choosers ≡ length plan.units.items) × AreDistinctUnits plan × IsFirstRefused plan.groups.items g
IsNotOpened choosers plan Memory = CanOpen choosers plan
