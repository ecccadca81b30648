-- A delay that is reported of the whole bounds that of the flow in the part.
use Rattle.std.specs.Prelude.{◌≡◌, ◌⊎◌, ℕ, ◌<◌, ◌≤◌, Bool, true, length, Option, Some, None}
use Rattle.j39_network.specs.declared.plan.Plan.{Plan}
use Rattle.j39_network.specs.declared.plan.timing.Timing.{Timing}
use Rattle.j39_network.specs.declared.plan.unit_plan.UnitPlan.{UnitPlan}
use Rattle.j39_load.specs.Asked.{asked_of}
use Rattle.j39_load.specs.Delays.{HasDelay}
use Rattle.j39_load.specs.declared.waits.delay.Delay.{Delay}
use Rattle.j39_load.specs.declared.waits.delay.Delay.TheVariants.{Beyond, Late, Long, Whole, Within}
use Rattle.j39_load.specs.declared.waits.whole_time.WholeTime.{WholeTime}
use Rattle.j39_part_laws.specs.PlanParts.{Places}

-- where the second time is known the first is, and is no greater
abbrev pub IsKnownNoLater : Option ℕ → Option ℕ → Type 0
IsKnownNoLater a b = (n : ℕ) → b ≡ Some n → (m : ℕ) × (a ≡ Some m) × (m ≤ n)

-- the same long messages to all, whole no later, and each of them if each was
pub record IsWholeNoLater (a b : WholeTime) : Type 0 where
  pub frames : a.frames ≡ b.frames
  pub limit : a.limit ≡ b.limit
  pub bits : IsKnownNoLater a.bits b.bits
  pub each : b.each ≡ true → a.each ≡ true

-- where the second is reported, the first is, and is no greater: it may be within the limit where that one is beyond
abbrev pub IsNoLater : Option Delay → Option Delay → Type 0
IsNoLater delay None = delay ≡ None
IsNoLater delay (Some Late) = (d : Delay) × (delay ≡ Some d)
IsNoLater delay (Some (Within b)) = (a : ℕ) × (delay ≡ Some (Within a)) × (a ≤ b)
IsNoLater delay (Some (Beyond b)) = (a : ℕ) × ((delay ≡ Some (Within a)) ⊎ (delay ≡ Some (Beyond a))) × (a ≤ b)
IsNoLater delay (Some (Long n)) = delay ≡ Some (Long n)
IsNoLater delay (Some (Whole b)) = (a : WholeTime) × (delay ≡ Some (Whole a)) × IsWholeNoLater a b

-- so it is of each flow of the part, by who stays in the part and who in the whole, and by what is known of the bus of either
abbrev pub DelaysNoLater : Places → Plan → Plan → Timing → Timing → (UnitPlan → Bool) → (UnitPlan → Bool) → Type 0
DelaysNoLater at part whole timing busy reported stays = (f : ℕ) → f < length part.flows.items → (here there : Option Delay)
    → HasDelay timing (asked_of timing part reported) f here → HasDelay busy (asked_of busy whole stays) (at.flow f) there → IsNoLater here there
