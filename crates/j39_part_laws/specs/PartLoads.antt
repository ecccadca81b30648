-- What a part asks of its bus beside what the whole asks: less, and its frames wait no longer.
use Rattle.std.specs.Prelude.{◌≡◌, ℕ, ◌<◌, ◌≤◌, Bool, List, length, Option, Some}
use Rattle.std.specs.List.{slice_get}
use Rattle.j39_findings.specs.Findings.{Holds}
use Rattle.j39_findings.specs.declared.checking.finding.Finding.TheVariants.{BadPgn}
use Rattle.j39_network.specs.declared.plan.Plan.{Plan}
use Rattle.j39_network.specs.declared.plan.timing.Timing.{Timing}
use Rattle.j39_network.specs.declared.plan.unit_plan.UnitPlan.{UnitPlan}
use Rattle.j39_load.specs.declared.frames.flow_frames.FlowFrames.{FlowFrames}
use Rattle.j39_load.specs.Asked.{Asked, asked_of, frames_asked, total_load}
use Rattle.j39_load.specs.Delays.{IsLeastWait, need_of}
use Rattle.j39_part_laws.specs.PlanParts.{Places}

-- the same bus, on which so many frames come that aren't planned
abbrev pub counting : Timing → (unplanned : ℕ) → unplanned ≤ 1000 → Timing
counting timing unplanned range = record timing { unplanned = unplanned; unplanned_range = range }

-- no bad number of a group is found
abbrev pub HasGoodNumbers : Plan → Type 0
HasGoodNumbers plan = (g : ℕ) → ¬ Holds plan (BadPgn g)

-- frames at a place among all need no more room than those at a place among others, and their least wait is no longer than any that has room there
pub record WaitNoLongerThan (timing busy : Timing) (all others : List (Option FlowFrames)) (i j : ℕ) (own : FlowFrames) : Type 0 where
  pub there : FlowFrames
  pub stands : slice_get others j ≡ Some (Some there)
  pub needs : (w : ℕ) → need_of timing all i own w ≤ need_of busy others j there w
  pub least : (v w : ℕ) → IsLeastWait timing all i own v → need_of busy others j there w ≤ w → v ≤ w

-- what is asked of a bus is no more than what is asked of another one, each with what is known of the bus
pub record AskNoMoreThan (at : Places) (flows : ℕ) (timing busy : Timing) (asked others : Asked) : Type 0 where
  -- of all frames each has a place among the others, that of so many flows that of the flow
  pub place : ℕ → ℕ
  pub rises : (i j : ℕ) → i < j → place i < place j
  pub of_flow : (f : ℕ) → f < flows → place f ≡ at.flow f
  pub waits : (i : ℕ) (own : FlowFrames) → slice_get (frames_asked asked) i ≡ Some (Some own)
      → WaitNoLongerThan timing busy (frames_asked asked) (frames_asked others) i (place i) own
  pub load : total_load timing asked ≤ total_load busy others

-- what a part asks, and what the whole does: by who stays in the part and who in the whole
abbrev pub AskNoMore : Places → Plan → Plan → Timing → Timing → (UnitPlan → Bool) → (UnitPlan → Bool) → Type 0
AskNoMore at part whole timing busy reported stays =
    AskNoMoreThan at (length part.flows.items) timing busy (asked_of timing part reported) (asked_of busy whole stays)
