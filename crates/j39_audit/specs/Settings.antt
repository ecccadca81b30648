-- What an audit goes by.
use Rattle.std.specs.Prelude.{◌≡◌, ℕ, min, ◌&&◌, Bool, false, not, List, length, slice_index_or, Option, Some, None}
use Rattle.std.specs.List.{slice_get}
use Rattle.j39_id.specs.Name.{is_arbitrary}
use Rattle.j39_findings.specs.Standing.{DecidesWhoStays}
use Rattle.j39_network.specs.declared.plan.Plan.{Plan}
use Rattle.j39_network.specs.declared.plan.unit_plan.UnitPlan.{UnitPlan}
use Rattle.j39_audit.specs.declared.by_load.Bound.{Bound}
use Rattle.j39_audit.specs.declared.by_load.Bound.TheVariants.{Load}

-- the plan, which of its units may move to other addresses, whether frames of the bus may be missing in the log, by how many microseconds the
-- time of a line may differ from the end of its frame, how many milliseconds without a frame are a gap, how long each flow takes to be sent, and by what
-- the earliest moment of a message is known
pub record Settings : Type 0 where
  pub plan : Plan
  pub moving : List Bool
  pub part : Bool
  pub stamps : ℕ
  pub quiet : ℕ
  pub responses : List (Option ℕ)
  pub bound : Bound

abbrev pub moves : Settings → ℕ → Bool
moves s u = slice_index_or s.moving u false

-- the same, by load
abbrev pub by_load : Settings → Settings
by_load s = record s { bound = Load }

-- how long behind its moment a message of the flow at a place has been sent, where this is known
abbrev pub response_of : Settings → ℕ → Option ℕ
response_of s n = slice_index_or s.responses n None

abbrev pub units_planned : Settings → ℕ
units_planned s = length s.plan.units.items

-- these units may move: those that may choose and don't stay at their planned addresses
pub record AreMoving (plan : Plan) (moving : List Bool) : Type 0 where
  pub size : length moving ≡ length plan.units.items
  pub stays : UnitPlan → Bool
  pub decides : DecidesWhoStays plan stays
  pub each : (u : ℕ) (unit : UnitPlan) → slice_get plan.units.items u ≡ Some unit
      → slice_index_or moving u false ≡ (is_arbitrary unit.name && not (stays unit))

-- the logger's error in microseconds; the command takes no more than a second
abbrev pub logger_error : Settings → ℕ
logger_error s = min s.stamps 1000000
