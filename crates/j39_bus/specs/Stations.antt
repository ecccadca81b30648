-- What the units of a bus are.
use Rattle.std.specs.Prelude.{true, List, slice_index_or}
use Rattle.std.specs.FinSet.{FinSet, empty}
use Rattle.std.specs.Ordering.{nat_cmp}
use Rattle.j39_claim.specs.ClaimRule.{off}
use Rattle.j39_claim.specs.ClaimerValue.{ClaimerValue}
use Rattle.j39_network.specs.declared.plan.unit_plan.UnitPlan.{UnitPlan}
use Rattle.j39_network.specs.PlannedUnits.{planned_unit}
use Rattle.j39_world.specs.World.{Stations}

-- what stands at a place with no unit
abbrev pub absent_unit : ClaimerValue
absent_unit = record { planned = record { name = 0; preferred = 0; kept = empty; claims = true }; state = off }

-- a planned unit before any step, where these addresses are kept free
abbrev pub unstarted : FinSet nat_cmp → UnitPlan → ClaimerValue
unstarted kept p = record { planned = planned_unit kept p; state = off }

abbrev pub station_at : List ClaimerValue → Stations
station_at cs u = (slice_index_or cs u absent_unit).state
