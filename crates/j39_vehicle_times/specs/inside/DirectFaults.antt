-- What can be wrong with the times of a direct forward: the test, and the finding of one at a place.
use Rattle.std.specs.Prelude.{ℕ, Bool}
use Rattle.j39_vehicle.specs.declared.vehicle.Vehicle.{Vehicle}
use Rattle.j39_vehicle.specs.declared.vehicle.forward.Forward.{Forward}
use Rattle.j39_vehicle_times.specs.FoundTimes.{is_too_late, is_too_often, is_too_rare}
use Rattle.j39_vehicle_times.specs.declared.bus_delays.Delays.{Delays}
use Rattle.j39_vehicle_times.specs.declared.checking.DirectFault.{DirectFault}
use Rattle.j39_vehicle_times.specs.declared.checking.DirectFault.TheVariants as faults
use Rattle.j39_vehicle_times.specs.declared.finding.TimeFinding.{TimeFinding}
use Rattle.j39_vehicle_times.specs.declared.finding.TimeFinding.TheVariants as findings

abbrev pub has_direct_fault : Vehicle → Delays → DirectFault → Forward → Bool
has_direct_fault v delays faults.TooOften = is_too_often v
has_direct_fault v delays faults.TooLate = is_too_late v delays
has_direct_fault v delays faults.TooRare = is_too_rare v

abbrev pub direct_fault_at : DirectFault → ℕ → TimeFinding
direct_fault_at faults.TooOften = findings.TooOften
direct_fault_at faults.TooLate = findings.TooLate
direct_fault_at faults.TooRare = findings.TooRare
