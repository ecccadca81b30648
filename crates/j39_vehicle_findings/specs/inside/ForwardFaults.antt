-- What can be wrong with a forward by itself: the test, and the finding of one at a place.
use Rattle.std.specs.Prelude.{ℕ, Bool}
use Rattle.j39_vehicle.specs.declared.vehicle.Vehicle.{Vehicle}
use Rattle.j39_vehicle.specs.declared.vehicle.forward.Forward.{Forward}
use Rattle.j39_vehicle_findings.specs.FoundPaths.{copies_other_layout, has_many_inputs, has_many_outputs, has_no_input, has_no_output}
use Rattle.j39_vehicle_findings.specs.declared.checking.forward_faults.ForwardFault.{ForwardFault}
use Rattle.j39_vehicle_findings.specs.declared.checking.forward_faults.ForwardFault.TheVariants as faults
use Rattle.j39_vehicle_findings.specs.declared.finding.VehicleFinding.{VehicleFinding}
use Rattle.j39_vehicle_findings.specs.declared.finding.VehicleFinding.TheVariants as findings

abbrev pub has_forward_fault : Vehicle → ForwardFault → Forward → Bool
has_forward_fault v faults.NoInput = has_no_input v
has_forward_fault v faults.ManyInputs = has_many_inputs v
has_forward_fault v faults.NoOutput = has_no_output v
has_forward_fault v faults.ManyOutputs = has_many_outputs v
has_forward_fault v faults.LayoutDiffers = copies_other_layout v

abbrev pub forward_fault_at : ForwardFault → ℕ → VehicleFinding
forward_fault_at faults.NoInput = findings.NoInput
forward_fault_at faults.ManyInputs = findings.ManyInputs
forward_fault_at faults.NoOutput = findings.NoOutput
forward_fault_at faults.ManyOutputs = findings.ManyOutputs
forward_fault_at faults.LayoutDiffers = findings.LayoutDiffers
