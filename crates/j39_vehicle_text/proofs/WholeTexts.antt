-- The text of a vehicle file with the plans of its buses, by what is put.
use Rattle.std.proofs.Common.{ℕ, List, Result, Ok, Err, inr}
use Rattle.j39_stream.specs.CommandEnds.{PutsText}
use Rattle.j39_stream.specs.Streams.{SinkState}
use Rattle.j39_stream.specs.declared.fault.Fault.{Fault as StreamFault}
use Rattle.j39_stream.specs.declared.verdict.Verdict.{Verdict}
use Rattle.j39_toml.specs.Outcome.{FailsGrowing}
use Rattle.j39_vehicle.specs.Resolved.{found_faults}
use Rattle.j39_vehicle.specs.declared.file.VehicleFile.{VehicleFile}
use Rattle.j39_vehicle.specs.VehicleErrors.{VehicleError}
use Rattle.j39_toml.specs.declared.file_error.FileError.TheVariants as errors
use Rattle.j39_vehicle.specs.declared.vehicle.bus_plan.BusPlan.{BusPlan}
use Rattle.j39_vehicle_text.specs.VehicleText.{IsVehicleText, RefusesWith}

-- what is put is said in other words
pub put_said : {V W : Type 0} {P Q : List ℕ → V → Type 0} {state : W → SinkState} {start ended : W} (r : Result V StreamFault)
    → ((text : List ℕ) (answer : V) → P text answer → Q text answer) → PutsText P state start ended r → PutsText Q state start ended r
put_said (Ok answer) says puts =
    let (text, is, put) = puts.written in
    record {
      written = (text, says text answer is, put);
      memory = puts.memory;
      device = puts.device;
      calm = puts.calm;
      cut = λ e. cc e;
      fits = puts.fits;
    }
put_said (Err fault) says puts = record {
  written = tt;
  memory = puts.memory;
  device = puts.device;
  calm = tt;
  cut = λ e. let (text, answer, is, part) = puts.cut e in (text, answer, says text answer is, part);
  fits = puts.fits;
}

-- the line of a refusal is that of the first label that names nothing
pub refused_with : (buses : List BusPlan) (file : VehicleFile) (MayGrow : Type 0) (error : VehicleError) (text : List ℕ) (verdict : Verdict)
    → FailsGrowing MayGrow error (found_faults buses file) → RefusesWith error text verdict → IsVehicleText file buses text verdict
refused_with buses file MayGrow errors.Text text verdict fails is = absurd fails
refused_with buses file MayGrow (errors.Fault fault) text verdict fails is = inr (fault, fails, is.0, is.1)
refused_with buses file MayGrow errors.Memory text verdict fails is = absurd is.0
