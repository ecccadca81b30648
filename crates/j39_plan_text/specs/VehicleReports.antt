-- What is written of the plan of a vehicle, beside what is written of the plan of its type.
use Rattle.std.specs.Prelude.{ℕ, List}
use Rattle.j39_network.specs.declared.plan.Plan.{Plan}
use Rattle.j39_load.specs.BusTimes.{timing_of}
use Rattle.j39_plan_text.specs.AddressesText.{IsAddressesReport}
use Rattle.j39_plan_text.specs.CheckText.{IsReport}
use Rattle.j39_plan_text.specs.LoadText.{IsLoadReport}
use Rattle.j39_stream.specs.declared.verdict.Verdict.{Verdict}

-- what check, addresses and load write of the plan they write of the vehicle's, with the same verdict
pub record AreReportedAlike (plan vehicle : Plan) : Type 0 where
  pub check : (text : List ℕ) (verdict : Verdict) → IsReport plan text verdict → IsReport vehicle text verdict
  pub addresses : (text : List ℕ) (verdict : Verdict) → IsAddressesReport plan text verdict → IsAddressesReport vehicle text verdict
  pub load : (text : List ℕ) (verdict : Verdict) → IsLoadReport plan (timing_of plan) text verdict → IsLoadReport vehicle (timing_of vehicle) text verdict
