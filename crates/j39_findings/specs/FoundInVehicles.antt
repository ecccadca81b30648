-- What is found in the plan of a vehicle.
use Rattle.std.specs.Prelude.{◌≡◌}
use Rattle.j39_findings.specs.ConflictRuns.{conflict_run}
use Rattle.j39_findings.specs.Found.{found}
use Rattle.j39_network.specs.declared.plan.Plan.{Plan}
use Rattle.j39_findings.specs.declared.checking.finding.Finding.{Finding}

-- the same is found in both, and each conflict is shown by the same run
pub record AreFoundAlike (plan vehicle : Plan) : Type 0 where
  pub findings : found vehicle ≡ found plan
  pub runs : (finding : Finding) → conflict_run vehicle finding ≡ conflict_run plan finding
