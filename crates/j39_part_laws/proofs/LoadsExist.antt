-- Of each plan there are findings of its load.
use Rattle.std.proofs.Common.{[], List, Option, Some, None, refl}
use Rattle.j39_network.specs.declared.plan.Plan.{Plan}
use Rattle.j39_network.specs.declared.plan.timing.Timing.{Timing}
use Rattle.j39_load.specs.Asked.{asked_of}
use Rattle.j39_load.specs.LoadFindings.{AreLoadFindings}
use Rattle.j39_load.specs.declared.findings.load_finding.LoadFinding.{LoadFinding}
use Rattle.j39_part_laws.proofs.DelaysExist.{some_delays}
use Rattle.j39_part_laws.proofs.StandingExists.{some_standing}

pub some_load_findings : (plan : Plan) (timing : Option Timing) → (findings : List LoadFinding) × AreLoadFindings plan timing findings
some_load_findings plan None = ([], refl)
some_load_findings plan (Some timing) =
    let standing = some_standing plan in
    let delays = some_delays timing (asked_of timing plan standing.0) in
    (_, (standing.0, delays.0, record { standing = standing.1; waits = delays.1 }, refl))
