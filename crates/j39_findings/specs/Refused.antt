-- Why a plan is not taken as checked.
use Rattle.std.specs.Prelude.{◌≡◌, ◌≢◌, []}
use Rattle.j39_findings.specs.Found.{found}
use Rattle.j39_network.specs.declared.plan.Plan.{Plan}
use Rattle.j39_findings.specs.declared.checking.refused.RefusedCause.{RefusedCause}
use Rattle.j39_findings.specs.declared.checking.refused.RefusedCause.TheVariants.{Findings, Memory}

-- something is wrong with the plan, and this is all of it, or memory was refused for it
abbrev pub IsCauseFor : Plan → RefusedCause → Type 0
IsCauseFor plan (Findings findings) = (findings.items ≡ found plan) × (findings.items ≢ [])
IsCauseFor plan Memory = found plan ≢ []
