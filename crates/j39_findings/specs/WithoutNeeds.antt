-- Plans without needs.
use Rattle.std.specs.Prelude.{◌≡◌, ℕ, []}
use Rattle.j39_findings.specs.Findings.{Holds}
use Rattle.j39_network.specs.declared.plan.Plan.{Plan}
use Rattle.j39_findings.specs.declared.checking.finding.Finding.TheVariants.{NeedUnmet}

-- of a plan without needs F19 says nothing
abbrev pub IsWithoutNeeds : Plan → Type 0
IsWithoutNeeds plan = plan.needs.items ≡ [] → (n : ℕ) → ¬ Holds plan (NeedUnmet n)
