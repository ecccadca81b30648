-- What is found in plans without repeated parts.
use Rattle.std.specs.Prelude.{◌≡◌, ℕ, All}
use Rattle.std.specs.List.{filter}
use Rattle.j39_signal.specs.Places.{is_there}
use Rattle.j39_network.specs.declared.plan.Plan.{Plan}
use Rattle.j39_findings.specs.declared.checking.finding.Finding.TheVariants.{RecordOverlap}
use Rattle.j39_findings.specs.Findings.{Holds}
use Rattle.j39_network.specs.Records.{signals_in}

-- of a plan without records F14 says nothing, and each message has those signals of its group that are there
pub record IsWithoutRecords (plan : Plan) : Type 0 where
  pub overlaps : (g s t : ℕ) → ¬ Holds plan (RecordOverlap g s t)
  pub signals : All (λ group. (bytes : ℕ) → signals_in group bytes ≡ filter (is_there bytes) group.signals.items) plan.groups.items
