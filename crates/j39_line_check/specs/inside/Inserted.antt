-- A finding more among those that are reported in order.
use Rattle.std.specs.Prelude.{◌≡◌, ◌⊎◌, List, Contains}
use Rattle.j39_line_findings.specs.InFile.{rank_of}
use Rattle.j39_line_check.specs.LineChecks.{AreReportedInOrder}
use Rattle.j39_line_check.specs.declared.answer.ReportedFinding.{ReportedFinding}

-- all that were reported are, and one by the number and the places of the new one
pub record IsReportedWith (old : List ReportedFinding) (new : ReportedFinding) (reported : List ReportedFinding) : Type 0 where
  pub in_order : AreReportedInOrder old → AreReportedInOrder reported
  pub sound : (t : ReportedFinding) → Contains reported t → Contains old t ⊎ (t ≡ new)
  pub kept : (t : ReportedFinding) → Contains old t → Contains reported t
  pub is_reported : AreReportedInOrder old → (t : ReportedFinding) × Contains reported t × (rank_of t.finding ≡ rank_of new.finding)
