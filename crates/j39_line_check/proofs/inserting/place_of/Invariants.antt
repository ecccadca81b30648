use Rattle.std.proofs.Common.{◌≡◌, ◌≤◌, drop, false, length}
use Rattle.std.specs.List.{Contains}
use Rattle.j39_line_findings.specs.InFile.{is_below, rank_of}
use Rattle.j39_line_check.specs.declared.answer.ReportedFinding.{ReportedFinding}
use Rattle.j39_line_check.proofs.inserting.place_of.Given as goal

abbrev pub decreases-loop-place : goal.decreases-loop-place
decreases-loop-place l = l.place

abbrev pub invariant-loop-place : goal.invariant-loop-place
invariant-loop-place l = (l.place ≤ length l.reported) × ((t : ReportedFinding) → Contains (drop l.place l.reported) t
    → is_below (rank_of t.finding) l.rank ≡ false)
