use Rattle.std.proofs.Common.{◌≡◌, take, true}
use Rattle.j39_line_findings.specs.Best.{IsWitnessAmong, rank_in}
use Rattle.j39_line_findings.specs.InFile.{is_below}
use Rattle.j39_line_findings.specs.declared.witnessed.Witnessed.{Witnessed}
use Rattle.j39_line_findings.proofs.witnessed.place_of.Given as goal

abbrev pub invariant-loop-place : goal.invariant-loop-place
invariant-loop-place l = (w : Witnessed) → IsWitnessAmong (take l.place l.reported) w → is_below (rank_in w) l.rank ≡ true
