use Rattle.std.proofs.Common.{◌≡◌, ◌+◌, ◌++◌, ℕ, List, length}
use Rattle.j39_id.specs.Lines.{Line, behind_all, yielded}
use Rattle.j39_audit.specs.Settings.{Settings}
use Rattle.j39_audit.specs.inside.Auditing.{HasAudited, IsWithinLines}
use Rattle.j39_audit.proofs.reading.read_piece.Given as goal

abbrev pub invariant-loop-rest : goal.invariant-loop-rest
invariant-loop-rest l = record {
  used : List ℕ;
  parts : l.piece ≡ used ++ l.rest;
  pending : l.cutter.pending ≡ behind_all l.fn.cutter.pending used;
  lines : (s : Settings) (before : List Line) → HasAudited s l.fn.log before → HasAudited s l.log (before ++ yielded l.fn.cutter.pending used);
  count : (most : ℕ) → IsWithinLines l.fn.log most → IsWithinLines l.log (most + length used);
}

abbrev pub decreases-loop-rest : goal.decreases-loop-rest
decreases-loop-rest l = length l.rest
