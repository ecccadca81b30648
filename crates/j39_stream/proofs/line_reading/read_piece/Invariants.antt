use Rattle.std.proofs.Common.{◌≡◌, ◌+◌, ◌++◌, ℕ, List, length}
use Rattle.j39_id.specs.Lines.{Line, behind_all, yielded}
use Rattle.j39_stream.specs.LineReading.{AreTextsOf, IsSoFar}
use Rattle.j39_stream.proofs.line_reading.read_piece.Given as goal

abbrev pub invariant-loop-rest : goal.invariant-loop-rest
invariant-loop-rest g l =
    let r = g.R.LineReader in
    record {
      used : List ℕ;
      parts : l.piece ≡ used ++ l.rest;
      pending : l.cutter.pending ≡ behind_all l.fn.cutter.pending used;
      lines : (before : List Line) (written : List ℕ)
          → IsSoFar (r.has_read l.fn.reader) (r.is_text l.fn.reader) (r.goes l.fn.reader) (r.text l.fn.reader) before written
          → IsSoFar (r.has_read l.reader) (r.is_text l.reader) (r.goes l.reader) (r.text l.reader) (before ++ yielded l.fn.cutter.pending used) written;
      texts : AreTextsOf (r.is_text l.reader) (r.is_text l.fn.reader);
      count : (most : ℕ) → r.within l.fn.reader most → r.within l.reader (most + length used);
    }

abbrev pub decreases-loop-rest : goal.decreases-loop-rest
decreases-loop-rest g l = length l.rest
