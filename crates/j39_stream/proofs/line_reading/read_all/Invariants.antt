use Rattle.std.proofs.Common.{◌≡◌, ◌-◌, ◌≤◌, ℕ, List, length}
use Rattle.std.specs.Io.KnownBytes.{Appends}
use Rattle.j39_id.specs.Lines.{at_start, behind_all, yielded}
use Rattle.j39_stream.specs.Intakes.{EndsWithItsPiece, HasRead}
use Rattle.j39_stream.specs.LineReading.{AreTextsOf, IsSoFar}
use Rattle.j39_stream.proofs.line_reading.read_all.Given as goal

abbrev pub invariant-loop-cutter : goal.invariant-loop-cutter
invariant-loop-cutter g l =
    let r = g.R.LineReader in
    record {
      seen : List ℕ;
      written : List ℕ;
      read : HasRead l.fn.limits (g.S.Source.state l.fn.source) (g.S.Source.state l.source) l.intake seen;
      calls : l.intake.calls ≤ l.fn.limits.calls;
      pending : l.cutter.pending ≡ behind_all at_start seen;
      so_far : IsSoFar (r.has_read l.reader) (r.is_text l.reader) (r.goes l.reader) (r.text l.reader) (yielded at_start seen) written;
      texts : AreTextsOf (r.is_text l.reader) (r.is_text l.fn.reader);
      count : r.within l.reader (length seen);
      pieces : EndsWithItsPiece (r.is_text l.fn.reader) (g.S.Source.state l.fn.source).left (g.S.Source.state l.source).left;
      taken : Appends (g.W.Sink.state l.fn.sink).taken (g.W.Sink.state l.sink).taken written;
      source : (g.S.Source.state l.source).failures ≡ (g.S.Source.state l.fn.source).failures;
      sink : (g.W.Sink.state l.sink).failures ≡ (g.W.Sink.state l.fn.sink).failures;
    }

abbrev pub decreases-loop-cutter : goal.decreases-loop-cutter
decreases-loop-cutter g l = l.fn.limits.calls - l.intake.calls
