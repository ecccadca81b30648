use Rattle.std.proofs.Common.{rules, ◌≡◌, ◌<◌, ◌≤◌, min, ℕ, List, Option, [], ◌++◌, length, take, inl, inr, refl, sym, ap, ◌∙◌, subst, arith}
use Rattle.std.specs.Io.KnownBytes.{Consumes}
use Rattle.std.proofs.KnownBytes.{Appends-trans}
use Rattle.std.proofs.lemmas.List.{append-nil, length-append, length-take}
use Rattle.j39_id.specs.Lines.{at_start, yielded}
use Rattle.j39_stream.specs.Intakes.{Counts, piece_bytes}
use Rattle.j39_stream.specs.declared.limits.Limits.{Limits}
use Rattle.j39_stream.proofs.Parts.{none_read, none_taken}
use Rattle.j39_stream.proofs.PieceSteps.{nothing_counted, pending_behind}
use Rattle.j39_stream.proofs.LineReading.{cut_short, more_seen, one_piece, read_to_end, read_to_stop}
use Rattle.j39_stream.proofs.line_reading.read_all.Goals as goal

pub loop-cutter-init : goal.loop-cutter-init
loop-cutter-init g c =
    let calls = ap (λ (counts : Counts). counts.calls) c.new-intake.ensures in
    record {
      seen = [];
      written = [];
      read = nothing_counted c.args.limits (g.S.Source.state c.args.source.now) c.new-intake.result c.new-intake.ensures;
      calls = omega (arith, calls);
      pending = c.new-cutter.ensures.pending;
      so_far = c.requires.begins;
      texts = λ input text verdict is. is;
      count = c.requires.count;
      pieces = inl (none_read (g.S.Source.state c.args.source.now).left);
      taken = none_taken (g.W.Sink.state c.args.sink.now).taken;
      source = refl;
      sink = refl;
    }

pub returns-in_err-count-clause-cut : goal.returns-in_err-count-clause-cut
returns-in_err-count-clause-cut g c =
    let before = c.loop-cutter.invariant in
    let kept = c.pull.ensures.kept (g.S.Source.state c.args.source.now).left before.seen before.read.consumed in
    cut_short c.args.limits _ _ _ _ before.texts c.from_residual.result
    (λ e. c.pull.ensures.long (search rules) c.args.limits (g.S.Source.state c.args.source.now) before.seen before.read)
    (λ e. inl (rw (← before.source) (c.pull.ensures.device (search rules))))
    before.seen kept.0 (g.R.LineReader.text c.loop-cutter.reader) before.written [] (g.R.LineReader.text c.loop-cutter.reader)
    (g.W.Sink.state c.loop-cutter.sink).taken
    before.so_far kept.1 refl before.taken (0, none_taken (g.W.Sink.state c.loop-cutter.sink).taken)

pub returns-in_err-read-clause-cut : goal.returns-in_err-read-clause-cut
returns-in_err-read-clause-cut g c =
    let before = c.loop-cutter.invariant in
    let last = c.in_ok-count.ensures.last c.args.limits (g.S.Source.state c.args.source.now) before.seen before.read c.if-count-eq0.true in
    let read = subst (Consumes (g.S.Source.state c.args.source.now).left (g.S.Source.state c.pull.new.source).left) (sym (append-nil before.seen)) last.0 in
    cut_short c.args.limits _ _ _ _ before.texts c.from_residual-in_err-read.result (λ e. search rules) (λ e. search rules)
    before.seen [] (g.R.LineReader.text c.loop-cutter.reader) before.written [] (g.R.LineReader.text c.loop-cutter.reader)
    (g.W.Sink.state c.loop-cutter.sink).taken
    before.so_far read refl before.taken (0, none_taken (g.W.Sink.state c.loop-cutter.sink).taken)

pub returns-then-count-eq0-clause-read : goal.returns-then-count-eq0-clause-read
returns-then-count-eq0-clause-read g c =
    let before = c.loop-cutter.invariant in
    let last = c.in_ok-count.ensures.last c.args.limits (g.S.Source.state c.args.source.now) before.seen before.read c.if-count-eq0.true in
    read_to_end before.seen before.written c.end-cut.result c.loop-cutter.cutter.pending c.line.result.now before.pending c.end-cut.ensures.answer
    (c.line.ensures ∙ c.end-cut.ensures.line)
    (c.in_ok-read.ensures.lines (yielded at_start before.seen) before.written before.so_far.read) last.0
    (c.in_ok-count.ensures.end c.if-count-eq0.true) last.1 before.taken (c.in_ok-count.ensures.calm (λ e. cc e) ∙ before.source, before.sink)

pub read_piece-requires : goal.read_piece-requires
read_piece-requires g c =
    let before = c.loop-cutter.invariant in
    let part : List ℕ = take c.in_ok-count.count c.pull.new.piece in
    let some : 0 < c.in_ok-count.count = search rules in
    let next = c.in_ok-count.ensures.more c.args.limits (g.S.Source.state c.args.source.now) before.seen before.read some in
    let within = next.within in
    let bytes = c.requires.bytes in
    let len = length-append before.seen part in
    record { room = (length before.seen, before.count, omega (arith, within, len, bytes)) }

pub returns-in_err-read_piece-clause-cut : goal.returns-in_err-read_piece-clause-cut
returns-in_err-read_piece-clause-cut g c =
    let before = c.loop-cutter.invariant in
    let part : List ℕ = take c.in_ok-count.count c.pull.new.piece in
    let some : 0 < c.in_ok-count.count = search rules in
    let next = c.in_ok-count.ensures.more c.args.limits (g.S.Source.state c.args.source.now) before.seen before.read some in
    cut_short c.args.limits _ _ _ _ before.texts c.from_residual-in_err-read_piece.result (λ e. search rules) (λ e. search rules)
    before.seen part (g.R.LineReader.text c.loop-cutter.reader) before.written [] (g.R.LineReader.text c.loop-cutter.reader)
    (g.W.Sink.state c.loop-cutter.sink).taken
    before.so_far next.consumed refl before.taken (0, none_taken (g.W.Sink.state c.loop-cutter.sink).taken)

pub loop-cutter-smaller : goal.loop-cutter-smaller
loop-cutter-smaller g c =
    let fewer = c.in_ok-count.ensures.fewer in
    let more = fewer.0 in
    let most = fewer.1 in
    let before = ap (λ (l : Limits). l.calls) c.loop-cutter.invariant.read.limits_are in
    let same = ap (λ (l : Limits). l.calls) c.pull.ensures.same in
    omega (arith, more, most, before, same)

pub loop-cutter-preserved : goal.loop-cutter-preserved
loop-cutter-preserved g c =
    let before = c.loop-cutter.invariant in
    let part : List ℕ = take c.in_ok-count.count c.pull.new.piece in
    let some : 0 < c.in_ok-count.count = search rules in
    let next = c.in_ok-count.ensures.more c.args.limits (g.S.Source.state c.args.source.now) before.seen before.read some in
    let so = more_seen before.seen part c.loop-cutter.cutter.pending before.written before.pending
    (c.in_ok-read_piece.ensures.lines (yielded at_start before.seen) before.written before.so_far) in
    let len = length-append before.seen part in
    let calls = ap (λ (l : Limits). l.calls) next.limits_are in
    let most = c.in_ok-count.ensures.fewer.1 in
    let text : List ℕ = g.R.LineReader.text c.read_piece.new.reader in
    let cut : length part ≡ min c.in_ok-count.count (length c.pull.new.piece) = length-take c.in_ok-count.count c.pull.new.piece in
    let few : c.in_ok-count.count ≤ piece_bytes = search rules in
    let within : length part ≤ piece_bytes = omega (arith, cut, few) in
    record {
      seen = before.seen ++ part;
      written = before.written ++ text;
      read = next;
      calls = omega (arith, calls, most);
      pending = pending_behind at_start _ _ before.seen part before.pending c.in_ok-read_piece.ensures.pending;
      so_far = c.in_ok-put.ensures.lines (yielded at_start (before.seen ++ part)) before.written so.read;
      texts = λ input t verdict is.
          before.texts input t verdict (c.in_ok-read_piece.ensures.texts input t verdict (c.in_ok-put.ensures.texts input t verdict is));
      count = c.in_ok-put.ensures.count (length (before.seen ++ part))
          (subst (g.R.LineReader.within c.read_piece.new.reader) (sym len) (c.in_ok-read_piece.ensures.count (length before.seen) before.count));
      pieces = one_piece before.texts (g.S.Source.state c.args.source.now).left (g.S.Source.state c.pull.new.source).left before.seen part before.written
          (sym c.goes_on.ensures ∙ c.loop-cutter-test.true) before.so_far next.consumed within;
      taken = Appends-trans _ _ _ before.written text before.taken c.in_ok-put.ensures.ok;
      source = c.in_ok-count.ensures.calm (λ e. cc e) ∙ before.source;
      sink = c.in_ok-put.ensures.whole ∙ before.sink;
    }

pub returns-in_err-put-clause-cut : goal.returns-in_err-put-clause-cut
returns-in_err-put-clause-cut g c =
    let before = c.loop-cutter.invariant in
    let part : List ℕ = take c.in_ok-count.count c.pull.new.piece in
    let some : 0 < c.in_ok-count.count = search rules in
    let next = c.in_ok-count.ensures.more c.args.limits (g.S.Source.state c.args.source.now) before.seen before.read some in
    let so = more_seen before.seen part c.loop-cutter.cutter.pending before.written before.pending
    (c.in_ok-read_piece.ensures.lines (yielded at_start before.seen) before.written before.so_far) in
    let text : List ℕ = g.R.LineReader.text c.read_piece.new.reader in
    let read = subst (Consumes (g.S.Source.state c.args.source.now).left (g.S.Source.state c.pull.new.source).left)
    (sym (append-nil (before.seen ++ part))) next.consumed in
    cut_short c.args.limits _ _ _ _
    (λ input t verdict is. before.texts input t verdict (c.in_ok-read_piece.ensures.texts input t verdict is))
    c.from_residual-in_err-put.result (λ e. search rules)
    (λ e. inr (rw (← before.sink) c.in_err-put.ensures.device.1))
    (before.seen ++ part) [] text before.written text [] (g.W.Sink.state c.loop-cutter.sink).taken
    so read (sym (append-nil text)) before.taken c.in_err-put.ensures.cut

pub returns-then-count-eq0-clause-pieces : goal.returns-then-count-eq0-clause-pieces
returns-then-count-eq0-clause-pieces g c =
    let before = c.loop-cutter.invariant in
    let last = c.in_ok-count.ensures.last c.args.limits (g.S.Source.state c.args.source.now) before.seen before.read c.if-count-eq0.true in
    let left : Option (List ℕ) = (g.S.Source.state c.args.source.now).left in
    let read = subst (Consumes left (g.S.Source.state c.pull.new.source).left) (sym (append-nil before.seen)) last.0 in
    one_piece before.texts left (g.S.Source.state c.pull.new.source).left before.seen [] before.written
    (sym c.goes_on.ensures ∙ c.loop-cutter-test.true) before.so_far read (omega arith)

pub returns-clause-read : goal.returns-clause-read
returns-clause-read g c =
    let before = c.loop-cutter.invariant in
    read_to_stop c.loop-cutter.intake before.seen before.written
    (sym c.goes_on.ensures ∙ c.loop-cutter-test.false) before.so_far before.read before.calls before.taken
    (before.source, before.sink)
