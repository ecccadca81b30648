use Rattle.std.proofs.Common.{rules, ◌<◌, ◌+◌, ◌++◌, [], ℕ, List, length, take, refl, sym, ap, subst, ◌∙◌, arith}
use Rattle.std.proofs.lemmas.List.{length-append}
use Rattle.j39_id.specs.Lines.{Line, at_start, lines, yielded}
use Rattle.j39_stream.specs.Intakes.{Counts}
use Rattle.j39_stream.specs.Streams.{log_limits}
use Rattle.j39_stream.specs.declared.limits.Limits.{Limits}
use Rattle.j39_stream.proofs.PieceSteps.{nothing_counted, pending_behind, yielded_behind}
use Rattle.j39_audit.specs.inside.Auditing.{HasAudited, IsWithinLines}
use Rattle.j39_audit.proofs.Hearing.{all_lines_reported}
use Rattle.j39_audit.proofs.reading.read_log.Goals as goal

pub loop-count-init : goal.loop-count-init
loop-count-init g c =
    let calls = ap (λ (counts : Counts). counts.calls) c.new-intake.ensures in
    record {
      seen = [];
      read = nothing_counted log_limits (g.S.Source.state c.args.source.now) c.new-intake.result c.new-intake.ensures;
      calls = omega (arith, calls);
      pending = c.new-cutter.ensures.pending;
      audited = λ s audited. audited;
      count = c.requires.within;
      calm = refl;
    }

pub end-requires : goal.end-requires
end-requires g c =
    let before = c.loop-count.invariant in
    record { near = (c.in_ok-read.ensures.count (length before.seen) (length before.seen + 1) before.count (omega arith)).near }

pub returns-in_err-count-clause-long : goal.returns-in_err-count-clause-long
returns-in_err-count-clause-long g c = λ e.
    let before = c.loop-count.invariant in
    c.pull.ensures.long (search rules) log_limits (g.S.Source.state c.args.source.now) before.seen before.read

pub returns-then-count-eq0-clause-read : goal.returns-then-count-eq0-clause-read
returns-then-count-eq0-clause-read g c = λ s audited.
    let before = c.loop-count.invariant in
    let last = c.in_ok-count.ensures.last log_limits (g.S.Source.state c.args.source.now) before.seen before.read c.if-count-eq0.true in
    let all = all_lines_reported before.seen c.end-cut.result c.loop-count.cutter.pending c.line.result.now before.pending c.end-cut.ensures.answer
    (c.line.ensures ∙ c.end-cut.ensures.line) in
    record {
      input = before.seen;
      consumed = last.0;
      end = c.in_ok-count.ensures.end c.if-count-eq0.true;
      ended = c.in_ok-end.ensures s (lines before.seen)
          (subst (λ (ls : List Line). HasAudited s c.read.new.self ls) all
          (c.in_ok-read.ensures.lines s (yielded at_start before.seen) (before.audited s audited)));
    }

pub returns-then-count-eq0-clause-limits : goal.returns-then-count-eq0-clause-limits
returns-then-count-eq0-clause-limits g c =
    let before = c.loop-count.invariant in
    let last = c.in_ok-count.ensures.last log_limits (g.S.Source.state c.args.source.now) before.seen before.read c.if-count-eq0.true in
    last.1

pub read_piece-requires : goal.read_piece-requires
read_piece-requires g c =
    let before = c.loop-count.invariant in
    let part : List ℕ = take c.in_ok-count.count c.pull.new.piece in
    let some : 0 < c.in_ok-count.count = search rules in
    let next = c.in_ok-count.ensures.more log_limits (g.S.Source.state c.args.source.now) before.seen before.read some in
    let within = next.within in
    let len = length-append before.seen part in
    record { room = (length before.seen, before.count, omega (arith, within, len)) }

pub loop-count-preserved : goal.loop-count-preserved
loop-count-preserved g c =
    let before = c.loop-count.invariant in
    let seen : List ℕ = before.seen in
    let part : List ℕ = take c.in_ok-count.count c.pull.new.piece in
    let some : 0 < c.in_ok-count.count = search rules in
    let next = c.in_ok-count.ensures.more log_limits (g.S.Source.state c.args.source.now) seen before.read some in
    let len = length-append seen part in
    let calls = ap (λ (l : Limits). l.calls) next.limits_are in
    let most = c.in_ok-count.ensures.fewer.1 in
    let whole = yielded_behind at_start c.loop-count.cutter.pending seen part before.pending in
    record {
      seen = seen ++ part;
      read = next;
      calls = omega (arith, calls, most);
      pending = pending_behind at_start _ _ seen part before.pending c.in_ok-read_piece.ensures.pending;
      audited = λ s audited. subst (λ (ls : List Line). HasAudited s c.read_piece.new.log ls) whole
          (c.in_ok-read_piece.ensures.lines s (yielded at_start seen) (before.audited s audited));
      count = subst (IsWithinLines c.read_piece.new.log) (sym len) (c.in_ok-read_piece.ensures.count (length seen) before.count);
      calm = c.in_ok-count.ensures.calm (λ e. cc e) ∙ before.calm;
    }
