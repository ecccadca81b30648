use Rattle.std.proofs.Common.{rules, ◌≡◌, ◌+◌, ◌<◌, ◌++◌, [], ℕ, List, length, take, refl, ap, ◌∙◌, subst, arith}
use Rattle.std.proofs.lemmas.List.{append-nil, length-append}
use Rattle.j39_id.specs.Lines.{yields}
use Rattle.j39_stream.proofs.LineReading.{read_part}
use Rattle.j39_stream.proofs.PieceSteps.{length_left, length_used, line_read, parts_of_piece, pending_behind}
use Rattle.j39_stream.proofs.line_reading.read_piece.Goals as goal

pub loop-rest-init : goal.loop-rest-init
loop-rest-init g c = record {
  used = [];
  parts = refl;
  pending = refl;
  lines = λ before written so. rw append-nil so;
  texts = λ input text verdict is. is;
  count = λ most within. let same : most ≡ most + 0 = omega arith in subst (g.R.LineReader.within c.args.reader.now) same within;
}

pub read-requires : goal.read-requires
read-requires g c =
    let before = c.loop-rest.invariant in
    let (most, within, room) = c.requires.room in
    let len : length c.args.piece.now ≡ length before.used + length c.loop-rest.rest.now =
    ap length before.parts ∙ length-append before.used c.loop-rest.rest.now in
    record { room = (most + length before.used, before.count most within, omega (arith, room, len)) }

pub loop-rest-smaller : goal.loop-rest-smaller
loop-rest-smaller g c =
    let rest : List ℕ = c.loop-rest.rest.now in
    let n : ℕ = c.advance-step.result.used in
    let left = length_left rest n in
    let some : 0 < length rest = search rules in
    let used : 0 < n = c.advance-step.ensures.some some in
    omega (arith, left, some, used)

pub loop-rest-preserved : goal.loop-rest-preserved
loop-rest-preserved g c =
    let before = c.loop-rest.invariant in
    let used : List ℕ = before.used in
    let rest : List ℕ = c.loop-rest.rest.now in
    let n : ℕ = c.advance-step.result.used in
    let part : List ℕ = take n rest in
    let line = c.unwrap_or-line.result.now in
    let is = line_read c.advance-step.result.whole c.line.result c.unwrap_or-line.result _ c.line.ensures c.unwrap_or-line.ensures in
    let rest_some : 0 < length rest = search rules in
    let some : 0 < n = c.advance-step.ensures.some rest_some in
    let len = length_used used rest n c.advance-step.ensures.within in
    record {
      used = used ++ part;
      parts = parts_of_piece c.args.piece.now used rest n before.parts;
      pending = pending_behind c.args.cutter.now.pending _ _ used part before.pending c.advance-step.ensures.pending;
      lines = read_part c.args.cutter.now.pending c.loop-rest.cutter.pending used part c.advance-step.result.cut line before.pending
          (c.advance-step.ensures.yielded ∙ ap (λ (l : List ℕ). yields c.advance-step.result.cut l) is) before.lines c.in_ok-read.ensures.lines;
      texts = λ input text verdict is. before.texts input text verdict (c.in_ok-read.ensures.texts input text verdict is);
      count = λ most within.
          c.in_ok-read.ensures.count (most + length used) (most + length (used ++ part)) (before.count most within) (omega (arith, len, some));
    }

pub returns-clause-count : goal.returns-clause-count
returns-clause-count g c = λ most within.
    let before = c.loop-rest.invariant in
    let len : length c.args.piece.now ≡ length before.used + length c.loop-rest.rest.now =
    ap length before.parts ∙ length-append before.used c.loop-rest.rest.now in
    let none : length c.loop-rest.rest.now ≡ 0 = search rules in
    let all : most + length before.used ≡ most + length c.args.piece.now = omega (arith, len, none) in
    subst (g.R.LineReader.within c.loop-rest.reader) all (before.count most within)
