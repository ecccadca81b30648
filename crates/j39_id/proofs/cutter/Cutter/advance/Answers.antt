use Rattle.std.proofs.Common.{◌≡◌, refl, sym, ◌∙◌}
use Rattle.j39_id.specs.Lines.{at_start}
use Rattle.j39_id.proofs.CutLines.{part_whole}
use Rattle.j39_id.proofs.cutter.Cutter.advance.Goals as goal

pub returns-then-is_at_start-clause-yielded : goal.returns-then-is_at_start-clause-yielded
returns-then-is_at_start-clause-yielded c =
    let old : c.args.self.now.pending ≡ at_start = c.if-is_at_start.ensures refl in
    let e = c.bytes_to_feed-length.ensures in
    rw old (part_whole c.args.piece.now c.bytes_to_feed-length.result e.none c.if-length-piece.true
    (e.feed c.if-length-piece.true) c.if-length-le-LINE_LIMIT.true).0

pub returns-then-is_at_start-clause-pending : goal.returns-then-is_at_start-clause-pending
returns-then-is_at_start-clause-pending c =
    let old : c.args.self.now.pending ≡ at_start = c.if-is_at_start.ensures refl in
    let e = c.bytes_to_feed-length.ensures in
    rw old (c.start_anew.ensures.pending
    ∙ sym (part_whole c.args.piece.now c.bytes_to_feed-length.result e.none c.if-length-piece.true
    (e.feed c.if-length-piece.true) c.if-length-le-LINE_LIMIT.true).1)
