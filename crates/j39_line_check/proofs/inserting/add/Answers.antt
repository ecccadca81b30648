use Rattle.std.proofs.Common.{◌≡◌, ◌<◌, false, true, get_or, length, sym, subst}
use Rattle.j39_line_findings.specs.InFile.{is_below, rank_of}
use Rattle.j39_line_check.specs.inside.Inserted.{IsReportedWith}
use Rattle.j39_line_check.proofs.ReportedInOrder.{added, known}
use Rattle.j39_line_check.proofs.inserting.add.Goals as goal

pub returns-in_ok-insert : goal.returns-in_ok-insert
returns-in_ok-insert c =
    let reported = c.args.reported.now.items in
    let p = c.place_of-place.result in
    let free : p < length reported → is_below (rank_of c.args.new.finding) (rank_of (get_or reported p c.args.new).finding) ≡ true =
    rw (c.deref-2.ensures.value, c.rank-rank.ensures) at (c.is_free.ensures.free c.args.new c.if-is_free.true) in
    subst (IsReportedWith reported c.args.new) (sym c.in_ok-insert.ensures.items)
    (added reported p c.args.new (rw c.deref.ensures.value at c.place_of-place.ensures.inside)
    (rw (c.deref.ensures.value, c.rank-rank.ensures) at (c.place_of-place.ensures.before c.args.new))
    (rw (c.deref.ensures.value, c.rank-rank.ensures) at c.place_of-place.ensures.behind) free)

pub returns-else-is_free : goal.returns-else-is_free
returns-else-is_free c =
    let reported = c.args.reported.now.items in
    let p = c.place_of-place.result in
    let taken : is_below (rank_of c.args.new.finding) (rank_of (get_or reported p c.args.new).finding) ≡ false =
    rw (c.deref-2.ensures.value, c.rank-rank.ensures) at (c.is_free.ensures.taken c.args.new c.if-is_free.false) in
    known reported p c.args.new (rw c.deref.ensures.value at c.place_of-place.ensures.inside)
    (rw (c.deref.ensures.value, c.rank-rank.ensures) at (c.place_of-place.ensures.before c.args.new))
    (rw (c.deref.ensures.value, c.rank-rank.ensures) at c.place_of-place.ensures.behind)
    (rw c.deref-2.ensures.value at (c.is_free.ensures.inside c.if-is_free.false)) taken
