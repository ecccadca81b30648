use Rattle.std.proofs.Common.{◌≡◌, ◌++◌, [], ℕ, List, sym, ap, ◌∙◌, append_assoc}
use Rattle.std.proofs.lemmas.List.{append-nil}
use Rattle.j39_follow.specs.FollowReports.{frame_line}
use Rattle.j39_follow.specs.inside.Reporting.{front_of}
use Rattle.j39_follow.proofs.FrameTexts.{framed_report, has_another, has_line, has_none, itself_written}
use Rattle.j39_follow.proofs.frame_report.write_itself.Goals as goal
use Rattle.j39_follow.proofs.frame_report.write_itself.Goals.{else-all_frames-via-then-all_frames+else-len-begun, else-all_frames-via-else-all_frames}

two_texts : (old a b first second : List ℕ) → first ≡ old ++ a → second ≡ first ++ b → second ≡ old ++ (a ++ b)
two_texts old a b first second x y = y ∙ ap (λ (t : List ℕ). t ++ b) x ∙ append_assoc old a b

pub returns-in_ok-write_bare : goal.returns-in_ok-write_bare
returns-in_ok-write_bare c = λ log shows asker.
    let plan = c.args.groups.now in
    let old : List ℕ = c.args.text.now in
    let front = front_of c.args.stamp in
    let notice = (rw c.plan.ensures at c.in_ok-write_notice.ensures) log shows asker in
    let message = framed_report plan c.args.parties.now log front c.args.frame.now _ _ _ _ c.in_frame.ensures c.in_ok-sort.ensures shows in
    let bare = (rw c.plan-then-len-begun.ensures at c.in_ok-write_bare.ensures) log shows in
    let line : List ℕ = frame_line front bare.0 c.args.frame.now in
    let written = two_texts old notice.0 message.0 _ _ notice.2 message.2 in
    let all = c.if-all_frames.true in
    let itself = has_line c.args.all_frames old _ (notice.0 ++ message.0) line c.len.result c.len-begun.result written c.len.ensures c.len-begun.ensures all
    c.if-len-begun.true in
    itself_written plan c.args.all_frames log front c.args.frame.now _ old _ _ _ notice.0 message.0 line notice.1 notice.2 message.1 message.2
    (bare.0, bare.1, itself) bare.2

pub returns-else-all_frames : goal.returns-else-all_frames
returns-else-all_frames c = λ log shows asker.
    let plan = c.args.groups.now in
    let f = c.args.frame.now in
    let old : List ℕ = c.args.text.now in
    let notice = (rw c.plan.ensures at c.in_ok-write_notice.ensures) log shows asker in
    let message = framed_report plan c.args.parties.now log (front_of c.args.stamp) f _ _ _ _ c.in_frame.ensures c.in_ok-sort.ensures shows in
    let stated : List ℕ = notice.0 ++ message.0 in
    let line : List ℕ = frame_line (front_of c.args.stamp) notice.1.way f in
    itself_written plan c.args.all_frames log (front_of c.args.stamp) f _ old _ _ _ notice.0 message.0 [] notice.1 notice.2 message.1 message.2 (
      notice.1.way,
      notice.1.way_is,
      elim c.else-all_frames.branch [
        | else-all_frames-via-then-all_frames+else-len-begun w ↦
            has_another c.args.all_frames old c.write_message.new.text stated line w.len.result c.len-begun.result
            (two_texts old notice.0 message.0 _ _ notice.2 message.2) w.len.ensures c.len-begun.ensures w.if-all_frames.true w.if-len-begun.false
        | else-all_frames-via-else-all_frames w ↦ has_none c.args.all_frames stated line w.if-all_frames.false
      ],
    )
    (sym (append-nil c.write_message.new.text))
