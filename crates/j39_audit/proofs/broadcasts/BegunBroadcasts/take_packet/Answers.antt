use Rattle.std.proofs.Common.{◌++◌, ℕ, Option, Some, subst}
use Rattle.std.proofs.lemmas.Result.{IfOk-weaker}
use Rattle.j39_audit.specs.BegunBroadcasts.{late_noted, with_one}
use Rattle.j39_audit.specs.Counting.{noted_by}
use Rattle.j39_audit.specs.declared.mark.Mark.{Mark}
use Rattle.j39_audit.specs.inside.Recalling.{AreCounted, RecallsBroadcasts, settings_of}
use Rattle.j39_audit.proofs.broadcasts.BegunBroadcasts.take_packet.Goals as goal

pub returns : goal.returns
returns c =
    IfOk-weaker c.note_by.result _ _
    (λ _ noted. λ b recalls.
    let line = c.args.one.line in
    let kept = subst (λ (left : ℕ). RecallsBroadcasts (settings_of c.args.basis.now) c.set.new.self
    (with_one c.args.unit (Some (record { left = left; moment = c.args.moment; line = c.args.line })) b)) c.saturating_sub.ensures (c.set.ensures b recalls) in
    record {
      size = kept.size;
      begun = kept.begun;
      counted = subst (λ (by : Option ℕ). AreCounted c.note_by.new.self (b.late ++ late_noted c.args.unit line by)) c.late_by-by.ensures
          (subst (λ (k : Mark). AreCounted c.note_by.new.self (b.late ++ noted_by k line c.late_by-by.result)) c.make_mark-mark.ensures
          (noted.counts b.late kept.counted));
    })
    c.note_by.ensures
