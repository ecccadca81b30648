use Rattle.std.proofs.Common.{◌+◌, ℕ, List, [], Option, Bool, inl, inr, refl, sym, ap, subst, ◌∙◌}
use Rattle.std.specs.Prelude.{IfErr, IfOk, Result}
use Rattle.std.specs.Option.{option_copied}
use Rattle.j39_id.specs.FrameLine.{HasLineFault, Spells}
use Rattle.j39_id.specs.declared.frame.Frame.{Frame}
use Rattle.j39_id.specs.declared.line_error.LineError.{LineError}
use Rattle.std.proofs.lemmas.List.{append-nil}
use Rattle.std.proofs.lemmas.Result.{IfOk-weaker}
use Rattle.j39_log.specs.declared.line_counts.LineCounts.{LineCounts}
use Rattle.j39_follow.specs.FollowText.{IsFollowedLog, line_passed_over}
use Rattle.j39_follow.specs.LogLines.{IsElsewhere}
use Rattle.j39_follow.specs.inside.FollowedSoFar.{RecallsPast}
use Rattle.j39_follow.proofs.LinesRead.{as_many_lines, line_read, names_it, read_here, recalls_passed_over}
use Rattle.j39_follow.proofs.line_report.UnitReportLogReport.read_line.Goals as goal

pub returns-then-is_elsewhere-clause-reported : goal.returns-then-is_elsewhere-clause-reported
returns-then-is_elsewhere-clause-reported c =
    let part = c.read_part-part in
    let named = c.interface-named in
    line_read c.args.groups.now c.args.self.now c.args.self.now c.args.counts.now _ c.args.number c.args.line.now c.args.text.now c.args.text.now
    (λ past recalls number. record {
      next = record past { elsewhere = past.elsewhere + 1 };
      piece = [];
      reads = (
        part.result.now,
        option_copied named.result,
        part.ensures,
        names_it part.result.now named.result named.ensures.named named.ensures.none,
        inl (
          subst (λ (i : Option (List ℕ)). IsElsewhere i part.result.now (option_copied named.result)) (c.kept_interface.ensures ∙ recalls.interface_is)
              (c.is_elsewhere.ensures.0 c.if-is_elsewhere.true),
          refl,
          refl,
        ),
      );
      recalls = record {
        remembers = recalls.remembers;
        interface_is = recalls.interface_is;
        frames_are = recalls.frames_are;
        skipped_are = recalls.skipped_are;
        bad_are = recalls.bad_are;
        elsewhere_are = ap (λ (n : ℕ). n + 1) recalls.elsewhere_are;
      };
      number_is = refl;
      text_is = sym (append-nil c.args.text.now);
    })
    refl

pub returns-in-Ok-clause-reported : goal.returns-in-Ok-clause-reported
returns-in-Ok-clause-reported c =
    let part = c.read_part-part in
    let named = c.interface-named in
    let names = names_it part.result.now named.result named.ensures.named named.ensures.none in
    let spelled = subst (λ (r : Result Frame LineError). IfOk r (λ f. Spells part.result.now f)) c.in-Ok.is c.read_frame-read.ensures.found in
    IfOk-weaker c.follow_frame.result _ _
    (λ _ followed.
    line_read c.args.groups.now c.args.self.now c.follow_frame.new.self c.args.counts.now c.follow_frame.new.counts c.args.number c.args.line.now
    c.args.text.now c.follow_frame.new.text
    (λ past recalls number.
    let done = followed past recalls number in
    record {
      next = done.next;
      piece = done.piece;
      reads = read_here c.args.groups.now c.args.self.now.all_frames past done.next c.args.line.now part.result.now done.piece named.result _ _ part.ensures names
          c.if-is_elsewhere.false c.is_elsewhere.ensures.1 (c.kept_interface.ensures ∙ recalls.interface_is)
          (inl (c.in-Ok.frame, c.time_text-time.result.now, spelled, c.time_text-time.ensures, done.reads));
      recalls = done.recalls;
      number_is = done.number_is;
      text_is = done.text_is;
    })
    c.follow_frame.ensures.all_frames)
    c.follow_frame.ensures.frame

pub returns-in-Err-clause-reported : goal.returns-in-Err-clause-reported
returns-in-Err-clause-reported c =
    let error = c.in-Err.error in
    let part = c.read_part-part in
    let named = c.interface-named in
    let fault = subst (λ (r : Result Frame LineError). IfErr r (λ e. HasLineFault part.result.now e)) c.in-Err.is c.read_frame-read.ensures.refused in
    line_read c.args.groups.now c.args.self.now c.args.self.now c.args.counts.now _ c.args.number c.args.line.now c.args.text.now c.args.text.now
    (λ past recalls number. record {
      next = line_passed_over error past;
      piece = [];
      reads = read_here c.args.groups.now c.args.self.now.all_frames past (line_passed_over error past) c.args.line.now part.result.now [] named.result _ _
          part.ensures (names_it part.result.now named.result named.ensures.named named.ensures.none)
          c.if-is_elsewhere.false c.is_elsewhere.ensures.1 (c.kept_interface.ensures ∙ recalls.interface_is) (inr (error, fault, refl, refl));
      recalls = subst (λ (counts : LineCounts). RecallsPast c.args.groups.now c.args.self.now counts (line_passed_over error past)) (sym c.pass_over.ensures)
          (recalls_passed_over c.args.groups.now c.args.self.now c.args.counts.now error past recalls);
      number_is = as_many_lines error past;
      text_is = sym (append-nil c.args.text.now);
    })
    refl

pub returns-in-Ok-clause-texts : goal.returns-in-Ok-clause-texts
returns-in-Ok-clause-texts c =
    IfOk-weaker c.follow_frame.result _ _
    (λ _ _. λ plan log text is. subst (λ (b : Bool). IsFollowedLog plan b log text) c.follow_frame.ensures.all_frames is)
    c.follow_frame.ensures.frame
