use Rattle.std.proofs.Common.{◌+◌, ℕ, [], inl, inr, refl, sym, ap, subst, arith}
use Rattle.std.proofs.lemmas.List.{append-nil, length_push}
use Rattle.std.proofs.lemmas.List.Elements.{All-push}
use Rattle.std.proofs.lemmas.Result.{IfOk-weaker}
use Rattle.j39_id.specs.Lines.{Short}
use Rattle.j39_log.specs.LogPairs.{Seen}
use Rattle.j39_log.specs.ReadText.{Past, nothing_yet, passed_over, with_frame}
use Rattle.j39_log.specs.declared.line_counts.LineCounts.{LineCounts}
use Rattle.j39_log.specs.PairListeners.{IsInRange}
use Rattle.j39_log.specs.inside.ReadSoFar.{Recalls, line_more}
use Rattle.j39_log.proofs.LinesRead.{recalls_passed_over}
use Rattle.j39_log.proofs.address_report.AddressReportLogReport.read_line.Goals as goal

pub returns-in-Ok-clause-reported : goal.returns-in-Ok-clause-reported
returns-in-Ok-clause-reported c =
    IfOk-weaker c.write_frame.result _ _
    (λ _ written. λ before reports _number all.
    let plan = c.args.groups.now in
    let f = c.in-Ok.frame in
    let past = all.past in
    let recalls = all.recalls in
    let done = written past.seen recalls.heard_all recalls.ranges in
    let x : Seen = record { frame = f; packet = done.0 } in
    let next : Past = with_frame past f done.0 in
    let one_more = length_push past.seen x in
    let frames = recalls.frames_are in (
      done.1,
      record {
        past = next;
        read = line_more plan before (Short c.args.line.now) nothing_yet past next reports done.1 all.read
            (inl (f, c.in-Ok.ensures.found, (done.0, done.2, done.4, refl)));
        recalls = record {
          heard_all = done.5;
          ranges = All-push (λ (y : Seen). IsInRange y.packet) past.seen x recalls.ranges done.3;
          frames_are = omega (arith, frames, one_more);
          skipped_are = recalls.skipped_are;
          bad_are = recalls.bad_are;
        };
      },
      done.6,
    ))
    c.write_frame.ensures

pub returns-in-Err-clause-reported : goal.returns-in-Err-clause-reported
returns-in-Err-clause-reported c = λ before reports _number all.
    let plan = c.args.groups.now in
    let listeners = c.args.self.now.listeners in
    let e = c.in-Err.error in
    let past = all.past in
    let next : Past = passed_over e past in (
      [],
      record {
        past = next;
        read = line_more plan before (Short c.args.line.now) nothing_yet past next reports [] all.read
            (inr (e, c.in-Err.ensures.refused, refl, refl));
        recalls = subst (λ (counts : LineCounts). Recalls listeners counts next) (sym c.pass_over.ensures)
            (recalls_passed_over listeners c.args.counts.now e past all.recalls);
      },
      sym (append-nil c.args.text.now),
    )
