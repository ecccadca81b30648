use Rattle.std.proofs.Common.{[], sym, ◌∙◌, inl, inr, refl, Some, None}
use Rattle.std.proofs.lemmas.List.{append-nil}
use Rattle.j39_follow.specs.FollowReports.{in_frame}
use Rattle.j39_follow.specs.inside.Reporting.{front_of}
use Rattle.j39_follow.proofs.FrameTexts.{is_a_group, is_no_group, last_text}
use Rattle.j39_follow.proofs.Addresses.Heard.{unheard_more}
use Rattle.j39_follow.proofs.frame_report.write_frame.Goals as goal

pub returns-then-is_grouped : goal.returns-then-is_grouped
returns-then-is_grouped c = λ seen log shows asker have ranges.
    let plan = c.args.groups.now in
    let f = c.args.frame.now in
    let own = c.in_ok-sort.ensures log shows asker in
    let report = own.report_is in
    record {
      packet = None;
      notice = own.notice;
      report = own.report;
      bare = own.bare;
      carried = [];
      heard_as = inr (is_a_group plan log (front_of c.args.stamp) (in_frame f) c.in_ok-sort.sort own.report report.0 report.1 report.2 report.3 report.4
          (sym c.is_grouped.ensures ∙ c.if-is_grouped.true));
      range = tt;
      notice_is = own.notice_is;
      report_is = report;
      bare_is = own.bare_is;
      carried_is = (refl, refl);
      heard = unheard_more plan c.args.pairs.now seen f have;
      text_is = last_text c.args.text.now own.notice own.report own.bare [] _ _ own.text_is (sym (append-nil c.write_itself.new.text));
    }

pub returns-in_default : goal.returns-in_default
returns-in_default c = λ seen log shows asker have ranges.
    let own = c.in_ok-sort.ensures log shows asker in
    record {
      packet = None;
      notice = own.notice;
      report = own.report;
      bare = own.bare;
      carried = [];
      heard_as = inl c.in_default.ensures.none;
      range = tt;
      notice_is = own.notice_is;
      report_is = own.report_is;
      bare_is = own.bare_is;
      carried_is = (refl, refl);
      heard = unheard_more c.args.groups.now c.args.pairs.now seen c.args.frame.now have;
      text_is = last_text c.args.text.now own.notice own.report own.bare [] _ _ own.text_is (sym (append-nil c.write_itself.new.text));
    }

pub returns : goal.returns
returns c = λ seen log shows asker have ranges.
    let plan = c.args.groups.now in
    let f = c.args.frame.now in
    let own = c.in_ok-sort.ensures log shows asker in
    let report = own.report_is in
    let carried = c.in_ok-ended.ensures.carried seen log shows have ranges in
    record {
      packet = Some c.in-Some.packet;
      notice = own.notice;
      report = own.report;
      bare = own.bare;
      carried = carried.0;
      heard_as = (
        is_no_group plan log (front_of c.args.stamp) (in_frame f) c.in_ok-sort.sort own.report report.0 report.1 report.2 report.3 report.4
            (sym c.is_grouped.ensures ∙ c.if-is_grouped.false),
        c.in-Some.ensures.found.0,
      );
      range = c.in-Some.ensures.found.1;
      notice_is = own.notice_is;
      report_is = report;
      bare_is = own.bare_is;
      carried_is = carried.1;
      heard = c.in_ok-ended.ensures.heard seen have;
      text_is = last_text c.args.text.now own.notice own.report own.bare carried.0 _ _ own.text_is carried.2;
    }
