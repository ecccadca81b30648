use Rattle.std.proofs.Common.{◌≤◌, ◌++◌, ◌∷◌, [], ℕ, List, Option, Some, None, length, refl, sym, ap, subst, ◌∙◌, arith}
use Rattle.std.specs.Option.{option_copied, option_to_list}
use Rattle.std.proofs.lemmas.List.{length-append, length_push}
use Rattle.std.proofs.lemmas.List.Elements.{All-push}
use Rattle.j39_id.specs.declared.frame.Frame.{Frame}
use Rattle.j39_log.specs.LogPairs.{Seen}
use Rattle.j39_log.specs.PairListeners.{IsInRange}
use Rattle.j39_follow.specs.FollowReports.{IsBareText, IsMessageReport, IsNotice, in_frame, stamp}
use Rattle.j39_follow.specs.FollowText.{IsPacketReport, FollowedPast, lines_with}
use Rattle.j39_follow.specs.LogLines.{interface_behind}
use Rattle.j39_follow.specs.declared.message.Sort.{Sort}
use Rattle.j39_follow.specs.inside.FollowedSoFar.{interface_of}
use Rattle.j39_follow.specs.inside.Recounting.{Knows}
use Rattle.j39_follow.proofs.Addresses.Heard.{frames_more}
use Rattle.j39_follow.proofs.Requests.Noted.{few_events}
use Rattle.j39_follow.proofs.Addresses.Knowing.{frames_as_well}
use Rattle.j39_follow.proofs.unit_report.UnitReport.follow_frame.Goals as goal

one_at_most : (o : Option Sort) → length (option_to_list o) ≤ 1
one_at_most None = omega arith
one_at_most (Some s) = omega arith

pub returns-clause-frame : goal.returns-clause-frame
returns-clause-frame c = λ past recalls number.
    let plan = c.args.groups.now in
    let f = c.args.frame.now in
    let time : List ℕ = c.args.stamp.time.now in
    let named : Option (List ℕ) = option_copied c.args.named in
    let m = recalls.remembers in
    let frames = recalls.frames_are in
    let room = c.requires.frames in
    let done = c.in_ok-follow.ensures.followed past m (omega (arith, frames, room)) (sym frames) in
    let w = done.written in
    let same = c.in_ok-follow.ensures.same in
    let x : Seen = record { frame = f; packet = w.packet } in
    let sorts : List Sort = option_to_list done.ended in
    let noted = done.noted in
    let next : FollowedPast = record past {
      seen = past.seen ++ x ∷ [];
      timed = lines_with past f time;
      interface = interface_behind past.interface named;
      sent = past.sent ++ done.sort ∷ sorts;
      events = past.events ++ noted.more;
    } in
    let more = length_push past.seen x in
    let sent = length-append past.sent (done.sort ∷ sorts) in
    let ended = one_at_most done.ended in
    let few = m.few in
    let stated = length-append past.events noted.more in
    let three = few_events plan (lines_with past f time) f done.sort done.ended noted.more noted.are_events in
    let few_noted = m.few_noted in
    record {
      next = next;
      piece = w.notice ++ (w.report ++ (w.bare ++ w.carried));
      reads = record {
        packet = w.packet;
        sort = done.sort;
        sorts = sorts;
        events = noted.more;
        notice = w.notice;
        report = w.report;
        bare = w.bare;
        carried = w.carried;
        heard_as = w.heard_as;
        notice_is = subst (λ (n : ℕ). IsNotice plan (lines_with past f time) (stamp n time) f w.notice) number w.notice_is;
        report_is = subst (λ (n : ℕ). IsMessageReport plan (lines_with past f time) (stamp n time) (in_frame f) done.sort w.report) number
            w.report_is;
        bare_is = subst (λ (n : ℕ). IsBareText plan c.args.self.now.all_frames (lines_with past f time) (stamp n time) f (w.notice ++ w.report) w.bare)
            number w.bare_is;
        carried_is = subst (λ (n : ℕ). IsPacketReport plan past.seen (lines_with past f time) (stamp n time) f w.packet sorts w.carried) number w.carried_is;
        events_are = noted.are_events;
        text_is = refl;
        next_is = refl;
      };
      recalls = record {
        remembers = record {
          knows = subst (λ (fs : List Frame). Knows plan c.follow.new.self.directory fs) (sym (frames_more past.seen x)) done.knows;
          contests = done.contests;
          frames = frames_as_well past f time m.frames ∙ sym (frames_more past.seen x);
          heard = done.heard;
          ranges = All-push (λ (y : Seen). IsInRange y.packet) past.seen x m.ranges w.range;
          tally = done.tally;
          few = omega (arith, sent, ended, more, few);
          exchanges = noted.exchanges;
          few_noted = omega (arith, stated, three, more, few_noted);
        };
        interface_is =
            c.in_ok-keep_interface.ensures
            ∙ ap (λ (i : Option (List ℕ)). interface_behind i named) (ap interface_of same.interface ∙ recalls.interface_is);
        frames_are = omega (arith, frames, more);
        skipped_are = recalls.skipped_are;
        bad_are = recalls.bad_are;
        elsewhere_are = recalls.elsewhere_are;
      };
      number_is = refl;
      text_is = w.text_is;
    }
