use Rattle.std.proofs.Common.{◌≡◌, ◌+◌, ◌<◌, ◌^◌, ◌++◌, ◌∷◌, ℕ, Option, None, false, List, length, sym, ap, subst, refl, ◌∙◌}
use Rattle.std.specs.Option.{option_to_list}
use Rattle.j39_id.specs.declared.frame.Frame.{Frame}
use Rattle.j39_id.specs.declared.ident.Ident.{Ident}
use Rattle.j39_network.specs.declared.plan.Plan.{Plan}
use Rattle.j39_log.specs.PairListeners.{AreAllInRange}
use Rattle.j39_follow.specs.Contests.{Timed, frames_of}
use Rattle.j39_follow.specs.FollowText.{FollowedPast, lines_with}
use Rattle.j39_follow.specs.LogLines.{moment_of}
use Rattle.j39_follow.specs.LoggedRequests.{acknowledges}
use Rattle.j39_follow.specs.declared.address.directory.Directory.{Directory}
use Rattle.j39_follow.specs.declared.address.known_parties.Parties.{Parties}
use Rattle.j39_follow.specs.declared.flow.tally.Tally.{Tally}
use Rattle.j39_follow.specs.declared.line.stamp.Stamp.{Stamp}
use Rattle.j39_follow.specs.declared.message.Sort.{Sort}
use Rattle.j39_follow.specs.declared.unit_report.UnitReport.{UnitReport}
use Rattle.j39_follow.specs.inside.Contesting.{IsDefender, ShowsParties, contention_at}
use Rattle.j39_follow.specs.inside.Exchanging.{AreExchanges}
use Rattle.j39_follow.specs.inside.FollowedSoFar.{IsReported}
use Rattle.j39_follow.specs.inside.FrameWriting.{WritesFrame}
use Rattle.j39_follow.specs.inside.Hearing.{HaveHeardSince}
use Rattle.j39_follow.specs.inside.Recounting.{Knows}
use Rattle.j39_follow.specs.inside.Reporting.{front_of}
use Rattle.j39_follow.specs.inside.Tallies.{IsTally}
use Rattle.j39_follow.proofs.Addresses.Contested.{defends, taken_so}
use Rattle.j39_follow.proofs.Requests.Noted.{asks_itself}
use Rattle.j39_follow.proofs.unit_report.UnitReport.report.Goals as goal

-- where no address is contested all stand where they are known to
shown : (plan : Plan) (directory : Directory) (log : List Timed) (i : Ident) → Knows plan directory (frames_of log)
    → IsDefender plan log i.sa None → IsDefender plan log i.ps None → ShowsParties plan directory.parties log i
shown plan directory log i knows source receiver = record {
  source = taken_so plan log i.sa _ None (knows.parties i.sa i.sa_range) source;
  receiver = taken_so plan log i.ps _ None (knows.parties i.ps i.ps_range) receiver;
  names = knows.names;
}

-- a frame that was written by a log that is so is reported
reported : {IsSo : List Timed → Type 0} (plan : Plan) (old new : UnitReport) (past : FollowedPast) (s : Stamp) (f : Frame) (old_text new_text : List ℕ)
    (sort : Sort) (ended : Option Sort)
    → WritesFrame IsSo plan old.all_frames (front_of s) f (sort, ended) old.pairs new.pairs old.exchanges new.exchanges old_text new_text
    → IsSo (lines_with past f s.time.now) → HaveHeardSince plan old.pairs past.seen → AreAllInRange past.seen
    → IsTally plan new.tally.value (past.sent ++ sort ∷ option_to_list ended) → AreExchanges plan old.exchanges past.events
    → length past.events + 3 < 2 ^ 64 → IsReported plan old new past s f old_text new_text
reported plan old new past s f old_text new_text sort ended writes so have ranges tally exchanges few = record {
  sort = sort;
  ended = ended;
  written = writes.written past.seen (lines_with past f s.time.now) so have ranges;
  tally = tally;
  noted = writes.noted (lines_with past f s.time.now) past.events so few exchanges;
}

pub returns-then-acknowledges-clause-reported : goal.returns-then-acknowledges-clause-reported
returns-then-acknowledges-clause-reported c = λ past knows contests have ranges tally exchanges few few_noted.
    let plan = c.args.groups.now in
    let kept = sym (c.deref_mut.ensures.value ∙ c.write_taken.ensures.stays.tally) in
    let counted = c.count_frame.ensures past.sent few (subst (λ (t : Tally). IsTally plan t past.sent) kept tally) in
    reported plan c.args.self.now _ past c.args.stamp c.args.frame.now _ _ c.in_ok-sort.sort c.in_ok-sort.ended c.in_ok-sort.ensures.written
    (knows, contests, (past.timed, _, refl, refl)) have ranges counted exchanges few_noted

pub returns-clause-reported : goal.returns-clause-reported
returns-clause-reported c = λ past knows contests have ranges tally exchanges few few_noted.
    let plan = c.args.groups.now in
    let self = c.args.self.now in
    let f = c.args.frame.now in
    let i = f.ident in
    let time : Option ℕ = moment_of c.args.stamp.time.now in
    let log : List Timed = lines_with past f c.args.stamp.time.now in
    let table = self.contests.table.value in
    let source = subst (IsDefender plan log i.sa) (c.are_calm.ensures.source c.if-not-are_calm.false)
    (defends plan log i.sa (contention_at table i.sa) time (contests.contentions i.sa i.sa_range) (past.timed, _, refl, refl)) in
    let receiver = subst (IsDefender plan log i.ps) (c.are_calm.ensures.receiver c.if-not-are_calm.false)
    (defends plan log i.ps (contention_at table i.ps) time (contests.contentions i.ps i.ps_range) (past.timed, _, refl, refl)) in
    let there = subst (λ (ps : Parties). ShowsParties plan ps log i) (sym c.parties.ensures) (shown plan self.directory log i knows source receiver) in
    let silent : acknowledges plan f ≡ false =
    sym (c.acknowledges.ensures.same ∙ ap (λ (p : Plan). acknowledges p f) c.plan.ensures) ∙ c.if-acknowledges.false in
    let counted = c.count_frame-2.ensures past.sent few
    (subst (λ (t : Tally). IsTally plan t past.sent) (sym c.deref_mut-2.ensures.value) tally) in
    reported plan self _ past c.args.stamp f _ _ c.in_ok-sort-2.sort c.in_ok-sort-2.ended
    c.in_ok-sort-2.ensures (there, asks_itself plan c.parties.result.now log f silent there) have ranges counted exchanges few_noted
