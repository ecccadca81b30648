use Rattle.std.proofs.Common.{◌≡◌, ◌∙◌, ◌+◌, ◌<◌, ◌^◌, ◌∷◌, ◌++◌, [], ℕ, List, Option, length, sym, subst, arith}
use Rattle.std.proofs.lemmas.List.{length-map}
use Rattle.j39_network.specs.declared.plan.Plan.{Plan}
use Rattle.j39_log.specs.LogPairs.{Seen}
use Rattle.j39_follow.specs.FollowText.{frames_seen, lines_with}
use Rattle.j39_follow.specs.declared.address.directory.Directory.{Directory}
use Rattle.j39_follow.specs.Contests.{Timed, frames_of}
use Rattle.j39_follow.specs.LogLines.{moment_of}
use Rattle.j39_follow.specs.declared.address.contests.Contests.{Contests}
use Rattle.j39_follow.specs.declared.address.known_parties.Parties.{Parties}
use Rattle.j39_follow.specs.declared.address.who.Who.{Who}
use Rattle.j39_follow.specs.inside.Contesting.{AreContests}
use Rattle.j39_follow.proofs.Addresses.Knowing.{frames_as_well}
use Rattle.j39_follow.specs.inside.FrameWriting.{frames_with}
use Rattle.j39_follow.specs.inside.Recounting.{ArePartiesOf, Knows}
use Rattle.j39_follow.proofs.Addresses.Heard.{heard_anew}
use Rattle.j39_follow.proofs.unit_report.UnitReport.follow_claim.Goals as goal

pub returns-clause-followed : goal.returns-clause-followed
returns-clause-followed c = λ past of few counted.
    let plan = c.args.groups.now in
    let f = c.args.frame.now in
    let time : Option ℕ = moment_of c.args.stamp.time.now in
    let log : List Timed = lines_with past f c.args.stamp.time.now in
    let sent = of.few in
    let room : length past.sent + 2 < 2 ^ 64 = omega (arith, few, sent) in
    let reported_so_far = of.few_noted in
    let room_stated : length past.events + 3 < 2 ^ 64 = omega (arith, few, reported_so_far) in
    let many : length (frames_seen past.seen) ≡ length past.seen = length-map past.seen (λ (s : Seen). s.frame) in
    let heard : Knows plan c.hear-2.new.self (frames_with past.seen f) =
    subst (λ (p : Plan). Knows p c.hear-2.new.self (frames_with past.seen f)) c.plan-2.ensures
    (c.hear-2.ensures (frames_seen past.seen) (many ∙ counted) (subst (λ (p : Plan). Knows p c.args.self.now.directory (frames_seen past.seen))
    (sym c.plan-2.ensures) of.knows)) in
    let first = subst (Knows plan c.args.self.now.directory) (sym of.frames) of.knows in
    let contests : AreContests plan c.hear.new.self log =
    subst (λ (t : Option ℕ). AreContests plan c.hear.new.self (past.timed ++ record { frame = f; time = t } ∷ [])) c.moment.ensures
    (subst (λ (p : Plan). AreContests p c.hear.new.self (past.timed ++ record { frame = f; time = c.moment.result } ∷ [])) c.plan.ensures
    (c.in_ok-hear.ensures past.timed (subst (λ (p : Plan). Knows p c.args.self.now.directory (frames_of past.timed)) (sym c.plan.ensures) first)
    (subst (λ (p : Plan). AreContests p c.args.self.now.contests past.timed) (sym c.plan.ensures) of.contests))) in
    let same = frames_as_well past f c.args.stamp.time.now of.frames in
    let stated = c.in_ok-report.ensures.reported past (subst (Knows plan c.hear-2.new.self)
    (sym same) heard) contests of.heard of.ranges of.tally of.exchanges room room_stated in
    let w = stated.written in
    let knows = subst (λ (d : Directory). Knows plan d (frames_with past.seen f)) (sym c.in_ok-report.ensures.directory) heard in
    let before = subst (λ (ps : List Who). ArePartiesOf plan (frames_seen past.seen) ps) (sym c.all_parties-before.ensures) of.knows.parties in
    let after = subst (λ (d : Parties). ArePartiesOf plan (frames_with past.seen f) d.all) (sym c.parties.ensures) knows.parties in
    record {
      sort = stated.sort;
      ended = stated.ended;
      pairs = c.report.new.self.pairs;
      written = w;
      knows = knows;
      contests = subst (λ (cs : Contests). AreContests plan cs log) (sym c.in_ok-report.ensures.contests) contests;
      heard = heard_anew plan past.seen (record { frame = f; packet = w.packet }) c.all_parties-before.result c.parties.result.now.all c.replaced-taken.result
          c.report.new.self.pairs c.begin_anew.new.pairs before after
          (c.replaced-taken.ensures (frames_seen past.seen) (c.holder.ensures plan
          (frames_seen past.seen) of.knows)) c.begin_anew.ensures.listeners c.begin_anew.ensures.collections w.heard;
      tally = stated.tally;
      noted = stated.noted;
    }
