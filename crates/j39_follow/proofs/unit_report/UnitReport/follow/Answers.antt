use Rattle.std.proofs.Common.{◌+◌, ◌<◌, ◌^◌, length, sym, subst, arith, ◌∙◌}
use Rattle.std.proofs.lemmas.Result.{IfOk-weaker}
use Rattle.std.proofs.lemmas.Bool.{or_left}
use Rattle.j39_follow.specs.FollowText.{frames_seen, lines_with}
use Rattle.j39_follow.specs.LogLines.{moment_of}
use Rattle.j39_follow.specs.declared.address.contests.Contests.{Contests}
use Rattle.j39_follow.specs.declared.address.directory.Directory.{Directory}
use Rattle.j39_follow.specs.inside.Contesting.{AreContests}
use Rattle.j39_follow.specs.inside.FrameWriting.{frames_with}
use Rattle.j39_follow.specs.inside.Recounting.{Knows}
use Rattle.j39_follow.proofs.Addresses.Heard.{heard_on}
use Rattle.j39_follow.proofs.Addresses.Contested.{contests_on}
use Rattle.j39_follow.proofs.Addresses.Knowing.{frames_as_well, knows_on}
use Rattle.j39_follow.proofs.Addresses.Recounts.{silent}
use Rattle.j39_follow.proofs.Addresses.Replaced.{none_stated}
use Rattle.j39_follow.proofs.unit_report.UnitReport.follow.Goals as goal

pub returns-clause-followed : goal.returns-clause-followed
returns-clause-followed c =
    let plan = c.args.groups.now in
    let f = c.args.frame.now in
    let directory = c.args.self.now.directory in
    let nothing = silent f (sym c.claims_address.ensures ∙ c.if-claims_address.false) (sym c.cannot_claim.ensures ∙ c.if-cannot_claim.false) in
    IfOk-weaker c.report.result _ _
    (λ _ reported. λ past of few _counted.
    let sent = of.few in
    let room : length past.sent + 2 < 2 ^ 64 = omega (arith, few, sent) in
    let reported_so_far = of.few_noted in
    let room_stated : length past.events + 3 < 2 ^ 64 = omega (arith, few, reported_so_far) in
    let knows = knows_on plan directory (frames_seen past.seen) f nothing of.knows in
    let same = frames_as_well past f c.args.stamp.time.now of.frames in
    let contests = contests_on plan c.args.self.now.contests past.timed (record { frame = f; time = moment_of c.args.stamp.time.now }) nothing of.contests in
    let stated = reported past (subst (Knows plan directory) (sym same) knows) contests of.heard of.ranges of.tally of.exchanges room room_stated in
    let w = stated.written in
    record {
      sort = stated.sort;
      ended = stated.ended;
      pairs = c.report.new.self.pairs;
      written = w;
      knows = subst (λ (d : Directory). Knows plan d (frames_with past.seen f)) (sym c.report.ensures.directory) knows;
      contests = subst (λ (cs : Contests). AreContests plan cs (lines_with past f c.args.stamp.time.now)) (sym c.report.ensures.contests) contests;
      heard = heard_on plan past.seen (record { frame = f; packet = w.packet }) directory.parties.all c.report.new.self.pairs
          of.knows.parties knows.parties (none_stated (frames_seen past.seen) f nothing) w.heard;
      tally = stated.tally;
      noted = stated.noted;
    })
    c.report.ensures.reported

pub follow_claim-requires : goal.follow_claim-requires
follow_claim-requires c = or_left _ _ (sym c.claims_address.ensures ∙ c.if-claims_address.true)
