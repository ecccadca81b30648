use Rattle.std.proofs.Common.{ℕ, List, subst}
use Rattle.j39_audit.specs.Moments.{begun_anew, moments_behind, with_time}
use Rattle.j39_audit.specs.MessageStreams.{nothing_sighted, sighted_behind}
use Rattle.j39_audit.specs.declared.tally.Sighting.{Sighting}
use Rattle.j39_audit.specs.inside.Recalling.{RecallsMoments, settings_of}
use Rattle.j39_audit.proofs.moments.Moments.look.Goals as goal

pub returns-clause-moments : goal.returns-clause-moments
unfolding moments_behind
returns-clause-moments c = λ m noted recalls sights unclear.
    let s = settings_of c.args.basis.now in
    let plan = c.args.basis.now.plan.now in
    let begun = begun_anew s c.args.anew c.args.gap m in
    let seen = c.args.seen in
    subst (λ (ns : List ℕ). RecallsMoments c.take_at.new.self
    (with_time s plan.timing c.args.gap c.args.time c.args.frame.now c.args.line (sighted_behind nothing_sighted noted) ns seen.ending begun)) unclear
    (subst (λ (w : Sighting). RecallsMoments c.take_at.new.self
    (with_time s plan.timing c.args.gap c.args.time c.args.frame.now c.args.line w seen.unclear.now seen.ending begun)) sights
    (c.in_ok-take_at.ensures.moments begun (c.in_ok-begin.ensures.moments m recalls)))
