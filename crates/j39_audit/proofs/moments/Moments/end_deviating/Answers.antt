use Rattle.std.proofs.Common.{◌<◌, ◌∙◌}
use Rattle.j39_audit.specs.Pauses.{is_stood_for}
use Rattle.j39_audit.specs.inside.Recalling.{far_ahead, settings_of}
use Rattle.j39_audit.proofs.Keeping.{each_unless, kept_unless}
use Rattle.j39_audit.proofs.Pausing.{near_with, recalls_with}
use Rattle.j39_audit.proofs.moments.Moments.end_deviating.Goals as goal

pub returns-clause-near : goal.returns-clause-near
returns-clause-near c =
    let near = c.requires.near in
    let forgot = c.forget_stood_for.ensures in
    near_with near (record {
      newest = each_unless (λ x. x.moment < far_ahead) _ _ _ forgot.each near.pauses.newest;
      last = near.pauses.last;
      newest_size = forgot.size ∙ near.pauses.newest_size;
      last_size = near.pauses.last_size;
    })

pub returns-clause-moments : goal.returns-clause-moments
returns-clause-moments c = λ m recalls.
    let s = settings_of c.args.basis.now in
    let group = c.in-Some.group in
    let unit = c.in-Some-unit.unit in
    let forgot = c.forget_stood_for.ensures in
    rw (c.in-Some.is, c.in-Some-unit.is) (recalls_with recalls recalls.counted
    (kept_unless (is_stood_for s.plan unit group) forgot.each recalls.pauses.newest) recalls.pauses.last)
