use Rattle.std.proofs.Common.{◌<◌, None, length, ◌∙◌}
use Rattle.std.specs.Prelude.{IfSome}
use Rattle.j39_audit.specs.inside.Recalling.{far_ahead}
use Rattle.j39_audit.proofs.Keeping.{forgotten, kept_less, placed_is}
use Rattle.j39_audit.proofs.Pausing.{near_with, recalls_with}
use Rattle.j39_audit.proofs.moments.Moments.end_unit.Goals as goal

pub returns-clause-near : goal.returns-clause-near
returns-clause-near c =
    let near = c.in_ok-end_flows.ensures.near in
    let forgot = c.forget_at.ensures in
    let u = c.args.unit in
    let none = forgotten u c.forget_at.new.kept.items (length c.end_flows.new.self.pauses.last.items) forgot.size forgot.here in
    near_with near (record {
      newest = near.pauses.newest;
      last = placed_is (λ x. IfSome x.since (λ q. q < far_ahead)) u None _ _ forgot.others none tt near.pauses.last;
      newest_size = near.pauses.newest_size;
      last_size = forgot.size ∙ near.pauses.last_size;
    })

pub returns-clause-moments : goal.returns-clause-moments
returns-clause-moments c = λ m recalls.
    let ended = c.in_ok-end_flows.ensures.moments m recalls in
    let forgot = c.forget_at.ensures in
    recalls_with ended ended.counted ended.pauses.newest (kept_less c.args.unit forgot.others forgot.size forgot.here ended.pauses.last)
