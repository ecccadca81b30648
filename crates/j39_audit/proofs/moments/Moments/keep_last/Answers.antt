use Rattle.std.proofs.Common.{◌<◌, ℕ, Option, Some, ap, ◌∙◌, arith}
use Rattle.std.specs.Prelude.{IfSome}
use Rattle.j39_audit.specs.declared.pauses.LastFrame.{LastFrame}
use Rattle.j39_audit.specs.inside.Recalling.{far_ahead}
use Rattle.j39_audit.proofs.Keeping.{kept_more, kept_open, placed_is}
use Rattle.j39_audit.proofs.Pausing.{near_with, recalls_with}
use Rattle.j39_audit.proofs.moments.Moments.keep_last.Goals as goal

pub keep_at-requires : goal.keep_at-requires
keep_at-requires c = omega (arith, c.requires.near.pauses.last_size, c.requires.unit)

pub returns-clause-near : goal.returns-clause-near
returns-clause-near c =
    let near = c.requires.near in
    let kept = c.keep_at.ensures in
    near_with near (record {
      newest = near.pauses.newest;
      last = placed_is (λ x. IfSome x.since (λ q. q < far_ahead)) c.args.unit _ _ _ kept.others kept.here near.since near.pauses.last;
      newest_size = near.pauses.newest_size;
      last_size = kept.size ∙ near.pauses.last_size;
    })

pub returns-clause-moments : goal.returns-clause-moments
returns-clause-moments c = λ m recalls.
    let kept = c.keep_at.ensures in
    let make : Option ℕ → Option LastFrame = λ q. Some (record { line = c.args.line; since = q }) in
    recalls_with recalls recalls.counted (kept_open recalls.pauses.newest)
    (kept_more c.args.unit kept.others (make m.since) (kept.here ∙ ap make recalls.since) recalls.pauses.last)
