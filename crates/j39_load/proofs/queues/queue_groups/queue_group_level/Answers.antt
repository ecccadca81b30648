use Rattle.std.proofs.Common.{◌≡◌, ◌≤◌, ℕ, All, subst, arith}
use Rattle.j39_load.specs.AnyQueues.{AreAtMost}
use Rattle.j39_load.proofs.AnyQueues.{within_level}
use Rattle.j39_load.proofs.queues.queue_groups.queue_group_level.Goals as goal

pub loop-level-init : goal.loop-level-init
loop-level-init c = record {
  own_frames = omega arith;
  rises = c.next_level-next.ensures.above;
  queue_group = c.next_level-next.ensures.at_most;
  least = λ other is. c.next_level-next.ensures.least other is.own_frames
      (within_level c.args.leasts.now c.args.all.now c.args.own.now c.args.own.now.last_ident other is.own_frames is);
}

pub loop-level-preserved : goal.loop-level-preserved
loop-level-preserved c = record {
  own_frames = omega (arith, c.loop-level.invariant.own_frames, c.loop-level.invariant.rises);
  rises = c.next_level-next-in-loop-level.ensures.above;
  queue_group = c.next_level-next-in-loop-level.ensures.at_most;
  least = λ other is.
      let within : c.loop-level.next ≤ other = c.loop-level.invariant.least other is in
      c.next_level-next-in-loop-level.ensures.least other within
      (within_level c.args.leasts.now c.args.all.now c.args.own.now c.loop-level.next other within is);
}

pub returns : goal.returns
returns c =
    let same : c.loop-level.next ≡ c.loop-level.level = omega (arith, c.loop-level.invariant.rises, c.loop-level-test.false) in
    record {
      level = record {
        is = record {
          own_frames = c.loop-level.invariant.own_frames;
          queue_group =
              subst (λ (n : ℕ). All (AreAtMost c.args.leasts.now c.args.own.now c.loop-level.level n) c.args.all.now) same c.loop-level.invariant.queue_group;
        };
        least = λ other is.
            let within : c.loop-level.next ≤ other = c.loop-level.invariant.least other is in
            omega (arith, within, same);
      };
    }
