use Rattle.std.proofs.Common.{List, Option, All, take, None, subst, arith}
use Rattle.std.proofs.lemmas.List.{take_all}
use Rattle.std.proofs.lemmas.List.Elements.{All-get_or, All-more}
use Rattle.j39_load.specs.AnyQueues.{AreAtMost}
use Rattle.j39_load.specs.declared.frames.flow_frames.FlowFrames.{FlowFrames}
use Rattle.j39_load.proofs.AnyQueues.{all_at_most_more}
use Rattle.j39_load.proofs.queues.queue_groups.next_level.Goals as goal

pub loop-sent-preserved : goal.loop-sent-preserved
loop-sent-preserved c =
    let all = c.args.all.now in
    let k = c.loop-sent.sent-index in
    let has = AreAtMost c.args.leasts.now c.args.own.now c.args.level in
    record {
      above = omega (arith, c.loop-sent.invariant.above, c.raised-most.ensures.above);
      at_most = All-more (has c.raised-most.result) all k None c.loop-sent-test.true
          (all_at_most_more c.args.leasts.now c.args.own.now c.args.level c.loop-sent.most c.raised-most.result c.raised-most.ensures.above (take k all)
          c.loop-sent.invariant.at_most)
          c.raised-most.ensures.at_most;
      least = λ other le known.
          c.raised-most.ensures.least other (c.loop-sent.invariant.least other le known) (All-get_or (has other) all k None c.loop-sent-test.true known);
    }

pub returns-clause-at_most : goal.returns-clause-at_most
returns-clause-at_most c =
    subst (λ (xs : List (Option FlowFrames)). All (AreAtMost c.args.leasts.now c.args.own.now c.args.level c.loop-sent.most) xs)
    (take_all c.loop-sent.sent-index c.args.all.now (omega (arith, c.loop-sent-test.false))) c.loop-sent.invariant.at_most
