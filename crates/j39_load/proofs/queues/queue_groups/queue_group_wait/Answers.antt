use Rattle.std.proofs.Common.{map, refl, subst, ap, ◌∙◌, arith}
use Rattle.j39_load.specs.declared.frames.flow_frames.FlowFrames.{FlowFrames}
use Rattle.j39_load.specs.AnyQueues.{IsQueueGroupLevel, streams_with}
use Rattle.j39_timing.specs.Waits.{as_demand}
use Rattle.j39_load.proofs.FoundWaits.{same_blocking, same_wait, short_wait}
use Rattle.j39_load.proofs.queues.queue_groups.queue_group_wait.Goals as goal

pub returns-clause-wait : goal.returns-clause-wait
returns-clause-wait c =
    let leasts = c.args.leasts.now in
    let all = c.args.all.now in
    let level = c.queue_group_level-level.result in
    let with = c.with_unplanned-with.ensures in
    let blocking = same_blocking (c.from.ensures ∙ c.frame_bits.ensures.length) c.from-2.ensures c.from-3.ensures in
    let streams = c.as_slice.ensures.value ∙ c.in_ok-streams.ensures.streams
    ∙ ap (λ (x : FlowFrames). streams_with c.args.timing leasts all x level) with in
    record {
      level = level;
      of_queue_group = subst (λ (x : FlowFrames). IsQueueGroupLevel leasts all x level) with c.queue_group_level-level.ensures.level;
      least_wait = same_wait c.requires.demands blocking streams c.bits_of_ms-most.ensures.bits c.args.timing refl c.least_wait.result
          c.least_wait.ensures.found c.least_wait.ensures.none;
    }

pub returns-clause-short : goal.returns-clause-short
returns-clause-short c =
    short_wait c.least_wait.result (map as_demand c.args.demands.now) _ _ c.as_slice.result.now c.least_wait.ensures.found
    (omega (arith, c.bits_of_ms-most.ensures.few))
