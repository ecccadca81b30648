use Rattle.std.proofs.Common.{map, refl, ap, ◌∙◌, arith}
use Rattle.j39_load.specs.Delays.{streams_before}
use Rattle.j39_load.specs.inside.BufferingDelays.{buffering_of}
use Rattle.j39_timing.specs.Waits.{as_demand}
use Rattle.j39_load.proofs.FoundWaits.{among_wait, same_wait, short_wait}
use Rattle.j39_load.proofs.waits.delays.wait_of.Goals as goal

pub returns-clause-wait : goal.returns-clause-wait
returns-clause-wait c =
    let demands = ap (map as_demand) c.as_slice-demands.ensures.value ∙ c.requires.buffering_delays.demands in
    let streams = c.as_slice-2.ensures.value ∙ c.in_ok-streams.ensures.streams
    ∙ ap (streams_before c.args.timing c.args.place c.args.frames.now) c.as_slice.ensures.value in
    among_wait c.args.timing (buffering_of c.args.buffering_delays.now).frames c.args.place c.args.frames.now c.least_wait.result
    (same_wait demands c.blocking_of-blocking.ensures streams c.bits_of_ms-most.ensures.bits c.args.timing refl c.least_wait.result
    c.least_wait.ensures.found c.least_wait.ensures.none)

pub returns-clause-short : goal.returns-clause-short
returns-clause-short c =
    short_wait c.least_wait.result (map as_demand c.as_slice-demands.result.now) _ _ c.as_slice-2.result.now c.least_wait.ensures.found
    (omega (arith, c.bits_of_ms-most.ensures.few))
