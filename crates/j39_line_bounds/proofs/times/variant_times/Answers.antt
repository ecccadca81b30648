use Rattle.j39_answer.proofs.Answered.{known_bus}
use Rattle.j39_load.specs.BusTimes.{timing_of}
use Rattle.j39_line_bounds.proofs.EachTimes.{reported_of}
use Rattle.j39_line_bounds.proofs.times.variant_times.Goals as goal

pub need_times-requires : goal.need_times-requires
need_times-requires c =
    let known = c.args.known.now in
    rw c.deref.ensures.value (known_bus known.plan (timing_of known.plan) c.args.load.now c.requires.load).count

pub returns : goal.returns
returns c =
    let known = c.args.known.now in
    let load = c.args.load.now in
    let bus = known_bus known.plan (timing_of known.plan) load c.requires.load in
    reported_of c.args.line.now c.args.variant.now known.there known.plan load.loads.timing load _ c.requires.known.is_there c.requires.known.is_plan
    bus.timed bus.is_load (rw c.deref.ensures.value at c.in_ok-flow_times.ensures) (rw c.deref.ensures.value at c.in_ok-need_times.ensures)
    c.total.ensures
