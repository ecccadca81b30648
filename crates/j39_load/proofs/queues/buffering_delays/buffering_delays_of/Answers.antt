use Rattle.std.proofs.Common.{List, All, Option, ℕ, map, subst, sym, ap, ◌∙◌, arith}
use Rattle.j39_load.specs.AnyQueues.{buffered, least_unbounded}
use Rattle.j39_load.specs.Demands.{demands_of}
use Rattle.j39_timing.specs.Waits.{IsWanted, as_demand}
use Rattle.j39_timing.specs.declared.wants.Wanted.{Wanted}
use Rattle.j39_load.proofs.DemandLaws.{demands_where_buffered}
use Rattle.j39_load.proofs.queues.buffering_delays.buffering_delays_of.Goals as goal

pub waits_of-requires-clause-demands : goal.waits_of-requires-clause-demands
waits_of-requires-clause-demands c = ap (map as_demand) c.as_slice.ensures.value ∙ c.in_ok-demands.ensures.demands

pub waits_of-requires-clause-sound : goal.waits_of-requires-clause-sound
waits_of-requires-clause-sound c = subst (λ (ds : List Wanted). All IsWanted ds) (sym c.as_slice.ensures.value) c.in_ok-demands.ensures.sound

pub returns-clause-buffering : goal.returns-clause-buffering
returns-clause-buffering c = record {
  bounded = c.in_ok-waits.ensures.bounded;
  frames = c.in_ok-frames.ensures.frames ∙ ap (λ (ws : List (Option ℕ)). buffered ws c.args.all.now) c.as_slice-2.ensures.value;
  least_unbounded = c.least_unbounded-least.ensures ∙ ap (λ (ws : List (Option ℕ)). least_unbounded ws c.args.all.now) c.as_slice-3.ensures.value;
}

pub returns-clause-fit : goal.returns-clause-fit
returns-clause-fit c = record {
  fit = c.in_ok-frames.ensures.fit;
  few = omega (arith, c.in_ok-frames.ensures.count, c.requires.few);
  short = c.in_ok-waits.ensures.short;
  demands = c.in_ok-demands.ensures.demands
      ∙ sym (demands_where_buffered c.as_slice-2.result.now c.args.all.now) ∙ sym (ap demands_of c.in_ok-frames.ensures.frames);
  wanted = c.in_ok-demands.ensures.sound;
}
