use Rattle.std.proofs.Common.{map, refl, ap, ◌∙◌, arith}
use Rattle.j39_timing.specs.Waits.{as_demand}
use Rattle.j39_load.proofs.FoundWaits.{same_found, same_none}
use Rattle.j39_load.proofs.waits.delays.delay_within.Goals as goal

pub returns-in-Some-clause-some : goal.returns-in-Some-clause-some
returns-in-Some-clause-some c =
    let demands = ap (map as_demand) c.as_slice-demands.ensures.value ∙ c.requires.buffering_delays.demands in
    let found = same_found demands c.blocking_of-blocking.ensures c.requires.streams refl c.in-Some.wait c.in-Some.ensures.found in (
      c.in-Some.wait,
      record { demand_fits = found.1; within = omega (arith, found.0, c.from.ensures, c.if-most-own.false) },
      found.2,
      omega (arith, c.from.ensures),
    )

pub returns-in-None-clause-none : goal.returns-in-None-clause-none
returns-in-None-clause-none c =
    let demands = ap (map as_demand) c.as_slice-demands.ensures.value ∙ c.requires.buffering_delays.demands in
    let none = same_none demands c.blocking_of-blocking.ensures c.requires.streams refl (c.in-None.ensures.none refl) in
    λ wait in_time. absurd (omega (arith, in_time.demand_fits, none wait (omega (arith, in_time.within, c.from.ensures, c.if-most-own.false))))
