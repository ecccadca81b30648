use Rattle.std.proofs.Common.{◌≡◌, ◌∷◌, [], List, length, length-append, get_or, Option, None, sym, subst, ap, arith}
use Rattle.j39_load.specs.declared.waits.delay.Delay.{Delay}
use Rattle.j39_load.specs.AskedLoads.{asked_in}
use Rattle.j39_load.specs.Delays.{HasDelay}
use Rattle.j39_load.proofs.StatedPlaces.{one_more}
use Rattle.j39_load.proofs.loads.Loads.delays.Goals as goal

pub loop-flow-preserved : goal.loop-flow-preserved
loop-flow-preserved c =
    let self = c.args.self.now in
    let asked = asked_in self in
    let old = c.loop-flow.delays.items in
    let delay = c.in_ok-delay.field-0 in
    let flow = c.loop-flow.flow in
    let count : length old ≡ flow = omega arith in
    let more = c.push_reserved.ensures.items in
    record {
      len = omega arith;
      room = omega arith;
      each = λ k below.
          subst (λ (ds : List (Option Delay)). HasDelay self.timing asked k (get_or ds k None)) (sym more)
          (one_more (HasDelay self.timing asked) old delay flow count (λ j before. c.loop-flow.invariant.each j (omega (arith, before, count)))
          c.in_ok-delay.ensures k (omega (arith, below, ap length more, length-append old (delay ∷ []), count)));
    }
