use Rattle.j39_load.specs.AskedLoads.{asked_in}
use Rattle.j39_load.specs.Delays.{IsTurn}
use Rattle.j39_load.specs.inside.BufferingDelays.{buffering_of}
use Rattle.j39_load.specs.inside.TurnTimes.{IsShortTurn}
use Rattle.j39_load.proofs.StatedPlaces.{one_stated}
use Rattle.j39_load.proofs.loads.Loads.turns.Goals as goal

pub loop-unit-preserved : goal.loop-unit-preserved
loop-unit-preserved c =
    let self = c.args.self.now in
    rw (c.in_ok-push.ensures.items)
    (one_stated (IsTurn self.timing (asked_in self) (buffering_of c.args.buffering_delays.now)) IsShortTurn c.loop-unit.unit c.loop-unit.turns.items
    c.in_ok-turn.turn c.loop-unit.invariant c.in_ok-turn.ensures.turn c.in_ok-turn.ensures.short)
