use Rattle.j39_load.specs.AskedLoads.{asked_in}
use Rattle.j39_load.specs.Delays.{IsTurn}
use Rattle.j39_load.specs.inside.BufferingDelays.{buffering_of}
use Rattle.j39_load.specs.inside.TurnTimes.{IsShortTurn}
use Rattle.j39_load.proofs.StatedPlaces.{AreReported}
use Rattle.j39_load.proofs.loads.Loads.turns.Given as goal

abbrev pub invariant-loop-unit : goal.invariant-loop-unit
invariant-loop-unit l = AreReported (IsTurn l.self.timing (asked_in l.self) (buffering_of l.buffering_delays)) IsShortTurn l.unit l.turns.items
