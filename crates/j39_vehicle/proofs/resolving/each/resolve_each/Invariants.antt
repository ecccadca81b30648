use Rattle.std.proofs.Common.{drop}
use Rattle.j39_vehicle.proofs.EachFound.{AreFound}
use Rattle.j39_vehicle.proofs.resolving.each.resolve_each.Given as goal

abbrev pub invariant-loop-index : goal.invariant-loop-index
invariant-loop-index g l =
    AreFound (record {
      faults = g.R.Resolve.faults l.resolver;
      Grows = g.R.Resolve.Grows l.resolver;
      StandsFor = g.R.Resolve.StandsFor l.resolver;
    }) l.index l.found.items (drop l.index l.tables) l.tables
