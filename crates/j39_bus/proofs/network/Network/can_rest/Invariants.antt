use Rattle.std.proofs.Common.{◌≡◌, ℕ, ◌<◌, true}
use Rattle.j39_bus.specs.BusState.{nowhere}
use Rattle.j39_bus.specs.inside.Network.{world_in}
use Rattle.j39_world.specs.Resting.{is_over_with}
use Rattle.j39_bus.proofs.network.Network.can_rest.Given as goal

abbrev pub invariant-loop-other : goal.invariant-loop-other
invariant-loop-other l = (k : ℕ) → k < l.other → is_over_with (world_in nowhere l.self) l.unit k ≡ true
