-- The oldest item between two units is taken away.
use Rattle.std.proofs.Common.{◌≡◌, ◌<◌, ℕ, arith, List, [], ◌∷◌, refl, length, drop, sym, subst}
use Rattle.j39_bus.specs.declared.network.Network.{Network}
use Rattle.j39_world.specs.declared.wired.Wired.{Wired}
use Rattle.j39_bus.specs.Queued.{Queued, pair_in}
use Rattle.j39_bus.specs.BusState.{Histories}
use Rattle.j39_bus.specs.inside.Network.{world_in}
use Rattle.j39_world.specs.TransferSteps.{LostFrom}
use Rattle.j39_world.specs.World.{changed_pair}

first_of : (list : List Wired) → 0 < length list → (x : Wired) × (list ≡ x ∷ drop 1 list)
first_of [] none = absurd (omega (arith, none))
first_of (x ∷ list) some = (x, refl)

pub lost_from : (old : Network) (u v : ℕ) (h : Histories) → 0 < length (pair_in old.wire.lists u v)
    → (wire : Queued Wired) → pair_in wire.lists ≡ changed_pair (pair_in old.wire.lists) u v (drop 1 (pair_in old.wire.lists u v))
    → LostFrom (world_in h old) u v (pair_in old.wire.lists u v) (record (world_in h old) { wire = pair_in wire.lists })
lost_from old u v h some wire wire_is =
    let (x, is) = first_of (pair_in old.wire.lists u v) some in
    subst (λ (l : List Wired). LostFrom (world_in h old) u v l (record (world_in h old) { wire = pair_in wire.lists })) (sym is)
    (λ i. record (world_in h old) { wire = wire_is i })
