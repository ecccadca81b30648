-- Which forwards come after themselves, as a call answers it.
use Rattle.std.specs.Prelude.{◌≡◌, ℕ, ◌<◌, List, length, map, Bool, false}
use Rattle.std.specs.Bool.{Decides}
use Rattle.std.specs.List.{slice_index_or}
use Rattle.std.specs.declared.alloc.Global.{Global}
use Rattle.std.specs.declared.vec.Vec.{Vec}
use Rattle.j39_vehicle.specs.declared.vehicle.Vehicle.{Vehicle}
use Rattle.j39_vehicle.specs.declared.vehicle.forward.Forward.{Forward}
use Rattle.j39_vehicle_findings.specs.ForwardEnds.{ComesAfter}
use Rattle.j39_vehicle_findings.specs.ForwardTests.{is_followed}
use Rattle.j39_vehicle_findings.specs.PassingPlaces.{passing}

-- the forwards that follow one, by their places in rising order
abbrev pub followers : Vehicle → Forward → List ℕ
followers v n = passing (is_followed v n) v.forwards.items

-- of each forward, those that follow it
abbrev pub AreFollowers : Vehicle → List (Vec ℕ Global) → Type 0
AreFollowers v rows = map (λ row. row.items) rows ≡ map (followers v) v.forwards.items

-- of each forward, whether it comes after itself
pub record DecidesLoops (v : Vehicle) (loops : List Bool) : Type 0 where
  pub count : length loops ≡ length v.forwards.items
  pub each : (n : ℕ) → n < length loops → Decides (slice_index_or loops n false) (ComesAfter v n n)
