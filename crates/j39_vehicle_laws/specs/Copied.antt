-- What it is good for that copies have the layout of what is heard, and what signals read in messages.
use Rattle.std.specs.Prelude.{◌≡◌, ℕ, ◌≤◌, true, List, length as count, Some}
use Rattle.std.specs.List.{slice_get}
use Rattle.j39_signal.specs.declared.signal_parts.SignalParts.{SignalParts}
use Rattle.j39_signal.specs.Places.{IsAlwaysInside}
use Rattle.j39_signal.specs.Selectors.{is_selected}
use Rattle.j39_signal.specs.State.{state_in_payload}
use Rattle.j39_network.specs.Lengths.{IsLengthOf}
use Rattle.j39_network.specs.declared.plan.group_plan.GroupPlan.{GroupPlan}
use Rattle.j39_vehicle.specs.declared.vehicle.Vehicle.{Vehicle}
use Rattle.j39_vehicle.specs.declared.vehicle.forward.Forward.{Forward}
use Rattle.j39_vehicle_findings.specs.Buses.{group_at}
use Rattle.j39_vehicle_findings.specs.ForwardEnds.{Copies}
use Rattle.j39_vehicle_laws.specs.Reading.{reading}

-- the bytes can be a message of the group: it has messages of their length, and its selector takes them
pub record CanBeMessageOf (g : GroupPlan) (bytes : List ℕ) : Type 0 where
  pub length : IsLengthOf g (count bytes)
  pub selected : is_selected g.when bytes ≡ true

-- what can be a message of the group that a copy hears can be one of the group that it sends
abbrev pub CopiesCanBeSent : Vehicle → Type 0
CopiesCanBeSent v = (place : ℕ) (n : Forward) (g h : GroupPlan) (bytes : List ℕ) → slice_get v.forwards.items place ≡ Some n → Copies n
    → group_at v.buses.items n.input ≡ Some g → group_at v.buses.items n.output ≡ Some h → CanBeMessageOf g bytes → CanBeMessageOf h bytes

-- in a message that is no shorter than the shortest of its group a signal reads what its state is there, where it ends within this one or is
-- optional
abbrev pub ReadingsAreStates : Type 0
ReadingsAreStates = (s : SignalParts) (least : ℕ) (bytes : List ℕ) → IsAlwaysInside least s → least ≤ count bytes → reading s bytes ≡ state_in_payload bytes s
