-- What leads where in a vehicle, reported once: of each forward its first input, and of each flow the forwards that feed it.
use Rattle.std.specs.Prelude.{◌≡◌, ℕ, List, [], Bool, false, Option, map}
use Rattle.std.specs.List.{slice_get}
use Rattle.std.specs.Option.{option_map_or}
use Rattle.std.specs.declared.alloc.Global.{Global}
use Rattle.std.specs.declared.vec.Vec.{Vec}
use Rattle.j39_vehicle.specs.declared.vehicle.Vehicle.{Vehicle}
use Rattle.j39_vehicle_findings.specs.declared.point.FlowAt.{FlowAt}
use Rattle.j39_vehicle_findings.specs.declared.tables.PathTables.{PathTables}
use Rattle.j39_vehicle_findings.specs.ForwardTests.{feeds}
use Rattle.j39_vehicle_findings.specs.PassingPlaces.{passing}
use Rattle.j39_vehicle_findings.specs.Traces.{carries, first_input}

-- the forwards that feed a flow, by their places in rising order
abbrev pub feeders : Vehicle → FlowAt → List ℕ
feeders v at = passing (feeds v at) v.forwards.items

-- a row of a table: nothing where there is none
abbrev pub row_at : List (Vec ℕ Global) → ℕ → List ℕ
row_at rows i = option_map_or (λ row. row.items) (slice_get rows i) []

-- the row of a flow, by the places of its bus and of itself
abbrev pub row_of : List (Vec (Vec ℕ Global) Global) → FlowAt → List ℕ
row_of buses at = option_map_or (λ rows. row_at rows.items at.flow) (slice_get buses at.bus) []

-- the forward at a place carries the signal
abbrev pub carries_at : Vehicle → Option ℕ → ℕ → Bool
carries_at v signal n = option_map_or (carries signal) (slice_get v.forwards.items n) false

-- the tables are those of the vehicle
pub record AreTables (v : Vehicle) (t : PathTables) : Type 0 where
  pub inputs : t.inputs.items ≡ map (first_input v) v.forwards.items
  pub feeders : (at : FlowAt) → row_of t.feeders.items at ≡ feeders v at
