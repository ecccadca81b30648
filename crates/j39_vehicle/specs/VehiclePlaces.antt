-- Places in a vehicle that are there: of units, groups and signals in the plans of its buses.
use Rattle.std.specs.Prelude.{◌≡◌, ℕ, ◌<◌, List, All, length, Some}
use Rattle.std.specs.List.{slice_get}
use Rattle.std.specs.Option.{ForSome, option_map_or}
use Rattle.j39_network.specs.declared.plan.to.To.TheVariants.{One}
use Rattle.j39_network.specs.NeedPlaces.{signal_count}
use Rattle.j39_vehicle.specs.declared.vehicle.bus_plan.BusPlan.{BusPlan}
use Rattle.j39_vehicle.specs.declared.vehicle.places.UnitAt.{UnitAt}
use Rattle.j39_vehicle.specs.declared.vehicle.places.GroupAt.{GroupAt}
use Rattle.j39_vehicle.specs.declared.vehicle.gateway.Gateway.{Gateway}
use Rattle.j39_vehicle.specs.declared.vehicle.forward.Forward.{Forward}
use Rattle.j39_vehicle.specs.declared.vehicle.vehicle_need.VehicleNeed.{VehicleNeed}

-- how many units the bus at a place has, and how many groups: none where there is no bus
abbrev pub unit_count : List BusPlan → ℕ → ℕ
unit_count buses b = option_map_or (λ bus. length bus.plan.units.items) (slice_get buses b) 0

abbrev pub group_count : List BusPlan → ℕ → ℕ
group_count buses b = option_map_or (λ bus. length bus.plan.groups.items) (slice_get buses b) 0

-- how many signals a group has
abbrev pub signals_at : List BusPlan → GroupAt → ℕ
signals_at buses g = option_map_or (λ bus. signal_count bus.plan.groups.items g.group) (slice_get buses g.bus) 0

abbrev pub HasUnit : List BusPlan → UnitAt → Type 0
HasUnit buses u = u.unit < unit_count buses u.bus

abbrev pub HasGroup : List BusPlan → GroupAt → Type 0
HasGroup buses g = g.group < group_count buses g.bus

-- the places of a forward are there
pub record HasForward (buses : List BusPlan) (gateways : List Gateway) (f : Forward) : Type 0 where
  pub gateway : f.gateway < length gateways
  pub input : HasGroup buses f.input
  pub from : (u : ℕ) → f.from ≡ Some u → u < unit_count buses f.input.bus
  pub hearer : f.hearer < unit_count buses f.input.bus
  pub output : HasGroup buses f.output
  pub sender : f.sender < unit_count buses f.output.bus
  pub to : (u : ℕ) → f.to ≡ Some (One u) → u < unit_count buses f.output.bus
  pub read : ForSome f.signals (λ listed. All (λ s. s.read < signals_at buses f.input) listed.items)
  pub written : ForSome f.signals (λ listed. All (λ s. s.written < signals_at buses f.output) listed.items)

-- the places of a need are there
pub record HasNeed (buses : List BusPlan) (d : VehicleNeed) : Type 0 where
  pub unit : HasUnit buses d.unit
  pub group : d.group < group_count buses d.unit.bus
  pub signal : (s : ℕ) → d.signal ≡ Some s → s < signals_at buses (record { bus = d.unit.bus; group = d.group })
  pub from : HasUnit buses d.from
