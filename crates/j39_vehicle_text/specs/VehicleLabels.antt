-- What a place of a vehicle names; nothing past the last.
use Rattle.std.specs.Prelude.{ℕ, List, [], ◌++◌, codes}
use Rattle.std.specs.List.{slice_get}
use Rattle.std.specs.Option.{option_map_or}
use Rattle.j39_text.specs.Labels.{group_label, signal_label, unit_label}
use Rattle.j39_vehicle.specs.declared.vehicle.Vehicle.{Vehicle}
use Rattle.j39_vehicle.specs.declared.vehicle.bus_plan.BusPlan.{BusPlan}
use Rattle.j39_vehicle.specs.declared.vehicle.gateway.Gateway.{Gateway}
use Rattle.j39_vehicle.specs.declared.vehicle.places.GroupAt.{GroupAt}
use Rattle.j39_vehicle.specs.declared.vehicle.places.UnitAt.{UnitAt}

unfoldable pub bus_label : Vehicle → ℕ → List ℕ
bus_label v b = option_map_or (λ (bus : BusPlan). bus.label.bytes) (slice_get v.buses.items b) []

unfoldable pub gateway_label : Vehicle → ℕ → List ℕ
gateway_label v k = option_map_or (λ (gateway : Gateway). gateway.label.bytes) (slice_get v.gateways.items k) []

unfoldable pub group_label_at : Vehicle → GroupAt → List ℕ
group_label_at v g = option_map_or (λ (bus : BusPlan). group_label bus.plan g.group) (slice_get v.buses.items g.bus) []

unfoldable pub signal_label_at : Vehicle → GroupAt → ℕ → List ℕ
signal_label_at v g s = option_map_or (λ (bus : BusPlan). signal_label bus.plan g.group s) (slice_get v.buses.items g.bus) []

unfoldable pub unit_label_at : Vehicle → UnitAt → List ℕ
unit_label_at v u = option_map_or (λ (bus : BusPlan). unit_label bus.plan u.unit) (slice_get v.buses.items u.bus) []

-- a word, and what stands on a bus, as `BUS.LABEL`
unfoldable pub name_on_bus_text : List ℕ → Vehicle → ℕ → List ℕ → List ℕ
name_on_bus_text word v b label = word ++ (bus_label v b ++ (codes "." ++ label))

unfoldable pub group_text_at : List ℕ → Vehicle → GroupAt → List ℕ
group_text_at word v g = name_on_bus_text word v g.bus (group_label_at v g)

unfoldable pub unit_text_at : List ℕ → Vehicle → UnitAt → List ℕ
unit_text_at word v u = name_on_bus_text word v u.bus (unit_label_at v u)
