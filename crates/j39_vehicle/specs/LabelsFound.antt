-- What the names of a vehicle file stand for in the plans of its buses.
use Rattle.std.specs.Prelude.{ℕ, List, [], Bool, true, not, ◌&&◌, if◌then◌else◌, codes, Option, Some, is_some, option_map, option_and_then, position, String}
use Rattle.std.specs.Prelude.{string_bytes}
use Rattle.std.specs.declared.alloc.Global.{Global}
use Rattle.std.specs.List.{slice_get}
use Rattle.std.specs.Option.{option_or, option_map_or}
use Rattle.std.specs.Str.{bytes_eq}
use Rattle.j39_signal.specs.declared.signal_parts.SignalParts.{SignalParts}
use Rattle.j39_network.specs.declared.plan.to.To.{To}
use Rattle.j39_network.specs.declared.plan.to.To.TheVariants.{All, One}
use Rattle.j39_network.specs.declared.plan.unit_plan.UnitPlan.{UnitPlan}
use Rattle.j39_network.specs.declared.plan.group_plan.GroupPlan.{GroupPlan}
use Rattle.j39_vehicle.specs.declared.file.name_on_bus.NameOnBus.{NameOnBus}
use Rattle.j39_vehicle.specs.declared.file.gateway_table.GatewayTable.{GatewayTable}
use Rattle.j39_vehicle.specs.declared.vehicle.bus_plan.BusPlan.{BusPlan}
use Rattle.j39_vehicle.specs.declared.vehicle.places.UnitAt.{UnitAt}
use Rattle.j39_vehicle.specs.declared.vehicle.places.GroupAt.{GroupAt}
use Rattle.j39_vehicle.specs.TextKinds.{name_of}

-- the bus of a label, by its place
abbrev pub bus_place : List BusPlan → List ℕ → Option ℕ
bus_place buses label = position (λ b. bytes_eq b.label.bytes label) buses

-- the units and the groups of the bus at a place: none where there is no bus
abbrev pub units_on : List BusPlan → ℕ → List UnitPlan
units_on buses b = option_map_or (λ bus. bus.plan.units.items) (slice_get buses b) []

abbrev pub groups_of_bus : List BusPlan → ℕ → List GroupPlan
groups_of_bus buses b = option_map_or (λ bus. bus.plan.groups.items) (slice_get buses b) []

-- those of a label, by their places
abbrev pub unit_place : List BusPlan → ℕ → List ℕ → Option ℕ
unit_place buses b label = position (λ u. bytes_eq u.label.bytes label) (units_on buses b)

abbrev pub group_place : List BusPlan → ℕ → List ℕ → Option ℕ
group_place buses b label = position (λ g. bytes_eq g.label.bytes label) (groups_of_bus buses b)

-- the unit and the group that a name on a bus stands for
abbrev pub unit_labelled : List BusPlan → List ℕ → Option UnitAt
unit_labelled buses t = option_and_then
    (λ b. option_map (λ u. record { bus = b; unit = u }) (unit_place buses b (name_of t).label)) (bus_place buses (name_of t).bus)

abbrev pub group_named : List BusPlan → List ℕ → Option GroupAt
group_named buses t = option_and_then
    (λ b. option_map (λ g. record { bus = b; group = g }) (group_place buses b (name_of t).label)) (bus_place buses (name_of t).bus)

-- the signals of a group: none where there is no group
abbrev pub signals_in_group : List BusPlan → GroupAt → List SignalParts
signals_in_group buses g = option_map_or (λ group. group.signals.items) (slice_get (groups_of_bus buses g.bus) g.group) []

-- the signal of a label that isn't repeated
abbrev pub signal_place : List BusPlan → GroupAt → List ℕ → Option ℕ
signal_place buses g label = position (λ s. bytes_eq s.label.bytes label && not s.repeated) (signals_in_group buses g)

-- whom a word names on a bus
abbrev pub receivers_on : List BusPlan → ℕ → List ℕ → Option To
receivers_on buses b word = if bytes_eq word (codes "all") then Some All else option_map One (unit_place buses b word)

-- the place of the gateway of a label, and its units: none where there is no such gateway
abbrev pub gateway_labelled : List GatewayTable → List ℕ → Option ℕ
gateway_labelled gateways label = position (λ g. bytes_eq g.label.bytes label) gateways

abbrev pub units_by : List GatewayTable → List ℕ → List NameOnBus
units_by gateways label =
    option_map_or (λ g. g.units.items) (option_and_then (slice_get gateways) (gateway_labelled gateways label)) []

-- the first of a gateway's units on a bus
abbrev pub first_on : List NameOnBus → List ℕ → Option NameOnBus
first_on units bus =
    option_and_then (slice_get units) (position (λ n. bytes_eq (name_of (string_bytes n.text)).bus bus) units)

-- the label of a gateway's unit on a bus: the one that is given, or that of its first unit there
abbrev pub own_label : List NameOnBus → List ℕ → Option (List ℕ) → Option (List ℕ)
own_label units bus given = option_or given (option_map (λ n. (name_of (string_bytes n.text)).label) (first_on units bus))

-- this unit, beside a group on the bus at a place
abbrev pub own_unit : List BusPlan → List NameOnBus → NameOnBus → ℕ → Option (String Global) → Option ℕ
own_unit buses units group b given =
    option_and_then (unit_place buses b) (own_label units (name_of (string_bytes group.text)).bus (option_map string_bytes given))

-- what is given is found
abbrev pub is_given_found : {X : Type 0} → (List ℕ → Option X) → Option (List ℕ) → Bool
is_given_found place given = option_map_or (λ t. is_some (place t)) given true
