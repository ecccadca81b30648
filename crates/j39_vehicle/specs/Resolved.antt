-- The vehicle that a file and the plans of its buses describe, and the labels of the file that name nothing in these.
use Rattle.std.specs.Prelude.{◌≡◌, ℕ, suc, List, [], ◌∷◌, ◌++◌, ◌⊎◌, Option, Some, None, is_some}
use Rattle.std.specs.Prelude.{option_map, option_and_then, string_bytes}
use Rattle.std.specs.List.{AllZip}
use Rattle.j39_toml.specs.declared.cause.Cause.TheVariants.{UnknownLabel}
use Rattle.j39_vehicle.specs.declared.reading.key.Key.{Key}
use Rattle.j39_vehicle.specs.declared.reading.key.Key.TheVariants as key
use Rattle.j39_vehicle.specs.declared.reading.place.Table.{Table}
use Rattle.j39_vehicle.specs.declared.reading.place.Table.TheVariants as at
use Rattle.j39_vehicle.specs.VehicleErrors.{VehicleFault}
use Rattle.j39_vehicle.specs.declared.file.VehicleFile.{VehicleFile}
use Rattle.j39_vehicle.specs.declared.file.name_on_bus.NameOnBus.{NameOnBus}
use Rattle.j39_vehicle.specs.declared.file.gateway_table.GatewayTable.{GatewayTable}
use Rattle.j39_vehicle.specs.declared.file.signal_table.SignalTable.{SignalTable}
use Rattle.j39_vehicle.specs.declared.file.forward_table.ForwardTable.{ForwardTable}
use Rattle.j39_vehicle.specs.declared.file.need_table.NeedTable.{NeedTable}
use Rattle.j39_vehicle.specs.declared.vehicle.Vehicle.{Vehicle}
use Rattle.j39_vehicle.specs.declared.vehicle.bus_plan.BusPlan.{BusPlan}
use Rattle.j39_vehicle.specs.declared.vehicle.places.UnitAt.{UnitAt}
use Rattle.j39_vehicle.specs.declared.vehicle.places.GroupAt.{GroupAt}
use Rattle.j39_vehicle.specs.declared.vehicle.gateway.Gateway.{Gateway}
use Rattle.j39_vehicle.specs.declared.vehicle.forward.Forward.{Forward}
use Rattle.j39_vehicle.specs.declared.vehicle.forward.ForwardedSignal.{ForwardedSignal}
use Rattle.j39_vehicle.specs.declared.vehicle.vehicle_need.VehicleNeed.{VehicleNeed}
use Rattle.j39_toml.specs.TableFaults.{fault}
use Rattle.j39_vehicle.specs.LabelsSeen.{label_faults}
use Rattle.j39_vehicle.specs.LabelsFound.{unit_labelled, unit_place, group_named, group_place, signal_place, receivers_on, gateway_labelled, units_by, own_unit}
use Rattle.j39_vehicle.specs.LabelsFound.{is_given_found}

-- the faults of all tables of a kind from the i-th on
unfoldable pub each_found : {S : Type 0} → (ℕ → S → List VehicleFault) → ℕ → List S → List VehicleFault
each_found faults i [] = []
each_found faults i (x ∷ xs) = faults i x ++ each_found faults (suc i) xs

-- ---- gateways

-- the faults of a unit of the i-th gateway
unfoldable pub unit_found : List BusPlan → ℕ → ℕ → NameOnBus → List VehicleFault
unit_found buses i j n = label_faults (at.Gateway i) key.Unit (is_some (unit_labelled buses (string_bytes n.text)))

unfoldable pub gateway_found : List BusPlan → ℕ → GatewayTable → List VehicleFault
gateway_found buses i g = each_found (unit_found buses i) 0 g.units.items

-- the unit that a name stands for
abbrev pub StandsForName : List BusPlan → NameOnBus → UnitAt → Type 0
StandsForName buses n u = unit_labelled buses (string_bytes n.text) ≡ Some u

pub record StandsForGateway (buses : List BusPlan) (g : GatewayTable) (h : Gateway) : Type 0 where
  pub label : h.label ≡ g.label
  pub units : AllZip (StandsForName buses) g.units.items h.units.items

-- ---- forwards

-- what has to be found first, and what is looked for behind it
abbrev pub behind_faults : {X : Type 0} → Table → Key → Option X → (X → List VehicleFault) → List VehicleFault
behind_faults at key None rest = fault UnknownLabel at (Some key) ∷ []
behind_faults at key (Some x) rest = rest x

-- the faults of the i-th signal of the f-th forward, by the groups that are heard and sent
unfoldable pub signal_found : List BusPlan → ℕ → GroupAt → GroupAt → ℕ → SignalTable → List VehicleFault
signal_found buses f heard sent i s =
    behind_faults (at.Signal f i) key.Label (signal_place buses heard (string_bytes s.read)) (λ read.
    behind_faults (at.Signal f i) key.As (signal_place buses sent (string_bytes s.written)) (λ written. []))

unfoldable pub signals_found : List BusPlan → ℕ → Option GroupAt → Option GroupAt → Option (List SignalTable) → List VehicleFault
signals_found buses i (Some heard) (Some sent) (Some signals) = each_found (signal_found buses i heard sent) 0 signals
signals_found buses i _ _ _ = []

-- the group that is heard, the unit that has to send it, and the gateway's that hears it
unfoldable pub heard_found : List BusPlan → List NameOnBus → ℕ → ForwardTable → List VehicleFault
heard_found buses units i f = behind_faults (at.Forward i) key.Group (group_named buses (string_bytes f.input.text)) (λ heard.
    label_faults (at.Forward i) key.From (is_given_found (unit_place buses heard.bus) (option_map string_bytes f.from))
    ++ label_faults (at.Forward i) key.At (is_some (own_unit buses units f.input heard.bus f.at)))

-- the group that is sent, the gateway's unit that sends it, and whom it sends it to
unfoldable pub sent_found : List BusPlan → List NameOnBus → ℕ → ForwardTable → List VehicleFault
sent_found buses units i f = behind_faults (at.Forward i) key.As (group_named buses (string_bytes f.output.text)) (λ sent.
    label_faults (at.Forward i) key.By (is_some (own_unit buses units f.output sent.bus f.by))
    ++ label_faults (at.Forward i) key.To (is_given_found (receivers_on buses sent.bus) (option_map string_bytes f.to)))

-- the gateway, both groups with the units beside them, and then the signals
unfoldable pub forward_found : List BusPlan → List GatewayTable → ℕ → ForwardTable → List VehicleFault
forward_found buses gateways i f =
    label_faults (at.Forward i) key.Gateway (is_some (gateway_labelled gateways (string_bytes f.gateway)))
    ++ (heard_found buses (units_by gateways (string_bytes f.gateway)) i f
    ++ (sent_found buses (units_by gateways (string_bytes f.gateway)) i f
    ++ signals_found buses i (group_named buses (string_bytes f.input.text)) (group_named buses (string_bytes f.output.text))
    (option_map (λ v. v.items) f.signals)))

pub record StandsForSignal (buses : List BusPlan) (heard sent : GroupAt) (s : SignalTable) (t : ForwardedSignal) : Type 0 where
  pub read : signal_place buses heard (string_bytes s.read) ≡ Some t.read
  pub written : signal_place buses sent (string_bytes s.written) ≡ Some t.written
  pub exact : t.exact ≡ s.exact

-- the signals that are listed, or none where there is no list
abbrev pub StandForSignals : List BusPlan → GroupAt → GroupAt → Option (List SignalTable) → Option (List ForwardedSignal) → Type 0
StandForSignals buses heard sent None None = Unit {0}
StandForSignals buses heard sent (Some signals) (Some found) = AllZip (StandsForSignal buses heard sent) signals found
StandForSignals buses heard sent _ _ = ⊥

pub record StandsForForward (buses : List BusPlan) (gateways : List GatewayTable) (f : ForwardTable) (r : Forward) : Type 0 where
  pub gateway : gateway_labelled gateways (string_bytes f.gateway) ≡ Some r.gateway
  pub input : group_named buses (string_bytes f.input.text) ≡ Some r.input
  pub from : r.from ≡ option_and_then (unit_place buses r.input.bus) (option_map string_bytes f.from)
  pub hearer : own_unit buses (units_by gateways (string_bytes f.gateway)) f.input r.input.bus f.at ≡ Some r.hearer
  pub output : group_named buses (string_bytes f.output.text) ≡ Some r.output
  pub sender : own_unit buses (units_by gateways (string_bytes f.gateway)) f.output r.output.bus f.by ≡ Some r.sender
  pub to : r.to ≡ option_and_then (receivers_on buses r.output.bus) (option_map string_bytes f.to)
  pub mode : r.mode ≡ f.mode
  pub within : r.within ≡ f.within
  pub signals : StandForSignals buses r.input r.output (option_map (λ v. v.items) f.signals) (option_map (λ v. v.items) r.signals)

-- ---- needs

-- the group of a need, on the bus of its unit
abbrev pub group_beside : ℕ → ℕ → GroupAt
group_beside b g = record { bus = b; group = g }

unfoldable pub need_found : List BusPlan → ℕ → NeedTable → List VehicleFault
need_found buses i d =
    behind_faults (at.Need i) key.Unit (unit_labelled buses (string_bytes d.unit.text)) (λ unit.
    behind_faults (at.Need i) key.Group (group_place buses unit.bus (string_bytes d.group)) (λ group.
    label_faults (at.Need i) key.Signal (is_given_found (signal_place buses (group_beside unit.bus group)) (option_map string_bytes d.signal))
    ++ label_faults (at.Need i) key.From (is_some (unit_labelled buses (string_bytes d.from.text)))))

pub record StandsForNeed (buses : List BusPlan) (d : NeedTable) (r : VehicleNeed) : Type 0 where
  pub unit : unit_labelled buses (string_bytes d.unit.text) ≡ Some r.unit
  pub group : group_place buses r.unit.bus (string_bytes d.group) ≡ Some r.group
  pub signal : r.signal ≡ option_and_then (signal_place buses (group_beside r.unit.bus r.group)) (option_map string_bytes d.signal)
  pub from : unit_labelled buses (string_bytes d.from.text) ≡ Some r.from
  pub within : r.within ≡ d.within

-- ---- the vehicle

-- labels that name nothing: those of the gateways, the forwards and the needs, each in order
abbrev pub found_faults : List BusPlan → VehicleFile → List VehicleFault
found_faults buses file = each_found (gateway_found buses) 0 file.gateways.items
    ++ (each_found (forward_found buses file.gateways.items) 0 file.forwards.items
    ++ each_found (need_found buses) 0 file.needs.items)

-- the vehicle has these buses, and its gateways, forwards and needs are those of the file
pub record StandsForFile (buses : List BusPlan) (file : VehicleFile) (v : Vehicle) : Type 0 where
  pub has_buses : v.buses.items ≡ buses
  pub has_gateways : AllZip (StandsForGateway buses) file.gateways.items v.gateways.items
  pub has_forwards : AllZip (StandsForForward buses file.gateways.items) file.forwards.items v.forwards.items
  pub has_needs : AllZip (StandsForNeed buses) file.needs.items v.needs.items

-- ---- where room is asked for: behind a table without a fault, or in one

abbrev pub FoundGrows : {S : Type 0} → (ℕ → S → List VehicleFault) → (ℕ → S → Type 0) → List S → Type 0
FoundGrows faults Grows [] = ⊥
FoundGrows faults Grows (x ∷ xs) = Grows 0 x ⊎ (faults 0 x ≡ [])

abbrev pub NeverFoundGrows : {S : Type 0} → ℕ → S → Type 0
NeverFoundGrows i x = ⊥

-- among the units of a gateway
abbrev pub GatewayFoundGrows : List BusPlan → ℕ → GatewayTable → Type 0
GatewayFoundGrows buses i g = FoundGrows (unit_found buses i) NeverFoundGrows g.units.items

-- among the signals that are listed
abbrev pub ListGrows : List BusPlan → ℕ → GroupAt → GroupAt → Option (List SignalTable) → Type 0
ListGrows buses i heard sent None = ⊥
ListGrows buses i heard sent (Some signals) = FoundGrows (signal_found buses i heard sent) NeverFoundGrows signals

-- in a forward whose groups are found, among its signals
abbrev pub GroupsGrow : List BusPlan → ℕ → Option GroupAt → Option GroupAt → Option (List SignalTable) → Type 0
GroupsGrow buses i (Some heard) (Some sent) signals = ListGrows buses i heard sent signals
GroupsGrow buses i _ _ signals = ⊥

abbrev pub ForwardFoundGrows : List BusPlan → ℕ → ForwardTable → Type 0
ForwardFoundGrows buses i f = GroupsGrow buses i (group_named buses (string_bytes f.input.text))
    (group_named buses (string_bytes f.output.text)) (option_map (λ v. v.items) f.signals)

-- among the gateways, behind these among the forwards, or behind these among the needs
abbrev pub VehicleGrows : List BusPlan → VehicleFile → Type 0
VehicleGrows buses file = FoundGrows (gateway_found buses) (GatewayFoundGrows buses) file.gateways.items
    ⊎ ((each_found (gateway_found buses) 0 file.gateways.items ≡ [])
    × (FoundGrows (forward_found buses file.gateways.items) (ForwardFoundGrows buses) file.forwards.items
    ⊎ ((each_found (forward_found buses file.gateways.items) 0 file.forwards.items ≡ [])
    × FoundGrows (need_found buses) NeverFoundGrows file.needs.items)))
