-- The tables of forwards.
use Rattle.std.specs.Prelude.{◌≡◌, ℕ, List, [], ◌∷◌, ◌++◌, Bool, true, false, ◌&&◌, if◌then◌else◌, codes}
use Rattle.std.specs.Prelude.{Option, Some, None, option_map, option_and_then, position, unwrap_or, string_bytes}
use Rattle.std.specs.List.{list_any, slice_get}
use Rattle.std.specs.Str.{bytes_eq}
use Rattle.std.specs.Option.{option_map_or}
use Rattle.toml.specs.Data.{Data, Items, no_items, Members, as_table}
use Rattle.j39_network.specs.PlanLimits.{signal_limit}
use Rattle.j39_toml.specs.InOrder.{inside, Each, each_faults}
use Rattle.j39_vehicle.specs.Words.{word_of}
use Rattle.j39_vehicle.specs.declared.reading.key.Key.TheVariants as key
use Rattle.j39_vehicle.specs.declared.reading.place.Table.{Table}
use Rattle.j39_vehicle.specs.declared.reading.place.Table.TheVariants as at
use Rattle.j39_vehicle.specs.VehicleErrors.{VehicleFault}
use Rattle.j39_vehicle.specs.declared.reading.text_kind.TextKind.TheVariants as texts
use Rattle.j39_vehicle.specs.declared.vehicle.forward.Mode.{Mode}
use Rattle.j39_vehicle.specs.declared.vehicle.forward.Mode.TheVariants.{Direct, Periodic}
use Rattle.j39_vehicle.specs.declared.file.forward_table.ForwardTable.{ForwardTable}
use Rattle.j39_vehicle.specs.declared.file.signal_table.SignalTable.{SignalTable}
use Rattle.j39_vehicle.specs.TextKinds.{name_of}
use Rattle.j39_vehicle.specs.Schema.{VehicleRule, needed, optional, text_as, text_at, number_under, array_at, elements_at}
use Rattle.j39_toml.specs.Rules.{natural_in, array_up_to}
use Rattle.j39_toml.specs.TableFaults.{table_faults, table_only_faults}
use Rattle.j39_vehicle.specs.LabelsSeen.{label_faults, Named, is_label_among}
use Rattle.j39_vehicle.specs.SignalTables.{IsSignalOf, forwarded_name, signal_faults}

-- what is sent, by whom to whom, when, and which signals of it are written
abbrev pub sent_rules : List VehicleRule
sent_rules =
    needed key.As (text_as texts.OnBus)
    ∷ optional key.By (text_as texts.Any)
    ∷ optional key.To (text_as texts.Any)
    ∷ optional key.Mode (text_as texts.ModeWord)
    ∷ optional key.Within (natural_in 1 65535)
    ∷ optional key.Signal (array_up_to signal_limit)
    ∷ []

-- the gateway, what it hears, from whom and by which of its units, and then what it sends
abbrev pub forward_rules : List VehicleRule
forward_rules =
    needed key.Gateway (text_as texts.Any)
    ∷ needed key.Group (text_as texts.OnBus)
    ∷ optional key.From (text_as texts.Any)
    ∷ optional key.At (text_as texts.Any)
    ∷ sent_rules

-- ---- labels of the same file

-- the place of the first gateway of this label
abbrev pub gateway_place : List Named → List ℕ → Option ℕ
gateway_place gateways label = position (λ g. bytes_eq g.label label) gateways

-- the units of the gateway of this label: none where there is none
abbrev pub units_of_named : List Named → Option (List ℕ) → List (List ℕ)
units_of_named gateways label =
    option_map_or (λ g. g.units) (option_and_then (slice_get gateways) (option_and_then (gateway_place gateways) label)) []

-- one of the units is on this bus, and is called so there
abbrev pub has_unit_on : List (List ℕ) → List ℕ → Bool
has_unit_on units bus = list_any (λ u. bytes_eq (name_of u).bus bus) units

abbrev pub has_unit : List (List ℕ) → List ℕ → List ℕ → Bool
has_unit units bus label = list_any (λ u. bytes_eq (name_of u).bus bus && bytes_eq (name_of u).label label) units

-- the group is on a bus of the gateway with these units
abbrev pub is_group_on : List (List ℕ) → Option (List ℕ) → Bool
is_group_on units group = option_map_or (λ t. has_unit_on units (name_of t).bus) group false

-- the unit, where one is named, is one of these on the bus of the group
abbrev pub is_unit_beside : List (List ℕ) → Option (List ℕ) → Option (List ℕ) → Bool
is_unit_beside units group unit =
    option_map_or (λ label. option_map_or (λ t. has_unit units (name_of t).bus label) group false) unit true

-- a gateway that isn't there, groups on buses where it has no unit, and units that it doesn't have there
unfoldable pub known_faults : Table → List Named → (gateway heard at_unit sent by_unit : Option (List ℕ)) → List VehicleFault
known_faults at gateways gateway heard at_unit sent by_unit = let units = units_of_named gateways gateway in
    label_faults at key.Gateway (option_map_or (is_label_among gateways) gateway false)
    ++ (label_faults at key.Group (is_group_on units heard)
    ++ (label_faults at key.At (is_unit_beside units heard at_unit)
    ++ (label_faults at key.As (is_group_on units sent)
    ++ label_faults at key.By (is_unit_beside units sent by_unit))))

abbrev pub forward_label_faults : List Named → ℕ → Members → List VehicleFault
forward_label_faults gateways i ms = known_faults (at.Forward i) gateways
    (text_at key.Gateway ms) (text_at key.Group ms) (text_at key.At ms) (text_at key.As ms) (text_at key.By ms)

-- ---- the table

abbrev pub mode_of : Option (List ℕ) → Mode
mode_of None = Direct
mode_of (Some word) = if bytes_eq word (codes "periodic") then Periodic else Direct

-- the signals of a forward: those of the array, or none without one
abbrev pub DescribesSignals : Option Items → Option (List SignalTable) → Type 0
DescribesSignals None None = Unit {0}
DescribesSignals (Some ds) (Some signals) = Each IsSignalOf ds signals
DescribesSignals _ _ = ⊥

-- the elements of an array, and none without one
abbrev pub items_or_none : Option Items → Items
items_or_none found = unwrap_or found no_items

-- the forward that a table reports
pub record DescribesForward (ms : Members) (f : ForwardTable) : Type 0 where
  pub has_gateway : text_at key.Gateway ms ≡ Some (string_bytes f.gateway)
  pub has_input : text_at key.Group ms ≡ Some (string_bytes f.input.text)
  pub has_from : text_at key.From ms ≡ option_map string_bytes f.from
  pub has_at : text_at key.At ms ≡ option_map string_bytes f.at
  pub has_output : text_at key.As ms ≡ Some (string_bytes f.output.text)
  pub has_by : text_at key.By ms ≡ option_map string_bytes f.by
  pub has_to : text_at key.To ms ≡ option_map string_bytes f.to
  pub has_mode : f.mode ≡ mode_of (text_at key.Mode ms)
  pub has_within : f.within ≡ number_under key.Within ms
  pub has_signals : DescribesSignals (array_at key.Signal ms) (option_map (λ v. v.items) f.signals)

abbrev pub IsForwardOf : Data → ForwardTable → Type 0
IsForwardOf d f = DescribesForward (inside d) f

abbrev pub forward_keys_faults : ℕ → Members → List VehicleFault
forward_keys_faults i ms = table_faults word_of (at.Forward i) forward_rules ms

abbrev pub forward_signals_faults : ℕ → Members → List VehicleFault
forward_signals_faults i ms = each_faults (signal_faults i) forwarded_name 0 [] (elements_at key.Signal ms)

-- the keys, the signals, and then the labels
unfoldable pub forward_table_faults : List Named → ℕ → Members → List VehicleFault
forward_table_faults gateways i ms =
    forward_keys_faults i ms ++ (forward_signals_faults i ms ++ forward_label_faults gateways i ms)

-- the faults of the i-th forward, by the gateways
unfoldable pub forward_faults : List Named → ℕ → Data → List VehicleFault
forward_faults gateways i d =
    table_only_faults (at.Forward i) d ++ option_map_or (forward_table_faults gateways i) (as_table d) []
