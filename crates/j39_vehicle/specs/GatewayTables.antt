-- The tables of gateways.
use Rattle.std.specs.Prelude.{◌≡◌, ℕ, List, [], ◌∷◌, ◌++◌, map, Bool, if◌then◌else◌, Option, Some, None, unwrap_or, string_bytes}
use Rattle.std.specs.List.{list_any, list_all}
use Rattle.std.specs.Str.{bytes_eq}
use Rattle.std.specs.Option.{option_or, option_map_or}
use Rattle.toml.specs.Data.{Data, string, Items, no_items, item, Members, as_table, as_str}
use Rattle.j39_toml.specs.declared.cause.Cause.{Cause}
use Rattle.j39_toml.specs.declared.cause.Cause.TheVariants.{WrongType, Range, Repeated}
use Rattle.j39_toml.specs.InOrder.{inside}
use Rattle.j39_vehicle.specs.Words.{word_of}
use Rattle.j39_vehicle.specs.declared.reading.key.Key.TheVariants as key
use Rattle.j39_vehicle.specs.declared.reading.place.Table.TheVariants as at
use Rattle.j39_vehicle.specs.VehicleErrors.{VehicleFault}
use Rattle.j39_vehicle.specs.declared.file.gateway_table.GatewayTable.{GatewayTable}
use Rattle.j39_vehicle.specs.TextKinds.{name_of, is_name}
use Rattle.j39_vehicle.specs.VehicleLimits.{gateway_unit_limit}
use Rattle.j39_vehicle.specs.Schema.{VehicleRule, needed, text_at, elements_at}
use Rattle.j39_toml.specs.Rules.{array_up_to}
use Rattle.j39_toml.specs.TableFaults.{fault, table_faults, table_only_faults}
use Rattle.j39_vehicle.specs.LabelsSeen.{label_faults, Named, is_label_among, repeated_faults}
use Rattle.j39_vehicle.specs.BusTables.{label_rule, label_in}

abbrev pub units_rule : VehicleRule
units_rule = needed key.Unit (array_up_to gateway_unit_limit)

abbrev pub gateway_rules : List VehicleRule
gateway_rules = label_rule ∷ units_rule ∷ []

-- ---- its units

abbrev pub is_text_among : List (List ℕ) → List ℕ → Bool
is_text_among seen t = list_any (λ s. bytes_eq s t) seen

-- the text that an element is
abbrev pub text_in : Data → List ℕ
text_in d = unwrap_or (as_str d) []

abbrev pub texts_in : Items → List (List ℕ)
texts_in no_items = []
texts_in (item d ds) = text_in d ∷ texts_in ds

-- the cause for which an element is refused that stands behind these: it is to be a name on a bus, and none of these
abbrev pub unit_cause : List (List ℕ) → Data → Option Cause
unit_cause seen (string t) =
    if is_name t then (if is_text_among seen t then Some Repeated else None) else Some Range
unit_cause seen _ = Some WrongType

-- the first cause for which one of the elements is refused
abbrev pub units_cause : List (List ℕ) → Items → Option Cause
units_cause seen no_items = None
units_cause seen (item d ds) = option_or (unit_cause seen d) (units_cause (seen ++ text_in d ∷ []) ds)

-- the units of all of these gateways
abbrev pub all_units : List Named → List (List ℕ)
all_units [] = []
all_units (n ∷ ns) = n.units ++ all_units ns

-- each is on one of these buses
abbrev pub are_on : List Named → List (List ℕ) → Bool
are_on buses units = list_all (λ t. is_label_among buses (name_of t).bus) units

-- ---- the table

abbrev pub gateway_name : Data → Named
gateway_name d = record { label = label_in d; units = texts_in (elements_at key.Unit (inside d)) }

-- what a gateway that was read has
abbrev pub named_gateway : GatewayTable → Named
named_gateway g = record { label = g.label.bytes; units = map (λ n. string_bytes n.text) g.units.items }

-- the gateway that a table reports
pub record DescribesGateway (ms : Members) (g : GatewayTable) : Type 0 where
  pub has_label : text_at key.Label ms ≡ Some g.label.bytes
  pub has_units : map (λ n. string_bytes n.text) g.units.items ≡ texts_in (elements_at key.Unit ms)

abbrev pub IsGatewayOf : Data → GatewayTable → Type 0
IsGatewayOf d g = DescribesGateway (inside d) g

-- a unit that can't stand there
abbrev pub units_faults : ℕ → List Named → Items → List VehicleFault
units_faults i seen ds = option_map_or (λ cause. fault cause (at.Gateway i) (Some key.Unit) ∷ []) (units_cause (all_units seen) ds) []

-- the faults of its keys
abbrev pub gateway_keys_faults : ℕ → List Named → Members → List VehicleFault
gateway_keys_faults i seen ms = table_faults word_of (at.Gateway i) gateway_rules ms ++ units_faults i seen (elements_at key.Unit ms)

-- behind the faults of the keys, units on no bus of the vehicle
unfoldable pub gateway_table_faults : List Named → ℕ → List Named → Members → List VehicleFault
gateway_table_faults buses i seen ms = gateway_keys_faults i seen ms
    ++ (repeated_faults (at.Gateway i) key.Label seen (unwrap_or (text_at key.Label ms) [])
    ++ label_faults (at.Gateway i) key.Unit (are_on buses (texts_in (elements_at key.Unit ms))))

-- the faults of the i-th gateway, behind those seen
unfoldable pub gateway_faults : List Named → ℕ → List Named → Data → List VehicleFault
gateway_faults buses i seen d =
    table_only_faults (at.Gateway i) d ++ option_map_or (gateway_table_faults buses i seen) (as_table d) []
