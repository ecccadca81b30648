-- The tables of buses.
use Rattle.std.specs.Prelude.{◌≡◌, ℕ, List, [], ◌∷◌, ◌++◌, unwrap_or, Some, string_bytes}
use Rattle.std.specs.Option.{option_map_or}
use Rattle.toml.specs.Data.{Data, Members, as_table}
use Rattle.j39_toml.specs.InOrder.{inside}
use Rattle.j39_vehicle.specs.Words.{word_of}
use Rattle.j39_vehicle.specs.declared.reading.key.Key.TheVariants as key
use Rattle.j39_vehicle.specs.declared.reading.place.Table.TheVariants as at
use Rattle.j39_vehicle.specs.VehicleErrors.{VehicleFault}
use Rattle.j39_vehicle.specs.declared.reading.text_kind.TextKind.TheVariants as texts
use Rattle.j39_vehicle.specs.declared.file.bus_table.BusTable.{BusTable}
use Rattle.j39_vehicle.specs.Schema.{VehicleRule, needed, text_as, text_at}
use Rattle.j39_toml.specs.TableFaults.{table_faults, table_only_faults}
use Rattle.j39_vehicle.specs.LabelsSeen.{Named, labelled, repeated_faults}

-- the label of a bus or a gateway
abbrev pub label_rule : VehicleRule
label_rule = needed key.Label (text_as texts.Label)

-- the name of the file that has its plan
abbrev pub plan_rule : VehicleRule
plan_rule = needed key.Plan (text_as texts.FileName)

abbrev pub bus_rules : List VehicleRule
bus_rules = label_rule ∷ plan_rule ∷ []

abbrev pub label_in : Data → List ℕ
label_in d = unwrap_or (text_at key.Label (inside d)) []

abbrev pub bus_name : Data → Named
bus_name d = labelled (label_in d)

-- what a bus that was read has
abbrev pub named_bus : BusTable → Named
named_bus b = labelled b.label.bytes

-- the bus that a table reports
pub record DescribesBus (ms : Members) (b : BusTable) : Type 0 where
  pub has_label : text_at key.Label ms ≡ Some b.label.bytes
  pub has_plan : text_at key.Plan ms ≡ Some (string_bytes b.plan)

abbrev pub IsBusOf : Data → BusTable → Type 0
IsBusOf d b = DescribesBus (inside d) b

unfoldable pub bus_table_faults : ℕ → List Named → Members → List VehicleFault
bus_table_faults i seen ms =
    table_faults word_of (at.Bus i) bus_rules ms ++ repeated_faults (at.Bus i) key.Label seen (unwrap_or (text_at key.Label ms) [])

-- the faults of the i-th bus, behind those seen
unfoldable pub bus_faults : ℕ → List Named → Data → List VehicleFault
bus_faults i seen d = table_only_faults (at.Bus i) d ++ option_map_or (bus_table_faults i seen) (as_table d) []
