-- The tables of the signals of a forward.
use Rattle.std.specs.Prelude.{◌≡◌, ℕ, List, [], ◌∷◌, ◌++◌, true, unwrap_or, Some, string_bytes}
use Rattle.std.specs.Option.{option_or, option_map_or}
use Rattle.toml.specs.Data.{Data, Members, as_table}
use Rattle.j39_toml.specs.InOrder.{inside}
use Rattle.j39_vehicle.specs.Words.{word_of}
use Rattle.j39_vehicle.specs.declared.reading.key.Key.TheVariants as key
use Rattle.j39_vehicle.specs.declared.reading.place.Table.TheVariants as at
use Rattle.j39_vehicle.specs.VehicleErrors.{VehicleFault}
use Rattle.j39_vehicle.specs.declared.reading.text_kind.TextKind.TheVariants as texts
use Rattle.j39_vehicle.specs.declared.file.signal_table.SignalTable.{SignalTable}
use Rattle.j39_vehicle.specs.Schema.{VehicleRule, needed, optional, text_as, text_at, truth_at}
use Rattle.j39_toml.specs.Rules.{truth}
use Rattle.j39_toml.specs.TableFaults.{table_faults, table_only_faults}
use Rattle.j39_vehicle.specs.LabelsSeen.{Named, labelled, repeated_faults}

-- the signal that is heard, that into which its values go, and whether each value has to arrive as it is
abbrev pub signal_rules : List VehicleRule
signal_rules = needed key.Label (text_as texts.Any) ∷ optional key.As (text_as texts.Any) ∷ optional key.Exact truth ∷ []

-- without the key its values go into the signal of the same label
abbrev pub written_text : Members → List ℕ
written_text ms = unwrap_or (option_or (text_at key.As ms) (text_at key.Label ms)) []

abbrev pub forwarded_name : Data → Named
forwarded_name d = labelled (written_text (inside d))

-- what a signal that was read has
abbrev pub named_signal : SignalTable → Named
named_signal s = labelled (string_bytes s.written)

-- the signal that a table reports
pub record DescribesSignal (ms : Members) (s : SignalTable) : Type 0 where
  pub has_read : text_at key.Label ms ≡ Some (string_bytes s.read)
  pub has_written : written_text ms ≡ string_bytes s.written
  pub has_exact : s.exact ≡ unwrap_or (truth_at key.Exact ms) true

abbrev pub IsSignalOf : Data → SignalTable → Type 0
IsSignalOf d s = DescribesSignal (inside d) s

unfoldable pub signal_table_faults : ℕ → ℕ → List Named → Members → List VehicleFault
signal_table_faults f i seen ms =
    table_faults word_of (at.Signal f i) signal_rules ms ++ repeated_faults (at.Signal f i) key.As seen (written_text ms)

-- the faults of the i-th signal of the f-th forward, behind those seen
unfoldable pub signal_faults : ℕ → ℕ → List Named → Data → List VehicleFault
signal_faults f i seen d = table_only_faults (at.Signal f i) d ++ option_map_or (signal_table_faults f i seen) (as_table d) []
