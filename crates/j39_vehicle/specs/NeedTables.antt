-- The tables of needs across buses.
use Rattle.std.specs.Prelude.{◌≡◌, ℕ, List, [], ◌∷◌, ◌++◌, Bool, false, Some, option_map, string_bytes}
use Rattle.std.specs.Option.{option_map_or}
use Rattle.toml.specs.Data.{Data, Members, as_table}
use Rattle.j39_toml.specs.InOrder.{inside}
use Rattle.j39_vehicle.specs.Words.{word_of}
use Rattle.j39_vehicle.specs.declared.reading.key.Key.{Key}
use Rattle.j39_vehicle.specs.declared.reading.key.Key.TheVariants as key
use Rattle.j39_vehicle.specs.declared.reading.place.Table.TheVariants as at
use Rattle.j39_vehicle.specs.VehicleErrors.{VehicleFault}
use Rattle.j39_vehicle.specs.declared.reading.text_kind.TextKind.TheVariants as texts
use Rattle.j39_vehicle.specs.declared.file.need_table.NeedTable.{NeedTable}
use Rattle.j39_vehicle.specs.TextKinds.{name_of}
use Rattle.j39_vehicle.specs.Schema.{VehicleRule, needed, optional, text_as, text_at, number_under}
use Rattle.j39_toml.specs.Rules.{natural_in}
use Rattle.j39_toml.specs.TableFaults.{table_faults, table_only_faults}
use Rattle.j39_vehicle.specs.LabelsSeen.{label_faults, Named, is_label_among}

abbrev pub need_rules : List VehicleRule
need_rules =
    needed key.Unit (text_as texts.OnBus)
    ∷ needed key.Group (text_as texts.Any)
    ∷ optional key.Signal (text_as texts.Any)
    ∷ needed key.From (text_as texts.OnBus)
    ∷ optional key.Within (natural_in 1 65535)
    ∷ []

-- the unit at a key is on one of the buses
abbrev pub is_on_bus : List Named → Key → Members → Bool
is_on_bus buses unit_key ms = option_map_or (λ t. is_label_among buses (name_of t).bus) (text_at unit_key ms) false

-- the need that a table reports
pub record DescribesNeed (ms : Members) (d : NeedTable) : Type 0 where
  pub has_unit : text_at key.Unit ms ≡ Some (string_bytes d.unit.text)
  pub has_group : text_at key.Group ms ≡ Some (string_bytes d.group)
  pub has_signal : text_at key.Signal ms ≡ option_map string_bytes d.signal
  pub has_from : text_at key.From ms ≡ Some (string_bytes d.from.text)
  pub has_within : d.within ≡ number_under key.Within ms

abbrev pub IsNeedOf : Data → NeedTable → Type 0
IsNeedOf d need = DescribesNeed (inside d) need

-- behind the faults of the keys, units on no bus of the vehicle
unfoldable pub need_table_faults : List Named → ℕ → Members → List VehicleFault
need_table_faults buses i ms = table_faults word_of (at.Need i) need_rules ms
    ++ (label_faults (at.Need i) key.Unit (is_on_bus buses key.Unit ms)
    ++ label_faults (at.Need i) key.From (is_on_bus buses key.From ms))

-- the faults of the i-th need, by the buses
unfoldable pub need_faults : List Named → ℕ → Data → List VehicleFault
need_faults buses i d = table_only_faults (at.Need i) d ++ option_map_or (need_table_faults buses i) (as_table d) []
