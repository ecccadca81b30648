-- The tables of signals. Since the third version more kinds are known, what the values are divided by, and signals that are repeated.
use Rattle.std.specs.Prelude.{◌≡◌, ℕ, ◌+◌, ◌-◌, ◌*◌, pos, negsuc, List, []}
use Rattle.std.specs.Prelude.{◌∷◌, ◌++◌, Bool, true, false, ◌&&◌, if◌then◌else◌, Some, None, IsTrue, codes}
use Rattle.std.specs.Str.{bytes_eq}
use Rattle.std.specs.Option.{option_map_or}
use Rattle.toml.specs.Data.{Data, Members, as_table}
use Rattle.j39_id.specs.Limits.{message_bytes}
use Rattle.j39_signal.specs.declared.kind.Kind.{Kind}
use Rattle.j39_signal.specs.declared.kind.Kind.TheVariants.{Measured, Discrete, Raw, States, Signed, Dtc}
use Rattle.j39_signal.specs.Parts.{IsDivisor, IsSignal}
use Rattle.j39_signal.specs.declared.signal_parts.SignalParts.{SignalParts}
use Rattle.j39_id.specs.LabelForm.{is_label}
use Rattle.j39_network.specs.declared.plan.meaning.Meaning.{Meaning}
use Rattle.j39_plan.specs.declared.reading.key.Key.TheVariants as key
use Rattle.j39_plan.specs.declared.reading.place.Table.{Table}
use Rattle.j39_plan.specs.declared.reading.place.Table.TheVariants as at
use Rattle.j39_plan.specs.PlanErrors.{PlanFault}
use Rattle.j39_plan.specs.declared.reading.text_kind.TextKind.TheVariants as texts
use Rattle.j39_plan.specs.Schema.{PlanRule, number, signed, divisor, flag_if, text}
use Rattle.j39_toml.specs.Rules.{number_of, integer_of, flag_of, text_of}
use Rattle.j39_toml.specs.TableFaults.{table_only_faults}
use Rattle.j39_plan.specs.Since.{Since, since, is_known, known, rules_of, versioned_faults}
use Rattle.j39_plan.specs.declared.reading.version.Version.{Version}
use Rattle.j39_plan.specs.declared.reading.version.Version.TheVariants.{First, Third}
use Rattle.j39_plan.specs.declared.reading.text_kind.TextKind.{TextKind}
use Rattle.j39_plan.specs.MeaningTables.{DescribesMeaning, meaning_rules, optional_of}
use Rattle.j39_toml.specs.InOrder.{inside}
use Rattle.j39_plan.specs.LabelsSeen.{label_in, label_rule, repeated_faults}

abbrev pub byte_rule : PlanRule
byte_rule = number key.Byte 1 message_bytes None

abbrev pub bit_rule : PlanRule
bit_rule = number key.Bit 1 8 (Some 1)

abbrev pub bits_rule : PlanRule
bits_rule = number key.Bits 1 64 None

-- since the third version more kinds are known
abbrev pub kinds : Version → TextKind
kinds version = if is_known Third version then texts.AnySignalKind else texts.SignalKind

abbrev pub kind_rule : Version → PlanRule
kind_rule version = text key.Kind (kinds version) None

-- a trouble code is neither scaled nor has it a unit: of it each of these is what an absent key stands for
abbrev pub step_rule : Bool → PlanRule
step_rule code = number key.Step 1 (if code then 1 else 1000000) (Some 1)

abbrev pub per_rule : Bool → PlanRule
per_rule code = divisor key.Per (if code then 1 else 10000000)

abbrev pub offset_rule : Bool → PlanRule
offset_rule code =
    signed key.Offset (if code then pos 0 else negsuc 999999999999) (if code then pos 0 else pos 1000000000000) (Some (pos 0))

abbrev pub unit_rule : Bool → PlanRule
unit_rule code = text key.Unit (if code then texts.Empty else texts.SignalUnit) (Some [])

-- by whether the group has records
abbrev pub repeated_rule : Bool → PlanRule
repeated_rule records = flag_if key.Repeated records

-- whether it is repeated: it isn't in a version that doesn't know it
abbrev pub repeated_of : Version → Members → Bool
repeated_of version ms = if is_known Third version then flag_of (repeated_rule true) ms else false

abbrev pub kind_of : List ℕ → Kind
kind_of t =
    if bytes_eq t (codes "measured") then Measured
    else if bytes_eq t (codes "discrete") then Discrete
    else if bytes_eq t (codes "states") then States
    else if bytes_eq t (codes "signed") then Signed
    else if bytes_eq t (codes "dtc") then Dtc
    else Raw

abbrev pub is_dtc : Kind → Bool
is_dtc Dtc = true
is_dtc _ = false

-- the table is that of a trouble code, which is known since the third version
unfoldable pub is_code : Version → Members → Bool
is_code version ms = is_known Third version && is_dtc (kind_of (text_of (kind_rule version) ms))

-- by whether the group has records
abbrev pub signal_rules : Version → Bool → Members → List Since
signal_rules version records ms =
    since First label_rule
    ∷ since First byte_rule
    ∷ since First bit_rule
    ∷ since First bits_rule
    ∷ since First (kind_rule version)
    ∷ since First (step_rule (is_code version ms))
    ∷ since Third (per_rule (is_code version ms))
    ∷ since First (offset_rule (is_code version ms))
    ∷ since First (unit_rule (is_code version ms))
    ∷ since Third (repeated_rule records)
    ∷ meaning_rules (repeated_of version ms) (is_code version ms) (number_of bits_rule ms)

-- ---- a law

-- before the third version a signal has these keys, with these ranges and kinds
abbrev pub SecondSignalRules : Type 0
SecondSignalRules = (version : Version) (records : Bool) (ms : Members) → is_known Third version ≡ false
    → rules_of (known version (signal_rules version records ms))
    ≡ label_rule ∷ byte_rule ∷ bit_rule ∷ bits_rule ∷ text key.Kind texts.SignalKind None ∷ number key.Step 1 1000000 (Some 1)
    ∷ signed key.Offset (negsuc 999999999999) (pos 1000000000000) (Some (pos 0)) ∷ text key.Unit texts.SignalUnit (Some []) ∷ []

-- and in the third those of its place and its scale alone
abbrev pub ThirdSignalRules : Type 0
ThirdSignalRules = (records : Bool) (ms : Members) → let code = is_code Third ms in
    rules_of (known Third (signal_rules Third records ms))
    ≡ label_rule ∷ byte_rule ∷ bit_rule ∷ bits_rule ∷ kind_rule Third ∷ step_rule code ∷ per_rule code ∷ offset_rule code ∷ unit_rule code
    ∷ repeated_rule records ∷ []

pub record OlderSignalRules : Type 0 where
  pub second : SecondSignalRules
  pub third : ThirdSignalRules

-- ---- what a table reports

-- what the values are divided by: 1 in a version that doesn't know it
abbrev pub per_of : Version → Members → ℕ
per_of version ms = if is_known Third version then number_of (per_rule false) ms else 1

-- the bit, counted from 0, of a byte and a bit in it, which are counted from 1
abbrev pub start_of : ℕ → ℕ → ℕ
start_of byte bit = 8 * (byte - 1) + (bit - 1)

-- the signal that a table reports
pub record DescribesSignal (version : Version) (ms : Members) (s : SignalParts) : Type 0 where
  pub has_label : s.label.bytes ≡ text_of label_rule ms
  pub has_start : s.start ≡ start_of (number_of byte_rule ms) (number_of bit_rule ms)
  pub has_bits : s.bits ≡ number_of bits_rule ms
  pub has_kind : s.kind ≡ kind_of (text_of (kind_rule version) ms)
  pub has_step : s.step ≡ number_of (step_rule false) ms
  pub has_offset : s.offset ≡ integer_of (offset_rule false) ms
  pub has_per : s.per ≡ per_of version ms
  pub has_unit : s.unit.bytes ≡ text_of (unit_rule false) ms
  pub has_repeated : s.repeated ≡ repeated_of version ms
  pub has_optional : s.optional ≡ optional_of version ms

abbrev pub IsSignalOf : Version → Data → SignalParts → Type 0
IsSignalOf version d s = DescribesSignal version (inside d) s

-- what is said of it besides
abbrev pub IsMeaningOf : Version → Data → Meaning → Type 0
IsMeaningOf version d m = DescribesMeaning version (inside d) m

-- what is true of every signal that is read, in a group with records or without
pub record IsFit (records : Bool) (s : SignalParts) : Type 0 where
  pub label_form : IsTrue (is_label s.label.bytes)
  pub ranges : IsSignal s.start s.bits s.step s.offset
  pub divisor : IsDivisor s.per
  pub single : records ≡ false → s.repeated ≡ false

unfoldable pub signal_table_faults : Version → Bool → Table → Members → List PlanFault
signal_table_faults version records at ms = versioned_faults at version (signal_rules version records ms) ms

-- the faults of the i-th signal of the g-th group, which has records or hasn't, behind those with the labels seen
unfoldable pub signal_faults : Version → Bool → ℕ → ℕ → List (List ℕ) → Data → List PlanFault
signal_faults version records g i seen d = table_only_faults (at.Signal g i) d
    ++ option_map_or (signal_table_faults version records (at.Signal g i)) (as_table d) []
    ++ repeated_faults (at.Signal g i) texts.Label seen (label_in d)
