-- The lines that report a group of a plan, with the names that the plan has: of raw numbers of a signal, and of suspect parameters.
use Rattle.std.specs.Prelude.{◌≡◌, ℕ, false, ◌+◌, ◌/◌, ◌%◌, ◌^◌, not, ◌&&◌, ℤ, unsigned_abs, Bool, List, [], ◌∷◌, ◌++◌, ◌==◌, if◌then◌else◌}
use Rattle.std.specs.Prelude.{length, map, All, Option, None, option_map, codes}
use Rattle.std.specs.List.{filter, find, zip}
use Rattle.std.specs.Option.{option_map_or}
use Rattle.j39_id.specs.declared.ident.Ident.{Ident}
use Rattle.j39_signal.specs.Bits.{raw_of}
use Rattle.j39_signal.specs.declared.signal_parts.SignalParts.{SignalParts}
use Rattle.j39_signal.specs.Places.{further}
use Rattle.j39_signal.specs.declared.kind.Kind.{Kind}
use Rattle.j39_signal.specs.declared.kind.Kind.TheVariants.{Dtc}
use Rattle.j39_signal.specs.State.{state_of, value_of}
use Rattle.j39_signal.specs.declared.state.State.{State}
use Rattle.j39_signal.specs.declared.state.State.TheVariants.{Value}
use Rattle.j39_network.specs.Records.{stands_once}
use Rattle.j39_network.specs.declared.plan.Plan.{Plan}
use Rattle.j39_network.specs.declared.plan.group_plan.GroupPlan.{GroupPlan}
use Rattle.j39_network.specs.declared.plan.meaning.Meaning.{Meaning}
use Rattle.j39_network.specs.declared.plan.meaning.ValueName.{ValueName}
use Rattle.j39_log.specs.LogReports.{group_line, scaled_text, signal_state_text, suspect_parameter}
use Rattle.j39_log.specs.LogReports as plain
use Rattle.j39_text.specs.Texts.{field}
use Rattle.j39_log.specs.TextLines.{text_lines}

-- ---- names

-- the name of a number, where it has one
abbrev pub NumberNames : Type 0
NumberNames = ℕ → Option (List ℕ)

-- of the raw numbers of a signal
abbrev pub value_names : List ValueName → NumberNames
value_names values raw = option_map (λ n. n.name.bytes) (find (λ n. n.raw == raw) values)

-- a signal with the names of its raw numbers
abbrev pub NamedSignal : Type 0
NamedSignal = SignalParts × NumberNames

abbrev pub meaning_names : Meaning → NumberNames
meaning_names m = value_names m.values.items

abbrev pub named_signals : GroupPlan → List NamedSignal
named_signals group = zip group.signals.items (map meaning_names group.meanings.items)

-- a signal by the labels of its group and its own, with its number (SPN)
pub record Numbered : Type 0 where
  pub number : Option ℕ
  pub name : List ℕ

abbrev pub numbered_as : GroupPlan → SignalParts × Meaning → Numbered
numbered_as group s = record { number = s.1.spn; name = group.label.bytes ++ (codes "." ++ s.0.label.bytes) }

abbrev pub numbered_signals : GroupPlan → List Numbered
numbered_signals group = map (numbered_as group) (zip group.signals.items group.meanings.items)

-- those of groups, group after group
unfoldable pub all_numbered : List GroupPlan → List Numbered
all_numbered [] = []
all_numbered (group ∷ groups) = numbered_signals group ++ all_numbered groups

abbrev pub is_numbered : ℕ → Numbered → Bool
is_numbered spn s = option_map_or (λ n. n == spn) s.number false

-- of suspect parameters: that of the first signal with the number
abbrev pub first_names : List Numbered → NumberNames
first_names signals spn = option_map (λ s. s.name) (find (is_numbered spn) signals)

abbrev pub parameter_names : Plan → NumberNames
parameter_names plan = first_names (all_numbered plan.groups.items)

-- ---- what a raw number of a signal reads, by the names of suspect parameters

-- the name of a suspect parameter, behind a space
unfoldable pub parameter_name_text : NumberNames → ℕ → List ℕ
parameter_name_text parameters spn = option_map_or (λ name. codes " " ++ name) (parameters spn) []

-- what a trouble code says reports a suspect parameter
abbrev pub has_parameter : ℕ → Bool
has_parameter code = not (code == 0) && code / 2 ^ 31 % 2 == 0

unfoldable pub named_code_text : NumberNames → ℕ → List ℕ
named_code_text parameters code =
    plain.code_text code ++ (if has_parameter code then parameter_name_text parameters (suspect_parameter code) else [])

unfoldable pub named_value_text : NumberNames → Kind → ℕ → List ℕ → ℤ → List ℕ
named_value_text parameters Dtc per unit v = named_code_text parameters (unsigned_abs v)
named_value_text parameters _ per unit v = scaled_text per unit v

unfoldable pub named_state_text : NumberNames → SignalParts → State → List ℕ
named_state_text parameters s (Value v) = named_value_text parameters s.kind s.per s.unit.bytes v
named_state_text parameters s state = signal_state_text s state

-- the value with its name, where the raw number has one, whatever its state
unfoldable pub raw_text : NumberNames → NamedSignal → ℕ → List ℕ
raw_text parameters s raw =
    option_map_or (λ name. scaled_text s.0.per s.0.unit.bytes (value_of s.0 raw) ++ (codes " = " ++ name)) (s.1 raw)
    (named_state_text parameters s.0 (state_of s.0 raw))

-- ---- lines

unfoldable pub named_signal_line : SignalParts → List ℕ → List ℕ
named_signal_line s text = codes "  " ++ (s.label.bytes ++ (text ++ 10 ∷ []))

-- what each signal reads in these bytes
unfoldable pub named_signal_lines : NumberNames → List NamedSignal → List ℕ → List ℕ
named_signal_lines parameters [] bytes = []
named_signal_lines parameters (s ∷ rest) bytes =
    named_signal_line s.0 (raw_text parameters s (raw_of bytes s.0)) ++ named_signal_lines parameters rest bytes

-- of the record of this place, counted from 1
unfoldable pub named_record_line : ℕ → SignalParts → List ℕ → List ℕ
named_record_line place s text =
    codes "  " ++ (s.label.bytes ++ (field (codes "[") place ++ (codes "]" ++ (text ++ 10 ∷ []))))

unfoldable pub named_record_lines : NumberNames → ℕ → List NamedSignal → List ℕ → List ℕ
named_record_lines parameters place [] bytes = []
named_record_lines parameters place (s ∷ rest) bytes =
    named_record_line place s.0 (raw_text parameters s (raw_of bytes s.0)) ++ named_record_lines parameters place rest bytes

-- the signals that aren't repeated and that a message of so many bytes has, and those of a record that stands so many bytes behind the
-- first
abbrev pub named_single_signals : ℕ → List NamedSignal → List NamedSignal
named_single_signals bytes = filter (λ s. stands_once bytes s.0)

abbrev pub named_record_signals : ℕ → List NamedSignal → List NamedSignal
named_record_signals bytes signals = map (λ s. (further bytes s.0, s.1)) (filter (λ s. s.0.repeated) signals)

-- what the records of a group read that end inside these bytes
unfoldable pub all_named_records_lines : NumberNames → GroupPlan → List NamedSignal → List ℕ → List ℕ
all_named_records_lines parameters group signals bytes =
    plain.lines_of_all_records (λ place behind. named_record_lines parameters place (named_record_signals behind signals) bytes) group (length bytes)

-- what the signals of a group that aren't repeated and are there, its records and its texts read in these bytes, by these names
unfoldable pub named_lines : NumberNames → List NamedSignal → GroupPlan → List ℕ → List ℕ
named_lines parameters signals group bytes =
    named_signal_lines parameters (named_single_signals (length bytes) signals) bytes
    ++ (all_named_records_lines parameters group signals bytes ++ text_lines group.texts.items bytes)

-- ---- a report

-- what a group of a plan reads in these bytes
abbrev pub named_reading_lines : Plan → GroupPlan → List ℕ → List ℕ
named_reading_lines plan group bytes = named_lines (parameter_names plan) (named_signals group) group bytes

unfoldable pub named_report : Plan → GroupPlan → Ident → List ℕ → List ℕ
named_report plan group i bytes = group_line group i bytes ++ named_reading_lines plan group bytes

-- ---- a law

-- no signal of the plan has a number, and none a name of a raw number
abbrev pub HasNoMeanings : Plan → Type 0
HasNoMeanings plan = All (λ group. All (λ m. (m.spn ≡ None) × (m.values.items ≡ [])) group.meanings.items) plan.groups.items

-- what a group of such a plan reads are the states of its signals
abbrev pub StatesAlone : Type 0
StatesAlone = (plan : Plan) (bytes : List ℕ) → HasNoMeanings plan
    → All (λ group. named_reading_lines plan group bytes ≡ plain.reading_lines group bytes) plan.groups.items
