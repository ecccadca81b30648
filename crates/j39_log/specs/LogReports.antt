-- The lines that report a group: who sent which bytes to whom, and what each signal, each record and each text reads.
use Rattle.std.specs.Prelude.{ℕ, zero, suc, ◌+◌, ◌*◌, ◌/◌, ◌%◌, ◌^◌, ℤ, unsigned_abs, List, [], ◌∷◌, ◌++◌, ◌==◌, if◌then◌else◌, length, codes}
use Rattle.std.specs.Option.{option_map_or}
use Rattle.hex.specs.Hex.{encode_upper}
use Rattle.j39_id.specs.declared.ident.Ident.{Ident}
use Rattle.j39_signal.specs.Bits.{raw_of}
use Rattle.j39_signal.specs.declared.signal_parts.SignalParts.{SignalParts}
use Rattle.j39_signal.specs.declared.kind.Kind.{Kind}
use Rattle.j39_signal.specs.declared.kind.Kind.TheVariants.{Dtc}
use Rattle.j39_signal.specs.State.{state_of}
use Rattle.j39_signal.specs.declared.state.State.{State}
use Rattle.j39_signal.specs.declared.state.State.TheVariants.{Value, Specific, Reserved, Fault, Absent}
use Rattle.j39_network.specs.declared.plan.group_plan.GroupPlan.{GroupPlan}
use Rattle.j39_network.specs.Records.{record_count, record_signals, single_signals}
use Rattle.j39_text.specs.Decimals.{quotient_text}
use Rattle.j39_text.specs.FrameText.{destination_text}
use Rattle.j39_text.specs.Texts.{field, field_text}
use Rattle.j39_log.specs.TextLines.{text_lines}

-- one space and the unit, where there is one
unfoldable pub signal_unit_text : List ℕ → List ℕ
signal_unit_text [] = []
signal_unit_text (b ∷ unit) = codes " " ++ (b ∷ unit)

-- ---- a diagnostic trouble code (SAE J1939-73, version 4 of the conversion method): the suspect parameter in bits 0 to 15 and 21 to 23,
-- the failure mode in bits 16 to 20, how often it occurred in bits 24 to 30, and in bit 31 whether it is spelled so

abbrev pub suspect_parameter : ℕ → ℕ
suspect_parameter code = code % 2 ^ 16 + 2 ^ 16 * (code / 2 ^ 21 % 2 ^ 3)

abbrev pub failure_mode : ℕ → ℕ
failure_mode code = code / 2 ^ 16 % 2 ^ 5

abbrev pub occurrences : ℕ → ℕ
occurrences code = code / 2 ^ 24 % 2 ^ 7

unfoldable pub count_text : ℕ → List ℕ
count_text code = field (codes " count ") (occurrences code)

unfoldable pub parameter_text : ℕ → List ℕ
parameter_text code =
    field (codes " dtc spn ") (suspect_parameter code) ++ (field (codes " fmi ") (failure_mode code) ++ count_text code)

unfoldable pub raw_code_text : ℕ → List ℕ
raw_code_text code = field (codes " dtc raw ") code ++ count_text code

unfoldable pub code_text : ℕ → List ℕ
code_text code = if code == 0 then codes " none" else if code / 2 ^ 31 % 2 == 0 then parameter_text code else raw_code_text code

-- ---- a value: that of a trouble code is its raw number

unfoldable pub scaled_text : ℕ → List ℕ → ℤ → List ℕ
scaled_text per unit v = field_text (codes " value ") (quotient_text per v) ++ signal_unit_text unit

unfoldable pub value_text : Kind → ℕ → List ℕ → ℤ → List ℕ
value_text Dtc per unit v = code_text (unsigned_abs v)
value_text _ per unit v = scaled_text per unit v

unfoldable pub signal_state_text : SignalParts → State → List ℕ
signal_state_text s (Value v) = value_text s.kind s.per s.unit.bytes v
signal_state_text s (Specific n) = field (codes " specific ") n
signal_state_text s (Reserved n) = field (codes " reserved ") n
signal_state_text s (Fault n) = field (codes " fault ") n
signal_state_text s Absent = codes " absent"

-- a signal that is in this state
unfoldable pub signal_line : SignalParts → State → List ℕ
signal_line s state = codes "  " ++ (s.label.bytes ++ (signal_state_text s state ++ 10 ∷ []))

-- what each signal reads in these bytes
unfoldable pub signal_lines : List SignalParts → List ℕ → List ℕ
signal_lines [] bytes = []
signal_lines (s ∷ rest) bytes = signal_line s (state_of s (raw_of bytes s)) ++ signal_lines rest bytes

-- ---- records, which are counted from 1

-- a signal that is in this state in the record of this place
unfoldable pub record_line : ℕ → SignalParts → State → List ℕ
record_line place s state =
    codes "  " ++ (s.label.bytes ++ (field (codes "[") place ++ (codes "]" ++ (signal_state_text s state ++ 10 ∷ []))))

-- what the signals of the record of this place read in these bytes
unfoldable pub record_lines : ℕ → List SignalParts → List ℕ → List ℕ
record_lines place [] bytes = []
record_lines place (s ∷ rest) bytes = record_line place s (state_of s (raw_of bytes s)) ++ record_lines place rest bytes

-- what so many records read, one after another: each so many records behind the first
unfoldable pub of_records : (ℕ → List ℕ) → ℕ → List ℕ
of_records lines zero = []
of_records lines (suc behind) = of_records lines behind ++ lines behind

abbrev pub lines_of_records : (ℕ → ℕ → List ℕ) → ℕ → ℕ → List ℕ
lines_of_records lines every = of_records (λ behind. lines (behind + 1) (every * behind))

-- what the records of a group read that end inside so many bytes, by what each one reads at its place
abbrev pub lines_of_all_records : (ℕ → ℕ → List ℕ) → GroupPlan → ℕ → List ℕ
lines_of_all_records lines group bytes = option_map_or (λ every. lines_of_records lines every (record_count group bytes)) group.every []

unfoldable pub all_records_lines : GroupPlan → List ℕ → List ℕ
all_records_lines group bytes =
    lines_of_all_records (λ place behind. record_lines place (record_signals behind group.signals.items) bytes) group (length bytes)

-- ---- a report

-- from whom to whom
unfoldable pub way_text : Ident → List ℕ
way_text i = field (codes " from ") i.sa ++ (codes " to " ++ destination_text i)

unfoldable pub group_line : GroupPlan → Ident → List ℕ → List ℕ
group_line group i bytes =
    codes "group " ++ (group.label.bytes ++ (way_text i ++ (codes " bytes " ++ (encode_upper bytes ++ 10 ∷ []))))

-- what the signals of a group that aren't repeated and are there, its records and its texts read in these bytes
unfoldable pub reading_lines : GroupPlan → List ℕ → List ℕ
reading_lines group bytes =
    signal_lines (single_signals (length bytes) group.signals.items) bytes ++ (all_records_lines group bytes ++ text_lines group.texts.items bytes)

unfoldable pub group_report : GroupPlan → Ident → List ℕ → List ℕ
group_report group i bytes = group_line group i bytes ++ reading_lines group bytes
