-- Tests of signals: whether they agree, are alike, and have the same values.
use Rattle.std.specs.Prelude.{ℕ, List, length, Bool, true, false, not, ◌&&◌, ◌||◌, ◌==◌, Option, Some, None}
use Rattle.std.specs.Str.{bytes_eq}
use Rattle.std.specs.Ordering.{int_eq}
use Rattle.j39_signal.specs.declared.signal_parts.SignalParts.{SignalParts}
use Rattle.j39_signal.specs.Places.{width_fits}
use Rattle.j39_signal.specs.declared.kind.Kind.{Kind}
use Rattle.j39_signal.specs.declared.kind.Kind.TheVariants.{Measured, Discrete, Raw, States, Signed, Dtc}
use Rattle.j39_vehicle_findings.specs.Matching.{has_values_of}

abbrev pub is_trouble_code : Kind → Bool
is_trouble_code Dtc = true
is_trouble_code _ = false

-- each kind by a number of its own
abbrev pub kind_number : Kind → ℕ
kind_number Measured = 0
kind_number Discrete = 1
kind_number Raw = 2
kind_number States = 3
kind_number Signed = 4
kind_number Dtc = 5

abbrev pub same_flag : Bool → Bool → Bool
same_flag true b = b
same_flag false b = not b

abbrev pub same_scale : SignalParts → SignalParts → Bool
same_scale s t = s.step == t.step && (int_eq s.offset t.offset && s.per == t.per)

abbrev pub agree : SignalParts → SignalParts → Bool
agree s t = s.start == t.start && (s.bits == t.bits && (kind_number s.kind == kind_number t.kind && (same_scale s t && same_flag s.repeated t.repeated)))

-- ---- alike

abbrev pub are_same_units : List ℕ → List ℕ → Bool
are_same_units a b = length a == 0 || (length b == 0 || bytes_eq a b)

abbrev pub are_same_numbers : Option ℕ → Option ℕ → Bool
are_same_numbers None b = true
are_same_numbers (Some a) None = true
are_same_numbers (Some a) (Some b) = a == b

abbrev pub are_alike : SignalParts → Option ℕ → SignalParts → Option ℕ → Bool
are_alike s s_number t t_number =
    are_same_units s.unit.bytes t.unit.bytes && (are_same_numbers s_number t_number && same_flag (is_trouble_code s.kind) (is_trouble_code t.kind))

-- ---- values

abbrev pub is_always_value : Kind → Bool
is_always_value Raw = true
is_always_value Signed = true
is_always_value _ = false

abbrev pub may_be_unset : SignalParts → Bool
may_be_unset s = not (is_always_value s.kind) || s.optional

abbrev pub signal_width_fits : SignalParts → Bool
signal_width_fits s = width_fits s.kind s.start s.bits

abbrev pub has : SignalParts → SignalParts → Bool
has s t = signal_width_fits s && (signal_width_fits t && (not (is_always_value t.kind && may_be_unset s) && has_values_of s t))
