-- The line of a value is the value between what stands around it.
use Rattle.std.proofs.Common.{◌≡◌, ◌≢◌, ◌+◌, ◌<◌, ◌≤ℤ◌, ℕ, ℤ, pos, negsuc, List, [], ◌∷◌, ◌++◌, codes, refl, sym, ap, ◌∙◌, append_assoc, arith}
use Rattle.std.proofs.lemmas.Fmt.{decimal_digit}
use Rattle.std.proofs.lemmas.Int.{ints}
use Rattle.std.specs.Prelude.{unsigned_abs}
use Rattle.j39_signal.specs.declared.kind.Kind.{Kind}
use Rattle.j39_signal.specs.declared.kind.Kind.TheVariants.{Measured, Discrete, Raw, States, Signed, Dtc}
use Rattle.j39_text.specs.Decimals.{quotient_text}
use Rattle.j39_signal.specs.declared.signal_parts.SignalParts.{SignalParts}
use Rattle.j39_signal.specs.declared.state.State.TheVariants.{Value}
use Rattle.j39_text.proofs.Quotients.{undivided}
use Rattle.j39_text.specs.Texts.{field_text}
use Rattle.j39_log.specs.LogReports.{code_text, scaled_text, signal_line, signal_state_text, signal_unit_text, value_text}
use Rattle.j39_log.specs.inside.ValueLines.{value_line_of}

grouped : (front label word number unit end : List ℕ)
    → (front ++ (label ++ word)) ++ (number ++ (unit ++ end)) ≡ front ++ (label ++ (((word ++ number) ++ unit) ++ end))
grouped front label word number unit end = simp append_assoc refl

pub scaled : (kind : Kind) (per : ℕ) (unit : List ℕ) (v : ℤ) → kind ≢ Dtc → value_text kind per unit v ≡ scaled_text per unit v
unfolding value_text
scaled Measured per unit v other = refl
scaled Discrete per unit v other = refl
scaled Raw per unit v other = refl
scaled States per unit v other = refl
scaled Signed per unit v other = refl
scaled Dtc per unit v other = absurd (other refl)

pub line_of_value : (s : SignalParts) (v : ℤ) → s.kind ≢ Dtc
    → (value_line_of s).before ++ (quotient_text s.per v ++ (value_line_of s).after) ≡ signal_line s (Value v)
unfolding signal_line signal_state_text scaled_text field_text
line_of_value s v other =
    grouped (codes "  ") s.label.bytes (codes " value ") (quotient_text s.per v) (signal_unit_text s.unit.bytes) (10 ∷ [])
    ∙ ap (λ (text : List ℕ). codes "  " ++ (s.label.bytes ++ (text ++ 10 ∷ []))) (sym (scaled s.kind s.per s.unit.bytes v other))

pub one_digit : (v : ℤ) → pos 0 ≤ℤ v → unsigned_abs v < 10 → quotient_text 1 v ≡ (48 + unsigned_abs v) ∷ []
one_digit (pos n) above small = undivided (pos n) ∙ decimal_digit n small
one_digit (negsuc n) above small = absurd (omega (arith, ints, above))

pub line_of_code : (s : SignalParts) (v : ℤ) → s.kind ≡ Dtc
    → codes "  " ++ (s.label.bytes ++ (code_text (unsigned_abs v) ++ 10 ∷ [])) ≡ signal_line s (Value v)
unfolding signal_line signal_state_text value_text
line_of_code s v is = rw is refl
