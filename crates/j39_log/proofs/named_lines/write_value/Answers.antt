use Rattle.std.proofs.Common.{◌≡◌, ◌≢◌, ◌++◌, List, ℕ, ℤ, refl, sym, ap, ◌∙◌, to_z, of_z, w64}
use Rattle.std.specs.Prelude.{unsigned_abs}
use Rattle.std.proofs.lemmas.Int.{to_z-of_z}
use Rattle.std.proofs.lemmas.Result.{IfOk-weaker}
use Rattle.j39_signal.specs.declared.kind.Kind.{Kind}
use Rattle.j39_signal.specs.declared.kind.Kind.TheVariants.{Measured, Discrete, Raw, States, Signed, Dtc}
use Rattle.j39_log.specs.LogReports.{scaled_text}
use Rattle.j39_log.specs.NamedReports.{NumberNames, named_code_text, named_value_text}
use Rattle.j39_log.specs.inside.NameTables.{names_in}
use Rattle.j39_log.proofs.named_lines.write_value.Goals as goal

code_of : (names : NumberNames) (kind : Kind) (per : ℕ) (unit : List ℕ) (v : ℤ) → kind ≡ Dtc
    → named_code_text names (unsigned_abs v) ≡ named_value_text names kind per unit v
unfolding named_value_text
code_of names kind per unit v is = rw is refl

scaled : (names : NumberNames) (kind : Kind) (per : ℕ) (unit : List ℕ) (v : ℤ) → kind ≢ Dtc
    → scaled_text per unit v ≡ named_value_text names kind per unit v
unfolding named_value_text
scaled names Dtc per unit v other = absurd (other refl)
scaled names Measured per unit v other = refl
scaled names Discrete per unit v other = refl
scaled names Raw per unit v other = refl
scaled names States per unit v other = refl
scaled names Signed per unit v other = refl

pub returns-in-Dtc : goal.returns-in-Dtc
returns-in-Dtc c =
    let s = c.args.signal.now in
    let names = names_in c.args.parameters.now in
    let size = rw (to_z-of_z w64 c.args.value c.ranges.value) at c.unsigned_abs.ensures.value in
    let line = ap (named_code_text names) size ∙ code_of names s.kind s.per s.unit.bytes c.args.value (sym c.kind.ensures ∙ c.in-Dtc.is) in
    IfOk-weaker c.write_named_code.result _ _ (λ _ written. written ∙ ap (λ (t : List ℕ). c.args.text.now ++ t) line) c.write_named_code.ensures

pub returns-in_default : goal.returns-in_default
returns-in_default c =
    let s = c.args.signal.now in
    let names = names_in c.args.parameters.now in
    let same : to_z w64 (of_z w64 c.args.value) ≡ c.args.value = to_z-of_z w64 c.args.value c.ranges.value in
    let line = ap (scaled_text s.per s.unit.bytes) same
    ∙ scaled names s.kind s.per s.unit.bytes c.args.value (λ is. c.in_default.not-Dtc (c.kind.ensures ∙ is)) in
    IfOk-weaker c.write_scaled.result _ _ (λ _ written. written ∙ ap (λ (t : List ℕ). c.args.text.now ++ t) line) c.write_scaled.ensures
