use Rattle.std.proofs.Common.{◌≡◌, ◌++◌, List, ℕ, ℤ, refl, sym, ap, ◌∙◌, to_z, of_z, w64}
use Rattle.std.specs.Prelude.{unsigned_abs}
use Rattle.std.proofs.lemmas.Int.{to_z-of_z}
use Rattle.std.proofs.lemmas.Result.{IfOk-weaker}
use Rattle.j39_signal.specs.declared.kind.Kind.{Kind}
use Rattle.j39_signal.specs.declared.kind.Kind.TheVariants.{Dtc}
use Rattle.j39_log.specs.LogReports.{code_text, scaled_text, value_text}
use Rattle.j39_log.proofs.ValueLines.{scaled}
use Rattle.j39_log.proofs.record_lines.write_value.Goals as goal

code_of : (kind : Kind) (per : ℕ) (unit : List ℕ) (v : ℤ) → kind ≡ Dtc → code_text (unsigned_abs v) ≡ value_text kind per unit v
unfolding value_text
code_of kind per unit v is = rw is refl

pub returns-in-Dtc : goal.returns-in-Dtc
returns-in-Dtc c =
    let s = c.args.signal.now in
    let size = rw (to_z-of_z w64 c.args.value c.ranges.value) at c.unsigned_abs.ensures.value in
    let line = ap code_text size ∙ code_of s.kind s.per s.unit.bytes c.args.value (sym c.kind.ensures ∙ c.in-Dtc.is) in
    IfOk-weaker c.write_code.result _ _ (λ _ written. written ∙ ap (λ (t : List ℕ). c.args.text.now ++ t) line) c.write_code.ensures

pub returns-in_default : goal.returns-in_default
returns-in_default c =
    let s = c.args.signal.now in
    let same : to_z w64 (of_z w64 c.args.value) ≡ c.args.value = to_z-of_z w64 c.args.value c.ranges.value in
    let line = ap (scaled_text s.per s.unit.bytes) same
    ∙ sym (scaled s.kind s.per s.unit.bytes c.args.value (λ is. c.in_default.not-Dtc (c.kind.ensures ∙ is))) in
    IfOk-weaker c.write_scaled.result _ _ (λ _ written. written ∙ ap (λ (t : List ℕ). c.args.text.now ++ t) line) c.write_scaled.ensures
