use Rattle.std.proofs.Common.{◌≡◌, ◌++◌, ◌∷◌, [], List, ℕ, ℤ, codes, sym, ap, ◌∙◌, to_z, of_z, w64}
use Rattle.std.proofs.lemmas.Int.{to_z-of_z}
use Rattle.std.proofs.lemmas.Result.{IfOk-weaker}
use Rattle.j39_text.specs.Decimals.{quotient_text}
use Rattle.j39_log.specs.LogReports.{code_text}
use Rattle.j39_log.specs.declared.value_line.ValueLine.{ValueLine}
use Rattle.j39_log.proofs.ValueLines.{line_of_code, line_of_value}
use Rattle.j39_log.proofs.group_report.write_value.Goals as goal

pub returns-in-Dtc : goal.returns-in-Dtc
returns-in-Dtc c =
    let s = c.args.signal.now in
    let size = rw (to_z-of_z w64 c.args.value c.ranges.value) at c.unsigned_abs.ensures.value in
    let line = ap (λ (n : ℕ). codes "  " ++ (s.label.bytes ++ (code_text n ++ 10 ∷ []))) size
    ∙ line_of_code s c.args.value (sym c.kind.ensures ∙ c.in-Dtc.is) in
    IfOk-weaker c.write_code_line.result _ _ (λ _ written. written ∙ ap (λ (t : List ℕ). c.args.text.now ++ t) line) c.write_code_line.ensures

pub returns-in_default : goal.returns-in_default
returns-in_default c =
    let s = c.args.signal.now in
    let same : to_z w64 (of_z w64 c.args.value) ≡ c.args.value = to_z-of_z w64 c.args.value c.ranges.value in
    let line = ap (λ (v : ℤ). c.args.line.now.before ++ (quotient_text s.per v ++ c.args.line.now.after)) same
    ∙ ap (λ (l : ValueLine). l.before ++ (quotient_text s.per c.args.value ++ l.after)) c.requires
    ∙ line_of_value s c.args.value (λ is. c.in_default.not-Dtc (c.kind.ensures ∙ is)) in
    IfOk-weaker c.write_scaled.result _ _ (λ _ written. written ∙ ap (λ (t : List ℕ). c.args.text.now ++ t) line) c.write_scaled.ensures
