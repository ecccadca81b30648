-- Why there is no variant.
use Rattle.std.proofs.Common.{◌≡◌, ℕ, List, Result}
use Rattle.std.specs.Result.{IfOk}
use Rattle.std.proofs.lemmas.Result.{IfOk-weaker}
use Rattle.j39_variants.specs.declared.line.ProductLine.{ProductLine}
use Rattle.j39_plan_text.specs.VariantText.{IsVariantReport}
use Rattle.j39_stream.specs.declared.verdict.Verdict.{Verdict}
use Rattle.j39_stream.specs.declared.verdict.Verdict.TheVariants.{Refused}

pub refused_so : {E : Type 0} (r : Result (List ℕ × Verdict) E) (words : List (List ℕ)) (line : ProductLine) (text : List ℕ)
    → IfOk r (λ report. (report.0 ≡ text) × (report.1 ≡ Refused)) → IsVariantReport words line text Refused
    → IfOk r (λ report. IsVariantReport words line report.0 report.1)
refused_so r words line text ends is =
    IfOk-weaker r (λ report. (report.0 ≡ text) × (report.1 ≡ Refused)) (λ report. IsVariantReport words line report.0 report.1)
    (λ report stated. rw (stated.0, stated.1) is) ends
