-- What comes by absence and what comes by what is there, together.
use Rattle.std.proofs.Common.{◌≡◌, ◌↔◌, ℕ, true, List, sym, ◌∙◌, inl, inr}
use Rattle.std.proofs.lemmas.Bool.{cases_Bool, false≢true, true≢false}
use Rattle.j39_load.specs.declared.findings.load_finding.LoadFinding.TheVariants.{NoPeriod, Overload, LateFlow, NeedTooOld, AskedTooOften}
use Rattle.j39_line_findings.specs.Conditions.{conditions_of, goes_by_conditions, meets_any}
use Rattle.j39_line_findings.specs.LineFound.{AreVariantFindings, IsFound}
use Rattle.j39_line_findings.specs.declared.line_finding.LineFinding.{LineFinding}
use Rattle.j39_line_findings.specs.declared.line_finding.LineFinding.TheVariants.{OfPlan, OfLoad}
use Rattle.j39_line_laws.specs.FoundOfCovering.{is_by_absence}
use Rattle.j39_variants.specs.declared.line.ProductLine.{ProductLine}
use Rattle.j39_line_laws.proofs.AbsenceFound.{exactly}
use Rattle.j39_line_laws.proofs.ByPresence.{found_by_presence}
use Rattle.j39_line_laws.specs.ByAbsenceExactly.{IsFoundWhereMet}
use Rattle.j39_line_laws.specs.ByConditions.{FindingsGoByConditions, MayBeFound}

module _ (line : ProductLine) (v : List ℕ) (findings : List LineFinding) (has : AreVariantFindings line v findings) where
  -- what comes by absence goes by conditions where it is of a plan
  absent_found : (finding : LineFinding) → goes_by_conditions line finding ≡ true → is_by_absence finding ≡ true → IsFoundWhereMet line v findings finding
  absent_found (OfPlan x) goes absent = exactly line v findings has x absent
  absent_found (OfLoad (NoPeriod f)) goes absent = absurd (false≢true absent)
  absent_found (OfLoad (Overload n)) goes absent = absurd (false≢true absent)
  absent_found (OfLoad (LateFlow f)) goes absent = absurd (false≢true absent)
  absent_found (OfLoad (NeedTooOld d)) goes absent = absurd (false≢true goes)
  absent_found (OfLoad (AskedTooOften f)) goes absent = absurd (false≢true absent)

  by_conditions : (finding : LineFinding) → goes_by_conditions line finding ≡ true
      → IsFound findings finding ↔ (MayBeFound line finding × (meets_any line v (conditions_of line finding) ≡ true))
  by_conditions finding goes = elim (cases_Bool (is_by_absence finding)) [
    | inl absent ↦ let both = absent_found finding goes absent in (λ one. (inl absent, both.0 one), λ met. both.1 met.1)
    | inr present ↦
        let both = found_by_presence line v findings has finding goes present in (
          λ one. let (there, met) = both.0 one in (inr there, met),
          λ found. elim found.0 [ inl absent ↦ absurd (true≢false (sym absent ∙ present)) | inr there ↦ both.1 (there, found.1) ],
        )
  ]

pub found_by_conditions : FindingsGoByConditions
found_by_conditions = by_conditions
