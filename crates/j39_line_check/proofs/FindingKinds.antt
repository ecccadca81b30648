-- Kinds of findings: which come by absence, which count what is there, and which have a number of addresses or bits.
use Rattle.std.proofs.Common.{◌≡◌, ◌⊎◌, ℕ, List, true, false, inl, inr, refl, sym, ◌∙◌}
use Rattle.std.proofs.lemmas.Bool.{false≢true}
use Rattle.j39_findings.specs.declared.checking.finding.Finding.TheVariants.{SameName, SameFixedAddress, TooFewAddresses, BadPgn, SamePgn, SignalWidth}
use Rattle.j39_findings.specs.declared.checking.finding.Finding.TheVariants.{SignalOutside, SignalOverlap, FlowToOne, FlowToSelf, FlowRepeated, KeptAddress}
use Rattle.j39_findings.specs.declared.checking.finding.Finding.TheVariants.{PrivateUnsent, RecordOverlap, TextOutside, NeedUnmet, RequestUnanswered}
use Rattle.j39_findings.specs.declared.checking.finding.Finding.TheVariants.{RequestUnheard, AnswerAstray, WhenOutside, RequestRepeated, SilentAddress}
use Rattle.j39_findings.specs.declared.checking.finding.Finding.TheVariants.{SilentInPool, FlowContested}
use Rattle.j39_load.specs.declared.findings.load_finding.LoadFinding.TheVariants.{NoPeriod, Overload, LateFlow, NeedTooOld, AskedTooOften}
use Rattle.j39_variants.specs.declared.line.ProductLine.{ProductLine}
use Rattle.j39_line_findings.specs.Conditions.{goes_by_conditions}
use Rattle.j39_line_findings.specs.InFile.{amount_of}
use Rattle.j39_line_findings.specs.declared.full.FullAlternatives.{FullAlternatives}
use Rattle.j39_line_findings.specs.declared.line_finding.LineFinding.{LineFinding}
use Rattle.j39_line_findings.specs.declared.line_finding.LineFinding.TheVariants.{OfPlan, OfLoad}
use Rattle.j39_line_laws.specs.FoundOfCovering.{is_by_absence}
use Rattle.j39_line_check.specs.CountedFindings.{takes_full_for}
use Rattle.j39_line_check.specs.SetVariants.{takes_alone}

-- one without a number, or one that counts what is there
pub amount_kinds : (line : ProductLine) (f : LineFinding) → (amount_of f ≡ 0) ⊎ ((goes_by_conditions line f ≡ false) × (is_by_absence f ≡ false))
amount_kinds line (OfPlan (SameName i j)) = inl refl
amount_kinds line (OfPlan (SameFixedAddress i j)) = inl refl
amount_kinds line (OfPlan (TooFewAddresses n)) = inr (refl, refl)
amount_kinds line (OfPlan (BadPgn g)) = inl refl
amount_kinds line (OfPlan (SamePgn g h)) = inl refl
amount_kinds line (OfPlan (SignalWidth g s)) = inl refl
amount_kinds line (OfPlan (SignalOutside g s)) = inl refl
amount_kinds line (OfPlan (SignalOverlap g s t)) = inl refl
amount_kinds line (OfPlan (FlowToOne f)) = inl refl
amount_kinds line (OfPlan (FlowToSelf f)) = inl refl
amount_kinds line (OfPlan (FlowRepeated f h)) = inl refl
amount_kinds line (OfPlan (KeptAddress i)) = inl refl
amount_kinds line (OfPlan (PrivateUnsent g)) = inl refl
amount_kinds line (OfPlan (RecordOverlap g s t)) = inl refl
amount_kinds line (OfPlan (TextOutside g t)) = inl refl
amount_kinds line (OfPlan (NeedUnmet d)) = inl refl
amount_kinds line (OfPlan (RequestUnanswered r)) = inl refl
amount_kinds line (OfPlan (RequestUnheard r)) = inl refl
amount_kinds line (OfPlan (AnswerAstray r)) = inl refl
amount_kinds line (OfPlan (WhenOutside g)) = inl refl
amount_kinds line (OfPlan (RequestRepeated r s)) = inl refl
amount_kinds line (OfPlan (SilentAddress u v)) = inl refl
amount_kinds line (OfPlan (SilentInPool u)) = inl refl
amount_kinds line (OfPlan (FlowContested f)) = inl refl
amount_kinds line (OfLoad (NoPeriod f)) = inl refl
amount_kinds line (OfLoad (Overload n)) = inr (refl, refl)
amount_kinds line (OfLoad (LateFlow f)) = inl refl
amount_kinds line (OfLoad (NeedTooOld d)) = inl refl
amount_kinds line (OfLoad (AskedTooOften f)) = inl refl

pub no_amount : (line : ProductLine) (f : LineFinding) → goes_by_conditions line f ≡ true → amount_of f ≡ 0
no_amount line f goes = elim (amount_kinds line f) [
  | inl none ↦ none
  | inr (counts, there) ↦ absurd (false≢true (sym counts ∙ goes))
]

pub absent_amount : (line : ProductLine) (f : LineFinding) → is_by_absence f ≡ true → amount_of f ≡ 0
absent_amount line f absent = elim (amount_kinds line f) [
  | inl none ↦ none
  | inr (counts, there) ↦ absurd (false≢true (sym there ∙ absent))
]

-- such a one is looked for in full variants
pub full_for : (line : ProductLine) (full : FullAlternatives) (v : List ℕ) (f : LineFinding) → is_by_absence f ≡ false
    → takes_full_for line full v f ≡ takes_alone full.all.items v
full_for line full v (OfPlan f) there = refl
full_for line full v (OfLoad (NoPeriod f)) there = refl
full_for line full v (OfLoad (Overload n)) there = refl
full_for line full v (OfLoad (LateFlow f)) there = refl
full_for line full v (OfLoad (NeedTooOld d)) there = absurd (false≢true (sym there))
full_for line full v (OfLoad (AskedTooOften f)) there = refl
