-- Where nothing that is reported of a line hides what is asked, no finding of a possible variant does.
use Rattle.std.proofs.Common.{◌≡◌, List, Bool, true, false, inl, inr, None, refl, sym, ap, ◌∙◌, subst}
use Rattle.std.specs.List.{Contains, list_any}
use Rattle.std.proofs.lemmas.Bool.{cases_Bool, false≢true, true≢false}
use Rattle.std.proofs.lemmas.List.Folds.{list_any_at}
use Rattle.j39_load.specs.declared.findings.load_finding.LoadFinding.TheVariants.{NoPeriod, Overload, LateFlow, NeedTooOld, AskedTooOften}
use Rattle.j39_variants.specs.declared.line.ProductLine.{ProductLine}
use Rattle.j39_line_findings.specs.declared.line_finding.LineFinding.{LineFinding}
use Rattle.j39_line_findings.specs.declared.line_finding.LineFinding.TheVariants.{OfPlan, OfLoad}
use Rattle.j39_line_check.specs.LineChecks.{AreReported, IsSure, SomePossible, many_of}
use Rattle.j39_line_check.specs.declared.answer.LookedAt.{LookedAt}
use Rattle.j39_line_check.specs.declared.answer.LookedAt.TheVariants.{Full, TooMany}
use Rattle.j39_line_check.specs.declared.answer.ReportedFinding.{ReportedFinding}
use Rattle.j39_line_text.specs.Hindrances.{AreAllShown, AreReportedAt, IsShownLine, does_hide, hides, is_any_hiding, is_hidden}
use Rattle.j39_line_text.specs.declared.hindrances.Asked.{Asked}
use Rattle.j39_line_text.specs.declared.hindrances.Asked.TheVariants.{Addresses, Times}

any_of : {X : Type 0} (p : X → Bool) (xs : List X) (x : X) → Contains xs x → p x ≡ true → list_any p xs ≡ true
any_of p xs x at is = list_any_at p xs at.0 x at.1 (subst (λ y. p y ≡ true) (sym at.2) is)

-- a finding that hides something is reported whatever the numbers of groups are
sure : (line : ProductLine) (asked : Asked) (finding : LineFinding) → does_hide asked finding ≡ true → IsSure line finding
sure line asked (OfPlan finding) is = tt
sure line asked (OfLoad (NoPeriod f)) is = tt
sure line Addresses (OfLoad (Overload n)) is = absurd (false≢true is)
sure line Addresses (OfLoad (LateFlow f)) is = absurd (false≢true is)
sure line Addresses (OfLoad (NeedTooOld d)) is = absurd (false≢true is)
sure line Addresses (OfLoad (AskedTooOften f)) is = absurd (false≢true is)
sure line Times (OfLoad (Overload n)) is = absurd (false≢true is)
sure line Times (OfLoad (LateFlow f)) is = absurd (false≢true is)
sure line Times (OfLoad (NeedTooOld d)) is = absurd (false≢true is)
sure line Times (OfLoad (AskedTooOften f)) is = absurd (false≢true is)

all_shown : (asked : Asked) (line : ProductLine) (reported : List ReportedFinding) → SomePossible line → AreReported line None reported
    → is_any_hiding asked reported ≡ false
    → AreAllShown asked line
all_shown asked line reported some are none = record {
  some = some;
  each = λ v finding has. elim (cases_Bool (does_hide asked finding)) [
    | inl is ↦
        let t = are.complete v finding has (sure line asked finding is) tt in
        let hiding : does_hide asked t.0.finding ≡ true = ap (λ r. hides asked r.number) t.2 ∙ is in
        absurd (true≢false (sym (any_of (λ one. does_hide asked one.finding) reported t.0 t.1 hiding) ∙ none))
    | inr is ↦ is
  ];
}

pub is_shown : (asked : Asked) (line : ProductLine) (looked : LookedAt) (reported : List ReportedFinding) → is_hidden asked (many_of looked) reported ≡ false
    → AreReportedAt line looked reported → IsShownLine asked line looked reported
is_shown asked line (Full variants) reported none found =
    record { found = found; few = refl; shown = all_shown asked line reported found.some found.are_reported none }
is_shown asked line (TooMany many) reported none found = absurd (true≢false none)
