-- What is found of a possible variant is found of the full one that covers it.
use Rattle.std.proofs.Common.{◌≡◌, ℕ, false, List, None, refl, sym, ◌∙◌, inl, inr, arith}
use Rattle.std.proofs.lemmas.Bool.{true≢false}
use Rattle.j39_variants.specs.declared.line.ProductLine.{ProductLine}
use Rattle.j39_line_findings.specs.PossibleVariants.{IsPossible}
use Rattle.j39_line_findings.specs.LineFound.{IsFindingReported, IsFound}
use Rattle.j39_line_findings.specs.declared.line_finding.LineFinding.{LineFinding}
use Rattle.j39_line_findings.specs.declared.line_finding.LineFinding.TheVariants.{OfPlan, OfLoad}
use Rattle.j39_line_findings.specs.declared.witnessed.Witnessed.{Witnessed}
use Rattle.j39_line_laws.specs.Covering.{IsCoveredBy}
use Rattle.j39_line_laws.specs.FoundOfCovering.{IsAbsentOrFound, is_by_absence}
use Rattle.j39_line_laws.proofs.FoundOfCovering.{are_found}
use Rattle.j39_line_laws.proofs.FullCovers.{has_full_cover_for}
use Rattle.j39_line_laws.proofs.Possible.{possible_too}
use Rattle.j39_line_laws.specs.FoundOfFull.{FullVariantsHaveWhatIsFound, IsPossibleFull, ReportedOfFullIsReportedOfAll}

-- each possible variant is covered by a possible full one
pub full_cover : (line : ProductLine) (v : List ℕ) → IsPossible line v → (w : List ℕ) × IsPossibleFull line w × IsCoveredBy line v w
full_cover line v possible =
    let (w, is_variant, full, covered, in_box) = has_full_cover_for line None v possible.is_variant (λ c p at. refl) in
    let also = possible_too line v w possible.is_variant is_variant covered possible.possible in
    (w, record { possible = record { is_variant = is_variant; possible = also }; full = full }, covered)

pub have_what_is_found : (line : ProductLine) → FullVariantsHaveWhatIsFound line
have_what_is_found line v possible here of_here =
    let (w, full, covered) = full_cover line v possible in
    (w, full, λ there of_there. are_found line v w covered here there of_here of_there)

-- what is reported of one with its number and places and at least its number of addresses or bits is reported of it
reported_too : (reported : List Witnessed) (there : List LineFinding) (finding : LineFinding)
    → ((other : LineFinding) → IsFound there other → is_by_absence other ≡ false → IsFindingReported reported other) → is_by_absence finding ≡ false
    → IsAbsentOrFound there finding → IsFindingReported reported finding
reported_too reported there finding all present (inl absent) = absurd (true≢false (sym absent ∙ present))
reported_too reported there finding all present (inr (other, one, also, rank, amount)) =
    let (w, among, its, more) = all other one also in
    (w, among, its ∙ rank, omega (arith, amount, more))

pub reported_of_all : (line : ProductLine) → ReportedOfFullIsReportedOfAll line
reported_of_all line reported each = record {
  plans = λ v possible here of_here finding one present.
      let (w, full, covered) = full_cover line v possible in
      let (there, of_there, all) = each w full in
      reported_too reported there (OfPlan finding) all present ((are_found line v w covered here there of_here of_there).plans finding one);
  loads = λ good v possible here of_here finding one present.
      let (w, full, covered) = full_cover line v possible in
      let (there, of_there, all) = each w full in
      reported_too reported there (OfLoad finding) all present ((are_found line v w covered here there of_here of_there).loads
      (good w full there of_there) finding one);
}
