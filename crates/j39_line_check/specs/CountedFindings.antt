-- The findings that count what is there, in full variants: too few addresses, too high a load, late flows, old needs, and who is contested at an
-- address to which units move.
use Rattle.std.specs.Prelude.{◌≡◌, ◌⊎◌, ℕ, ◌+◌, ◌<◌, List, [], ◌∷◌, ◌++◌, Bool, true, false, ◌&&◌, not, filter, is_some, map, Some}
use Rattle.std.specs.List.{AllZip, slice_get}
use Rattle.std.specs.Option.{option_map_or}
use Rattle.j39_load.specs.declared.findings.load_finding.LoadFinding.TheVariants.{NeedTooOld}
use Rattle.j39_variants.specs.Variants.{IsEarlier}
use Rattle.j39_variants.specs.declared.line.ProductLine.{ProductLine}
use Rattle.j39_line_findings.specs.AllVariants.{IsOneOf}
use Rattle.j39_line_findings.specs.Best.{AreBest, AreInOrder, IsWitnessAmong, amount_in, rank_in}
use Rattle.j39_line_findings.specs.Conditions.{goes_by_conditions}
use Rattle.j39_line_findings.specs.InFile.{amount_of, rank_of}
use Rattle.j39_line_findings.specs.LineFound.{AreVariantFindings, IsFound}
use Rattle.j39_line_findings.specs.declared.full.FullAlternatives.{FullAlternatives}
use Rattle.j39_line_findings.specs.declared.line_finding.LineFinding.{LineFinding}
use Rattle.j39_line_findings.specs.declared.line_finding.LineFinding.TheVariants.{OfLoad}
use Rattle.j39_line_findings.specs.declared.witnessed.Witnessed.{Witnessed}
use Rattle.j39_line_check.specs.SetVariants.{takes_alone}

-- ---- what is looked for in a variant

-- it takes those alternatives alone that are full for a need
abbrev pub takes_full_of_need : ProductLine → FullAlternatives → List ℕ → ℕ → Bool
takes_full_of_need line full v d = option_map_or (λ set. is_some line.plan.timing && takes_alone set.items v) (slice_get full.of_needs.items d) false

-- full alternatives alone, by which a finding is looked for: of a need that is too old, those for it; of each other one, those of the line
abbrev pub takes_full_for : ProductLine → FullAlternatives → List ℕ → LineFinding → Bool
takes_full_for line full v (OfLoad (NeedTooOld d)) = takes_full_of_need line full v d
takes_full_for line full v _ = takes_alone full.all.items v

-- of those that count what is there
abbrev pub is_looked_for : ProductLine → FullAlternatives → List ℕ → LineFinding → Bool
is_looked_for line full v finding = not (goes_by_conditions line finding) && takes_full_for line full v finding

-- ---- what is reported of these variants

-- by the variant at a place
abbrev pub counted_at : ℕ → LineFinding → Witnessed
counted_at k finding = record { finding = finding; variant = k; counted = true }

abbrev pub counted_of : ProductLine → FullAlternatives → ℕ → List ℕ → List LineFinding → List Witnessed
counted_of line full k v findings = map (counted_at k) (filter (is_looked_for line full v) findings)

abbrev pub all_counted : ProductLine → FullAlternatives → ℕ → List (List ℕ) → List (List LineFinding) → List Witnessed
all_counted line full k [] each = []
all_counted line full k (v ∷ variants) [] = []
all_counted line full k (v ∷ variants) (findings ∷ each) = counted_of line full k v findings ++ all_counted line full (k + 1) variants each

-- the best of what is looked for, where these are all findings of each
pub record AreCountedIn (line : ProductLine) (full : FullAlternatives) (variants : List (List ℕ)) (reported : List Witnessed) : Type 0 where
  pub each : List (List LineFinding)
  pub are_each : AllZip (AreVariantFindings line) variants each
  pub best : AreBest (all_counted line full 0 variants each) reported

-- ---- the same in plain words

-- the variant that is reported as the witness of a finding has it, and it is looked for there
pub record IsCountedWitness (line : ProductLine) (full : FullAlternatives) (variants : List (List ℕ)) (w : Witnessed) : Type 0 where
  pub variant : List ℕ
  pub at : slice_get variants w.variant ≡ Some variant
  pub findings : List LineFinding
  pub are_findings : AreVariantFindings line variant findings
  pub one : IsFound findings w.finding
  pub looked_for : is_looked_for line full variant w.finding ≡ true

-- a finding that a variant has is reported: with a greater number of addresses or bits, or with this number, and of no later variant
pub record IsReportedOfNoLater (variants : List (List ℕ)) (reported : List Witnessed) (v : List ℕ) (finding : LineFinding) : Type 0 where
  pub witness : Witnessed
  pub is_reported : IsWitnessAmong reported witness
  pub has_rank : rank_in witness ≡ rank_of finding
  pub variant : List ℕ
  pub at : slice_get variants witness.variant ≡ Some variant
  pub as_good : (amount_of finding < amount_in witness) ⊎ ((amount_of finding ≡ amount_in witness) × ¬ IsEarlier v variant)

-- all that is looked for in these variants is reported, and nothing else: each finding once, by number and then by places, with the greatest
-- number of addresses or bits, and with the first variant that has it so
pub record AreCountedFindings (line : ProductLine) (full : FullAlternatives) (variants : List (List ℕ)) (reported : List Witnessed) : Type 0 where
  pub sound : (w : Witnessed) → IsWitnessAmong reported w → IsCountedWitness line full variants w
  pub complete : (v : List ℕ) → IsOneOf variants v → (findings : List LineFinding) × AreVariantFindings line v findings
      × ((finding : LineFinding) → IsFound findings finding → is_looked_for line full v finding ≡ true → IsReportedOfNoLater variants reported v finding)
  pub in_order : AreInOrder reported
