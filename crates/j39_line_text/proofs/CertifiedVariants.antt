-- A possible variant of which nothing is found is certified.
use Rattle.std.proofs.Common.{◌≡◌, ℕ, List, [], ◌∷◌, ◌++◌, Bool, false, Option, Some, None, inl, inr, length, map, refl, ap, arith}
use Rattle.std.specs.List.{filter, list_any}
use Rattle.std.specs.Prelude.{◌==◌}
use Rattle.std.proofs.lemmas.Bool.{cases_Bool, eqb-true, true≢false}
use Rattle.j39_variants.specs.declared.line.ProductLine.{ProductLine}
use Rattle.j39_line_findings.specs.PossibleVariants.{IsPossible}
use Rattle.j39_line_check.specs.LineChecks.{AreReported, SomePossible}
use Rattle.j39_line_check.specs.declared.answer.ReportedFinding.{ReportedFinding}
use Rattle.j39_line_text.specs.LineCheckText.{IsCertifiedLine, IsCertifiedVariant, is_some_reported}

nothing : {X : Type 0} (A : Type 0) (x : X) (xs : List X) → (x ∷ xs) ≡ [] → A
nothing A x xs is = let none = ap length is in absurd (omega (arith, none))

pub none_of_both : {X : Type 0} (xs ys : List X) → xs ++ ys ≡ [] → (xs ≡ []) × (ys ≡ [])
none_of_both [] ys is = (refl, is)
none_of_both (x ∷ xs) ys is = nothing (((x ∷ xs) ≡ []) × (ys ≡ [])) x (xs ++ ys) is

pub none_made : {X Y : Type 0} (f : X → Y) (xs : List X) → map f xs ≡ [] → xs ≡ []
none_made f [] is = refl
none_made f (x ∷ xs) is = nothing ((x ∷ xs) ≡ []) (f x) (map f xs) is

pub none_passes : {X : Type 0} (p : X → Bool) (xs : List X) → filter p xs ≡ [] → list_any p xs ≡ false
none_passes p [] is = refl
none_passes p (x ∷ xs) is = elim (cases_Bool (p x)) [
  | inl passes ↦ nothing (list_any p (x ∷ xs) ≡ false) x (filter p xs) (rw passes at is)
  | inr fails ↦ rw fails (none_passes p xs (rw fails at is))
]

pub certified_line : (line : ProductLine) (many : Option ℕ) (reported : List ReportedFinding)
    → ((other : ProductLine) → AreReported other None [] → (v : List ℕ) → IsPossible other v → IsCertifiedVariant other v)
    → is_some_reported many reported ≡ false → SomePossible line → AreReported line many reported → IsCertifiedLine line
certified_line line None [] certified none some are = record { some = some; each = certified line are }
certified_line line None (t ∷ reported) certified none some are = elim (cases_Bool (length (t ∷ reported) == 0)) [
  | inl same ↦ let empty = eqb-true (length (t ∷ reported)) 0 same in absurd (omega (arith, empty))
  | inr other ↦ absurd (true≢false (rw other at none))
]
certified_line line (Some many) reported certified none some are = absurd (true≢false none)
