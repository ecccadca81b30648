-- Variants that cover others: they have all that these have.
use Rattle.std.specs.Prelude.{◌≡◌, ℕ, List, Contains, true, Option, Some, None}
use Rattle.std.specs.List.{slice_get}
use Rattle.j39_variants.specs.declared.line.ProductLine.{ProductLine}
use Rattle.j39_variants.specs.Variants.{is_in, IsVariant}
use Rattle.j39_line_findings.specs.FullVariants.{alternative_at, alternatives_of, does_need_admit, full_alternatives, is_covered, is_covered_for}

-- each alternative that the first variant takes is covered by the one that the second takes of the same choice
abbrev pub IsCoveredBy : ProductLine → List ℕ → List ℕ → Type 0
IsCoveredBy line v w = (c p : ℕ) → slice_get v c ≡ Some p
    → (q : ℕ) × (slice_get w c ≡ Some q) × (is_covered line (alternative_at c p) (alternative_at c q) ≡ true)

-- a variant that takes full alternatives alone
abbrev pub IsFullVariant : ProductLine → List ℕ → Type 0
IsFullVariant line variant = is_in variant (full_alternatives line (alternatives_of line) None) ≡ true

-- the variant is covered by a full one
abbrev pub HasFullCover : ProductLine → List ℕ → Type 0
HasFullCover line v = (w : List ℕ) × IsVariant line.choices.items w × IsFullVariant line w × IsCoveredBy line v w

-- ---- of a need, where there is one

-- each alternative that the first variant takes is covered for the need by the one that the second takes of the same choice
abbrev pub IsCoveredFor : ProductLine → Option ℕ → List ℕ → List ℕ → Type 0
IsCoveredFor line need v w = (c p : ℕ) → slice_get v c ≡ Some p
    → (q : ℕ) × (slice_get w c ≡ Some q) × (is_covered_for line (alternatives_of line) need (alternative_at c p) (alternative_at c q) ≡ true)

-- each alternative that the variant takes is in the box of the need
abbrev pub IsInBoxOf : ProductLine → Option ℕ → List ℕ → Type 0
IsInBoxOf line need variant = (c p : ℕ) → slice_get variant c ≡ Some p → does_need_admit line need (alternative_at c p) ≡ true

-- each is full for it
abbrev pub TakesFullAlone : ProductLine → Option ℕ → List ℕ → Type 0
TakesFullAlone line need variant = (c p : ℕ) → slice_get variant c ≡ Some p
    → Contains (full_alternatives line (alternatives_of line) need) (alternative_at c p)

-- a variant that takes alternatives alone that are full for it, of each choice one
pub record IsFullFor (line : ProductLine) (need : Option ℕ) (variant : List ℕ) : Type 0 where
  pub in_box : is_in variant (full_alternatives line (alternatives_of line) need) ≡ true
  pub each : TakesFullAlone line need variant

-- the variant is covered for the need by a full one, in which it is asked for
abbrev pub HasFullCoverFor : ProductLine → Option ℕ → List ℕ → Type 0
HasFullCoverFor line need v = (w : List ℕ) × IsVariant line.choices.items w × IsFullFor line need w × IsCoveredFor line need v w × IsInBoxOf line need w
