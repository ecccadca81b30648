-- The first possible variant of a line that meets a condition.
use Rattle.std.specs.declared.alloc.Global.{Global}
use Rattle.std.specs.Prelude.{◌≡◌, ℕ, List, true, false, MatchOption, Option, Vec}
use Rattle.j39_variants.specs.declared.line.ProductLine.{ProductLine}
use Rattle.j39_variants.specs.Variants.{IsEarlier}
use Rattle.j39_line_findings.specs.Conditions.{Condition, meets_any}
use Rattle.j39_line_findings.specs.PossibleVariants.{IsPossible}

-- no possible variant meets one of these
abbrev pub NoneMeets : ProductLine → List Condition → Type 0
NoneMeets line conditions = (v : List ℕ) → IsPossible line v → meets_any line v conditions ≡ false

-- this possible variant meets one of these, and no earlier one does
pub record IsFirstMeeting (line : ProductLine) (conditions : List Condition) (variant : List ℕ) : Type 0 where
  pub possible : IsPossible line variant
  pub meets : meets_any line variant conditions ≡ true
  pub first : (other : List ℕ) → IsPossible line other → meets_any line other conditions ≡ true → ¬ IsEarlier other variant

-- which it is, or that there is none
abbrev pub IsWitnessOf : ProductLine → List Condition → Option (Vec ℕ Global) → Type 0
IsWitnessOf line conditions found = MatchOption found (NoneMeets line conditions) (λ v. IsFirstMeeting line conditions v.items)
