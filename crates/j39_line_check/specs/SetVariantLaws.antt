-- Laws of variants that take alternatives of a set alone, and of their number.
use Rattle.std.specs.Prelude.{◌≡◌, ℕ, ◌<◌, List, Contains, true, Some, length}
use Rattle.std.specs.List.{slice_get}
use Rattle.j39_variants.specs.Variants.{IsVariant, is_in}
use Rattle.j39_variants.specs.declared.line.Alternative.{Alternative}
use Rattle.j39_variants.specs.declared.line.Choice.{Choice}
use Rattle.j39_variants.specs.declared.line.ProductLine.{ProductLine}
use Rattle.j39_line_findings.specs.FullVariants.{alternative_at}
use Rattle.j39_line_findings.specs.declared.full.FullAlternatives.{FullAlternatives}
use Rattle.j39_line_check.specs.FullSets.{IsNumberOfVariants}
use Rattle.j39_line_check.specs.SetVariants.{has_each_choice, takes_alone}

-- each alternative that a variant takes is in the set
abbrev pub TakesEachOf : List Alternative → List ℕ → Type 0
TakesEachOf set v = (c p : ℕ) → slice_get v c ≡ Some p → Contains set (alternative_at c p)

-- each alternative of the set is of one of these choices
abbrev pub AreOfChoices : List Choice → List Alternative → Type 0
AreOfChoices choices set = (a : Alternative) → Contains set a → a.choice < length choices

-- a variant takes alternatives of a set alone, exactly where each that it takes is in the set; exactly where it is in the box of the set, and
-- this names some of each choice
pub record IsOfSet (choices : List Choice) (set : List Alternative) (v : List ℕ) : Type 0 where
  pub each : takes_alone set v ≡ true → TakesEachOf set v
  pub alone : TakesEachOf set v → takes_alone set v ≡ true
  pub in_box : AreOfChoices choices set → takes_alone set v ≡ true → is_in v set ≡ true
  pub of_box : has_each_choice choices set ≡ true → is_in v set ≡ true → takes_alone set v ≡ true

abbrev pub VariantsAreOfSets : Type 0
VariantsAreOfSets = (choices : List Choice) (set : List Alternative) (v : List ℕ) → IsVariant choices v → IsOfSet choices set v

-- there is one number of variants
abbrev pub HasOneNumber : ProductLine → FullAlternatives → Type 0
HasOneNumber line full = (m n : ℕ) → IsNumberOfVariants line full m → IsNumberOfVariants line full n → m ≡ n
