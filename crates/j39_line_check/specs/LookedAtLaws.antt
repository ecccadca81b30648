-- Laws of the variants that are looked at.
use Rattle.std.specs.declared.alloc.Global.{Global}
use Rattle.std.specs.Prelude.{◌≡◌, ℕ, List, true, is_some, Some, Vec}
use Rattle.std.specs.List.{slice_get}
use Rattle.j39_network.specs.declared.plan.need_plan.NeedPlan.{NeedPlan}
use Rattle.j39_variants.specs.declared.line.Alternative.{Alternative}
use Rattle.j39_variants.specs.declared.line.ProductLine.{ProductLine}
use Rattle.j39_line_findings.specs.AllVariants.{IsOneOf}
use Rattle.j39_line_findings.specs.FullVariants.{AreFullAlternatives, alternatives_of, full_of_need}
use Rattle.j39_line_findings.specs.PossibleVariants.{IsPossible}
use Rattle.j39_line_findings.specs.declared.full.FullAlternatives.{FullAlternatives}
use Rattle.j39_line_check.specs.CountedFindings.{takes_full_of_need}
use Rattle.j39_line_check.specs.FullSets.{AreLookedAt}
use Rattle.j39_line_check.specs.SetVariantLaws.{TakesEachOf}

-- the alternatives that are full for the need at a place
pub record IsListOf (line : ProductLine) (full : FullAlternatives) (d : ℕ) (need : NeedPlan) : Type 0 where
  pub list : Vec Alternative Global
  pub at : slice_get full.of_needs.items d ≡ Some list
  pub is_full : list.items ≡ full_of_need line (alternatives_of line) d need

abbrev pub NeedsHaveTheirLists : Type 0
NeedsHaveTheirLists = (line : ProductLine) (full : FullAlternatives) → AreFullAlternatives line full → (d : ℕ) (need : NeedPlan)
    → slice_get line.plan.needs.items d ≡ Some need → IsListOf line full d need

-- a possible variant that takes full alternatives of the line alone is looked at; so is one that takes those alone that are full for a need,
-- where something is known of the bus
pub record AreAllLookedAt (line : ProductLine) (full : FullAlternatives) (variants : List (List ℕ)) : Type 0 where
  pub of_line : (v : List ℕ) → IsPossible line v → TakesEachOf full.all.items v → IsOneOf variants v
  pub of_need : is_some line.plan.timing ≡ true → (v : List ℕ) → IsPossible line v → (d : ℕ) (list : Vec Alternative Global)
      → slice_get full.of_needs.items d ≡ Some list → TakesEachOf list.items v → IsOneOf variants v × (takes_full_of_need line full v d ≡ true)

abbrev pub FullVariantsAreLookedAt : Type 0
FullVariantsAreLookedAt = (line : ProductLine) (full : FullAlternatives) (variants : List (List ℕ)) → AreLookedAt line full variants
    → AreAllLookedAt line full variants
