-- All that is known of a variant of a line of vehicles.
use Rattle.std.specs.Prelude.{ℕ, List}
use Rattle.j39_answer.specs.PlanAnswers.{IsPlanAnswer}
use Rattle.j39_variants.specs.declared.line.ProductLine.{ProductLine}
use Rattle.j39_variants.specs.VariantPlans.{IsVariantPlan}
use Rattle.j39_line_findings.specs.There.{IsPresent}
use Rattle.j39_line_findings.specs.declared.found.VariantAnswer.{VariantAnswer}

-- its plan, all that is known of this, and what of the file is there
pub record IsVariantAnswer (line : ProductLine) (variant : List ℕ) (known : VariantAnswer) : Type 0 where
  pub is_there : IsPresent line variant known.there
  pub is_plan : IsVariantPlan line variant known.plan
  pub is_answer : IsPlanAnswer known.plan known.answer
