-- Laws of lines of vehicles.
use Rattle.std.specs.Prelude.{◌≡◌, ℕ, List, []}
use Rattle.toml.specs.Data.{Members}
use Rattle.j39_variants.specs.declared.line.Alternative.{Alternative}
use Rattle.j39_variants.specs.declared.line.ProductLine.{ProductLine}
use Rattle.j39_variants.specs.DescribedLines.{DescribesProductLine}
use Rattle.j39_variants.specs.VariantPlans.{IsVariantPlan}
use Rattle.j39_variants.specs.Variants.{IsFirstTaking, IsVariant}

-- a plan without choices has one variant, which takes nothing, and whose plan it is
pub record IsOfOneVariant (line : ProductLine) : Type 0 where
  pub one : (variant : List ℕ) → IsVariant line.choices.items variant → variant ≡ []
  pub plan : IsVariantPlan line [] line.plan

abbrev pub IsOnePlan : Members → ProductLine → Type 0
IsOnePlan tree line = DescribesProductLine tree line → line.choices.items ≡ [] → IsOfOneVariant line

-- one variant is the first one
abbrev pub HasOneFirst : ProductLine → List Alternative → Type 0
HasOneFirst line wanted = (variant other : List ℕ) → IsFirstTaking line wanted variant → IsFirstTaking line wanted other → variant ≡ other
