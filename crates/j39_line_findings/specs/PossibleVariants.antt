-- Possible variants of a line of vehicles.
use Rattle.std.specs.Prelude.{◌≡◌, ℕ, List, true}
use Rattle.j39_variants.specs.declared.line.ProductLine.{ProductLine}
use Rattle.j39_variants.specs.Variants.{IsVariant, is_possible}

-- a possible variant of a line
pub record IsPossible (line : ProductLine) (variant : List ℕ) : Type 0 where
  pub is_variant : IsVariant line.choices.items variant
  pub possible : is_possible line.nevers.items variant ≡ true
