-- Which parts of a line of vehicles some possible variant has.
use Rattle.std.specs.Prelude.{◌≡◌, ℕ, List, [], ◌∷◌, Bool, true, false}
use Rattle.j39_variants.specs.declared.line.ProductLine.{ProductLine}
use Rattle.j39_line_findings.specs.Conditions.{is_part_there}
use Rattle.j39_line_findings.specs.PossibleVariants.{IsPossible}
use Rattle.j39_line_findings.specs.declared.part.LinePart.{LinePart}

-- some possible variant has a part, or none does
abbrev pub IsPartPossible : ProductLine → LinePart → Bool → Type 0
IsPartPossible line part true = (v : List ℕ) × IsPossible line v × (is_part_there line v part ≡ true)
IsPartPossible line part false = (v : List ℕ) → IsPossible line v → is_part_there line v part ≡ false

-- of each of these parts, in order
abbrev pub ArePartsPossible : ProductLine → List LinePart → List Bool → Type 0
ArePartsPossible line [] flags = flags ≡ []
ArePartsPossible line (part ∷ parts) flags =
    (flag : Bool) × (others : List Bool) × (flags ≡ flag ∷ others) × IsPartPossible line part flag × ArePartsPossible line parts others
