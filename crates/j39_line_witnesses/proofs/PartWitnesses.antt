-- Whether some possible variant has a part.
use Rattle.std.specs.declared.alloc.Global.{Global}
use Rattle.std.proofs.Common.{◌≡◌, ℕ, Bool, true, false, not, ◌&&◌, ◌||◌, List, [], ◌∷◌, ◌++◌, Option, Some, None, Vec, is_some, refl, sym, ap, ◌∙◌}
use Rattle.j39_variants.specs.declared.line.ProductLine.{ProductLine}
use Rattle.j39_line_findings.specs.Conditions.{is_part_there, meets_any, where_together}
use Rattle.j39_line_findings.specs.declared.part.LinePart.{LinePart}
use Rattle.j39_line_witnesses.specs.FirstMeeting.{IsWitnessOf}
use Rattle.j39_line_witnesses.specs.PossibleParts.{ArePartsPossible, IsPartPossible}

alone : (b : Bool) → (((b && true) && not false) || false) ≡ b
alone true = refl
alone false = refl

meets_alone : (line : ProductLine) (v : List ℕ) (part : LinePart) → meets_any line v (where_together (part ∷ [])) ≡ is_part_there line v part
meets_alone line v part = alone (is_part_there line v part)

-- there is a variant that meets the condition that it is there, or none does
pub by_witness : (line : ProductLine) (part : LinePart) (found : Option (Vec ℕ Global)) (some : Bool) → some ≡ is_some found
    → IsWitnessOf line (where_together (part ∷ [])) found → IsPartPossible line part some
by_witness line part None some is none = rw is (λ v possible. sym (meets_alone line v part) ∙ none v possible)
by_witness line part (Some v) some is first = rw is (v.items, first.possible, sym (meets_alone line v.items part) ∙ first.meets)

-- one part more
pub one_more : (line : ProductLine) (parts : List LinePart) (flags : List Bool) (part : LinePart) (flag : Bool) → IsPartPossible line part flag
    → ArePartsPossible line parts flags → ArePartsPossible line (parts ++ part ∷ []) (flags ++ flag ∷ [])
one_more line [] flags part flag is are = (flag, [], ap (λ (fs : List Bool). fs ++ flag ∷ []) are, is, refl)
one_more line (p ∷ parts) flags part flag is are =
    (are.0, are.1 ++ flag ∷ [], ap (λ (fs : List Bool). fs ++ flag ∷ []) are.2, are.3, one_more line parts are.1 part flag is are.4)
