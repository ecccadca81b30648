-- What has a place in the plan of a variant has it alone.
use Rattle.std.proofs.Common.{◌≡◌, ℕ, zero, suc, ◌+◌, ◌≤◌, ◌==◌, Bool, true, false, List, [], ◌∷◌, Some, refl, sym, ◌∙◌, ap, inl, inr, arith}
use Rattle.std.proofs.lemmas.Bool.{cases_eq, eq-eqb, ne_eqb}
use Rattle.std.proofs.lemmas.Option.{none-some, same_Some}
use Rattle.j39_variants.specs.VariantPlans.{place_at, places}

from_least : (bs : List Bool) (n i p : ℕ) → place_at (places n bs) i ≡ Some p → n ≤ p
from_least [] n zero p at = absurd (none-some p at)
from_least [] n (suc i) p at = absurd (none-some p at)
from_least (true ∷ bs) n zero p at = let same = same_Some n p at in omega (arith, same)
from_least (true ∷ bs) n (suc i) p at = let rest = from_least bs (n + 1) i p at in omega (arith, rest)
from_least (false ∷ bs) n zero p at = absurd (none-some p at)
from_least (false ∷ bs) n (suc i) p at = from_least bs n i p at

named_once : (bs : List Bool) (n i j p : ℕ) → place_at (places n bs) i ≡ Some p → place_at (places n bs) j ≡ Some p → i ≡ j
named_once [] n zero j p at also = absurd (none-some p at)
named_once [] n (suc i) j p at also = absurd (none-some p at)
named_once (true ∷ bs) n zero zero p at also = refl
named_once (true ∷ bs) n zero (suc j) p at also =
    let same = same_Some n p at in let from = from_least bs (n + 1) j p also in absurd (omega (arith, same, from))
named_once (true ∷ bs) n (suc i) zero p at also =
    let same = same_Some n p also in let from = from_least bs (n + 1) i p at in absurd (omega (arith, same, from))
named_once (true ∷ bs) n (suc i) (suc j) p at also = ap suc (named_once bs (n + 1) i j p at also)
named_once (false ∷ bs) n zero j p at also = absurd (none-some p at)
named_once (false ∷ bs) n (suc i) zero p at also = absurd (none-some p also)
named_once (false ∷ bs) n (suc i) (suc j) p at also = ap suc (named_once bs n i j p at also)

-- two have one place in the plan exactly where they have one in the file
pub same_places : (bs : List Bool) (i j p q : ℕ) → place_at (places 0 bs) i ≡ Some p → place_at (places 0 bs) j ≡ Some q → (p == q) ≡ (i == j)
same_places bs i j p q at also = elim (cases_eq i j) [
  | inl same ↦
      let one : p ≡ q = same_Some p q (sym at ∙ ap (place_at (places 0 bs)) same ∙ also) in
      eq-eqb p q one ∙ sym (eq-eqb i j same)
  | inr differ ↦ ne_eqb p q (λ one. differ (named_once bs 0 i j p at (also ∙ ap Some (sym one)))) ∙ sym (ne_eqb i j differ)
]
