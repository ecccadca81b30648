-- What holds of the element at a place.
use Rattle.std.proofs.Common.{◌≡◌, ℕ, List, sym, subst}
use Rattle.std.specs.List.{HoldsAt}

pub at_place : {X : Type 0} (P : X → Type 0) (xs : List X) (i : ℕ) (x : X) → HoldsAt (λ y. y ≡ x) xs i → P x → HoldsAt P xs i
at_place P xs i x at h = λ d. subst P (sym (at d)) h
