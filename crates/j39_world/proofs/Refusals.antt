-- A table of refusals of which none holds.
use Rattle.std.proofs.Common.{◌≡◌, Bool, true, false, List, [], ◌∷◌, refl, None}
use Rattle.j39_id.specs.FirstFault.{first_fault}

abbrev pub NoneHold : {E : Type 0} → List (E × Bool) → Type 0
NoneHold [] = Unit {0}
NoneHold (refusal ∷ rest) = (refusal.1 ≡ false) × NoneHold rest

pub none_hold : {E : Type 0} (refusals : List (E × Bool)) → first_fault refusals ≡ None → NoneHold refusals
none_hold [] none = tt
none_hold ((e, true) ∷ rest) some = absurd (cc some)
none_hold ((e, false) ∷ rest) none = (refl, none_hold rest none)

pub none_first : {E : Type 0} (refusals : List (E × Bool)) → NoneHold refusals → first_fault refusals ≡ None
none_first [] none = refl
none_first (refusal ∷ rest) none = rw (none.0) (none_first rest none.1)
