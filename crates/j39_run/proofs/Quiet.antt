-- Whether a claim is undelivered can be tested.
use Rattle.std.proofs.Common.{◌≡◌, ◌↔◌, IsTrue, ℕ, zero, suc, Bool, true, false, List, [], ◌∷◌, get_or, refl, sym, ap, ◌∙◌, arith}
use Rattle.std.proofs.lemmas.Bool.{and_parts, and_from, true≢false}
use Rattle.std.specs.List.{Contains, list_all}
use Rattle.j39_claim.specs.declared.item.Say.{Say}
use Rattle.j39_claim.specs.declared.item.Say.TheVariants.{Claim, Cannot}
use Rattle.j39_claim.specs.declared.item.Item.{Item}
use Rattle.j39_claim.specs.declared.item.Item.TheVariants.{AddressClaimed, Request}
use Rattle.j39_bus.specs.BusState.{BusState, undelivered}
use Rattle.j39_world.specs.Sound.{IsQuiet}

abbrev is_request : Item → Bool
is_request (AddressClaimed say) = false
is_request Request = true

abbrev IsUnsent : List Item → Type 0
IsUnsent items = ((a : ℕ) → ¬ Contains items (AddressClaimed (Claim a))) × ¬ Contains items (AddressClaimed Cannot)

-- no claim is among requests
unyielded : (items : List Item) (say : Say) → list_all is_request items ≡ true → ¬ Contains items (AddressClaimed say)
unyielded [] say all (k, inside, is) = absurd (omega arith)
unyielded (item ∷ items) say all (zero, inside, is) =
    let parts = and_parts (is_request item) (list_all is_request items) all in
    true≢false (sym parts.0 ∙ ap is_request is)
unyielded (item ∷ items) say all (suc k, inside, is) =
    let parts = and_parts (is_request item) (list_all is_request items) all in
    unyielded items say parts.1 (k, omega arith, is)

here : (item : Item) (items : List Item) → Contains (item ∷ items) item
here item items = (zero, omega arith, refl)

behind : (item : Item) (items : List Item) (x : Item) → Contains items x → Contains (item ∷ items) x
behind item items x (k, inside, is) = (suc k, omega arith, is)

requests : (items : List Item) → IsUnsent items → list_all is_request items ≡ true
requests [] none = refl
requests (AddressClaimed (Claim a) ∷ items) none = absurd (none.0 a (here (AddressClaimed (Claim a)) items))
requests (AddressClaimed Cannot ∷ items) none = absurd (none.1 (here (AddressClaimed Cannot) items))
requests (Request ∷ items) none =
    requests items (
      (λ a there. none.0 a (behind Request items (AddressClaimed (Claim a)) there)),
      (λ there. none.1 (behind Request items (AddressClaimed Cannot) there)),
    )

-- a test holds of all elements where it holds at each place, and past the last
at_each : {X : Type 0} (p : X → Bool) (xs : List X) (d : X) → p d ≡ true → list_all p xs ≡ true → (k : ℕ) → p (get_or xs k d) ≡ true
at_each p [] d past all k = past
at_each p (x ∷ xs) d past all zero = (and_parts (p x) (list_all p xs) all).0
at_each p (x ∷ xs) d past all (suc k) = at_each p xs d past (and_parts (p x) (list_all p xs) all).1 k

of_all : {X : Type 0} (p : X → Bool) (xs : List X) (d : X) → ((k : ℕ) → p (get_or xs k d) ≡ true) → list_all p xs ≡ true
of_all p [] d each = refl
of_all p (x ∷ xs) d each = and_from (p x) (list_all p xs) (each 0) (of_all p xs d (λ k. each (suc k)))

abbrev is_quiet_row : List (List Item) → Bool
is_quiet_row row = list_all (λ items. list_all is_request items) row

abbrev is_quiet : List (List (List Item)) → Bool
is_quiet table = list_all is_quiet_row table

pub quiet_test : (b : BusState) → (quiet : Bool) × (IsTrue quiet ↔ IsQuiet (undelivered b))
quiet_test b = (is_quiet b.claims, (quiet, all))
  where
    at : is_quiet b.claims ≡ true → (u v : ℕ) → list_all is_request (undelivered b u v) ≡ true
    at holds u v = at_each (λ items. list_all is_request items) (get_or b.claims u []) [] refl (at_each is_quiet_row b.claims [] refl holds u) v

    quiet : is_quiet b.claims ≡ true → IsQuiet (undelivered b)
    quiet holds u v = ((λ a. unyielded (undelivered b u v) (Claim a) (at holds u v)), unyielded (undelivered b u v) Cannot (at holds u v))

    all : IsQuiet (undelivered b) → is_quiet b.claims ≡ true
    all unsent_ones = of_all is_quiet_row b.claims []
        (λ u. of_all (λ items. list_all is_request items) (get_or b.claims u []) [] (λ v. requests (undelivered b u v) (unsent_ones u v)))
