-- No claim is undelivered exactly where all that is undelivered are requests.
use Rattle.std.proofs.Common.{◌≡◌, ℕ, zero, suc, Bool, true, List, [], ◌∷◌, refl, sym, ap, ◌∙◌, arith}
use Rattle.std.proofs.lemmas.Bool.{and_parts, and_from, true≢false}
use Rattle.std.specs.List.{Contains, list_all, range_with_len}
use Rattle.j39_claim.specs.declared.item.Say.{Say}
use Rattle.j39_claim.specs.declared.item.Say.TheVariants.{Claim, Cannot}
use Rattle.j39_claim.specs.declared.item.Item.{Item}
use Rattle.j39_claim.specs.declared.item.Item.TheVariants.{AddressClaimed, Request}
use Rattle.j39_bus.specs.Queued.{IsTable, pair_in}
use Rattle.j39_world.specs.Sound.{IsQuiet}
use Rattle.j39_bus.specs.inside.Claims.{are_requests, is_request}
use Rattle.j39_bus.proofs.Outside.{each_list}
use Rattle.j39_bus.proofs.Rested.{all_below}

-- no claim is in a list of requests
unsent : (items : List Item) (say : Say) → are_requests items ≡ true → ¬ Contains items (AddressClaimed say)
unsent [] say all (k, inside, is) = absurd (omega arith)
unsent (item ∷ items) say all (zero, inside, is) = true≢false (sym (and_parts (is_request item) (are_requests items) all).0 ∙ ap is_request is)
unsent (item ∷ items) say all (suc k, inside, is) = unsent items say (and_parts (is_request item) (are_requests items) all).1 (k, omega arith, is)

all_requests : (items : List Item) → ((a : ℕ) → ¬ Contains items (AddressClaimed (Claim a))) → ¬ Contains items (AddressClaimed Cannot)
    → are_requests items ≡ true
all_requests [] claims cannot = refl
all_requests (item ∷ items) claims cannot =
    and_from (is_request item) (are_requests items) (first item refl)
    (all_requests items (λ a there. claims a (more (AddressClaimed (Claim a)) there)) (λ there. cannot (more (AddressClaimed Cannot) there)))
  where
    more : (x : Item) → Contains items x → Contains (item ∷ items) x
    more x (k, inside, is) = (suc k, omega arith, is)

    first : (x : Item) → item ≡ x → is_request item ≡ true
    first (AddressClaimed (Claim a)) is = absurd (claims a (0, omega arith, is))
    first (AddressClaimed Cannot) is = absurd (cannot (0, omega arith, is))
    first Request is = ap is_request is

pub settled : (n : ℕ) (lists : List (List (List Item))) → IsTable n lists → (b : Bool)
    → b ≡ list_all (λ u. list_all (λ v. are_requests (pair_in lists u v)) (range_with_len 0 n)) (range_with_len 0 n)
    → (b ≡ true → IsQuiet (pair_in lists)) × (IsQuiet (pair_in lists) → b ≡ true)
settled n lists table b is = (
  λ yes u v. let all = each_list are_requests refl n lists table
      (sym is ∙ yes) u v in (λ a. unsent (pair_in lists u v) (Claim a) all, unsent (pair_in lists u v) Cannot all),
  λ quiet. is ∙ all_below (λ u. list_all (λ v. are_requests (pair_in lists u v)) (range_with_len 0 n)) n
      (λ u _. all_below (λ v. are_requests (pair_in lists u v)) n (λ v _. all_requests (pair_in lists u v) (quiet u v).0 (quiet u v).1)),
)
