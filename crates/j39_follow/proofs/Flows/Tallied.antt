-- Counts of what was sent.
use Rattle.std.proofs.Common.{◌≡◌, ◌==◌, ◌+◌, ◌-◌, ◌^◌, ◌<◌, ℕ, zero, suc, Bool, true, false, if◌then◌else◌, List, [], ◌∷◌, ◌++◌, length, Option, Some, None}
use Rattle.std.proofs.Common.{inl, inr, refl, sym, ap, ◌∙◌, arith, eq-eqb, eqb-true, get_or}
use Rattle.std.specs.Prelude.{cond, count_by, min, replicate}
use Rattle.std.specs.Option.{option_eq}
use Rattle.std.specs.List.{position, slice_get}
use Rattle.std.proofs.lemmas.Bool.{cases_Bool, eqb-false, ne_eqb}
use Rattle.std.proofs.lemmas.List.Quantifiers.{position-Some}
use Rattle.std.proofs.lemmas.List.Sums.{count_by-le-length, sum_by_push}
use Rattle.std.proofs.lemmas.Option.{get_or_from_slice_get, slice_get_within, same_Some}
use Rattle.j39_network.specs.declared.plan.Plan.{Plan}
use Rattle.j39_network.specs.declared.plan.group_plan.GroupPlan.{GroupPlan}
use Rattle.j39_follow.specs.FollowText.{is_first_of, is_of_flow, is_other, is_without_flow}
use Rattle.j39_follow.specs.declared.message.Sort.{Sort}
use Rattle.j39_follow.specs.declared.message.Sort.TheVariants.{Other}
use Rattle.j39_follow.specs.declared.flow.tally.Tally.{Tally}
use Rattle.j39_follow.specs.inside.Tallies.{IsTally, tally_at}

pub none_counted : (k n : ℕ) → tally_at (replicate k 0) n ≡ 0
none_counted zero n = refl
none_counted (suc k) zero = refl
none_counted (suc k) (suc n) = none_counted k n

-- one more that passes the test, or that doesn't
count_passed : {A : Type 0} (p : A → Bool) (xs : List A) (y : A) → p y ≡ true → count_by p (xs ++ y ∷ []) ≡ count_by p xs + 1
count_passed p xs y e =
    let more : count_by p (xs ++ y ∷ []) ≡ count_by p xs + cond (p y) 1 0 = sum_by_push (λ x. cond (p x) 1 0) xs y in
    more ∙ ap (λ (b : Bool). count_by p xs + cond b 1 0) e

count_failed : {A : Type 0} (p : A → Bool) (xs : List A) (y : A) → p y ≡ false → count_by p (xs ++ y ∷ []) ≡ count_by p xs
count_failed p xs y e =
    let more : count_by p (xs ++ y ∷ []) ≡ count_by p xs + cond (p y) 1 0 = sum_by_push (λ x. cond (p x) 1 0) xs y in
    more ∙ ap (λ (b : Bool). count_by p xs + cond b 1 0) e ∙ (let none : count_by p xs + 0 ≡ count_by p xs = omega arith in none)

same_place : (o : Option ℕ) (g : ℕ) → option_eq (λ a b. a == b) o (Some g) ≡ true → o ≡ Some g
same_place None g e = cc
same_place (Some x) g e = ap Some (eqb-true x g e)

-- what was counted once more
pub counted : {A : Type 0} (p : A → Bool) (sent : List A) (y : A) (old new : ℕ) (b : Bool) → length sent < 2 ^ 64 - 1 → old ≡ count_by p sent
    → p y ≡ b → new ≡ (if b then min (old + 1) (2 ^ 64 - 1) else old) → new ≡ count_by p (sent ++ y ∷ [])
counted p sent y old new true few was passes is =
    let most = count_by-le-length p sent in
    let one = count_passed p sent y passes in
    is ∙ (let same : min (old + 1) (2 ^ 64 - 1) ≡ count_by p (sent ++ y ∷ []) = omega (arith, most, one, was, few) in same)
counted p sent y old new false few was passes is = is ∙ was ∙ sym (count_failed p sent y passes)

-- the number of the group at a place says whether it is the first that was found
first_or_not : (plan : Plan) (pgn first g : ℕ) (group : GroupPlan) → position (λ (h : GroupPlan). h.pgn == pgn) plan.groups.items ≡ Some first
    → slice_get plan.groups.items g ≡ Some group → is_first_of plan g group ≡ true → is_other group.pgn (Other pgn) ≡ (first == g)
first_or_not plan pgn first g group found at leads = elim (cases_Bool (pgn == group.pgn)) [
  | inl same ↦
      let is : pgn ≡ group.pgn = eqb-true pgn group.pgn same in
      let here : Some first ≡ Some g = sym found ∙ ap (λ (n : ℕ). position (λ (h : GroupPlan). h.pgn == n) plan.groups.items) is
      ∙ same_place (position (λ (h : GroupPlan). h.pgn == group.pgn) plan.groups.items) g leads in
      same ∙ sym (eq-eqb first g (same_Some first g here))
  | inr other ↦
      other ∙ sym (ne_eqb first g (λ e.
      let there = position-Some (λ (h : GroupPlan). h.pgn == pgn) plan.groups.items first group found in
      let is : get_or plan.groups.items first group ≡ group =
      ap (λ (i : ℕ). get_or plan.groups.items i group) e ∙ get_or_from_slice_get plan.groups.items g group group at in
      eqb-false pgn group.pgn other (sym (eqb-true group.pgn pgn (sym (ap (λ (h : GroupPlan). h.pgn == pgn) is) ∙ there.1)))))
]

pub other_counted : (plan : Plan) (old new : Tally) (sent : List Sort) (pgn first : ℕ) → length sent < 2 ^ 64 - 1
    → position (λ (h : GroupPlan). h.pgn == pgn) plan.groups.items ≡ Some first → length old.others ≡ 256
    → new.flows ≡ old.flows → new.groups ≡ old.groups
    → ((k : ℕ) → k < length old.others → tally_at new.others k
    ≡ (if first == k then min (tally_at old.others k + 1) (2 ^ 64 - 1) else tally_at old.others k))
    → IsTally plan old sent → IsTally plan new (sent ++ Other pgn ∷ [])
other_counted plan old new sent pgn first few found room flows groups adds of = record {
  flows = λ n less. ap (λ (xs : List ℕ). tally_at xs n) flows ∙ of.flows n less ∙ sym (count_failed (is_of_flow n) sent (Other pgn) refl);
  groups = λ g less. ap (λ (xs : List ℕ). tally_at xs g) groups ∙ of.groups g less ∙ sym (count_failed (is_without_flow g) sent (Other pgn) refl);
  others = λ g group at leads.
      let within = slice_get_within plan.groups.items g group at in
      let most = plan.group_count in
      counted (is_other group.pgn) sent (Other pgn) (tally_at old.others g) (tally_at new.others g) (first == g) few
      (of.others g group at leads) (first_or_not plan pgn first g group found at leads) (adds g (omega (arith, within, most, room)));
}
