-- What a unit does by a lawful pick follows the claim rule.
use Rattle.std.proofs.Common.{◌≡◌, ℕ, ◌<◌, Bool, true, false, cond, ◌&&◌, ◌||◌, ◌⊎◌}
use Rattle.std.proofs.Common.{inl, inr, ltb, refl, sym, ap, subst, ◌∙◌, arith, Option, Some, None}
use Rattle.std.proofs.lemmas.Bool.{true≢false, ltb-false, ltb-true, eqb-true, lt-ltb}
use Rattle.std.specs.Option.{IfSome}
use Rattle.std.specs.Bool.{MatchBool}
use Rattle.std.specs.Ordering.{nat_cmp}
use Rattle.std.specs.FinMap.{FinMap, insert}
use Rattle.std.specs.Cmp.{nat_cmp_total}
use Rattle.std.specs.FinSet as set
use Rattle.std.specs.FinSet.{FinSet}
use Rattle.j39_claim.specs.declared.item.Say.{Say}
use Rattle.j39_claim.specs.declared.item.Say.TheVariants.{Claim, Cannot}
use Rattle.j39_claim.specs.declared.item.Item.TheVariants.{AddressClaimed}
use Rattle.j39_id.specs.Name.{is_arbitrary}
use Rattle.j39_claim.specs.AddressSets.{IsFreeIn, free_count}
use Rattle.j39_claim.specs.ClaimRule.{PlannedUnit, ClaimState, IsFree, Moves, GivesUp, Hears, Reacts, claim_of, holds_address, say_of}
use Rattle.j39_claim.specs.ExactAnswer.{Pick, IsLawful, IsFreeMove, noted_addresses, taken_for, moved_to, said_after, state_after}
use Rattle.j39_claim.proofs.FreeAddresses.{none_free}
use Rattle.j39_claim.proofs.NotedAddresses.{noted_in, noted_by_one}

-- an address that is neither noted nor kept is free
neither : (c : PlannedUnit) (notes : FinMap nat_cmp ℕ) (b : ℕ)
    → (set.contains (noted_addresses notes) b || set.contains c.kept b) ≡ set.contains (taken_for c notes) b
neither c notes b = sym (set.contains-union nat_cmp_total (noted_addresses notes) c.kept b)

free : (c : PlannedUnit) (s : ClaimState) (b : ℕ) → IsFreeIn (taken_for c s.notes) b → IsFree c s b
free c s b is =
    let (unnoted, unkept) = both_false (set.contains (noted_addresses s.notes) b) (set.contains c.kept b) (neither c s.notes b ∙ is.free) in
    record { pool = is.pool; unnoted = λ n noted. true≢false (sym (noted_in s.notes n b noted) ∙ unnoted); unkept = unkept }
  where
    both_false : (x y : Bool) → (x || y) ≡ false → (x ≡ false) × (y ≡ false)
    both_false true y e = absurd (true≢false e)
    both_false false y e = (refl, e)

-- an address that is taken is not free
not_free : (c : PlannedUnit) (s : ClaimState) (b : ℕ) → set.contains (taken_for c s.notes) b ≡ true → ¬ IsFree c s b
not_free c s b is can = by (set.contains (noted_addresses s.notes) b) refl (neither c s.notes b ∙ is)
  where
    by : (x : Bool) → set.contains (noted_addresses s.notes) b ≡ x → (x || set.contains c.kept b) ≡ true → ⊥
    by true noted e = let (n, has) = noted_by_one s.notes b noted in can.unnoted n has
    by false noted e = true≢false (sym e ∙ can.unkept)

module _ (pick : Pick) (c : PlannedUnit) (s : ClaimState) (lost : ℕ) where
  -- a unit that loses its address
  loses : (place : Option ℕ) → place ≡ moved_to pick c.name lost (taken_for c s.notes) → IfSome place (IsFreeIn (taken_for c s.notes))
      → Moves c s (Some (claim_of place)) (record s { address = place }) ⊎ GivesUp c s (Some (claim_of place)) (record s { address = place })
  loses (Some b) is lawful = inl (b, arbitrary (is_arbitrary c.name) (ltb 0 (free_count (taken_for c s.notes))) is, free c s b lawful, refl, refl)
    where
      arbitrary : (x y : Bool) → Some b ≡ cond (x && y) (Some (pick c.name lost (taken_for c s.notes))) None → x ≡ true
      arbitrary true y e = refl
      arbitrary false y e = absurd (cc)
  loses None is lawful = inr (
    λ may b can.
        let room = free_count (taken_for c s.notes) in
        let none : room ≡ 0 = omega (arith, ltb-false 0 room (no_room (is_arbitrary c.name) (ltb 0 room) is may)) in
        not_free c s b (none_free (taken_for c s.notes) none b can.pool) can,
    refl,
    refl,
  )
    where
      no_room : (x y : Bool) → None ≡ cond (x && y) (Some (pick c.name lost (taken_for c s.notes))) None → x ≡ true → y ≡ false
      no_room true true e h = absurd (cc)
      no_room true false e h = refl
      no_room false y e h = absurd (true≢false (sym h))

-- what it says and is follows the rule, where what it moves to is free
pub follows : (pick : Pick) (c : PlannedUnit) (s : ClaimState) (n a : ℕ)
    → (n < c.name → IsFreeMove pick c.name a (taken_for c (insert s.notes n a)))
    → Hears c s n (Claim a) (said_after pick c s n (Claim a)) (state_after pick c s n (Claim a))
follows pick c s n a lawful = held (holds_address s.address a) refl (ltb n c.name) refl
  where
    noted : ClaimState
    noted = record s { notes = insert s.notes n a }

    after : Bool → Bool → Option ℕ
    after x y = cond (x && y) (moved_to pick c.name a (taken_for c (insert s.notes n a))) s.address

    answer : Bool → Bool → Option Say
    answer x y = cond x (Some (claim_of (after x y))) None

    left : Bool → Bool → ClaimState
    left x y = record noted { address = after x y }

    held : (x : Bool) → holds_address s.address a ≡ x → (y : Bool) → ltb n c.name ≡ y
        → MatchBool x
        (MatchBool y
        (Moves c noted (answer x y) (left x y) ⊎ GivesUp c noted (answer x y) (left x y))
        ((answer x y ≡ Some (Claim a)) × (left x y ≡ noted)))
        ((answer x y ≡ None) × (left x y ≡ noted))
    held true holds true smaller = loses pick c noted a _ refl (lawful (ltb-true n c.name smaller))
    held true holds false larger = (ap (λ o. Some (claim_of o)) (is_held s.address holds), refl)
      where
        is_held : (o : Option ℕ) → holds_address o a ≡ true → o ≡ Some a
        is_held (Some b) e = ap Some (eqb-true b a e)
        is_held None e = absurd (true≢false (sym e))
    held false other y _ = (refl, refl)

-- the same of a number that is an address, and of equal answers, of a unit that claims
pub heard : (pick : Pick) (c : PlannedUnit) (s : ClaimState) (n a : ℕ) (says : Option Say) (new : ClaimState) → a < 254 → c.claims ≡ true
    → says ≡ said_after pick c s n (say_of a) → new ≡ state_after pick c s n (say_of a)
    → (n < c.name → IsFreeMove pick c.name a (taken_for c (insert s.notes n a)))
    → Reacts c s n (AddressClaimed (say_of a)) says new
heard pick c s n a says new inside claims said left lawful =
    let hears : Hears c s n (say_of a) says new = rw (said, left, lt-ltb a 254 inside) (follows pick c s n a lawful) in
    subst (λ b. MatchBool b (Hears c s n (say_of a) says new) ((says ≡ None) × (new ≡ s))) (sym claims) hears

-- the same move, said of equal things
pub same_move : (pick : Pick) (name name' lost lost' : ℕ) (taken taken' : FinSet nat_cmp) → IsFreeMove pick name lost taken → name ≡ name'
    → lost ≡ lost' → taken ≡ taken'
    → IsFreeMove pick name' lost' taken'
same_move pick name name' lost lost' taken taken' move e f h =
    rw (sym e, sym f, sym h) move

-- a lawful pick is free wherever it is made
free_move : (pick : Pick) → IsLawful pick → (name lost : ℕ) (taken : FinSet nat_cmp) → IsFreeMove pick name lost taken
free_move pick lawful name lost taken = by (is_arbitrary name) (ltb 0 (free_count taken)) (λ some. lawful name lost taken (ltb-true 0 (free_count taken) some))
  where
    by : (x y : Bool) → (y ≡ true → IsFreeIn taken (pick name lost taken)) → IfSome (cond (x && y) (Some (pick name lost taken)) None) (IsFreeIn taken)
    by true true h = h refl
    by true false h = tt
    by false y h = tt

pub lawful_follows : (pick : Pick) → IsLawful pick → (c : PlannedUnit) (s : ClaimState) (n : ℕ) (say : Say)
    → Hears c s n say (said_after pick c s n say) (state_after pick c s n say)
lawful_follows pick lawful c s n (Claim a) = follows pick c s n a (λ _. free_move pick lawful c.name a (taken_for c (insert s.notes n a)))
lawful_follows pick lawful c s n Cannot = (refl, refl)
