-- The index of groups by their numbers, group after group, and the first group of a number that is found.
use Rattle.std.proofs.Common.{◌≡◌, ℕ, zero, suc, ◌+◌, ◌<◌, ◌==◌, Bool, true, false, not, cond, List, [], ◌∷◌, ◌++◌}
use Rattle.std.proofs.Common.{get_or, length, nat_eq, eqb, Option, Some, None, refl, sym, ap, ◌∙◌, subst, arith, inl, inr}
use Rattle.std.specs.HashMap.{HashMap, get}
use Rattle.std.specs.List.{position, position_from}
use Rattle.std.proofs.Math.Seq.{get_or-append_seam}
use Rattle.std.proofs.lemmas.Bool.{and_right, cases_eq, cases_lt, eq-eqb, ne_eqb}
use Rattle.std.proofs.lemmas.Iterator.Adapters.{position_from-zero}
use Rattle.std.proofs.lemmas.List.{get_or_append_left, length-append}
use Rattle.std.proofs.lemmas.List.Elements.{All-push}
use Rattle.j39_network.specs.declared.plan.group_plan.GroupPlan.{GroupPlan}
use Rattle.j39_log.specs.declared.catalog.Span.{Span}
use Rattle.j39_log.specs.GroupSpans.{IsSpanOf, has_number}
use Rattle.j39_log.specs.inside.Catalogs.{IsIndex, extended}
use Rattle.j39_log.specs.LogFrames.{is_planned_as}

-- ---- the first place

first_from : {A : Type 0} (p : A → Bool) (n place : ℕ) (xs : List A) (d : A) → place < length xs
    → p (get_or xs place d) ≡ true → ((k : ℕ) (d : A) → k < place → p (get_or xs k d) ≡ false)
    → position_from p n xs ≡ Some (n + place)
first_from p n place [] d less passes none = absurd (omega arith)
first_from p n zero (x ∷ xs) d less passes none =
    let same : n ≡ n + 0 = omega arith in
    rw passes (ap Some same)
first_from p n (suc place) (x ∷ xs) d less passes none =
    let other : p x ≡ false = none 0 x (omega arith) in
    let same : (n + 1) + place ≡ n + suc place = omega arith in
    rw other (first_from p (n + 1) place xs d (omega arith) passes (λ k e below. none (suc k) e (omega (arith, below))) ∙ ap Some same)

none_from : {A : Type 0} (p : A → Bool) (n : ℕ) (xs : List A)
    → ((k : ℕ) (d : A) → k < length xs → p (get_or xs k d) ≡ false) → position_from p n xs ≡ None
none_from p n [] none = refl
none_from p n (x ∷ xs) none =
    let other : p x ≡ false = none 0 x (omega arith) in
    rw other (none_from p (n + 1) xs (λ k d below. none (suc k) d (omega (arith, below))))

pub first_place : {A : Type 0} (p : A → Bool) (place : ℕ) (xs : List A) (d : A) → place < length xs
    → p (get_or xs place d) ≡ true → ((k : ℕ) (d : A) → k < place → p (get_or xs k d) ≡ false)
    → position p xs ≡ Some place
first_place p place xs d less passes none =
    let same : 0 + place ≡ place = omega arith in
    position_from-zero p xs ∙ first_from p 0 place xs d less passes none ∙ ap Some same

pub no_place : {A : Type 0} (p : A → Bool) (xs : List A) → ((k : ℕ) (d : A) → k < length xs → p (get_or xs k d) ≡ false)
    → position p xs ≡ None
no_place p xs none = position_from-zero p xs ∙ none_from p 0 xs none

-- ---- groups of a number

pub unplanned : (pgn : ℕ) (bytes : List ℕ) (group : GroupPlan) → has_number pgn group ≡ false → is_planned_as pgn bytes group ≡ false
unplanned pgn bytes group other = rw (and_right (not group.private) (group.pgn == pgn) other) refl

-- ---- the step

module _ (groups : List GroupPlan) (group : GroupPlan) (n : ℕ) (at : length groups ≡ n) where
  abbrev more : List GroupPlan
  more = groups ++ group ∷ []

  one_more : length more ≡ n + 1
  one_more = length-append groups (group ∷ []) ∙ (omega (arith, at))

  old_place : (place : ℕ) (d : GroupPlan) → place < n → get_or more place d ≡ get_or groups place d
  old_place place d less = get_or_append_left groups (group ∷ []) d place (omega (arith, less, at))

  new_place : (place : ℕ) (d : GroupPlan) → place ≡ n → get_or more place d ≡ group
  new_place place d same =
      let here : place ≡ length groups = omega (arith, same, at) in
      ap (λ (k : ℕ). get_or more k d) here ∙ get_or-append_seam groups group [] d

  -- a group of another number
  passed : (pgn : ℕ) (span : Option Span) → has_number pgn group ≡ false → IsSpanOf groups pgn span → IsSpanOf more pgn span
  passed pgn None other none = All-push (λ (g : GroupPlan). has_number pgn g ≡ false) groups group none other
  passed pgn (Some span) other has = record {
    some = has.some;
    inside = omega (arith, has.inside, at, one_more);
    begins = λ d. rw (old_place span.first d (omega (arith, has.some, has.inside, at))) (has.begins d);
    others = λ place d less out. elim (cases_lt place n) [
      | inl old ↦ rw (old_place place d old) (has.others place d (omega (arith, old, at)) out)
      | inr new ↦ rw (new_place place d (omega (arith, new, less, one_more))) other
    ];
  }

  -- one of the number
  counted : (pgn : ℕ) (span : Option Span) → has_number pgn group ≡ true → IsSpanOf groups pgn span
      → IsSpanOf more pgn (Some (extended span n))
  counted pgn None here none = record {
    some = omega arith;
    inside = omega (arith, one_more);
    begins = λ d. rw (new_place n d refl) here;
    others = λ place d less out. elim out [
      | inl old ↦ rw (old_place place d old) (none place d (omega (arith, old, at)))
      | inr past ↦ absurd (omega (arith, past, less, one_more))
    ];
  }
  counted pgn (Some span) here has = record {
    some = omega (arith, has.some, has.inside, at);
    inside = omega (arith, one_more);
    begins = λ d. rw (old_place span.first d (omega (arith, has.some, has.inside, at))) (has.begins d);
    others = λ place d less out. elim out [
      | inl old ↦
          let below : place < n = omega (arith, old, has.some, has.inside, at) in
          rw (old_place place d below) (has.others place d (omega (arith, below, at)) (inl old))
      | inr past ↦ absurd (omega (arith, past, less, one_more))
    ];
  }

-- an index in which the span of a group's number was extended has that group too
pub put_in : {S : Type 0} (old new : HashMap ℕ Span S) (groups : List GroupPlan) (group : GroupPlan) (n : ℕ) → length groups ≡ n
    → ((pgn : ℕ) → get nat_eq new pgn ≡ cond (nat_eq group.pgn pgn) (Some (extended (get nat_eq old group.pgn) n)) (get nat_eq old pgn))
    → IsIndex groups old → IsIndex (groups ++ group ∷ []) new
put_in old new groups group n at updates index pgn =
    elim (cases_eq group.pgn pgn) [
      | inl same ↦
          let e : eqb group.pgn pgn ≡ true = eq-eqb group.pgn pgn same in
          let now : get nat_eq new pgn ≡ Some (extended (get nat_eq old group.pgn) n) =
          updates pgn ∙ ap (λ (b : Bool). cond b (Some (extended (get nat_eq old group.pgn) n)) (get nat_eq old pgn)) e in
          let span : get nat_eq old group.pgn ≡ get nat_eq old pgn = ap (get nat_eq old) same in
          subst (IsSpanOf (groups ++ group ∷ []) pgn) (sym (now ∙ ap (λ (o : Option Span). Some (extended o n)) span))
          (counted groups group n at pgn (get nat_eq old pgn) e (index pgn))
      | inr apart ↦
          let e : eqb group.pgn pgn ≡ false = ne_eqb group.pgn pgn apart in
          let now : get nat_eq new pgn ≡ get nat_eq old pgn =
          updates pgn ∙ ap (λ (b : Bool). cond b (Some (extended (get nat_eq old group.pgn) n)) (get nat_eq old pgn)) e in
          subst (IsSpanOf (groups ++ group ∷ []) pgn) (sym now)
          (passed groups group n at pgn (get nat_eq old pgn) e (index pgn))
    ]
