-- The only place of a list at which a test passes: with one more place, of the nearest, and what is noted there.
use Rattle.std.proofs.Common.{◌≡◌, ℕ, suc, ◌+◌, ◌<◌, ◌==◌, ◌&&◌, ◌||◌, ◌++◌, ◌∷◌, not, cond, [], List, Bool, true, false, Some, get_or, length, take, refl, sym}
use Rattle.std.proofs.Common.{ap, subst, ◌∙◌, arith, eq-eqb}
use Rattle.std.specs.Prelude.{count_by, nat_lt}
use Rattle.std.specs.List.{list_any, position, position_or_len, slice_get}
use Rattle.std.proofs.Math.Bool.{and-true, or-false, or-true}
use Rattle.std.proofs.Math.Seq.{take-length}
use Rattle.std.proofs.lemmas.Bool.{lt-ltb, ltb-true, ne_eqb, true≢false}
use Rattle.std.proofs.lemmas.List.{append-nil}
use Rattle.std.proofs.lemmas.List.Folds.{list_any_more}
use Rattle.std.proofs.lemmas.List.Sums.{count_by_more_no, count_by_more_yes}
use Rattle.std.proofs.lemmas.Option.{get_or_from_slice_get, slice_get_read, slice_get_within}
use Rattle.j39_audit.specs.Below.{each_below}
use Rattle.j39_audit.specs.Counting.{Noted}
use Rattle.j39_audit.specs.SentMessages.{all_marked, is_nearest, marked, noted_at}
use Rattle.j39_audit.specs.declared.mark.Word.{Word}
use Rattle.j39_audit.specs.declared.only_place.Meant.{Meant}
use Rattle.j39_audit.specs.declared.only_place.OnlyPlace.{OnlyPlace}
use Rattle.j39_audit.specs.declared.only_place.OnlyPlace.TheVariants.{Nowhere, At, Several}
use Rattle.j39_audit.specs.inside.Singling.{AreAllMeant, AreMarksOf, AreMeant, IsCountOf, IsOnlyPlace, another_place, is_somewhere, meant_more, nearest_of}
use Rattle.j39_audit.specs.inside.Singling.{nearest_place, only_more}
use Rattle.j39_audit.proofs.Below.{each_more, each_none}
use Rattle.j39_audit.proofs.Noting.{marked_here, marked_not}

-- ---- of no place, and with one more

pub only_none : {X : Type 0} (test : X → Bool) (all : List X) → IsOnlyPlace test all 0 Nowhere
only_none test all = record { some_pass = refl; count = refl; marks = λ line word. each_none (marked line word test all) }

module _ {X : Type 0} (test : X → Bool) (all : List X) (n : ℕ) (x : X) (at : slice_get all n ≡ Some x) where
  inside : n < length all
  inside = slice_get_within all n x at

  there : test (get_or all n x) ≡ test x
  there = ap test (get_or_from_slice_get all n x x at)

  counted : test x ≡ true → count_by test (take (n + 1) all) ≡ count_by test (take n all) + 1
  counted is = count_by_more_yes test all n x inside (there ∙ is)

  some : (b : Bool) → test x ≡ b → list_any test (take (n + 1) all) ≡ (list_any test (take n all) || b)
  some b is = list_any_more test all n x inside ∙ ap (λ (t : Bool). list_any test (take n all) || t) (there ∙ is)

  here : test x ≡ true → (line : ℕ) (word : Word) → each_below (marked line word test all) (n + 1)
      ≡ each_below (marked line word test all) n ++ noted_at line word n 0 ∷ []
  here is line word = each_more (marked line word test all) n
      ∙ ap (λ (l : List Noted). each_below (marked line word test all) n ++ l) (marked_here line word test all n x at is)

  passing : (only : OnlyPlace) → test x ≡ true → IsOnlyPlace test all n only → IsOnlyPlace test all (n + 1) (another_place n only)
  passing Nowhere is before = record {
    some_pass = some true is ∙ or-true (list_any test (take n all));
    count = counted is ∙ ap (λ (c : ℕ). c + 1) before.count;
    marks = λ line word. here is line word ∙ ap (λ (l : List Noted). l ++ noted_at line word n 0 ∷ []) (before.marks line word);
  }
  passing (At i) is before = record {
    some_pass = some true is ∙ or-true (list_any test (take n all));
    count = let more = counted is in let one = before.count in omega (arith, more, one);
    marks = λ line word. tt;
  }
  passing Several is before = record {
    some_pass = some true is ∙ or-true (list_any test (take n all));
    count = let more = counted is in let two = before.count in omega (arith, more, two);
    marks = λ line word. tt;
  }

  as_many : test x ≡ false → (only : OnlyPlace) → IsCountOf only (count_by test (take n all)) → IsCountOf only (count_by test (take (n + 1) all))
  as_many is only before = subst (IsCountOf only) (sym (count_by_more_no test all n x inside (there ∙ is))) before

  nothing_more : test x ≡ false → (line : ℕ) (word : Word) → each_below (marked line word test all) (n + 1) ≡ each_below (marked line word test all) n
  nothing_more is line word = each_more (marked line word test all) n
      ∙ ap (λ (l : List Noted). each_below (marked line word test all) n ++ l) (marked_not line word test all n x at is)
      ∙ append-nil (each_below (marked line word test all) n)

  failing : (only : OnlyPlace) → test x ≡ false → IsOnlyPlace test all n only → IsOnlyPlace test all (n + 1) only
  failing only is before = record {
    some_pass = some false is ∙ or-false (list_any test (take n all)) ∙ before.some_pass;
    count = as_many is only before.count;
    marks = λ line word. subst (AreMarksOf line word only) (sym (nothing_more is line word)) (before.marks line word);
  }

  either : (b : Bool) (only : OnlyPlace) → test x ≡ b → IsOnlyPlace test all n only → IsOnlyPlace test all (n + 1) (only_more b n only)
  either true only is before = passing only is before
  either false only is before = failing only is before

  pub only_next : (only : OnlyPlace) → IsOnlyPlace test all n only → IsOnlyPlace test all (n + 1) (only_more (test x) n only)
  only_next only before = either (test x) only refl before

pub meant_none : {X : Type 0} (meant near : X → Bool) (all : List X) (m : Meant) → m ≡ record { all = Nowhere; near = Nowhere }
    → AreMeant meant near all 0 m
meant_none {X = X} meant near all m is = subst (AreMeant meant near all 0) (sym is)
    (record { all_is = only_none meant all; near_is = only_none (λ (x : X). meant x && near x) all })

pub meant_next : {X : Type 0} (meant near : X → Bool) (all : List X) (n : ℕ) (x : X) → slice_get all n ≡ Some x → (old new : Meant)
    → new ≡ meant_more (meant x) (meant x && near x) n old → AreMeant meant near all n old → AreMeant meant near all (n + 1) new
meant_next {X = X} meant near all n x at old new is before = subst (AreMeant meant near all (n + 1)) (sym is) (record {
  all_is = only_next meant all n x at old.all before.all_is;
  near_is = only_next (λ (x : X). meant x && near x) all n x at old.near before.near_is;
})

-- a place of a loop over all of them
pub meant_read : {X : Type 0} {meant near : X → Bool} {all : List X} {n : ℕ} {x : X} {is_meant : Bool} {old new : Meant} → n < length all
    → x ≡ get_or all n x → is_meant ≡ meant x → new ≡ meant_more is_meant (is_meant && near x) n old → AreMeant meant near all n old
    → AreMeant meant near all (n + 1) new
meant_read {meant = meant} {near = near} {all = all} {n = n} {x = x} {old = old} {new = new} less read tested is before =
    meant_next meant near all n x (slice_get_read all (length all) n x refl less read) old new
    (is ∙ ap (λ (b : Bool). meant_more b (b && near x) n old) tested) before

-- and its end
pub meant_whole : {X : Type 0} {meant near : X → Bool} {all : List X} {n : ℕ} {m : Meant} → n ≡ length all → AreMeant meant near all n m
    → AreAllMeant meant near all m
meant_whole {meant = meant} {near = near} {all = all} {m = m} end are = subst (λ (n : ℕ). AreMeant meant near all n m) end are

-- ---- of all places

pub some_in_all : {X : Type 0} (test : X → Bool) (all : List X) (only : OnlyPlace) → IsOnlyPlace test all (length all) only
    → list_any test all ≡ is_somewhere only
some_in_all {X = X} test all only is = ap (λ (l : List X). list_any test l) (sym (take-length all)) ∙ is.some_pass

count_in_all : {X : Type 0} (test : X → Bool) (all : List X) (only : OnlyPlace) → IsOnlyPlace test all (length all) only → IsCountOf only (count_by test all)
count_in_all {X = X} test all only is = subst (λ (l : List X). IsCountOf only (count_by test l)) (take-length all) is.count

abbrev is_alone : OnlyPlace → Bool
is_alone Nowhere = false
is_alone (At i) = true
is_alone Several = false

alone : {X : Type 0} (test : X → Bool) (all : List X) (only : OnlyPlace) → IsOnlyPlace test all (length all) only → (count_by test all == 1) ≡ is_alone only
alone test all Nowhere is = let none = count_in_all test all Nowhere is in ne_eqb _ 1 (λ e. absurd (omega (arith, none, e)))
alone test all (At i) is = eq-eqb _ 1 (count_in_all test all (At i) is)
alone test all Several is = let some = count_in_all test all Several is in ne_eqb _ 1 (λ e. absurd (omega (arith, some, e)))

all_marks : {X : Type 0} (test : X → Bool) (all : List X) (only : OnlyPlace) (line : ℕ) (word : Word) → IsOnlyPlace test all (length all) only
    → AreMarksOf line word only (all_marked line word test all)
unfolding all_marked
all_marks test all only line word is = is.marks line word

-- ---- of the nearest

module _ {X : Type 0} (meant near : X → Bool) (all : List X) where
  abbrev with_near : Bool → X → Bool
  with_near some x = meant x && (near x || not some)

  some_are : (λ (x : X). meant x && near x) ≡ with_near true
  some_are = λ i x. ap (λ (b : Bool). meant x && b) (sym (or-false (near x))) i

  none_is : meant ≡ with_near false
  none_is = λ i x. (sym (and-true (meant x)) ∙ ap (λ (b : Bool). meant x && b) (sym (or-true (near x)))) i

  nearest_by : (only other : OnlyPlace) → IsOnlyPlace meant all (length all) only → IsOnlyPlace (λ (x : X). meant x && near x) all (length all) other
      → IsOnlyPlace (with_near (is_somewhere other)) all (length all) (nearest_of only other)
  nearest_by only Nowhere one two = subst (λ (t : X → Bool). IsOnlyPlace t all (length all) only) none_is one
  nearest_by only (At i) one two = subst (λ (t : X → Bool). IsOnlyPlace t all (length all) (At i)) some_are two
  nearest_by only Several one two = subst (λ (t : X → Bool). IsOnlyPlace t all (length all) Several) some_are two

  nearest_only : (m : Meant) → AreAllMeant meant near all m → IsOnlyPlace (is_nearest meant near all) all (length all) (nearest_place m)
  nearest_only m are = subst (λ (some : Bool). IsOnlyPlace (with_near some) all (length all) (nearest_place m))
      (sym (some_in_all (λ (x : X). meant x && near x) all m.near are.near_is)) (nearest_by m.all m.near are.all_is are.near_is)

-- whether the nearest are at one place alone, and how they are noted
pub record AreNearest {X : Type 0} (nearest : X → Bool) (all : List X) (only : OnlyPlace) : Type 0 where
  pub alone_is : (count_by nearest all == 1) ≡ is_alone only
  pub marks : (line : ℕ) (word : Word) → AreMarksOf line word only (all_marked line word nearest all)

pub nearest_are : {X : Type 0} {meant near : X → Bool} {all : List X} {m : Meant} {only : OnlyPlace} → AreAllMeant meant near all m → nearest_place m ≡ only
    → AreNearest (is_nearest meant near all) all only
nearest_are {meant = meant} {near = near} {all = all} {m = m} {only = only} are is =
    let test = is_nearest meant near all in
    let there = subst (IsOnlyPlace test all (length all)) is (nearest_only meant near all m are) in
    record { alone_is = alone test all only there; marks = λ line word. all_marks test all only line word there }

-- ---- where one passes there is a first one

any_here : {X : Type 0} (p q : X → Bool) → ((x : X) → p x ≡ true → q x ≡ true) → (x : X) (xs : List X)
    → (list_any p xs ≡ true → list_any q xs ≡ true) → (b : Bool) → p x ≡ b → (b || list_any p xs) ≡ true → list_any q (x ∷ xs) ≡ true
any_here p q also x xs rest true is some = rw (also x is) refl
any_here p q also x xs rest false is some = rw (rest some) (or-true (q x))

any_also : {X : Type 0} (p q : X → Bool) → ((x : X) → p x ≡ true → q x ≡ true) → (xs : List X) → list_any p xs ≡ true → list_any q xs ≡ true
any_also p q also [] any = any
any_also p q also (x ∷ xs) any = any_here p q also x xs (any_also p q also xs) (p x) refl any

place_here : (n size : ℕ) (others : Bool) → (others ≡ true → nat_lt n size ≡ true) → (b : Bool) → (b || others) ≡ true
    → nat_lt (cond (not b) (1 + n) 0) (suc size) ≡ true
place_here n size others rest true found = lt-ltb 0 (suc size) (omega arith)
place_here n size others rest false found =
    let less = ltb-true n size (rest found) in lt-ltb (1 + n) (suc size) (omega (arith, less))

first_inside : {X : Type 0} (q : X → Bool) (xs : List X) → list_any q xs ≡ true → nat_lt (position_or_len q xs) (length xs) ≡ true
first_inside q [] any = absurd (true≢false (sym any))
first_inside q (x ∷ xs) any = place_here (position_or_len q xs) (length xs) (list_any q xs) (first_inside q xs) (q x) any

pub first_also : {X : Type 0} (p q : X → Bool) → ((x : X) → p x ≡ true → q x ≡ true) → (xs : List X) → list_any p xs ≡ true
    → position q xs ≡ Some (position_or_len q xs)
first_also p q also xs any = rw (first_inside q xs (any_also p q also xs any)) refl
