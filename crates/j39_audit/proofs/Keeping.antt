-- What is kept of places, with one more, with one less, and with none.
use Rattle.std.proofs.Common.{◌≡◌, ◌≢◌, ℕ, ◌<◌, ◌==◌, List, Bool, true, false, cond, Option, None, length, refl, sym, ap, subst, ◌∙◌, arith, inl, inr, eq-eqb}
use Rattle.std.specs.Prelude.{IfSome, slice_index_or}
use Rattle.std.proofs.lemmas.Bool.{cases_eq, cases_lt, ne_eqb, true≢false}
use Rattle.std.proofs.lemmas.List.{get_or_past}
use Rattle.j39_audit.specs.inside.Recalling.{IsKeptAt}

-- one place is set
pub placed : {X : Type 0} (place : ℕ) (one : X) (new old : ℕ → X) → ((n : ℕ) → n ≢ place → new n ≡ old n) → new place ≡ one
    → (n : ℕ) → new n ≡ cond (place == n) one (old n)
placed place one new old others here n = elim (cases_eq place n) [
  | inl same ↦ rw (eq-eqb place n same) (ap new (sym same) ∙ here)
  | inr other ↦ rw (ne_eqb place n other) (others n (λ e. other (sym e)))
]

pub none_either : {X : Type 0} (test : Bool) (x : Option X) → x ≡ None → cond test None x ≡ None
none_either true x is = refl
none_either false x is = is

pub some_either : {X : Type 0} (P : X → Type 0) (test : Bool) (one old : Option X) → IfSome one P → IfSome old P → IfSome (cond test one old) P
some_either P true one old is other = is
some_either P false one old is other = other

pub none_is : {X : Type 0} (P : X → Type 0) (x : Option X) → x ≡ None → IfSome x P
none_is P x none = subst (λ o. IfSome o P) (sym none) tt

-- where one is kept at a place, each is as it has to be
pub placed_is : {X : Type 0} (P : X → Type 0) (place : ℕ) (one : Option X) (new old : ℕ → Option X) → ((n : ℕ) → n ≢ place → new n ≡ old n)
    → new place ≡ one → IfSome one P → ((n : ℕ) → IfSome (old n) P) → (n : ℕ) → IfSome (new n) P
placed_is P place one new old others here is was n =
    subst (λ o. IfSome o P) (sym (placed place one new old others here n)) (some_either P (place == n) one (old n) is (was n))

-- what was forgotten isn't kept, also past the end of a table
pub forgotten : {X : Type 0} (place : ℕ) (items : List (Option X)) (size : ℕ) → length items ≡ size → (place < size → slice_index_or items place None ≡ None)
    → slice_index_or items place None ≡ None
forgotten place items size long here = elim (cases_lt place size) [
  | inl inside ↦ here inside
  | inr past ↦ get_or_past items place None (omega (arith, past, long))
]

with_one : {X : Type 0} {old : List (Option X)} {is_open : Bool} {table : ℕ → Option X} (new : List (Option X)) (place : ℕ) (one : Option X)
    → ((n : ℕ) → n ≢ place → slice_index_or new n None ≡ slice_index_or old n None) → slice_index_or new place None ≡ one → IsKeptAt old is_open table
    → (n : ℕ) → slice_index_or new n None ≡ cond (place == n) one (table n)
with_one {X = X} {old = old} new place one others here kept n =
    placed place one (λ k. slice_index_or new k None) (λ k. slice_index_or old k None) others here n
    ∙ ap (λ (x : Option X). cond (place == n) one x) (kept.places n)

module _ {X : Type 0} {old new : List (Option X)} {is_open : Bool} {table : ℕ → Option X} (place : ℕ)
    (others : (n : ℕ) → n ≢ place → slice_index_or new n None ≡ slice_index_or old n None) where
  pub kept_more : (one : Option X) → slice_index_or new place None ≡ one → IsKeptAt old is_open table → IsKeptAt new true (λ n. cond (place == n) one (table n))
  kept_more one here kept = record { places = with_one new place one others here kept; closed = λ e. absurd (true≢false e) }

  pub kept_less : length new ≡ length old → (place < length old → slice_index_or new place None ≡ None) → IsKeptAt old is_open table
      → IsKeptAt new is_open (λ n. cond (place == n) None (table n))
  kept_less size here kept = record {
    places = with_one new place None others (forgotten place new (length old) size here) kept;
    closed = λ e n. none_either (place == n) (table n) (kept.closed e n);
  }

pub kept_none : {X : Type 0} {items : List (Option X)} {is_open : Bool} → ((n : ℕ) → slice_index_or items n None ≡ None) → IsKeptAt items is_open (λ n. None)
kept_none none = record { places = none; closed = λ e n. refl }

-- where it isn't open, nothing is kept
pub kept_closed : {X : Type 0} {items : List (Option X)} {is_open : Bool} {table : ℕ → Option X} → is_open ≡ false → IsKeptAt items is_open table
    → IsKeptAt items is_open (λ n. None)
kept_closed closed kept = kept_none (λ n. kept.places n ∙ kept.closed closed n)

-- and where it is, it may be
pub kept_open : {X : Type 0} {items : List (Option X)} {is_open : Bool} {table : ℕ → Option X} → IsKeptAt items is_open table → IsKeptAt items true table
kept_open kept = record { places = kept.places; closed = λ e. absurd (true≢false e) }

-- where a test passes nothing is kept any more
pub kept_unless : {X : Type 0} {old new : List (Option X)} {is_open : Bool} {table : ℕ → Option X} (test : ℕ → Bool)
    → ((n : ℕ) → slice_index_or new n None ≡ cond (test n) None (slice_index_or old n None)) → IsKeptAt old is_open table
    → IsKeptAt new is_open (λ n. cond (test n) None (table n))
kept_unless {X = X} {table = table} test each kept = record {
  places = λ n. each n ∙ ap (λ (x : Option X). cond (test n) None x) (kept.places n);
  closed = λ e n. none_either (test n) (table n) (kept.closed e n);
}

pub each_unless : {X : Type 0} (P : X → Type 0) (new old : ℕ → Option X) (test : ℕ → Bool) → ((n : ℕ) → new n ≡ cond (test n) None (old n))
    → ((n : ℕ) → IfSome (old n) P) → (n : ℕ) → IfSome (new n) P
each_unless P new old test each was n = subst (λ o. IfSome o P) (sym (each n)) (some_either P (test n) None (old n) tt (was n))
