-- Tests that decide what they test: which number is less, and how many of a list pass.
use Rattle.std.proofs.Common.{◌≡◌, ℕ, suc, ◌≤◌, List, [], ◌∷◌, Bool, true, false, cond, nat_le, Decides, refl, sym, ◌∙◌, inl, inr, arith}
use Rattle.std.specs.List.{count_by}
use Rattle.std.proofs.lemmas.List.Sums.{sum_by-cons}
use Rattle.std.proofs.lemmas.Bool.{false≢true, leb-true, le-leb, cases_Bool}
use Rattle.j39_search.specs.ListPlaces.{SoManyMeet}

pub Decides-leb : (a b : ℕ) → Decides (nat_le a b) (a ≤ b)
Decides-leb a b = (leb-true a b, le-leb a b)

-- the number of those that pass is that of those that meet the statement, and no other number is
pub passing_meet : {A : Type 0} {test : A → Bool} {P : A → Type 0} → ((x : A) → Decides (test x) (P x)) → (xs : List A)
    → SoManyMeet P xs (count_by test xs)
passing_meet by [] = refl
passing_meet {test = test} by (x ∷ xs) =
    let rest = passing_meet by xs in
    let more = sum_by-cons (λ y. cond (test y) 1 0) x xs in
    elim (cases_Bool (test x)) [
      | inl passes ↦ inl ((by x).0 passes, (count_by test xs, rw (more, passes) (omega arith), rest))
      | inr fails ↦
          let same : count_by test (x ∷ xs) ≡ count_by test xs = rw (more, fails) (omega arith) in
          inr (λ h. absurd (false≢true (sym fails ∙ (by x).1 h)), rw same rest)
    ]

pub meeting_pass : {A : Type 0} {test : A → Bool} {P : A → Type 0} → ((x : A) → Decides (test x) (P x)) → (xs : List A) (n : ℕ)
    → SoManyMeet P xs n → n ≡ count_by test xs
meeting_pass by [] n are = are
meeting_pass {test = test} by (x ∷ xs) n (inl (meets, (m, is, are))) =
    let rest = meeting_pass by xs m are in
    let passes = (by x).1 meets in
    rw (sum_by-cons (λ y. cond (test y) 1 0) x xs, passes) (omega (arith, is, rest))
meeting_pass {test = test} by (x ∷ xs) n (inr (fails, are)) =
    let rest = meeting_pass by xs n are in
    elim (cases_Bool (test x)) [
      | inl passes ↦ absurd (fails ((by x).0 passes))
      | inr not ↦ rw (sum_by-cons (λ y. cond (test y) 1 0) x xs, not) (omega (arith, rest))
    ]
