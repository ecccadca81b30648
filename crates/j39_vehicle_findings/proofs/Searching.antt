-- Searches of a list, one value at a time.
use Rattle.std.proofs.Common.{◌≡◌, ℕ, ◌+◌, ◌<◌, ◌≤◌, List, Bool, true, false, length, get_or, drop, refl}
use Rattle.std.proofs.lemmas.List.{drop_more, drop_all}
use Rattle.j39_vehicle_findings.specs.FoundPaths.{some_at}

pub some_at_more : {A : Type 0} (test : ℕ → A → Bool) (x : A) (i : ℕ) (xs : List A) → i < length xs → x ≡ get_or xs i x
    → test i x ≡ false → some_at test (i + 1) (drop (i + 1) xs) ≡ some_at test i (drop i xs)
unfolding some_at
some_at_more test x i xs more is fails = rw (drop_more xs i x more, ← is, fails) refl

pub some_at_here : {A : Type 0} (test : ℕ → A → Bool) (x : A) (i : ℕ) (xs : List A) → i < length xs → x ≡ get_or xs i x
    → test i x ≡ true → some_at test i (drop i xs) ≡ true
unfolding some_at
some_at_here test x i xs more is passes = rw (drop_more xs i x more, ← is, passes) refl

pub some_at_end : {A : Type 0} (test : ℕ → A → Bool) (i : ℕ) (xs : List A) → length xs ≤ i → some_at test i (drop i xs) ≡ false
unfolding some_at
some_at_end test i xs none = rw (drop_all i xs none) refl
