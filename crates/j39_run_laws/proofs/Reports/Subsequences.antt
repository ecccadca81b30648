-- Subsequences of what was begun, as both lists grow.
use Rattle.std.proofs.Common.{List, [], ◌∷◌, ◌++◌, refl, inl, inr}
use Rattle.j39_world.specs.Transfers.{Begun}
use Rattle.j39_world.specs.Sound.{IsSubsequence}

-- a list is one of itself
pub subsequence_same : (xs : List Begun) → IsSubsequence xs xs
subsequence_same [] = tt
subsequence_same (x ∷ xs) = inl (refl, subsequence_same xs)

-- the whole may grow
pub subsequence_more : (xs ys : List Begun) (y : Begun) → IsSubsequence xs ys → IsSubsequence xs (ys ++ y ∷ [])
subsequence_more [] ys y sub = tt
subsequence_more (x ∷ xs) [] y sub = absurd sub
subsequence_more (x ∷ xs) (z ∷ ys) y (inl both) = inl (both.0, subsequence_more xs ys y both.1)
subsequence_more (x ∷ xs) (z ∷ ys) y (inr later) = inr (subsequence_more (x ∷ xs) ys y later)

-- both may grow by one element
pub subsequence_both : (xs ys : List Begun) (y : Begun) → IsSubsequence xs ys → IsSubsequence (xs ++ y ∷ []) (ys ++ y ∷ [])
subsequence_both [] [] y sub = inl (refl, tt)
subsequence_both [] (z ∷ ys) y sub = inr (subsequence_both [] ys y tt)
subsequence_both (x ∷ xs) [] y sub = absurd sub
subsequence_both (x ∷ xs) (z ∷ ys) y (inl both) = inl (both.0, subsequence_both xs ys y both.1)
subsequence_both (x ∷ xs) (z ∷ ys) y (inr later) = inr (subsequence_both (x ∷ xs) ys y later)

subsequence_later : (xs ys : List Begun) (y : Begun) → IsSubsequence xs ys → IsSubsequence xs (y ∷ ys)
subsequence_later [] ys y sub = tt
subsequence_later (x ∷ xs) ys y sub = inr sub

-- the first may lose its end
pub subsequence_front : (xs more ys : List Begun) → IsSubsequence (xs ++ more) ys → IsSubsequence xs ys
subsequence_front [] more ys sub = tt
subsequence_front (x ∷ xs) more [] sub = absurd sub
subsequence_front (x ∷ xs) more (y ∷ ys) (inl both) = inl (both.0, subsequence_front xs more ys both.1)
subsequence_front (x ∷ xs) more (y ∷ ys) (inr later) = inr (subsequence_front (x ∷ xs) more ys later)

-- and one of its elements
pub subsequence_without : (xs more ys : List Begun) (x : Begun) → IsSubsequence (xs ++ x ∷ more) ys → IsSubsequence (xs ++ more) ys
subsequence_without [] more [] x sub = absurd sub
subsequence_without [] more (y ∷ ys) x (inl both) = subsequence_later more ys y both.1
subsequence_without [] more (y ∷ ys) x (inr later) = subsequence_later more ys y (subsequence_without [] more ys x later)
subsequence_without (z ∷ xs) more [] x sub = absurd sub
subsequence_without (z ∷ xs) more (y ∷ ys) x (inl both) = inl (both.0, subsequence_without xs more ys x both.1)
subsequence_without (z ∷ xs) more (y ∷ ys) x (inr later) = inr (subsequence_without (z ∷ xs) more ys x later)
