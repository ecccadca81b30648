-- What is reported of places: one more after another, and where something is reported at all.
use Rattle.std.proofs.Common.{◌≡◌, ◌≢◌, ℕ, zero, suc, ◌+◌, ◌<◌, List, [], ◌∷◌, ◌++◌, length, take, get_or, append_assoc, refl, sym, ap, ◌∙◌, arith}
use Rattle.std.proofs.Math.Seq.{take-suc}
use Rattle.std.proofs.lemmas.List.{append-nil, length-take-le}
use Rattle.j39_load.specs.LineLists.{lines_of_each}

pub some_left : {Y : Type 0} (xs ys : List Y) → xs ≢ [] → xs ++ ys ≢ []
some_left [] ys some = absurd (some refl)
some_left (x ∷ xs) ys some = λ none. cc

pub some_right : {Y : Type 0} (xs ys : List Y) → ys ≢ [] → xs ++ ys ≢ []
some_right [] ys some = some
some_right (x ∷ xs) ys some = λ none. cc

module _ {X Y : Type 0} (report : ℕ → X → List Y) where
  -- one more
  one_more : (place : ℕ) (xs : List X) (x : X) → lines_of_each report place (xs ++ x ∷ []) ≡ lines_of_each report place xs ++ report (place + length xs) x
  unfolding lines_of_each
  one_more place [] x = append-nil (report place x) ∙ ap (λ (n : ℕ). report n x) (omega arith)
  one_more place (first ∷ xs) x =
      ap (λ (ys : List Y). report place first ++ ys)
      (one_more (place + 1) xs x ∙ ap (λ (n : ℕ). lines_of_each report (place + 1) xs ++ report n x) (omega arith))
      ∙ sym (append_assoc (report place first) (lines_of_each report (place + 1) xs) _)

  -- up to the next place of these
  pub more : (k : ℕ) (xs : List X) (d : X) → k < length xs
      → lines_of_each report 0 (take (k + 1) xs) ≡ lines_of_each report 0 (take k xs) ++ report k (get_or xs k d)
  more k xs d inside =
      let next : k + 1 ≡ suc k = omega arith in
      ap (λ (n : ℕ). lines_of_each report 0 (take n xs)) next
      ∙ ap (lines_of_each report 0) (take-suc xs k d inside) ∙ one_more 0 (take k xs) (get_or xs k d)
      ∙ ap (λ (n : ℕ). lines_of_each report 0 (take k xs) ++ report n (get_or xs k d)) (omega (arith, length-take-le k xs (omega arith)))

  some_behind : (k place : ℕ) (xs : List X) (d : X) → k < length xs → report (place + k) (get_or xs k d) ≢ [] → lines_of_each report place xs ≢ []
  unfolding lines_of_each
  some_behind k place [] d inside some = absurd (omega arith)
  some_behind zero place (x ∷ xs) d inside some =
      some_left (report place x) (lines_of_each report (place + 1) xs) (λ none. some (ap (λ (n : ℕ). report n x) (omega arith) ∙ none))
  some_behind (suc k) place (x ∷ xs) d inside some =
      some_right (report place x) (lines_of_each report (place + 1) xs)
      (some_behind k (place + 1) xs d (omega (arith, inside)) (λ none. some (ap (λ (n : ℕ). report n (get_or xs k d)) (omega arith) ∙ none)))

  -- something is reported of these, where something is reported at one place
  pub some_stated : (k : ℕ) (xs : List X) (d : X) → k < length xs → report k (get_or xs k d) ≢ [] → lines_of_each report 0 xs ≢ []
  some_stated k xs d inside some =
      some_behind k 0 xs d inside (λ none. some (ap (λ (n : ℕ). report n (get_or xs k d)) (omega arith) ∙ none))
