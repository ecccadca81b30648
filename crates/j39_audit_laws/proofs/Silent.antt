-- A flow is reported as silent exactly where no pauses lead from a message to a bound behind it.
use Rattle.std.proofs.Common.{◌≡◌, ◌↔◌, ℕ, zero, suc, ◌+◌, ◌-◌, ◌*◌, ◌<◌, ◌≤◌, ◌⊎◌, Bool, true, false, refl, sym, ap, arith, inl, inr, Option, Some, None}
use Rattle.std.proofs.lemmas.Bool.{cases_Bool, cases_eq, cases_lt, ltb-true, lt-ltb, true≢false}
use Rattle.j39_audit.specs.declared.window.Window.{Window}
use Rattle.j39_audit.specs.Silence.{IsTooFar, is_silent, latest, lies_behind, within_pause}
use Rattle.j39_audit_laws.proofs.Steps.{first_or_none, none_yet, one_more}

-- ---- one step

behind_is : (pause : ℕ) (l x : Option ℕ) → lies_behind pause l x ≡ true → (m : ℕ) × (y : ℕ) × (l ≡ Some m) × (x ≡ Some y) × (m + pause < y)
unfolding lies_behind
behind_is pause None x is = absurd (true≢false (sym is))
behind_is pause (Some m) None is = absurd (true≢false (sym is))
behind_is pause (Some m) (Some y) is = (m, y, refl, refl, ltb-true (m + pause) y is)

lies_behind_at : (pause : ℕ) (l x : Option ℕ) (m y : ℕ) → l ≡ Some m → x ≡ Some y → m + pause < y → lies_behind pause l x ≡ true
unfolding lies_behind
lies_behind_at pause None x m y kept is less = absurd (grind (arith, kept))
lies_behind_at pause (Some c) None m y kept is less = absurd (grind (arith, is))
lies_behind_at pause (Some c) (Some z) m y kept is less =
    let same : c ≡ m = grind (arith, kept) in
    let bound : z ≡ y = grind (arith, is) in
    lt-ltb (c + pause) z (omega (arith, same, bound, less))

pause_from : (pause : ℕ) (l : Option ℕ) (upper : ℕ) → (within_pause pause l upper ≡ upper) ⊎ ((m : ℕ) × (l ≡ Some m) × (within_pause pause l upper ≡ m + pause))
unfolding within_pause
pause_from pause None upper = inl refl
pause_from pause (Some m) upper = elim (cases_lt upper (m + pause)) [
  | inl less ↦ inl (omega (arith, less))
  | inr more ↦ inr (m, refl, omega (arith, more))
]

pause_at_most : (pause : ℕ) (l : Option ℕ) (upper : ℕ) → within_pause pause l upper ≤ upper
unfolding within_pause
pause_at_most pause None upper = omega arith
pause_at_most pause (Some m) upper = omega arith

pause_from_kept : (pause : ℕ) (l : Option ℕ) (upper m : ℕ) → l ≡ Some m → within_pause pause l upper ≤ m + pause
unfolding within_pause
pause_from_kept pause None upper m is = absurd (grind (arith, is))
pause_from_kept pause (Some c) upper m is = let same : c ≡ m = grind (arith, is) in omega (arith, same)

-- ---- what is kept

module _ (pause : ℕ) (windows : ℕ → Window) where
  -- it is an upper bound of a message up to the m-th, and as many pauses
  IsOfBound : ℕ → ℕ → Type 0
  IsOfBound m l = (i : ℕ) × (i ≤ m) × (l ≡ (windows i).upper + (m - i) * pause)

  abbrev stated_at : ℕ → Bool
  stated_at k = is_silent pause windows k (windows k).lower

  next_is : (j : ℕ) → (latest pause windows (suc j) ≡ Some (windows j).upper)
      ⊎ (latest pause windows (suc j) ≡ Some (within_pause pause (latest pause windows j) (windows j).upper))
  unfolding latest
  next_is j = elim (cases_Bool (stated_at j)) [
    | inl silent ↦ inl (rw (silent) refl)
    | inr not ↦ inr (rw (not) refl)
  ]

  next_where_not : (j : ℕ) → stated_at j ≡ false → latest pause windows (suc j) ≡ Some (within_pause pause (latest pause windows j) (windows j).upper)
  unfolding latest
  next_where_not j not = rw (not) refl

  of_own : (j l : ℕ) → l ≡ (windows j).upper → IsOfBound j l
  unfolding IsOfBound
  of_own j l is = (j, omega arith, let nothing = none_yet j pause in omega (arith, nothing, is))

  of_bounds : (j l : ℕ) → latest pause windows (suc j) ≡ Some l → IsOfBound j l
  unfolding IsOfBound latest
  of_bounds zero l is = elim (next_is 0) [
    | inl anew ↦ of_own 0 l (grind (arith, anew, is))
    | inr kept ↦ of_own 0 l (grind (arith, kept, is, pause_from pause None (windows 0).upper))
  ]
  of_bounds (suc j) l is = elim (next_is (suc j)) [
    | inl anew ↦ of_own (suc j) l (grind (arith, anew, is))
    | inr kept ↦ elim (pause_from pause (latest pause windows (suc j)) (windows (suc j)).upper) [
      | inl own ↦ of_own (suc j) l (grind (arith, kept, own, is))
      | inr more ↦
          let (m, was, at) = more in
          let (i, up, steps) = of_bounds j m was in
          let same : l ≡ m + pause = grind (arith, kept, is, at) in
          let one = one_more i j pause up in
          (i, omega (arith, up), omega (arith, same, steps, one))
    ]
  ]

  -- where none was reported before, it is no more than each
  no_more : (j : ℕ) → ((k : ℕ) → k < suc j → stated_at k ≡ false) → (i : ℕ) → i ≤ j
      → (l : ℕ) × (latest pause windows (suc j) ≡ Some l) × (l ≤ (windows i).upper + (j - i) * pause)
  no_more zero none i up =
      let same : i ≡ 0 = omega (arith, up) in
      let kept = next_where_not 0 (none 0 (omega arith)) in
      let most = pause_at_most pause (latest pause windows 0) (windows 0).upper in
      let at : (windows i).upper ≡ (windows 0).upper = ap (λ (k : ℕ). (windows k).upper) same in
      (within_pause pause (latest pause windows 0) (windows 0).upper, kept, omega (arith, most, at))
  no_more (suc j) none i up =
      let kept = next_where_not (suc j) (none (suc j) (omega arith)) in
      elim (cases_eq i (suc j)) [
        | inl same ↦
            let most = pause_at_most pause (latest pause windows (suc j)) (windows (suc j)).upper in
            let at : (windows i).upper ≡ (windows (suc j)).upper = ap (λ (k : ℕ). (windows k).upper) same in
            (within_pause pause (latest pause windows (suc j)) (windows (suc j)).upper, kept, omega (arith, most, at))
        | inr other ↦
            let inside : i ≤ j = omega (arith, up, other) in
            let (m, was, less) = no_more j (λ k below. none k (omega (arith, below))) i inside in
            let far = pause_from_kept pause (latest pause windows (suc j)) (windows (suc j)).upper m was in
            let one = one_more i j pause inside in
            (within_pause pause (latest pause windows (suc j)) (windows (suc j)).upper, kept, omega (arith, less, far, one))
      ]

  pub reported_silent : (j : ℕ) (lower : Option ℕ) → is_silent pause windows j lower ≡ true → IsTooFar pause windows j lower
  unfolding IsOfBound latest
  reported_silent zero lower is = let (m, y, kept, bound, less) = behind_is pause None lower is in absurd (grind (arith, kept))
  reported_silent (suc j) lower is =
      let (m, y, kept, bound, less) = behind_is pause (latest pause windows (suc j)) lower is in
      let (i, up, steps) = of_bounds j m kept in
      let one = one_more i j pause up in
      record { first = i; before = omega (arith, up); bound = y; is = bound; gap = omega (arith, less, steps, one) }

  found_silent : (j : ℕ) → ((k : ℕ) → k < j → stated_at k ≡ false) → (lower : Option ℕ) → IsTooFar pause windows j lower
      → is_silent pause windows j lower ≡ true
  found_silent zero none lower far = let before = far.before in absurd (omega (arith, before))
  found_silent (suc j) none lower far =
      let i = far.first in
      let before = far.before in
      let gap = far.gap in
      let inside : i ≤ j = omega (arith, before) in
      let (l, kept, less) = no_more j none i inside in
      let one = one_more i j pause inside in
      lies_behind_at pause (latest pause windows (suc j)) lower l far.bound kept far.is (omega (arith, less, one, gap))

  pub first_silent : (j : ℕ) → ((k : ℕ) → k < j → stated_at k ≡ false) → (lower : Option ℕ)
      → (is_silent pause windows j lower ≡ true) ↔ IsTooFar pause windows j lower
  first_silent j none lower = (reported_silent j lower, found_silent j none lower)

  pub some_silent : (n : ℕ) → ((j : ℕ) × (j < n) × (stated_at j ≡ true)) ↔ ((j : ℕ) × (j < n) × IsTooFar pause windows j (windows j).lower)
  some_silent n = (
    λ stated. let (j, inside, is) = stated in (j, inside, reported_silent j (windows j).lower is),
    λ found.
        let (j, inside, far) = found in
        elim (first_or_none stated_at j) [
          | inl it ↦ let (k, below, is, first) = it in (k, omega (arith, below, inside), is)
          | inr none ↦ (j, inside, found_silent j none (windows j).lower far)
        ],
  )
