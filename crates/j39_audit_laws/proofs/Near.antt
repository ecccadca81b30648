-- A message is reported as too near exactly where there is no room for the steps of its stream.
use Rattle.std.proofs.Common.{◌≡◌, ◌↔◌, ℕ, zero, suc, ◌+◌, ◌-◌, ◌*◌, ◌<◌, ◌≤◌, ◌⊎◌, max, true, false, refl, subst, sym, ap, ◌∙◌, arith, inl, inr, Option, Some}
use Rattle.std.proofs.Common.{None}
use Rattle.std.proofs.lemmas.Bool.{cases_Bool, cases_eq, cases_lt, ltb-true, lt-ltb, true≢false}
use Rattle.j39_audit.specs.declared.window.Window.{Window}
use Rattle.j39_audit.specs.Near.{IsTooNear, candidate, earliest, is_later_than, is_too_near, step_on}
use Rattle.j39_audit_laws.specs.Stepping.{AreStepsApart, AreMomentsWithin}
use Rattle.j39_audit_laws.proofs.Steps.{first_or_none, none_yet, one_more}
use Rattle.j39_audit_laws.proofs.Spread.{spread}

-- ---- one step

step_from : (step : ℕ) (e x : Option ℕ) (m : ℕ) → step_on step e x ≡ Some m → ((d : ℕ) × (e ≡ Some d) × (m ≡ d + step)) ⊎ (x ≡ Some m)
unfolding step_on
step_from step None x m is = inr is
step_from step (Some d) None m is = inl (d, refl, grind (arith, is))
step_from step (Some d) (Some x) m is =
    let same : max (d + step) x ≡ m = grind (arith, is) in
    elim (cases_lt (d + step) x) [
      | inl less ↦ let at : x ≡ m = omega (arith, same, less) in inr (ap Some at)
      | inr more ↦ inl (d, refl, omega (arith, same, more))
    ]

step_from_kept : (step : ℕ) (e x : Option ℕ) (d : ℕ) → e ≡ Some d → (m : ℕ) × (step_on step e x ≡ Some m) × (d + step ≤ m)
unfolding step_on
step_from_kept step None x d is = absurd (grind (arith, is))
step_from_kept step (Some c) None d is = let same : c ≡ d = grind (arith, is) in (c + step, refl, omega (arith, same))
step_from_kept step (Some c) (Some x) d is = let same : c ≡ d = grind (arith, is) in (max (c + step) x, refl, omega (arith, same))

step_from_bound : (step : ℕ) (e x : Option ℕ) (y : ℕ) → x ≡ Some y → (m : ℕ) × (step_on step e x ≡ Some m) × (y ≤ m)
unfolding step_on
step_from_bound step None x y is = (y, is, omega arith)
step_from_bound step (Some c) None y is = absurd (grind (arith, is))
step_from_bound step (Some c) (Some x) y is = let same : x ≡ y = grind (arith, is) in (max (c + step) x, refl, omega (arith, same))

later_is : (e : Option ℕ) (upper : ℕ) → is_later_than e upper ≡ true → (m : ℕ) × (e ≡ Some m) × (upper < m)
unfolding is_later_than
later_is None upper is = absurd (true≢false (sym is))
later_is (Some m) upper is = (m, refl, ltb-true upper m is)

is_later_at : (e : Option ℕ) (upper m : ℕ) → e ≡ Some m → upper < m → is_later_than e upper ≡ true
unfolding is_later_than
is_later_at None upper m is less = absurd (grind (arith, is))
is_later_at (Some c) upper m is less = let same : c ≡ m = grind (arith, is) in lt-ltb upper c (omega (arith, same, less))

-- ---- what is kept

module _ (step : ℕ) (windows : ℕ → Window) where
  -- it is a lower bound of a message up to the m-th, and as many steps
  IsOfBound : ℕ → ℕ → Type 0
  IsOfBound m e = (i : ℕ) × (x : ℕ) × (i ≤ m) × ((windows i).lower ≡ Some x) × (e ≡ x + (m - i) * step)

  abbrev here : ℕ → Option ℕ
  here j = candidate step (earliest step windows j) (windows j)

  next_is : (j : ℕ) → (earliest step windows (suc j) ≡ here j) ⊎ (earliest step windows (suc j) ≡ (windows j).lower)
  unfolding earliest
  next_is j = elim (cases_Bool (is_too_near step windows j)) [
    | inl near ↦ inr (rw (near) refl)
    | inr not ↦ inl (rw (not) refl)
  ]

  next_where_not : (j : ℕ) → is_too_near step windows j ≡ false → earliest step windows (suc j) ≡ here j
  unfolding earliest
  next_where_not j not = rw (not) refl

  of_own : (j e : ℕ) → (windows j).lower ≡ Some e → IsOfBound j e
  unfolding IsOfBound
  of_own j e is = (j, e, omega arith, is, let nothing = none_yet j step in omega (arith, nothing))

  of_bounds : (j e : ℕ) → here j ≡ Some e → IsOfBound j e
  unfolding IsOfBound earliest
  of_bounds zero e is = elim (step_from step None (windows 0).lower e is) [
    | inl kept ↦ let (d, none, at) = kept in absurd (grind (arith, none))
    | inr own ↦ of_own 0 e own
  ]
  of_bounds (suc j) e is = elim (step_from step (earliest step windows (suc j)) (windows (suc j)).lower e is) [
    | inr own ↦ of_own (suc j) e own
    | inl kept ↦
        let (d, was, at) = kept in
        let before : IsOfBound j d = elim (next_is j) [
          | inl same ↦ of_bounds j d (sym same ∙ was)
          | inr anew ↦ of_own j d (sym anew ∙ was)
        ] in
        let (i, x, up, bound, steps) = before in
        let more = one_more i j step up in
        (i, x, omega (arith, up), bound, omega (arith, at, steps, more))
  ]

  -- where none was reported before, it is no less than each
  no_less : (j : ℕ) → ((k : ℕ) → k < j → is_too_near step windows k ≡ false) → (i x : ℕ) → i ≤ j → (windows i).lower ≡ Some x
      → (e : ℕ) × (here j ≡ Some e) × (x + (j - i) * step ≤ e)
  no_less zero none i x up bound =
      let same : i ≡ 0 = omega (arith, up) in
      let (e, is, low) = step_from_bound step (earliest step windows 0) (windows 0).lower x (subst (λ (k : ℕ). (windows k).lower ≡ Some x) same bound) in
      let nothing : (0 - i) * step ≡ 0 = rw (same) (none_yet 0 step) in
      (e, is, omega (arith, low, nothing))
  no_less (suc j) none i x up bound = elim (cases_eq i (suc j)) [
    | inl same ↦
        let (e, is, low) = step_from_bound step (earliest step windows (suc j)) (windows (suc j)).lower x
        (subst (λ (k : ℕ). (windows k).lower ≡ Some x) same bound) in
        let nothing : (suc j - i) * step ≡ 0 = rw (same) (none_yet (suc j) step) in
        (e, is, omega (arith, low, nothing))
    | inr other ↦
        let inside : i ≤ j = omega (arith, up, other) in
        let (d, was, low) = no_less j (λ k below. none k (omega (arith, below))) i x inside bound in
        let kept : earliest step windows (suc j) ≡ Some d = next_where_not j (none j (omega arith)) ∙ was in
        let (e, is, far) = step_from_kept step (earliest step windows (suc j)) (windows (suc j)).lower d kept in
        let more = one_more i j step inside in
        (e, is, omega (arith, low, far, more))
  ]

  pub reported_near : (j : ℕ) → is_too_near step windows j ≡ true → IsTooNear step windows j
  unfolding IsOfBound
  reported_near j is =
      let (e, at, less) = later_is (here j) (windows j).upper is in
      let (i, x, up, bound, steps) = of_bounds j e at in
      record { first = i; before = up; lower = x; bound = bound; no_room = omega (arith, less, steps) }

  pub first_near : (j : ℕ) → ((k : ℕ) → k < j → is_too_near step windows k ≡ false) → (is_too_near step windows j ≡ true) ↔ IsTooNear step windows j
  first_near j none = (
    reported_near j,
    λ near.
        let (e, at, low) = no_less j none near.first near.lower near.before near.bound in
        let room = near.no_room in
        is_later_at (here j) (windows j).upper e at (omega (arith, low, room)),
  )

  pub some_near : (n : ℕ) → ((j : ℕ) × (j < n) × (is_too_near step windows j ≡ true)) ↔ ((j : ℕ) × (j < n) × IsTooNear step windows j)
  some_near n = (
    λ stated. let (j, inside, is) = stated in (j, inside, reported_near j is),
    λ found.
        let (j, inside, near) = found in
        elim (first_or_none (is_too_near step windows) j) [
          | inl it ↦ let (k, below, is, first) = it in (k, omega (arith, below, inside), is)
          | inr none ↦ (j, inside, (first_near j none).1 near)
        ],
  )

  -- ---- who keeps the step

  pub kept_steps_are_not_near : (n : ℕ) (moment : ℕ → ℕ) → AreMomentsWithin n windows moment → AreStepsApart n step moment → (j : ℕ) → j < n
      → is_too_near step windows j ≡ false
  kept_steps_are_not_near n moment within apart j inside = elim (cases_Bool (is_too_near step windows j)) [
    | inr not ↦ not
    | inl is ↦
        let near = reported_near j is in
        let i = near.first in
        let before = near.before in
        let (p, up, far) = spread (1000 * step) (1000 * near.lower) (j - i) (λ k. moment (i + k))
        (λ k up. within.from_lower i (i + k) near.lower (omega arith) (omega (arith, up, before, inside)) near.bound)
        (λ k l up_k up_l other. elim (cases_lt k l) [
          | inl less ↦ apart (i + k) (i + l) (omega (arith, less)) (omega (arith, up_l, before, inside))
          | inr more ↦ elim (apart (i + l) (i + k) (omega (arith, more, other)) (omega (arith, up_k, before, inside))) [ inl one ↦ inr one | inr two ↦ inl two ]
        ]) in
        let late = within.to_upper (i + p) j (omega (arith, up, before)) inside in
        let room = near.no_room in
        absurd (omega (arith, far, late, room))
  ]
