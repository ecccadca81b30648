-- What is seen of two buses, and of all others: by which of them a bus is.
use Rattle.std.proofs.Common.{◌≡◌, ◌≢◌, ℕ, Bool, true, false, eqb, if◌then◌else◌, refl, sym, ap, ◌∙◌, subst, inl, inr}
use Rattle.std.proofs.lemmas.Bool.{cases_Bool, eq-eqb, eqb-true}
use Rattle.j39_vehicle_laws.specs.Seen.{SeenBus, SeenBuses}

module _ (x y : ℕ) (of_x of_y : SeenBus) (others : ℕ → SeenBus) where
  abbrev pub both_buses : SeenBuses
  both_buses b = if eqb b x then of_x else (if eqb b y then of_y else others b)

  pub seen_x : (b : ℕ) → eqb b x ≡ true → both_buses b ≡ of_x
  seen_x b is = ap (λ (c : Bool). if c then of_x else (if eqb b y then of_y else others b)) is

  pub seen_y : (b : ℕ) → eqb b x ≡ false → eqb b y ≡ true → both_buses b ≡ of_y
  seen_y b isnt is = ap (λ (c : Bool). if c then of_x else (if eqb b y then of_y else others b)) isnt
      ∙ ap (λ (c : Bool). if c then of_y else others b) is

  pub seen_other : (b : ℕ) → eqb b x ≡ false → eqb b y ≡ false → both_buses b ≡ others b
  seen_other b isnt neither = ap (λ (c : Bool). if c then of_x else (if eqb b y then of_y else others b)) isnt
      ∙ ap (λ (c : Bool). if c then of_y else others b) neither

  -- a statement on any bus holds where it does of these three
  pub each_bus : (b : ℕ) (P : SeenBus → Type 0) → P of_x → P of_y → P (others b) → P (both_buses b)
  each_bus b P first second other = elim (cases_Bool (eqb b x)) [
    | inl is ↦ subst P (sym (seen_x b is)) first
    | inr isnt ↦ elim (cases_Bool (eqb b y)) [
      | inl is ↦ subst P (sym (seen_y b isnt is)) second
      | inr neither ↦ subst P (sym (seen_other b isnt neither)) other
    ]
  ]

  pub at_x : both_buses x ≡ of_x
  at_x = seen_x x (eq-eqb x x refl)

  pub at_y : x ≢ y → both_buses y ≡ of_y
  at_y differ = elim (cases_Bool (eqb y x)) [
    | inl is ↦ absurd (differ (sym (eqb-true y x is)))
    | inr isnt ↦ seen_y y isnt (eq-eqb y y refl)
  ]

  -- so does one on both
  pub in_both : x ≢ y → (P : SeenBus → SeenBus → Type 0) → P of_x of_y → P (both_buses x) (both_buses y)
  in_both differ P holds = subst (λ (s : SeenBus). P s (both_buses y)) (sym at_x) (subst (λ (s : SeenBus). P of_x s) (sym (at_y differ)) holds)
