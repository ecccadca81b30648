-- An item joins the lists from a unit to each that passes a test, one after another, where there is room for it.
use Rattle.std.proofs.Common.{◌≡◌, ◌≢◌, ℕ, ◌+◌, ◌≤◌, Bool, true, false, cond, ◌&&◌, eqb, ltb, List, [], ◌∷◌, ◌++◌, refl, sym, ap, ◌∙◌, arith, inl, inr}
use Rattle.std.proofs.lemmas.Bool.{cases_eq, cases_lt, eq-eqb, ne_eqb, lt-ltb, le-ltb}
use Rattle.j39_bus.specs.Queued.{Queued, changed_in, one_at, room_at}

-- a place below the next one
next_place : (v k : ℕ) → v ≢ k → ltb v (k + 1) ≡ ltb v k
next_place v k other = elim (cases_lt v k) [
  | inl less ↦ lt-ltb v (k + 1) (omega arith) ∙ sym (lt-ltb v k less)
  | inr more ↦ le-ltb v (k + 1) (omega arith) ∙ sym (le-ltb v k more)
]

module _ {X : Type 0} (test : ℕ → Bool) (u : ℕ) (x : X) (f : ℕ → ℕ → List X) where
  -- it has joined those to places below this one
  abbrev pub IsPosted : ℕ → (ℕ → ℕ → List X) → Type 0
  IsPosted k g = (s t : ℕ) → g s t ≡ cond (eqb s u && (ltb t k && test t)) (f s t ++ x ∷ []) (f s t)

  pub posted_more : (k : ℕ) (g after : ℕ → ℕ → List X) → IsPosted k g → test k ≡ true → after ≡ changed_in g u k (g u k ++ x ∷ []) → IsPosted (k + 1) after
  posted_more k g after is one after_is s t = (λ i. after_is i s t) ∙ elim (cases_eq s u) [
    | inl same ↦ elim (cases_eq t k) [
      | inl here ↦
          let was : g u k ≡ f u k = is u k ∙ (rw (eq-eqb u u refl, le-ltb k k (omega arith)) refl) in
          rw (same, here, eq-eqb u u refl, eq-eqb k k refl, lt-ltb k (k + 1) (omega arith), one) (ap (λ xs. xs ++ x ∷ []) was)
      | inr other ↦ rw (ne_eqb t k other, next_place t k other) (rw same (rw (eq-eqb u u refl) (is u t ∙ (rw (eq-eqb u u refl) refl))))
    ]
    | inr other ↦ rw (ne_eqb s u other) (is s t ∙ (rw (ne_eqb s u other) refl))
  ]

  pub posted_past : (k : ℕ) (g : ℕ → ℕ → List X) → IsPosted k g → test k ≡ false → IsPosted (k + 1) g
  posted_past k g is none s t = is s t ∙ elim (cases_eq t k) [
    | inl here ↦ rw (here, le-ltb k k (omega arith), lt-ltb k (k + 1) (omega arith), none) refl
    | inr other ↦ rw (next_place t k other) refl
  ]

  pub posted_all : (n k : ℕ) (g : ℕ → ℕ → List X) → n ≤ k → ((t : ℕ) → n ≤ t → test t ≡ false) → IsPosted k g
      → g ≡ (λ s t. cond (eqb s u && test t) (f s t ++ x ∷ []) (f s t))
  posted_all n k g past none is = λ i s t. at s t i
    where
      at : (s t : ℕ) → g s t ≡ cond (eqb s u && test t) (f s t ++ x ∷ []) (f s t)
      at s t = is s t ∙ elim (cases_lt t k) [
        | inl less ↦ rw (lt-ltb t k less) refl
        | inr more ↦ rw (le-ltb t k more, none t (omega arith)) refl
      ]

-- from a place on there is as much room as before, and below it for one less at least
abbrev pub IsRoomLeft : {X : Type 0} → ℕ → ℕ → Queued X → Queued X → Type 0
IsRoomLeft u k old new = (v : ℕ) → room_at old u v ≤ room_at new u v + cond (ltb v k) 1 0

module _ {X : Type 0} (u k : ℕ) (old mid : Queued X) (left : IsRoomLeft u k old mid) where
  pub room_here : room_at old u k ≤ room_at mid u k
  room_here = at (ltb k k) (le-ltb k k (omega arith)) (left k)
    where
      at : (b : Bool) → b ≡ false → room_at old u k ≤ room_at mid u k + cond b 1 0 → room_at old u k ≤ room_at mid u k
      at true is h = absurd (cc is)
      at false is h = omega (arith, h)

  pub room_past : IsRoomLeft u (k + 1) old mid
  room_past v = elim (cases_lt v (k + 1)) [
    | inl less ↦ rw (lt-ltb v (k + 1) less) (at_most v (ltb v k) (left v))
    | inr more ↦ rw (le-ltb v (k + 1) more) (exactly v (ltb v k) (le-ltb v k (omega arith)) (left v))
  ]
    where
      at_most : (v : ℕ) (b : Bool) → room_at old u v ≤ room_at mid u v + cond b 1 0 → room_at old u v ≤ room_at mid u v + 1
      at_most v true h = h
      at_most v false h = omega (arith, h)

      exactly : (v : ℕ) (b : Bool) → b ≡ false → room_at old u v ≤ room_at mid u v + cond b 1 0 → room_at old u v ≤ room_at mid u v + 0
      exactly v true is h = absurd (cc is)
      exactly v false is h = h

  pub room_more : (new : Queued X) → ((s t : ℕ) → room_at mid s t ≤ room_at new s t + one_at u k s t) → IsRoomLeft u (k + 1) old new
  room_more new takes v = elim (cases_eq v k) [
    | inl same ↦
        let taken : room_at mid u k ≤ room_at new u k + 1 = one (eqb u u) (eqb k k) (eq-eqb u u refl) (eq-eqb k k refl) (takes u k) in
        rw (same, lt-ltb k (k + 1) (omega arith)) (omega (arith, room_here, taken))
    | inr other ↦
        let kept : room_at mid u v ≤ room_at new u v = none v (eqb u u) (eqb v k) (ne_eqb v k other) (takes u v) in
        rw (next_place v k other) (more v (cond (ltb v k) 1 0) kept (left v))
  ]
    where
      one : (a b : Bool) → a ≡ true → b ≡ true → room_at mid u k ≤ room_at new u k + cond (a && b) 1 0 → room_at mid u k ≤ room_at new u k + 1
      one true true is is' h = h
      one true false is is' h = absurd (cc is')
      one false b is is' h = absurd (cc is)

      none : (v : ℕ) (a b : Bool) → b ≡ false → room_at mid u v ≤ room_at new u v + cond (a && b) 1 0 → room_at mid u v ≤ room_at new u v
      none v true true is h = absurd (cc is)
      none v true false is h = omega (arith, h)
      none v false b is h = omega (arith, h)

      more : (v : ℕ) (less : ℕ) → room_at mid u v ≤ room_at new u v → room_at old u v ≤ room_at mid u v + less → room_at old u v ≤ room_at new u v + less
      more v less a b = omega (arith, a, b)
