-- What is left of messages where a unit is switched off.
use Rattle.std.proofs.Common.{◌≡◌, ◌≢◌, ℕ, ◌⊎◌, inl, inr, Bool, true, false, not, ◌&&◌, ◌||◌, eqb, List, [], ◌∷◌, refl, sym, ap, ◌∙◌, subst, Option, None}
use Rattle.std.proofs.lemmas.Bool.{cases_Bool, cases_eq, cond_both, eq-eqb, eqb-false, eqb-true, ne_eqb, or_from, or_left, or_parts, or_right, true≢false}
use Rattle.std.specs.List.{AllByRecursion, filter}
use Rattle.j39_tp.specs.Sender.{ended}
use Rattle.j39_tp.specs.declared.sending.outcome.Outcome.{Outcome}
use Rattle.j39_tp.specs.declared.sending.outcome.Outcome.TheVariants.{GaveUp}
use Rattle.j39_tp.specs.declared.sending.stage.Stage.{Stage}
use Rattle.j39_tp.specs.declared.sending.stage.Stage.TheVariants.{Sending, Waiting, Resting}
use Rattle.j39_network.specs.declared.plan.to.To.{To}
use Rattle.j39_network.specs.declared.plan.to.To.TheVariants as tos
use Rattle.j39_world.specs.ClaimSteps.{without_lists_to}
use Rattle.j39_world.specs.SwitchingOff.{is_either, sessions_without, session_without, stage_without, without_lists_of}
use Rattle.j39_world.specs.Transfers.{Outgoing, Sessions, is_among}
use Rattle.j39_run_laws.proofs.Runs.Changed.{changed_elsewhere, changed_here}

-- ---- a unit to which nothing lies is switched on

pub nothing_dropped : {X : Type 0} (lists : ℕ → ℕ → List X) (u : ℕ) → ((s : ℕ) → lists s u ≡ []) → (s t : ℕ) → lists s t ≡ without_lists_to u lists s t
nothing_dropped lists u none s t = cond_both (eqb t u) [] (lists s t) (λ xs. lists s t ≡ xs) (λ is. ap (lists s) (eqb-true t u is) ∙ none s) (λ _. refl)

-- ---- tests of a plan that isn't live

pub unless_live : (live test : Bool) → live ≡ false → (not live && test) ≡ false → test ≡ false
unless_live true test quiet none = absurd (true≢false quiet)
unless_live false test quiet none = none

-- ---- elements of a list that pass a test

module _ (test : ℕ → Bool) (v : ℕ) where
  pub among_same : test v ≡ true → (xs : List ℕ) → is_among (filter test xs) v ≡ is_among xs v
  among_same passes [] = refl
  among_same passes (x ∷ xs) = elim (cases_Bool (test x)) [
    | inl passed ↦ rw passed (ap (λ b. eqb v x || b) (among_same passes xs))
    | inr failed ↦
        let other : v ≢ x = λ same. true≢false (sym passes ∙ ap test same ∙ failed) in
        let e : eqb v x ≡ false = ne_eqb v x other in
        rw (failed, e) (among_same passes xs)
  ]

  pub among_none : test v ≡ false → (xs : List ℕ) → is_among (filter test xs) v ≡ false
  among_none fails [] = refl
  among_none fails (x ∷ xs) = elim (cases_Bool (test x)) [
    | inl passed ↦
        let other : v ≢ x = λ same. true≢false (sym passed ∙ ap test (sym same) ∙ fails) in
        let e : eqb v x ≡ false = ne_eqb v x other in
        rw (passed, e) (among_none fails xs)
    | inr failed ↦ rw failed (among_none fails xs)
  ]

-- where all pass it is the list
pub all_stay : (test : ℕ → Bool) (xs : List ℕ) → ((v : ℕ) → is_among xs v ≡ true → test v ≡ true) → filter test xs ≡ xs
all_stay test [] pass = refl
all_stay test (x ∷ xs) pass =
    let e : eqb x x ≡ true = eq-eqb x x refl in
    let here : test x ≡ true = pass x (or_left (eqb x x) (is_among xs x) e) in
    rw here (ap (λ (ys : List ℕ). x ∷ ys) (all_stay test xs (λ v among. pass v (or_right (eqb v x) (is_among xs v) among))))

-- ---- a unit that is gone

module _ (u : ℕ) where
  abbrev pub is_left : ℕ → Bool
  is_left v = not (eqb v u)

  left : (v : ℕ) → v ≢ u → is_left v ≡ true
  left v other = ap not (ne_eqb v u other)

  pub targets_same : (xs : List ℕ) (v : ℕ) → v ≢ u → is_among (filter is_left xs) v ≡ is_among xs v
  targets_same xs v other = among_same is_left v (left v other) xs

  pub targets_none : (xs : List ℕ) → is_among (filter is_left xs) u ≡ false
  targets_none xs = among_none is_left u (ap not (eq-eqb u u refl)) xs

  -- what the message goes to then it went to before
  pub targets_less : (xs : List ℕ) (v : ℕ) → is_among (filter is_left xs) v ≡ true → (is_among xs v ≡ true) × (v ≢ u)
  targets_less xs v among = elim (cases_eq v u) [
    | inl same ↦ absurd (true≢false (sym among ∙ ap (is_among (filter is_left xs)) same ∙ targets_none xs))
    | inr other ↦ (sym (targets_same xs v other) ∙ among, other)
  ]

  -- one that didn't go to u goes to whom it did
  pub targets_stay : (xs : List ℕ) → is_among xs u ≡ false → filter is_left xs ≡ xs
  targets_stay xs none = all_stay is_left xs (λ v among. left v (λ same. true≢false (sym among ∙ ap (is_among xs) same ∙ none)))

  -- ---- stages

  -- it is what it was, or has given up where it hadn't ended
  pub stage_left : (to : To) (stage : Stage) → (stage_without u to stage ≡ stage) ⊎ (stage_without u to stage ≡ Resting GaveUp)
  stage_left tos.All stage = inl refl
  stage_left (tos.One v) stage =
      cond_both (eqb v u) (ended GaveUp stage).0 stage (λ (x : Stage). (x ≡ stage) ⊎ (x ≡ Resting GaveUp)) (λ _. given_up stage) (λ _. inl refl)
    where
      given_up : (st : Stage) → ((ended GaveUp st).0 ≡ st) ⊎ ((ended GaveUp st).0 ≡ Resting GaveUp)
      given_up (Sending next last) = inr refl
      given_up Waiting = inr refl
      given_up (Resting was) = inl refl

  pub stage_stays : (to : To) (stage : Stage) → ((v : ℕ) → to ≡ tos.One v → v ≢ u) → stage_without u to stage ≡ stage
  stage_stays tos.All stage other = refl
  stage_stays (tos.One v) stage other = let e : eqb v u ≡ false = ne_eqb v u (other v refl) in rw e refl

  -- one that has ended is what it was
  pub ended_stays : (to : To) (outcome : Outcome) → stage_without u to (Resting outcome) ≡ Resting outcome
  ended_stays tos.All outcome = refl
  ended_stays (tos.One v) outcome =
      cond_both (eqb v u) (Resting outcome) (Resting outcome) (λ (x : Stage). x ≡ Resting outcome) (λ _. refl) (λ _. refl)

  -- ---- sessions

  -- what holds of each session, where it does of one without u
  pub sessions_each : (P : ℕ → Option Outgoing → Type 0) (sessions : Sessions) → P u None → ((x : ℕ) → x ≢ u → P x (session_without u (sessions x)))
      → (x : ℕ) → P x (sessions_without u sessions x)
  sessions_each P sessions gone each x = elim (cases_eq x u) [
    | inl same ↦ subst (λ k. P k (sessions_without u sessions k)) (sym same)
        (subst (P u) (sym (changed_here (λ y. session_without u (sessions y)) u None)) gone)
    | inr other ↦ subst (P x) (sym (changed_elsewhere (λ y. session_without u (sessions y)) u None x other)) (each x other)
  ]

  -- ---- pairs of units

  -- u is one of two units, or none of them
  pub either_cases : (s t : ℕ) → ((is_either u s t ≡ true) × (is_either u t s ≡ true) × ((s ≡ u) ⊎ (t ≡ u)))
      ⊎ ((is_either u s t ≡ false) × (is_either u t s ≡ false) × (s ≢ u) × (t ≢ u))
  either_cases s t = elim (cases_eq s u) [
    | inl same ↦
        let e : eqb s u ≡ true = eq-eqb s u same in
        inl (or_left (eqb s u) (eqb t u) e, or_right (eqb t u) (eqb s u) e, inl same)
    | inr other ↦ elim (cases_eq t u) [
      | inl same ↦
          let e : eqb t u ≡ true = eq-eqb t u same in
          inl (or_right (eqb s u) (eqb t u) e, or_left (eqb t u) (eqb s u) e, inr same)
      | inr apart ↦
          let e : eqb s u ≡ false = ne_eqb s u other in
          let f : eqb t u ≡ false = ne_eqb t u apart in
          inr (or_from (eqb s u) (eqb t u) e f, or_from (eqb t u) (eqb s u) f e, other, apart)
    ]
  ]

  -- what holds of the items between others holds of all that are left
  pub lists_left : {X : Type 0} (P : ℕ → ℕ → X → Type 0) (lists : ℕ → ℕ → List X)
      → ((s t : ℕ) → s ≢ u → t ≢ u → AllByRecursion (P s t) (lists s t)) → (s t : ℕ) → AllByRecursion (P s t) (without_lists_of u lists s t)
  lists_left P lists each s t = cond_both (is_either u s t) [] (lists s t) (AllByRecursion (P s t)) (λ _. tt)
      (λ none. let parts = or_parts (eqb s u) (eqb t u) none in each s t (eqb-false s u parts.0) (eqb-false t u parts.1))
