-- What there is at some pairs of places is dropped, one pair after the other: all for a unit, or all for it and all from it.
use Rattle.std.proofs.Common.{◌≡◌, ℕ, ◌+◌, ◌≤◌, ◌⊎◌, Bool, true, false, cond, ◌&&◌, ◌||◌, eqb, ltb, List, [], length, get_or, refl, sym, ap, ◌∙◌, subst, arith, inl, inr}
use Rattle.std.proofs.lemmas.List.{get_or_past}
use Rattle.std.proofs.lemmas.Bool.{cases_eq, cases_lt, eq-eqb, ne_eqb, lt-ltb, le-ltb}
use Rattle.j39_bus.specs.Queued.{IsTable, KeepsRoom, Queued, changed_in, pair_in, without_column, without_unit}

pub next_place : (s k : ℕ) → ¬ (s ≡ k) → ltb s (k + 1) ≡ ltb s k
next_place s k other = elim (cases_lt s k) [
  | inl less ↦ lt-ltb s (k + 1) (omega arith) ∙ sym (lt-ltb s k less)
  | inr more ↦ le-ltb s (k + 1) (omega arith) ∙ sym (le-ltb s k more)
]

below_next : (s k : ℕ) → ltb s (k + 1) ≡ (eqb s k || ltb s k)
below_next s k = elim (cases_eq s k) [
  | inl same ↦ rw (same, eq-eqb k k refl) (lt-ltb k (k + 1) (omega arith))
  | inr other ↦ rw (ne_eqb s k other) (next_place s k other)
]

-- this pair, and those that pass
abbrev pub or_at : (ℕ → ℕ → Bool) → ℕ → ℕ → ℕ → ℕ → Bool
or_at passes u v s t = (eqb s u && eqb t v) || passes s t

module _ {X : Type 0} (none : X) where
  -- nothing at the pairs that pass, the same as before at each other
  abbrev pub IsCleared : (ℕ → ℕ → Bool) → (ℕ → ℕ → X) → (ℕ → ℕ → X) → Type 0
  IsCleared passes old f = (s t : ℕ) → f s t ≡ cond (passes s t) none (old s t)

  -- at one pair more
  pub cleared_more : (passes after : ℕ → ℕ → Bool) (u v : ℕ) (old f new : ℕ → ℕ → X) → IsCleared passes old f → new ≡ changed_in f u v none
      → ((s t : ℕ) → after s t ≡ or_at passes u v s t) → IsCleared after old new
  cleared_more passes after u v old f new is new_is more s t =
      (λ i. new_is i s t) ∙ ap (cond (eqb s u && eqb t v) none) (is s t) ∙ either (eqb s u && eqb t v) (passes s t) (old s t)
      ∙ ap (λ b. cond b none (old s t)) (sym (more s t))
    where
      either : (a b : Bool) (x : X) → cond a none (cond b none x) ≡ cond (a || b) none x
      either true b x = refl
      either false b x = refl

  -- at all of these, where there was nothing at those of them that do not pass
  pub cleared_all : (passes all : ℕ → ℕ → Bool) (old f : ℕ → ℕ → X) → IsCleared passes old f
      → ((s t : ℕ) → (passes s t ≡ all s t) ⊎ (old s t ≡ none)) → f ≡ (λ s t. cond (all s t) none (old s t))
  cleared_all passes all old f is same = λ i s t. at s t i
    where
      nothing : (a b : Bool) → cond a none none ≡ cond b none none
      nothing true true = refl
      nothing true false = refl
      nothing false true = refl
      nothing false false = refl

      at : (s t : ℕ) → f s t ≡ cond (all s t) none (old s t)
      at s t = is s t ∙ elim (same s t) [
        | inl alike ↦ ap (λ b. cond b none (old s t)) alike
        | inr gone ↦ rw gone (nothing (passes s t) (all s t))
      ]

-- ---- the column of a unit, and its row, up to a place

abbrev pub in_column : ℕ → ℕ → ℕ → ℕ → Bool
in_column u k s t = ltb s k && eqb t u

abbrev pub in_row_or_column : ℕ → ℕ → ℕ → ℕ → Bool
in_row_or_column u k s t = (eqb s u && ltb t k) || in_column u k s t

pub next_in_column : (u k s t : ℕ) → in_column u (k + 1) s t ≡ or_at (in_column u k) k u s t
next_in_column u k s t = ap (λ b. b && eqb t u) (below_next s k) ∙ spread (eqb s k) (ltb s k) (eqb t u)
  where
    spread : (a b c : Bool) → ((a || b) && c) ≡ ((a && c) || (b && c))
    spread true true true = refl
    spread true true false = refl
    spread true false true = refl
    spread true false false = refl
    spread false b c = refl

-- that of the row and that of the column
pub next_in_either : (u k s t : ℕ) → in_row_or_column u (k + 1) s t ≡ or_at (or_at (in_row_or_column u k) u k) k u s t
next_in_either u k s t =
    (λ i. (eqb s u && below_next t k i) || next_in_column u k s t i)
    ∙ spread (eqb s u) (eqb t k) (ltb t k) (eqb s k && eqb t u) (in_column u k s t)
  where
    spread : (a b c d e : Bool) → ((a && (b || c)) || (d || e)) ≡ (d || ((a && b) || ((a && c) || e)))
    spread true true c true e = refl
    spread true true c false e = refl
    spread true false true true e = refl
    spread true false true false e = refl
    spread true false false d e = refl
    spread false b c d e = refl

-- ---- nothing is past a table

module _ {Y : Type 0} (n : ℕ) (old : List (List Y)) (table : IsTable n old) (none : Y) where
  past_rows : (s t : ℕ) → n ≤ s → get_or (get_or old s []) t none ≡ none
  past_rows s t more = ap (λ (r : List Y). get_or r t none) (get_or_past old s [] (omega (arith, table.rows, more)))

  past_columns : (s t : ℕ) → n ≤ t → get_or (get_or old s []) t none ≡ none
  past_columns s t more = elim (cases_lt s n) [
    | inl inside ↦ get_or_past (get_or old s []) t none (omega (arith, table.columns s inside, more))
    | inr outside ↦ past_rows s t outside
  ]

  pub whole_column : (u k : ℕ) → n ≤ k → (s t : ℕ) → (in_column u k s t ≡ eqb t u) ⊎ (get_or (get_or old s []) t none ≡ none)
  whole_column u k past s t = elim (cases_lt s k) [
    | inl less ↦ inl (rw (lt-ltb s k less) refl)
    | inr more ↦ inr (past_rows s t (omega (arith, past, more)))
  ]

  pub whole_row_and_column : (u k : ℕ) → n ≤ k → (s t : ℕ)
      → (in_row_or_column u k s t ≡ (eqb s u || eqb t u)) ⊎ (get_or (get_or old s []) t none ≡ none)
  whole_row_and_column u k past s t = elim (cases_lt t k) [
    | inl less ↦ elim (whole_column u k past s t) [
      | inl column ↦ inl (rw (lt-ltb t k less, column) (ap (λ b. b || eqb t u) (all (eqb s u))))
      | inr gone ↦ inr gone
    ]
    | inr more ↦ inr (past_columns s t (omega (arith, past, more)))
  ]
    where
      all : (a : Bool) → (a && true) ≡ a
      all true = refl
      all false = refl

-- ---- queues of which the items of some pairs were dropped

pub record AreDropped {X : Type 0} (passes : ℕ → ℕ → Bool) (was q : Queued X) : Type 0 where
  pub table : IsTable (length was.lists) q.lists
  pub lists : IsCleared [] passes (pair_in was.lists) (pair_in q.lists)
  pub room : KeepsRoom was q

module _ {X : Type 0} (was : Queued X) where
  pub more_dropped : (passes after : ℕ → ℕ → Bool) (u v : ℕ) (q new : Queued X) → AreDropped passes was q → IsTable (length q.lists) new.lists
      → pair_in new.lists ≡ changed_in (pair_in q.lists) u v [] → KeepsRoom q new
      → ((s t : ℕ) → after s t ≡ or_at passes u v s t) → AreDropped after was new
  more_dropped passes after u v q new dropped table lists room more = record {
    table = subst (λ (n : ℕ). IsTable n new.lists) dropped.table.rows table;
    lists = cleared_more [] passes after u v (pair_in was.lists) (pair_in q.lists) (pair_in new.lists) dropped.lists lists more;
    room = λ s t. omega (arith, dropped.room s t, room s t);
  }

  -- all that there were
  pub column_dropped : (u k : ℕ) (q : Queued X) → IsTable (length was.lists) was.lists → length was.lists ≤ k → AreDropped (in_column u k) was q
      → pair_in q.lists ≡ without_column u (pair_in was.lists)
  column_dropped u k q table past dropped =
      cleared_all [] (in_column u k) (λ s t. eqb t u) (pair_in was.lists) (pair_in q.lists) dropped.lists (whole_column (length was.lists) was.lists table [] u k past)

  pub unit_dropped : (u k : ℕ) (q : Queued X) → IsTable (length was.lists) was.lists → length was.lists ≤ k → AreDropped (in_row_or_column u k) was q
      → pair_in q.lists ≡ without_unit u (pair_in was.lists)
  unit_dropped u k q table past dropped =
      cleared_all [] (in_row_or_column u k) (λ s t. eqb s u || eqb t u) (pair_in was.lists) (pair_in q.lists) dropped.lists
      (whole_row_and_column (length was.lists) was.lists table [] u k past)
