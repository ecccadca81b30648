-- A planned frame that waits long sees the bus busy, from when the first planned frame waits that goes before it, with frames alone that do.
use Rattle.std.proofs.Common.{◌≡◌, ◌≢◌, ℕ, zero, suc, ◌+◌, ◌*◌, ◌-◌, ◌<◌, ◌≤◌, ◌⊎◌, Bool, true, false, not, cond, ◌&&◌, ◌||◌, ltb, leb, refl, ap, arith, inl}
use Rattle.std.proofs.Common.{inr}
use Rattle.std.proofs.lemmas.Bool.{and_parts, and_from, cases_lt, cases_eq, cases_Bool, le-leb, lt-ltb, leb-true, ltb-true, both_ways}
use Rattle.j39_timing.specs.Sums.{total}
use Rattle.j39_timing.specs.TimedFrames.{Schedule, IsLegal, IsOnBusAt, Waits}
use Rattle.j39_timing.specs.Traffic.{PlannedFramesWait, others_queued}
use Rattle.j39_timing.proofs.Overlaps.{covers, covered}
use Rattle.j39_timing.proofs.Searching.{any_below, any-found, any-none, last_false}
use Rattle.j39_timing.proofs.Sums.{total-two}

-- the frame is queued in the n bits from t on
abbrev pub is_within : Schedule → ℕ → ℕ → ℕ → Bool
is_within s t n p = leb t (s.queued p) && ltb (s.queued p) (t + n)

-- and is planned, with a smaller identifier than c
abbrev pub is_planned_within : Schedule → (ℕ → Bool) → ℕ → ℕ → ℕ → ℕ → Bool
is_planned_within s planned c t n p = planned p && (ltb (s.ident p) c && is_within s t n p)

abbrev pub planned_demand : Schedule → (ℕ → Bool) → ℕ → ℕ → ℕ → ℕ
planned_demand s planned c t n = total s.count (λ p. cond (is_planned_within s planned c t n p) (s.bits p) 0)

-- the sum over the places that pass is at most so many times their count
total-times : (n : ℕ) (passes : ℕ → Bool) (f : ℕ → ℕ) (most : ℕ) → ((i : ℕ) → i < n → f i ≤ most)
    → total n (λ i. cond (passes i) (f i) 0) ≤ most * total n (λ i. cond (passes i) 1 0)
unfolding total
total-times zero passes f most small = omega arith
total-times (suc n) passes f most small =
    let before : total n (λ i. cond (passes i) (f i) 0) ≤ most * total n (λ i. cond (passes i) 1 0) =
    total-times n passes f most (λ i inside. small i (omega arith)) in
    let last : f n ≤ most = small n (omega arith) in
    elim (passes n) as (λ e. total n (λ i. cond (passes i) (f i) 0) + cond e (f n) 0 ≤ most * (total n (λ i. cond (passes i) 1 0) + cond e 1 0)) [
      | true ↦ omega arith
      | false ↦ omega arith
    ]

-- the planned frames that go before, in such n bits, and how many others that do are queued
abbrev pub going_demand : Schedule → (ℕ → Bool) → (ℕ → Bool) → ℕ → ℕ → ℕ
going_demand s planned goes t n = total s.count (λ p. cond (planned p && (goes p && is_within s t n p)) (s.bits p) 0)

abbrev pub is_other_going : Schedule → (ℕ → Bool) → (ℕ → Bool) → ℕ → ℕ → ℕ → Bool
is_other_going s planned goes from to p = not (planned p) && (goes p && (leb (s.queued p) to && ltb from (s.start p)))

abbrev pub others_going : Schedule → (ℕ → Bool) → (ℕ → Bool) → ℕ → ℕ → ℕ
others_going s planned goes from to = total s.count (λ p. cond (is_other_going s planned goes from to p) 1 0)

-- at each bit behind `from`, up to `to`, a planned frame waits that goes before frame x, or this itself
abbrev pub GoingWait : Schedule → (ℕ → Bool) → (ℕ → Bool) → ℕ → ℕ → ℕ → Type 0
GoingWait s planned goes x from to =
    (t : ℕ) → from < t → t ≤ to → (p : ℕ) × (p < s.count) × (planned p ≡ true) × ((goes p ≡ true) ⊎ (p ≡ x)) × Waits s p t

-- where frame x waits as long, the bus is as full from some bit on
pub record IsBusyWith (s : Schedule) (planned goes : ℕ → Bool) (longest x wait begin : ℕ) : Type 0 where
  pub before : begin ≤ s.queued x
  pub waiting : GoingWait s planned goes x begin (s.queued x + wait)
  pub busy : (n : ℕ) → begin + n ≤ s.queued x + (wait + 1)
      → n ≤ longest + (going_demand s planned goes begin n + longest * others_going s planned goes begin (s.queued x + wait))

-- any frames may go before that a test reports: while one of these waits, or the frame itself, only such frames begin
module _ (s : Schedule) (planned goes : ℕ → Bool) (longest wait : ℕ) (positive : (p : ℕ) → p < s.count → 1 ≤ s.bits p)
    (queued_first : (p : ℕ) → p < s.count → s.queued p ≤ s.start p)
    (never_idle : (p t : ℕ) → p < s.count → t < s.now → Waits s p t → (q : ℕ) × (q < s.count) × IsOnBusAt s q t)
    (short : (p : ℕ) → p < s.count → s.bits p ≤ longest) where
  module _ (x : ℕ) (in_x : x < s.count) (is_planned : planned x ≡ true) (seen : s.queued x + wait < s.now) (late : s.queued x + wait < s.start x)
      (closed : (from : ℕ) → GoingWait s planned goes x from (s.queued x + wait) → (p q : ℕ) → p < s.count → q < s.count → planned p ≡ true
      → (goes p ≡ true) ⊎ (p ≡ x) → Waits s p (s.start q) → from < s.start q → s.start q ≤ s.queued x + wait → goes q ≡ true) where
    -- a planned frame that goes before waits at t
    abbrev waiting : ℕ → ℕ → Bool
    waiting t p = planned p && (goes p && (ltb (s.queued p) t && leb t (s.start p)))

    waiting_parts : (t p : ℕ) → waiting t p ≡ true → (planned p ≡ true) × (goes p ≡ true) × (s.queued p < t) × (t ≤ s.start p)
    waiting_parts t p is =
        let one = and_parts (planned p) (goes p && (ltb (s.queued p) t && leb t (s.start p))) is in
        let two = and_parts (goes p) (ltb (s.queued p) t && leb t (s.start p)) one.1 in
        let three = and_parts (ltb (s.queued p) t) (leb t (s.start p)) two.1 in
        (one.0, two.0, ltb-true (s.queued p) t three.0, leb-true t (s.start p) three.1)

    waiting_from : (t p : ℕ) → planned p ≡ true → goes p ≡ true → s.queued p < t → t ≤ s.start p → waiting t p ≡ true
    waiting_from t p is first queued ahead =
        and_from (planned p) (goes p && (ltb (s.queued p) t && leb t (s.start p))) is
        (and_from (goes p) (ltb (s.queued p) t && leb t (s.start p)) first
        (and_from (ltb (s.queued p) t) (leb t (s.start p)) (lt-ltb (s.queued p) t queued) (le-leb t (s.start p) ahead)))

    any_waiting : ℕ → Bool
    any_waiting t = any_below s.count (waiting t)

    none_first : any_waiting 0 ≡ false
    unfolding any_waiting
    none_first = elim (cases_Bool (any_below s.count (waiting 0))) [
      | inl some ↦
          let (p, in_p, is) = any-found s.count (waiting 0) some in
          let early : s.queued p < 0 = (waiting_parts 0 p is).2 in
          absurd (omega arith)
      | inr none ↦ none
    ]

    module _ (begin : ℕ) (before : begin ≤ s.queued x) (none : any_waiting begin ≡ false)
        (some : (t : ℕ) → begin < t → t ≤ s.queued x → any_waiting t ≡ true) where
      -- at each bit a planned frame waits: one that goes before, and then the frame itself
      stretch : GoingWait s planned goes x begin (s.queued x + wait)
      unfolding any_waiting
      stretch t after within = elim (cases_lt (s.queued x) t) [
        | inl x_waits ↦ (x, in_x, is_planned, inr refl, (x_waits, omega arith))
        | inr early ↦
            let (h, in_h, is) = any-found s.count (waiting t) (some t after early) in
            let (of_plan, first, queued, ahead) = waiting_parts t h is in
            (h, in_h, of_plan, inl first, (queued, ahead))
      ]

      -- so something is on the bus
      on_bus : (t : ℕ) → begin < t → t ≤ s.queued x + wait → (q : ℕ) × (q < s.count) × IsOnBusAt s q t
      on_bus t after within =
          let (h, in_h, _, _, waits) = stretch t after within in
          never_idle h t in_h (omega arith) waits

      -- what begins goes before
      goes_before : (q : ℕ) → q < s.count → begin < s.start q → s.start q ≤ s.queued x + wait → goes q ≡ true
      goes_before q in_q after within =
          let (h, in_h, of_plan, first, waits) = stretch (s.start q) after within in
          closed begin stretch h q in_h in_q of_plan first waits after within

      -- and if it is planned, it was queued since the beginning
      queued_in : (q : ℕ) → q < s.count → planned q ≡ true → begin < s.start q → goes q ≡ true → begin ≤ s.queued q
      unfolding any_waiting
      queued_in q in_q is after first = elim (cases_lt (s.queued q) begin) [
        | inl early ↦
            absurd (both_ways (waiting begin q) (any-none s.count (waiting begin) none q in_q) (waiting_from begin q is first early (omega arith)))
        | inr inside ↦ inside
      ]

      abbrev other : ℕ → Bool
      other p = is_other_going s planned goes begin (s.queued x + wait) p

      abbrev is_going_within : ℕ → ℕ → Bool
      is_going_within n p = planned p && (goes p && is_within s begin n p)

      -- a frame that counts in the first n bits
      abbrev counts : ℕ → ℕ → Bool
      counts n p = is_going_within n p || other p

      counted : (n q : ℕ) → q < s.count → begin + n ≤ s.queued x + (wait + 1) → begin < s.start q → s.start q < begin + n → counts n q ≡ true
      counted n q in_q inside after within =
          let ready : s.queued q ≤ s.start q = queued_first q in_q in
          let first : goes q ≡ true = goes_before q in_q after (omega arith) in
          elim (cases_Bool (planned q)) [
            | inl is ↦
                let from : begin ≤ s.queued q = queued_in q in_q is after first in
                let one : is_going_within n q ≡ true =
                and_from (planned q) (goes q && is_within s begin n q) is
                (and_from (goes q) (is_within s begin n q) first
                (and_from (leb begin (s.queued q)) (ltb (s.queued q) (begin + n)) (le-leb begin (s.queued q) from) (lt-ltb (s.queued q) (begin + n) (omega arith)))) in
                rw (one) refl
            | inr isnt ↦
                let rest : (goes q && (leb (s.queued q) (s.queued x + wait) && ltb begin (s.start q))) ≡ true =
                and_from (goes q) (leb (s.queued q) (s.queued x + wait) && ltb begin (s.start q)) first
                (and_from (leb (s.queued q) (s.queued x + wait)) (ltb begin (s.start q)) (le-leb (s.queued q) (s.queued x + wait) (omega arith))
                (lt-ltb begin (s.start q) after)) in
                rw (isnt, rest) refl
          ]

      -- from where a frame that had begun is over, each bit is one of a frame that counts
      each : (n : ℕ) → begin + n ≤ s.queued x + (wait + 1) → (t : ℕ) → t < n - longest
          → (p : ℕ) × (p < s.count) × (counts n p ≡ true) × (covers (s.start p) (s.bits p) ((begin + longest) + t) ≡ true)
      each n inside t below =
          let long : 1 ≤ s.bits x = positive x in_x in
          let most : s.bits x ≤ longest = short x in_x in
          let (q, in_q, cover) = on_bus ((begin + longest) + t) (omega arith) (omega arith) in
          let low : s.start q ≤ (begin + longest) + t = cover.0 in
          let high : (begin + longest) + t < s.start q + s.bits q = cover.1 in
          let size : s.bits q ≤ longest = short q in_q in (
            q,
            in_q,
            counted n q in_q inside (omega arith) (omega arith),
            and_from (leb (s.start q) ((begin + longest) + t)) (ltb ((begin + longest) + t) (s.start q + s.bits q))
                (le-leb (s.start q) ((begin + longest) + t) low) (lt-ltb ((begin + longest) + t) (s.start q + s.bits q) high),
          )

      is_busy : IsBusyWith s planned goes longest x wait begin
      is_busy = record {
        before = before;
        waiting = stretch;
        busy = λ n inside.
            let has : n - longest ≤ total s.count (λ p. cond (counts n p) (s.bits p) 0) =
            covered s.count s.start s.bits (counts n) (begin + longest) (n - longest) (each n inside) in
            let two : total s.count (λ p. cond (counts n p) (s.bits p) 0)
            ≤ going_demand s planned goes begin n + total s.count (λ p. cond (other p) (s.bits p) 0) =
            total-two s.count (λ p. cond (counts n p) (s.bits p) 0) (λ p. cond (is_going_within n p) (s.bits p) 0)
            (λ p. cond (other p) (s.bits p) 0) (λ p in_p.
            elim (is_going_within n p)
            as (λ e. cond (e || other p) (s.bits p) 0 ≤ cond e (s.bits p) 0 + cond (other p) (s.bits p) 0) [
              | true ↦ omega arith
              | false ↦ omega arith
            ]) in
            let few : total s.count (λ p. cond (other p) (s.bits p) 0) ≤ longest * others_going s planned goes begin (s.queued x + wait) =
            total-times s.count other s.bits longest short in
            omega arith;
      }

    pub busy_with : (begin : ℕ) × IsBusyWith s planned goes longest x wait begin
    busy_with =
        let (begin, before, none, some) = last_false any_waiting none_first (s.queued x) in
        (begin, is_busy begin before none some)

-- ---- where frames of smaller identifiers go before

-- where the frame waits as long, the bus is as full from some bit on
pub record IsBusyFrom (s : Schedule) (planned : ℕ → Bool) (longest c queued wait begin : ℕ) : Type 0 where
  pub before : begin ≤ queued
  pub waiting : PlannedFramesWait s planned c begin (queued + wait)
  pub busy : (n : ℕ) → begin + n ≤ queued + (wait + 1)
      → n ≤ longest + (planned_demand s planned c begin n + longest * others_queued s planned c begin (queued + wait))

module _ (s : Schedule) (planned : ℕ → Bool) (longest wait : ℕ) (legal : IsLegal s) (short : (p : ℕ) → p < s.count → s.bits p ≤ longest) where
  module _ (x : ℕ) (in_x : x < s.count) (is_planned : planned x ≡ true) (seen : s.queued x + wait < s.now) (late : s.queued x + wait < s.start x)
      (others : (q : ℕ) → q < s.count → q ≢ x → s.ident q ≡ s.ident x → s.queued x < s.start q → s.start q ≤ s.queued x + wait → ⊥) where
    abbrev c : ℕ
    c = s.ident x

    abbrev smaller : ℕ → Bool
    smaller p = ltb (s.ident p) c

    -- what begins has a smaller identifier
    closed : (from : ℕ) → GoingWait s planned smaller x from (s.queued x + wait) → (p q : ℕ) → p < s.count → q < s.count → planned p ≡ true
        → (smaller p ≡ true) ⊎ (p ≡ x) → Waits s p (s.start q) → from < s.start q → s.start q ≤ s.queued x + wait → smaller q ≡ true
    closed from stretch p q in_p in_q is first waits after within =
        let order : s.ident q ≤ s.ident p = legal.in_order p q in_p in_q (omega arith) waits in
        elim first [
          | inl less ↦
              let below : s.ident p < c = ltb-true (s.ident p) c less in
              lt-ltb (s.ident q) c (omega arith)
          | inr itself ↦
              let same : s.ident p ≡ c = ap s.ident itself in
              elim (cases_eq (s.ident q) c) [
                | inl equal ↦
                    let apart : q ≢ x = λ is. absurd (let at : s.start q ≡ s.start x = ap s.start is in omega arith) in
                    let queued : s.queued p ≡ s.queued x = ap s.queued itself in
                    let ready : s.queued p < s.start q = waits.0 in
                    absurd (others q in_q apart equal (omega arith) within)
                | inr differs ↦ lt-ltb (s.ident q) c (omega arith)
              ]
        ]

    pub busy_from : (begin : ℕ) × IsBusyFrom s planned longest c (s.queued x) wait begin
    busy_from =
        let (begin, is) = busy_with s planned smaller longest wait legal.positive legal.queued_first legal.never_idle short x in_x is_planned seen late closed in (
          begin,
          record {
            before = is.before;
            waiting = λ t after within.
                let (p, in_p, of_plan, first, waits) = is.waiting t after within in
                let at_most : s.ident p ≤ c = elim first [
                  | inl less ↦ let below : s.ident p < c = ltb-true (s.ident p) c less in omega arith
                  | inr itself ↦ let same : s.ident p ≡ c = ap s.ident itself in omega arith
                ] in
                (p, in_p, of_plan, at_most, waits);
            busy = is.busy;
          },
        )
