-- What streams can queue in a window.
use Rattle.std.proofs.Common.{◌≡◌, ◌≢◌, ℕ, zero, suc, ◌+◌, ◌*◌, ◌-◌, ◌<◌, ◌≤◌, ◌⊎◌, Bool, true, false, cond, ◌&&◌, eqb, ltb, leb, refl, sym, subst, arith, inl}
use Rattle.std.proofs.Common.{inr}
use Rattle.std.proofs.lemmas.Bool.{and_parts, and_from, cases_lt, cases_eq, cases_Bool, le-leb, lt-ltb, leb-true, ltb-true, eqb-true, eq-eqb}
use Rattle.j39_timing.specs.Sums.{total}
use Rattle.j39_timing.specs.TimedFrames.{Schedule, demand}
use Rattle.j39_timing.specs.declared.stream.Stream.{Stream}
use Rattle.j39_timing.specs.FrameStreams.{Origins, AreOfStreams}
use Rattle.j39_timing.specs.Waits.{IsSpaced}
use Rattle.j39_timing.proofs.Sums.{total-le, total-none, total-two}

-- the sum over the places that pass, of which there is one at most
pub at_most_one : (n : ℕ) (passes : ℕ → Bool) (f : ℕ → ℕ) (most : ℕ) → ((i : ℕ) → i < n → passes i ≡ true → f i ≤ most)
    → ((i j : ℕ) → i < n → j < n → passes i ≡ true → passes j ≡ true → i ≡ j) → total n (λ i. cond (passes i) (f i) 0) ≤ most
unfolding total
at_most_one zero passes f most small one = omega arith
at_most_one (suc n) passes f most small one =
    elim (passes n) as (λ e. passes n ≡ e → total n (λ i. cond (passes i) (f i) 0) + cond e (f n) 0 ≤ most) [
      | true ↦ λ is.
          let rest : total n (λ i. cond (passes i) (f i) 0) ≡ 0 = total-none n (λ i. cond (passes i) (f i) 0) (λ i inside.
          elim (passes i) as (λ e. passes i ≡ e → cond e (f i) 0 ≡ 0) [
            | true ↦ λ too. let same : i ≡ n = one i n (omega arith) (omega arith) too is in absurd (omega arith)
            | false ↦ λ _. refl
          ] refl) in
          let last : f n ≤ most = small n (omega arith) is in
          omega arith
      | false ↦ λ _.
          let before = at_most_one n passes f most (λ i inside. small i (omega arith)) (λ i j in_i in_j. one i j (omega arith) (omega arith)) in
          omega arith
    ] refl

-- the window of `span` bits from t on
abbrev pub inside : ℕ → ℕ → ℕ → Bool
inside t span q = leb t q && ltb q (t + span)

pub inside_parts : (t span q : ℕ) → inside t span q ≡ true → (t ≤ q) × (q < t + span)
inside_parts t span q is =
    let parts = and_parts (leb t q) (ltb q (t + span)) is in
    (leb-true t q parts.0, ltb-true q (t + span) parts.1)

pub inside_from : (t span q : ℕ) → t ≤ q → q < t + span → inside t span q ≡ true
inside_from t span q low high = and_from (leb t q) (ltb q (t + span)) (le-leb t q low) (lt-ltb q (t + span) high)

-- places that pass and keep a distance: k windows of this length have k of them at most
module _ (n : ℕ) (passes : ℕ → Bool) (at bits : ℕ → ℕ) (period most : ℕ) (small : (i : ℕ) → i < n → passes i ≡ true → bits i ≤ most)
    (spaced : (i j : ℕ) → i < n → j < n → i ≢ j → passes i ≡ true → passes j ≡ true → (at i + period ≤ at j) ⊎ (at j + period ≤ at i)) where
  within : ℕ → ℕ → ℕ
  within t span = total n (λ i. cond (passes i && inside t span (at i)) (bits i) 0)

  one_window : (t : ℕ) → within t period ≤ most
  unfolding within
  one_window t = at_most_one n (λ i. passes i && inside t period (at i)) bits most
      (λ i in_n is. small i in_n (and_parts (passes i) (inside t period (at i)) is).0)
      (λ i j in_i in_j is_i is_j.
      let two_i = and_parts (passes i) (inside t period (at i)) is_i in
      let two_j = and_parts (passes j) (inside t period (at j)) is_j in
      let (low_i, high_i) = inside_parts t period (at i) two_i.1 in
      let (low_j, high_j) = inside_parts t period (at j) two_j.1 in
      elim (cases_eq i j) [
        | inl same ↦ same
        | inr apart ↦ elim (spaced i j in_i in_j apart two_i.0 two_j.0) [
          | inl before ↦ absurd (omega arith)
          | inr after ↦ absurd (omega arith)
        ]
      ])

  -- a window is no more than two parts of it
  split : (t a b span : ℕ) → span ≤ a + b → within t span ≤ within t a + within (t + a) b
  unfolding within
  split t a b span le = total-two n (λ i. cond (passes i && inside t span (at i)) (bits i) 0) (λ i. cond (passes i && inside t a (at i)) (bits i) 0)
      (λ i. cond (passes i && inside (t + a) b (at i)) (bits i) 0) (λ i in_n.
      elim (cases_Bool (passes i && inside t span (at i))) [
        | inr fails ↦ rw (fails) (omega arith)
        | inl is ↦
            let two = and_parts (passes i) (inside t span (at i)) is in
            let (low, high) = inside_parts t span (at i) two.1 in
            elim (cases_lt (at i) (t + a)) [
              | inl first ↦
                  let here : (passes i && inside t a (at i)) ≡ true = and_from (passes i) (inside t a (at i)) two.0 (inside_from t a (at i) low first) in
                  rw (is, here) (omega arith)
              | inr second ↦
                  let there : (passes i && inside (t + a) b (at i)) ≡ true =
                  and_from (passes i) (inside (t + a) b (at i)) two.0 (inside_from (t + a) b (at i) second (omega arith)) in
                  rw (is, there) (omega arith)
            ]
      ])

  nothing : (t : ℕ) → within t 0 ≡ 0
  unfolding within
  nothing t = total-none n (λ i. cond (passes i && inside t 0 (at i)) (bits i) 0) (λ i in_n.
      elim (cases_Bool (passes i && inside t 0 (at i))) [
        | inl is ↦ let (low, high) = inside_parts t 0 (at i) (and_parts (passes i) (inside t 0 (at i)) is).1 in absurd (omega arith)
        | inr fails ↦ rw (fails) refl
      ])

  -- so does any window that k periods cover
  windows : (k t span : ℕ) → span ≤ k * period → within t span ≤ k * most
  windows zero t span le =
      let none : within t 0 ≡ 0 = nothing t in
      let same : within t span ≡ within t 0 = (let e : span ≡ 0 = omega arith in subst (λ m. within t m ≡ within t 0) (sym e) refl) in
      omega arith
  windows (suc k) t span le =
      let parts : within t span ≤ within t period + within (t + period) (span - period) = split t period (span - period) span (omega arith) in
      let first : within t period ≤ most = one_window t in
      let rest : within (t + period) (span - period) ≤ k * most = windows k (t + period) (span - period) (omega arith) in
      omega arith

  pub windows_sum : (k t span : ℕ) → span ≤ k * period → total n (λ i. cond (passes i && inside t span (at i)) (bits i) 0) ≤ k * most
  unfolding within
  windows_sum k t span le = windows k t span le

module _ (s : Schedule) (c count : ℕ) (stream : ℕ → Stream) (of : Origins) (known : AreOfStreams s (λ p. s.ident p < c) count stream of) where
  -- a frame that goes before, and of which stream
  abbrev pub is_of : ℕ → ℕ → Bool
  is_of j p = ltb (s.ident p) c && eqb (of.source p) j

  -- and of which turn
  abbrev is_turn : ℕ → ℕ → ℕ → Bool
  is_turn j i p = is_of j p && eqb (of.turn p) i

  -- how long after its message a frame of the stream is queued
  abbrev jitter : ℕ → ℕ
  jitter j = (stream j).jitter

  -- one turn of one stream, by the messages
  of_messages : (j i k t span : ℕ) → IsSpaced (stream j) → span ≤ k * (stream j).period
      → total s.count (λ p. cond (is_turn j i p && inside t span (of.since p + jitter j)) (s.bits p) 0) ≤ k * (stream j).bits
  of_messages j i k t span paced le = windows_sum s.count (is_turn j i) (λ p. of.since p + jitter j) s.bits (stream j).period (stream j).bits
      (λ p in_p is.
      let two = and_parts (ltb (s.ident p) c) (eqb (of.source p) j) (and_parts (is_of j p) (eqb (of.turn p) i) is).0 in
      subst (λ i. s.bits p ≤ (stream i).bits) (eqb-true (of.source p) j two.1) (known.keeps p in_p (ltb-true (s.ident p) c two.0)).bits_at_most)
      (λ p q in_p in_q apart is_p is_q.
      let one_p = and_parts (is_of j p) (eqb (of.turn p) i) is_p in
      let one_q = and_parts (is_of j q) (eqb (of.turn q) i) is_q in
      let two_p = and_parts (ltb (s.ident p) c) (eqb (of.source p) j) one_p.0 in
      let two_q = and_parts (ltb (s.ident q) c) (eqb (of.source q) j) one_q.0 in
      let at_p : of.source p ≡ j = eqb-true (of.source p) j two_p.1 in
      let at_q : of.source q ≡ j = eqb-true (of.source q) j two_q.1 in
      let turn_p : of.turn p ≡ i = eqb-true (of.turn p) i one_p.1 in
      let turn_q : of.turn q ≡ i = eqb-true (of.turn q) i one_q.1 in
      let same : of.source p ≡ of.source q = omega arith in
      let same_turn : of.turn p ≡ of.turn q = omega arith in
      let far : (of.since p + (stream j).period ≤ of.since q) ⊎ (of.since q + (stream j).period ≤ of.since p) =
      subst (λ i. (of.since p + (stream i).period ≤ of.since q) ⊎ (of.since q + (stream i).period ≤ of.since p)) at_p
      (known.spaced p q in_p in_q apart (ltb-true (s.ident p) c two_p.0) (ltb-true (s.ident q) c two_q.0) same same_turn
      (subst (λ i. IsSpaced (stream i)) (sym at_p) paced)) in
      elim far [ inl before ↦ inl (omega arith) | inr after ↦ inr (omega arith) ])
      k t span le

  -- by the frames
  of_turn : (j i k t span : ℕ) → IsSpaced (stream j) → span + jitter j ≤ k * (stream j).period
      → total s.count (λ p. cond (is_turn j i p && inside t span (s.queued p)) (s.bits p) 0) ≤ k * (stream j).bits
  of_turn j i k t span paced le =
      let messages = of_messages j i k t (span + jitter j) paced le in
      let wider : total s.count (λ p. cond (is_turn j i p && inside t span (s.queued p)) (s.bits p) 0)
      ≤ total s.count (λ p. cond (is_turn j i p && inside t (span + jitter j) (of.since p + jitter j)) (s.bits p) 0) =
      total-le s.count (λ p. cond (is_turn j i p && inside t span (s.queued p)) (s.bits p) 0)
      (λ p. cond (is_turn j i p && inside t (span + jitter j) (of.since p + jitter j)) (s.bits p) 0) (λ p in_p.
      elim (cases_Bool (is_turn j i p && inside t span (s.queued p))) [
        | inr fails ↦ rw (fails) (omega arith)
        | inl is ↦
            let parts = and_parts (is_turn j i p) (inside t span (s.queued p)) is in
            let (low, high) = inside_parts t span (s.queued p) parts.1 in
            let two = and_parts (ltb (s.ident p) c) (eqb (of.source p) j) (and_parts (is_of j p) (eqb (of.turn p) i) parts.0).0 in
            let first : of.since p ≤ s.queued p = (known.keeps p in_p (ltb-true (s.ident p) c two.0)).release_first in
            let last : s.queued p ≤ of.since p + jitter j = subst (λ i. s.queued p ≤ of.since p + jitter i) (eqb-true (of.source p) j two.1)
            (known.keeps p in_p (ltb-true (s.ident p) c two.0)).jitter_at_most in
            let there : (is_turn j i p && inside t (span + jitter j) (of.since p + jitter j)) ≡ true =
            and_from (is_turn j i p) (inside t (span + jitter j) (of.since p + jitter j)) parts.0
            (inside_from t (span + jitter j) (of.since p + jitter j) (omega arith) (omega arith)) in
            rw (is, there) (omega arith)
      ]) in
      omega arith

  -- the frames of the first m turns
  abbrev of_turns : ℕ → ℕ → ℕ → ℕ → ℕ → Bool
  of_turns j m t span p = is_of j p && (ltb (of.turn p) m && inside t span (s.queued p))

  first_turns : (j k t span m : ℕ) → IsSpaced (stream j) → span + jitter j ≤ k * (stream j).period
      → total s.count (λ p. cond (of_turns j m t span p) (s.bits p) 0) ≤ m * (k * (stream j).bits)
  first_turns j k t span zero paced le =
      let none : total s.count (λ p. cond (of_turns j 0 t span p) (s.bits p) 0) ≡ 0 =
      total-none s.count (λ p. cond (of_turns j 0 t span p) (s.bits p) 0) (λ p in_p.
      elim (cases_Bool (of_turns j 0 t span p)) [
        | inl is ↦
            let rest = (and_parts (is_of j p) (ltb (of.turn p) 0 && inside t span (s.queued p)) is).1 in
            let low : of.turn p < 0 = ltb-true (of.turn p) 0 (and_parts (ltb (of.turn p) 0) (inside t span (s.queued p)) rest).0 in
            absurd (omega arith)
        | inr fails ↦ rw (fails) refl
      ]) in
      omega arith
  first_turns j k t span (suc m) paced le =
      let earlier : total s.count (λ p. cond (of_turns j m t span p) (s.bits p) 0) ≤ m * (k * (stream j).bits) = first_turns j k t span m paced le in
      let this : total s.count (λ p. cond (is_turn j m p && inside t span (s.queued p)) (s.bits p) 0) ≤ k * (stream j).bits = of_turn j m k t span paced le in
      let parts : total s.count (λ p. cond (of_turns j (suc m) t span p) (s.bits p) 0)
      ≤ total s.count (λ p. cond (of_turns j m t span p) (s.bits p) 0) + total s.count (λ p. cond (is_turn j m p && inside t span (s.queued p)) (s.bits p) 0) =
      total-two s.count (λ p. cond (of_turns j (suc m) t span p) (s.bits p) 0) (λ p. cond (of_turns j m t span p) (s.bits p) 0)
      (λ p. cond (is_turn j m p && inside t span (s.queued p)) (s.bits p) 0) (λ p in_p.
      elim (cases_Bool (of_turns j (suc m) t span p)) [
        | inr fails ↦ rw (fails) (omega arith)
        | inl is ↦
            let one = and_parts (is_of j p) (ltb (of.turn p) (suc m) && inside t span (s.queued p)) is in
            let two = and_parts (ltb (of.turn p) (suc m)) (inside t span (s.queued p)) one.1 in
            let below : of.turn p < suc m = ltb-true (of.turn p) (suc m) two.0 in
            elim (cases_eq (of.turn p) m) [
              | inl same ↦
                  let there : (is_turn j m p && inside t span (s.queued p)) ≡ true =
                  and_from (is_turn j m p) (inside t span (s.queued p)) (and_from (is_of j p) (eqb (of.turn p) m) one.0 (eq-eqb (of.turn p) m same)) two.1 in
                  rw (is, there) (omega arith)
              | inr other ↦
                  let here : of_turns j m t span p ≡ true =
                  and_from (is_of j p) (ltb (of.turn p) m && inside t span (s.queued p)) one.0
                  (and_from (ltb (of.turn p) m) (inside t span (s.queued p)) (lt-ltb (of.turn p) m (omega arith)) two.1) in
                  rw (is, here) (omega arith)
            ]
      ]) in
      omega arith

  -- one stream
  pub of_stream : (j k t span : ℕ) → IsSpaced (stream j) → span + jitter j ≤ k * (stream j).period
      → total s.count (λ p. cond (is_of j p && inside t span (s.queued p)) (s.bits p) 0) ≤ (stream j).frames * (k * (stream j).bits)
  of_stream j k t span paced le =
      let turns = first_turns j k t span (stream j).frames paced le in
      let all : total s.count (λ p. cond (is_of j p && inside t span (s.queued p)) (s.bits p) 0)
      ≤ total s.count (λ p. cond (of_turns j (stream j).frames t span p) (s.bits p) 0) =
      total-le s.count (λ p. cond (is_of j p && inside t span (s.queued p)) (s.bits p) 0)
      (λ p. cond (of_turns j (stream j).frames t span p) (s.bits p) 0) (λ p in_p.
      elim (cases_Bool (is_of j p && inside t span (s.queued p))) [
        | inr fails ↦ rw (fails) (omega arith)
        | inl is ↦
            let one = and_parts (is_of j p) (inside t span (s.queued p)) is in
            let two = and_parts (ltb (s.ident p) c) (eqb (of.source p) j) one.0 in
            let turn : of.turn p < (stream j).frames = subst (λ i. of.turn p < (stream i).frames) (eqb-true (of.source p) j two.1)
            (known.keeps p in_p (ltb-true (s.ident p) c two.0)).turns in
            let here : of_turns j (stream j).frames t span p ≡ true =
            and_from (is_of j p) (ltb (of.turn p) (stream j).frames && inside t span (s.queued p)) one.0
            (and_from (ltb (of.turn p) (stream j).frames) (inside t span (s.queued p)) (lt-ltb (of.turn p) (stream j).frames turn) one.1) in
            rw (is, here) (omega arith)
      ]) in
      omega arith

  -- the frames of the first k streams
  abbrev of_first : ℕ → ℕ → ℕ → ℕ → Bool
  of_first k t span p = ltb (s.ident p) c && (ltb (of.source p) k && inside t span (s.queued p))

  -- what a stream queues in a window
  abbrev pub queued_in : ℕ → ℕ → ℕ → ℕ
  queued_in t span j = total s.count (λ p. cond (is_of j p && inside t span (s.queued p)) (s.bits p) 0)

  module _ (t span : ℕ) (most : ℕ → ℕ) where
    first_streams : (k : ℕ) → ((j : ℕ) → j < k → queued_in t span j ≤ most j)
        → total s.count (λ p. cond (of_first k t span p) (s.bits p) 0) ≤ total k most
    unfolding total
    first_streams zero each =
        let none : total s.count (λ p. cond (of_first 0 t span p) (s.bits p) 0) ≡ 0 =
        total-none s.count (λ p. cond (of_first 0 t span p) (s.bits p) 0) (λ p in_p.
        elim (cases_Bool (of_first 0 t span p)) [
          | inl is ↦
              let rest = (and_parts (ltb (s.ident p) c) (ltb (of.source p) 0 && inside t span (s.queued p)) is).1 in
              let low : of.source p < 0 = ltb-true (of.source p) 0 (and_parts (ltb (of.source p) 0) (inside t span (s.queued p)) rest).0 in
              absurd (omega arith)
          | inr fails ↦ rw (fails) refl
        ]) in
        omega arith
    first_streams (suc k) each =
        let earlier : total s.count (λ p. cond (of_first k t span p) (s.bits p) 0) ≤ total k most =
        first_streams k (λ j below. each j (omega arith)) in
        let this : total s.count (λ p. cond (is_of k p && inside t span (s.queued p)) (s.bits p) 0) ≤ most k = each k (omega arith) in
        let parts : total s.count (λ p. cond (of_first (suc k) t span p) (s.bits p) 0)
        ≤ total s.count (λ p. cond (of_first k t span p) (s.bits p) 0) + total s.count (λ p. cond (is_of k p && inside t span (s.queued p)) (s.bits p) 0) =
        total-two s.count (λ p. cond (of_first (suc k) t span p) (s.bits p) 0) (λ p. cond (of_first k t span p) (s.bits p) 0)
        (λ p. cond (is_of k p && inside t span (s.queued p)) (s.bits p) 0) (λ p in_p.
        elim (cases_Bool (of_first (suc k) t span p)) [
          | inr fails ↦ rw (fails) (omega arith)
          | inl is ↦
              let one = and_parts (ltb (s.ident p) c) (ltb (of.source p) (suc k) && inside t span (s.queued p)) is in
              let two = and_parts (ltb (of.source p) (suc k)) (inside t span (s.queued p)) one.1 in
              let below : of.source p < suc k = ltb-true (of.source p) (suc k) two.0 in
              elim (cases_eq (of.source p) k) [
                | inl same ↦
                    let there : (is_of k p && inside t span (s.queued p)) ≡ true =
                    and_from (is_of k p) (inside t span (s.queued p)) (and_from (ltb (s.ident p) c) (eqb (of.source p) k) one.0 (eq-eqb (of.source p) k same)) two.1 in
                    rw (is, there) (omega arith)
                | inr other ↦
                    let here : of_first k t span p ≡ true =
                    and_from (ltb (s.ident p) c) (ltb (of.source p) k && inside t span (s.queued p)) one.0
                    (and_from (ltb (of.source p) k) (inside t span (s.queued p)) (lt-ltb (of.source p) k (omega arith)) two.1) in
                    rw (is, here) (omega arith)
              ]
        ]) in
        omega arith

    -- all that goes before
    pub all_streams : ((j : ℕ) → j < count → queued_in t span j ≤ most j) → demand s c t span ≤ total count most
    all_streams each =
        let all = first_streams count each in
        let less : demand s c t span ≤ total s.count (λ p. cond (of_first count t span p) (s.bits p) 0) =
        total-le s.count (λ p. cond (ltb (s.ident p) c && inside t span (s.queued p)) (s.bits p) 0) (λ p. cond (of_first count t span p) (s.bits p) 0) (λ p in_p.
        elim (cases_Bool (ltb (s.ident p) c && inside t span (s.queued p))) [
          | inr fails ↦ rw (fails) (omega arith)
          | inl is ↦
              let two = and_parts (ltb (s.ident p) c) (inside t span (s.queued p)) is in
              let one_of : of.source p < count = (known.keeps p in_p (ltb-true (s.ident p) c two.0)).known in
              let here : of_first count t span p ≡ true =
              and_from (ltb (s.ident p) c) (ltb (of.source p) count && inside t span (s.queued p)) two.0
              (and_from (ltb (of.source p) count) (inside t span (s.queued p)) (lt-ltb (of.source p) count one_of) two.1) in
              rw (is, here) (omega arith)
        ]) in
        omega arith
