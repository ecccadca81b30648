-- Units can send their long messages one after the other as the premises have it.
use Rattle.std.proofs.Common.{◌≡◌, ℕ, ◌+◌, ◌*◌, ◌-◌, ◌/◌, ◌%◌, ◌<◌, ◌≤◌, Bool, true, false, cond, ltb, refl, sym, ap, ◌∙◌, subst, arith, inl, inr, []}
use Rattle.std.proofs.Math.Nat.{div-add-mod, mod-lt, mul-le-mul_left}
use Rattle.std.proofs.lemmas.Bool.{cases_eq, cases_lt, eqb-true, le-ltb, lt-ltb, true≢false}
use Rattle.j39_timing.specs.TimedFrames.{IsLegal}
use Rattle.j39_timing.specs.Traffic.{AreQueuedBehind, AreSteady, IsPlannedTraffic, may_share}
use Rattle.j39_timing.specs.Rounds.{AreSenders, Senders, all_planned, in_rounds, begins_message, nothing_else, of_rounds, stream_of, traffic_of_rounds, turn_of}
use Rattle.j39_timing.specs.Rounds.{sender_of}
use Rattle.j39_timing.proofs.Demands.{nothing_wanted}

-- of two numbers with one rest the larger one has a larger quotient
apart_by : (p q n : ℕ) → 0 < n → p % n ≡ q % n → p < q → p / n + 1 ≤ q / n
apart_by p q n some same less =
    let first : n * (p / n) + p % n ≡ p = div-add-mod p n in
    let second : n * (q / n) + q % n ≡ q = div-add-mod q n in
    elim (cases_lt (p / n) (q / n)) [
      | inl above ↦ omega arith
      | inr below ↦ absurd (let most : n * (q / n) ≤ n * (p / n) = mul-le-mul_left n below in omega arith)
    ]

-- so it is as much larger as that many times the divisor
far_by : (p q n m : ℕ) → p % n ≡ q % n → p / n + m ≤ q / n → p + n * m ≤ q
far_by p q n m same far =
    let first : n * (p / n) + p % n ≡ p = div-add-mod p n in
    let second : n * (q / n) + q % n ≡ q = div-add-mod q n in
    let much : n * (p / n + m) ≤ n * (q / n) = mul-le-mul_left n far in
    omega arith

module _ (x : Senders) (is : AreSenders x) (count : ℕ) where
  -- a frame is over before the next one begins
  behind : (p q : ℕ) → p < q → p * x.step + x.bits ≤ q * x.step
  behind p q less =
      let much : x.step * (p + 1) ≤ x.step * q = mul-le-mul_left x.step (omega arith) in
      let apart = is.apart in
      omega arith

  one_at_a_time : (p q t : ℕ) → p * x.step ≤ t → t < p * x.step + x.bits → q * x.step ≤ t → t < q * x.step + x.bits → p ≡ q
  one_at_a_time p q t low_p high_p low_q high_q = elim (cases_eq p q) [
    | inl same ↦ same
    | inr differ ↦ elim (cases_lt p q) [
      | inl less ↦ absurd (let over = behind p q less in omega arith)
      | inr more ↦ absurd (let over = behind q p (omega (arith, more, differ)) in omega arith)
    ]
  ]

  pub rounds_behind : (i : ℕ) → AreQueuedBehind (in_rounds x count) all_planned (of_rounds x) i
  rounds_behind i p q _ _ differ _ _ _ _ = elim (cases_lt p q) [
    | inl less ↦ inl (behind p q less)
    | inr more ↦ elim (cases_eq p q) [
      | inl same ↦ absurd (differ same)
      | inr other ↦ inr (behind q p (omega (arith, more, other)))
    ]
  ]

  -- a stream has one identifier
  pub rounds_steady : (i : ℕ) → AreSteady (in_rounds x count) all_planned (of_rounds x) i
  rounds_steady i p q _ _ _ _ of_p of_q _ _ = ap x.ident (of_p ∙ sym of_q)

  pub rounds_legal : IsLegal (in_rounds x count)
  rounds_legal = record {
    positive = λ p _. is.long;
    queued_first = λ p _. omega arith;
    alone = λ p q t _ _ _ on_p on_q. one_at_a_time p q t on_p.0 on_p.1 on_q.0 on_q.1;
    never_idle = λ p t _ _ waits. let (early, late) = waits in absurd (omega (arith, early, late));
    in_order = λ p q _ _ _ waits. let (early, late) = waits in absurd (omega (arith, early, late));
  }

  -- two frames of one unit are as far apart as gaps lie between their turns
  gaps_apart : (p q m : ℕ) → sender_of x p ≡ sender_of x q → turn_of x p + m ≤ turn_of x q → p * x.step + m * x.gap ≤ q * x.step
  gaps_apart p q m same far =
      let frames : p + x.units * m ≤ q = far_by p q x.units m same far in
      let bits : x.step * (p + x.units * m) ≤ x.step * q = mul-le-mul_left x.step frames in
      let rounds : m * x.gap ≤ m * (x.units * x.step) = mul-le-mul_left m is.round in
      omega arith

  -- which unit a stream is of, and of which kind its frames are
  kind_apart : (p q : ℕ) → stream_of x p ≡ stream_of x q → (sender_of x p ≡ sender_of x q) × (begins_message x p ≡ begins_message x q)
  kind_apart p q same =
      let below_p : sender_of x p < x.units = mod-lt p is.some in
      let below_q : sender_of x q < x.units = mod-lt q is.some in
      go (begins_message x p) (begins_message x q) below_p below_q same
    where
      go : (a b : Bool) → sender_of x p < x.units → sender_of x q < x.units
          → cond a (x.units + sender_of x p) (sender_of x p) ≡ cond b (x.units + sender_of x q) (sender_of x q) → (sender_of x p ≡ sender_of x q) × (a ≡ b)
      go true true below_p below_q same = (omega arith, refl)
      go true false below_p below_q same = absurd (omega arith)
      go false true below_p below_q same = absurd (omega arith)
      go false false below_p below_q same = (omega arith, refl)

  -- the period of a frame's stream
  abbrev gaps : ℕ → ℕ
  gaps j = cond (ltb j x.units) 1 (x.packets (j - x.units))

  spaced : (p q : ℕ) → p < q → stream_of x p ≡ stream_of x q → p * x.step + gaps (stream_of x p) * x.gap ≤ q * x.step
  spaced p q less same =
      let (unit, kind) = kind_apart p q same in
      let turns : turn_of x p + 1 ≤ turn_of x q = apart_by p q x.units is.some unit less in
      let below : sender_of x p < x.units = mod-lt p is.some in
      go (begins_message x p) refl unit kind turns below
    where
      go : (a : Bool) → begins_message x p ≡ a → sender_of x p ≡ sender_of x q → begins_message x p ≡ begins_message x q
          → turn_of x p + 1 ≤ turn_of x q → sender_of x p < x.units → p * x.step + gaps (cond a (x.units + sender_of x p) (sender_of x p)) * x.gap ≤ q * x.step
      go false kind unit alike turns below =
          let front : ltb (sender_of x p) x.units ≡ true = lt-ltb (sender_of x p) x.units below in
          let far = gaps_apart p q 1 unit turns in
          rw (front) (omega (arith, far))
      go true kind unit alike turns below =
          let size : ℕ = x.packets (sender_of x p) + 1 in
          let first : turn_of x p % (x.packets (sender_of x p) + 1) ≡ 0 = eqb-true (turn_of x p % (x.packets (sender_of x p) + 1)) 0 kind in
          let its : turn_of x q % (x.packets (sender_of x q) + 1) ≡ 0 = eqb-true (turn_of x q % (x.packets (sender_of x q) + 1)) 0 (sym alike ∙ kind) in
          let second : turn_of x q % (x.packets (sender_of x p) + 1) ≡ 0 =
          subst (λ u. turn_of x q % (x.packets u + 1) ≡ 0) (sym unit) its in
          let messages : turn_of x p / (x.packets (sender_of x p) + 1) + 1 ≤ turn_of x q / (x.packets (sender_of x p) + 1) =
          apart_by (turn_of x p) (turn_of x q) (x.packets (sender_of x p) + 1) (omega arith) (first ∙ sym second) (omega (arith, turns)) in
          let frames : turn_of x p + (x.packets (sender_of x p) + 1) * 1 ≤ turn_of x q =
          far_by (turn_of x p) (turn_of x q) (x.packets (sender_of x p) + 1) 1 (first ∙ sym second) messages in
          let far = gaps_apart p q (x.packets (sender_of x p)) unit (omega (arith, frames)) in
          let behind : ltb (x.units + sender_of x p) x.units ≡ false = le-ltb (x.units + sender_of x p) x.units (omega arith) in
          let back : x.units + sender_of x p - x.units ≡ sender_of x p = omega arith in
          rw (behind, back) far

  stream_below : (p : ℕ) → stream_of x p < x.units + x.units
  stream_below p =
      let below : sender_of x p < x.units = mod-lt p is.some in
      elim (begins_message x p) as (λ a. cond a (x.units + sender_of x p) (sender_of x p) < x.units + x.units) [
        | true ↦ omega arith
        | false ↦ omega arith
      ]

  pub rounds_planned : (i : ℕ) → IsPlannedTraffic (in_rounds x count) (traffic_of_rounds x) nothing_else x.bits all_planned (of_rounds x) i
  rounds_planned i = record {
    longest_at_most = λ p _. omega arith;
    of_streams = record {
      keeps = λ p _ _. record {
        known = stream_below p;
        bits_at_most = omega arith;
        turns = omega arith;
        release_first = omega arith;
        jitter_at_most = omega arith;
      };
      spaced = λ p q _ _ differ _ _ same _ _. elim (cases_lt p q) [
        | inl less ↦ inl (spaced p q less same)
        | inr more ↦ inr (subst (λ j. q * x.step + gaps j * x.gap ≤ p * x.step) (sym same) (spaced q p (omega (arith, more, differ)) (sym same)))
      ];
    };
    as_wanted = nothing_wanted (in_rounds x count) all_planned (of_rounds x) [] (traffic_of_rounds x).stream (λ j. refl);
    from_least = λ p _ _. omega arith;
    to_greatest = λ p _ _ same. subst (λ j. x.ident (stream_of x p) ≤ x.ident j) same (omega arith);
    own_identifier = λ p q t _ _ _ _ shared at_p at_q _.
        let (low_p, high_p) = at_p in
        let (low_q, high_q) = at_q in
        let long = is.long in (
          refl,
          subst (λ n. may_share (traffic_of_rounds x) i (stream_of x n) ≡ true)
              (one_at_a_time p q t low_p (omega (arith, high_p, long)) low_q (omega (arith, high_q, long))) shared,
        );
    urgency_of_others = λ p _ isnt. absurd (true≢false isnt);
    few_others = λ p from to _ _ _ _ waits _. let (early, late) = waits in absurd (omega (arith, early, late));
  }
