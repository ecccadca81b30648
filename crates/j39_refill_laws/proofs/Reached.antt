-- The premises of refills can be met: a frame that isn't planned has just begun, and two wait behind it in the same unit, which refills its buffer
-- behind each frame.
use Rattle.std.proofs.Common.{◌≡◌, ℕ, ◌+◌, ◌*◌, ◌-◌, ◌<◌, ◌≤◌, ◌⊎◌, Bool, true, false, not, cond, ◌&&◌, ltb, leb, refl, ap, arith, inl, inr, None, []}
use Rattle.std.proofs.lemmas.Bool.{and_parts, cases_Bool, cases_lt, both_ways, false≢true, lt-ltb, ltb-true}
use Rattle.j39_timing.specs.AnyOrder.{Controllers}
use Rattle.j39_timing.specs.FrameStreams.{Origins}
use Rattle.j39_timing.specs.QueueGroups.{is_unplanned_queued}
use Rattle.j39_timing.specs.Sums.{total}
use Rattle.j39_timing.specs.TimedFrames.{IsOnBusAt, Schedule, Waits}
use Rattle.j39_timing.specs.Traffic.{Traffic, no_twins}
use Rattle.j39_timing.proofs.Demands.{nothing_wanted}
use Rattle.j39_timing.proofs.Reached.{but_the_first}
use Rattle.j39_timing.proofs.Sums.{total-none}
use Rattle.j39_refill_laws.specs.Refill.{IsLegalWithRefill, IsRefilling}
use Rattle.j39_refill_laws.specs.RefillTraffic.{IsTrafficWithRefill, RefillDemandFits}

abbrev three : Schedule
three = record { count = 3; queued = λ p. 0; start = λ p. p * 1160; bits = λ p. 160; ident = λ p. p; now = 3000 }

abbrev pub one_unit : Controllers
one_unit = record { unit = λ p. 0; keeps_order = λ u. false }

abbrev slow : ℕ → ℕ
slow u = 1000

abbrev two_streams : Traffic
two_streams = record {
  count = 2;
  stream = λ j. record { frames = 1; period = 5000; bits = 160; jitter = 0; wanted = None };
  demands = [];
  least = λ j. 0;
  greatest = λ j. 2;
  are_twins = no_twins;
}

abbrev last_first : Origins
last_first = record { source = λ p. 2 - p; turn = λ p. 0; since = λ p. 0 }

three_idle : (p t : ℕ) → p < 3 → Waits three p t
    → ((q : ℕ) × (q < 3) × IsOnBusAt three q t) ⊎ IsRefilling three one_unit slow (one_unit.unit p) t
three_idle p t in_p waits =
    let last : t ≤ 2320 = let until = waits.1 in omega (arith, until, in_p) in
    elim (cases_lt t 160) [
      | inl first ↦ inl (0, omega arith, (omega arith, omega (arith, first)))
      | inr a ↦ elim (cases_lt t 1160) [
        | inl idle ↦ inr (record { frame = 0; inside = omega arith; its_unit = refl; ended = omega (arith, a); soon = omega (arith, idle) })
        | inr b ↦ elim (cases_lt t 1320) [
          | inl second ↦ inl (1, omega arith, (omega (arith, b), omega (arith, second)))
          | inr c ↦ elim (cases_lt t 2320) [
            | inl idle ↦ inr (record { frame = 1; inside = omega arith; its_unit = refl; ended = omega (arith, c); soon = omega (arith, idle) })
            | inr d ↦ inl (2, omega arith, (omega (arith, d), omega (arith, last)))
          ]
        ]
      ]
    ]

three_legal : IsLegalWithRefill three one_unit slow
three_legal = record {
  positive = λ p _. omega arith;
  queued_first = λ p _. omega arith;
  alone = λ p q t in_p in_q early on_p on_q. omega (arith, on_p.0, on_p.1, on_q.0, on_q.1);
  never_idle = λ p t in_p early waits. three_idle p t in_p waits;
  in_order = λ p q in_p in_q early waits. inl (
    q,
    (in_q, refl, (omega arith, omega arith), λ keeps. absurd (false≢true keeps)),
    omega arith,
  );
}

behind : (p : ℕ) → but_the_first p ≡ true → 1 ≤ p
behind p is = let more : 0 < p = ltb-true 0 p is in omega (arith, more)

-- the one that isn't planned has begun before each bit
abbrev counted : ℕ → ℕ → ℕ → ℕ
counted from to q = cond (is_unplanned_queued three but_the_first from to q) 1 0

none_queued : (from to q : ℕ) → counted from to q ≡ 0
none_queued from to q = elim (cases_Bool (is_unplanned_queued three but_the_first from to q)) [
  | inr fails ↦ rw (fails) refl
  | inl is ↦
      let one = and_parts (not (but_the_first q)) (leb 0 to && ltb from (q * 1160)) is in
      let two = and_parts (leb 0 to) (ltb from (q * 1160)) one.1 in
      let more : from < q * 1160 = ltb-true from (q * 1160) two.1 in
      let its : but_the_first q ≡ true = lt-ltb 0 q (omega (arith, more)) in
      absurd (both_ways (not (but_the_first q)) (ap not its) one.0)
]

three_planned : IsTrafficWithRefill three one_unit slow two_streams slow 0 160 1000 but_the_first last_first 0
three_planned = record {
  longest_at_most = λ p _. omega arith;
  of_streams = record {
    keeps = λ p in_p is. record {
      known = let later = behind p is in omega (arith, later);
      bits_at_most = omega arith;
      turns = omega arith;
      release_first = omega arith;
      jitter_at_most = omega arith;
    };
    spaced = λ p q in_p in_q differ is other same _ _.
        let later_p = behind p is in
        let later_q = behind q other in
        absurd (differ (omega (arith, in_p, in_q, later_p, later_q, same)));
  };
  as_wanted = nothing_wanted three but_the_first last_first [] two_streams.stream (λ j. refl);
  refill_by_stream = λ p _ _. omega arith;
  refill_at_most = λ p _. omega arith;
  few_unplanned = λ p from to _ _ _ _ _ _.
      let none : total 3 (λ q. cond (is_unplanned_queued three but_the_first from to q) 1 0) ≡ 0 =
      total-none 3 (λ q. cond (is_unplanned_queued three but_the_first from to q) 1 0) (λ q _. none_queued from to q) in
      omega (arith, none);
}

demand_fits : RefillDemandFits two_streams slow 0 160 1000 0 2320
unfolding total
demand_fits = omega arith

pub reached_with_refill : (s : Schedule) × (controllers : Controllers) × (refill : ℕ → ℕ) × (traffic : Traffic) × (refill_of : ℕ → ℕ) × (planned : ℕ → Bool)
    × (of : Origins) × IsLegalWithRefill s controllers refill
    × IsTrafficWithRefill s controllers refill traffic refill_of 0 160 1000 planned of 0
    × ((j : ℕ) → j < traffic.count → 0 < (traffic.stream j).period) × ((traffic.stream 0).bits ≤ 160) × (refill_of 0 ≤ 1000)
    × RefillDemandFits traffic refill_of 0 160 1000 0 2320 × (2 < s.count) × (planned 2 ≡ true) × (of.source 2 ≡ 0)
    × (s.queued 2 + 2320 < s.now) × (s.start 2 ≡ s.queued 2 + 2320)
reached_with_refill = (
  three,
  one_unit,
  slow,
  two_streams,
  slow,
  but_the_first,
  last_first,
  three_legal,
  three_planned,
  λ j _. omega arith,
  omega arith,
  omega arith,
  demand_fits,
  omega arith,
  refl,
  refl,
  omega arith,
  refl,
)
