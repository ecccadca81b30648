-- The premises of refills beside damage can be met: as in `Reached`, but that the first of the two frames is tried in vain before, and its unit refills
-- its buffer behind the error frame too.
use Rattle.std.proofs.Common.{◌≡◌, ℕ, zero, suc, ◌+◌, ◌*◌, ◌-◌, ◌<◌, ◌≤◌, ◌⊎◌, Bool, true, false, min, cond, ◌&&◌, eqb, ltb, leb, refl, sym, ap, ◌∙◌}
use Rattle.std.proofs.Common.{arith, inl, inr, None, []}
use Rattle.std.proofs.lemmas.Bool.{and_parts, cases_lt, false≢true, ltb-true}
use Rattle.j39_timing.specs.AnyOrder.{Controllers}
use Rattle.j39_timing.specs.Errors.{Damaged, IsDamagedAt, with_errors}
use Rattle.j39_timing.specs.FrameStreams.{KeepsStream, Origins}
use Rattle.j39_timing.specs.QueueGroups.{is_unplanned_queued}
use Rattle.j39_timing.specs.Sums.{total}
use Rattle.j39_timing.specs.TimedFrames.{IsOnBusAt, Schedule, Waits}
use Rattle.j39_timing.specs.Traffic.{Traffic, no_twins}
use Rattle.j39_timing.proofs.Demands.{nothing_wanted}
use Rattle.j39_timing.proofs.Reached.{but_the_first}
use Rattle.j39_timing.proofs.Sums.{total-none}
use Rattle.j39_refill_laws.proofs.Reached.{one_unit}
use Rattle.j39_refill_laws.specs.RefillErrors.{IsLegalWithRefillAndErrors, MayHoldBack, error_units}
use Rattle.j39_refill_laws.specs.RefillTraffic.{IsTrafficWithRefill, RefillDemandFits}

abbrev tried : Schedule
tried = record { count = 3; queued = λ p. 0; start = λ p. p * 1160 + min (p * 1191) 1191; bits = λ p. 160; ident = λ p. p; now = 4000 }

-- frame 1 is tried at bit 1160
abbrev once : Damaged
once = record { count = 1; frame = λ e. 1; begin = λ e. 1160; sent = λ e. 160; error = λ e. 31; lost = λ e. false }

abbrev slow : ℕ → ℕ
slow u = cond (eqb u 0) 1000 0

tried_idle : (p t : ℕ) → p < 3 → Waits tried p t → ((q : ℕ) × (q < 3) × IsOnBusAt tried q t)
    ⊎ (((e : ℕ) × (e < 1) × IsDamagedAt once e t) ⊎ MayHoldBack tried one_unit once slow (one_unit.unit p) t)
tried_idle p t in_p waits =
    let last : t ≤ 3511 = let until = waits.1 in omega (arith, until, in_p) in
    elim (cases_lt t 160) [
      | inl first ↦ inl (0, omega arith, (omega arith, omega (arith, first)))
      | inr a ↦ elim (cases_lt t 1160) [
        | inl idle ↦ inr (inr (inl (record { frame = 0; inside = omega arith; its_unit = refl; ended = omega (arith, a); soon = omega (arith, idle) })))
        | inr b ↦ elim (cases_lt t 1351) [
          | inl damaged ↦ inr (inl (0, omega arith, (omega (arith, b), omega (arith, damaged))))
          | inr c ↦ elim (cases_lt t 2351) [
            | inl idle ↦ inr (inr (inr (record { attempt = 0; inside = omega arith; its_unit = refl; ended = omega (arith, c); soon = omega (arith, idle) })))
            | inr d ↦ elim (cases_lt t 2511) [
              | inl second ↦ inl (1, omega arith, (omega (arith, d), omega (arith, second)))
              | inr e ↦ elim (cases_lt t 3511) [
                | inl idle ↦ inr (inr (inl (record { frame = 1; inside = omega arith; its_unit = refl; ended = omega (arith, e); soon = omega (arith, idle) })))
                | inr f ↦ inl (2, omega arith, (omega (arith, f), omega (arith, last)))
              ]
            ]
          ]
        ]
      ]
    ]

tried_legal : IsLegalWithRefillAndErrors tried one_unit once slow
tried_legal = record {
  apart = record {
    positive = λ p _. omega arith;
    queued_first = λ p _. omega arith;
    some_sent = λ e _. omega arith;
    some_error = λ e _. omega arith;
    alone = λ p q t in_p in_q _ on_p on_q. omega (arith, in_p, in_q, on_p.0, on_p.1, on_q.0, on_q.1);
    alone_damaged = λ e f t in_e in_f _ _ _. omega (arith, in_e, in_f);
    none_of_both = λ p e t in_p _ _ on_p on_e. omega (arith, in_p, on_p.0, on_p.1, on_e.0, on_e.1);
  };
  never_idle = λ p t in_p _ waits. tried_idle p t in_p waits;
  in_order = λ p q in_p in_q _ waits. inl (q, (in_q, refl, (omega arith, omega arith), λ keeps. absurd (false≢true keeps)), omega arith);
}

-- ---- with the attempt and its error frame as frames: of streams of their own

abbrev all : Schedule
all = with_errors tried once

abbrev units : Controllers
units = error_units tried one_unit once 1

abbrev four_streams : Traffic
four_streams = record {
  count = 4;
  stream = λ j. record { frames = 1; period = 9000; bits = cond (eqb j 3) 31 160; jitter = 0; wanted = None };
  demands = [];
  least = λ j. 0;
  greatest = λ j. 2;
  are_twins = no_twins;
}

abbrev refill_of : ℕ → ℕ
refill_of j = cond (eqb j 2) 0 1000

abbrev each_its_own : Origins
each_its_own = record { source = λ p. cond (ltb p 3) (2 - p) (p - 1); turn = λ p. 0; since = all.queued }

five : (P : ℕ → Type 0) → P 0 → P 1 → P 2 → P 3 → P 4 → (p : ℕ) → p < 5 → P p
five P a b c d e zero below = a
five P a b c d e (suc zero) below = b
five P a b c d e (suc (suc zero)) below = c
five P a b c d e (suc (suc (suc zero))) below = d
five P a b c d e (suc (suc (suc (suc zero)))) below = e
five P a b c d e (suc (suc (suc (suc (suc p))))) below = absurd (omega arith)

keeps : (p : ℕ) → p < 5 → but_the_first p ≡ true → KeepsStream all 4 four_streams.stream each_its_own p
keeps = five (λ p. but_the_first p ≡ true → KeepsStream all 4 four_streams.stream each_its_own p)
    (λ is. absurd (false≢true is))
    (λ is. record { known = omega arith; bits_at_most = omega arith; turns = omega arith; release_first = omega arith; jitter_at_most = omega arith })
    (λ is. record { known = omega arith; bits_at_most = omega arith; turns = omega arith; release_first = omega arith; jitter_at_most = omega arith })
    (λ is. record { known = omega arith; bits_at_most = omega arith; turns = omega arith; release_first = omega arith; jitter_at_most = omega arith })
    (λ is. record { known = omega arith; bits_at_most = omega arith; turns = omega arith; release_first = omega arith; jitter_at_most = omega arith })

-- the place of a stream's frame
abbrev place_of : ℕ → ℕ
place_of j = cond (ltb j 2) (2 - j) (j + 1)

placed : (p : ℕ) → p < 5 → but_the_first p ≡ true → place_of (each_its_own.source p) ≡ p
placed = five (λ p. but_the_first p ≡ true → place_of (each_its_own.source p) ≡ p) (λ is. absurd (false≢true is)) (λ is. refl) (λ is. refl) (λ is. refl)
    (λ is. refl)

abbrev counted : ℕ → ℕ → ℕ → ℕ
counted from to q = cond (is_unplanned_queued all but_the_first from to q) 1 0

abbrev counts : Bool → ℕ
counts b = cond b 1 0

-- the one that isn't planned has begun before each bit
none_queued : (from to q : ℕ) → q < 5 → counted from to q ≡ 0
none_queued from to = five (λ q. counted from to q ≡ 0) (go (leb 0 to && ltb from 0) refl) refl refl refl refl
  where
    go : (b : Bool) → (leb 0 to && ltb from 0) ≡ b → counts b ≡ 0
    go false is = refl
    go true is = absurd (let low : from < 0 = ltb-true from 0 (and_parts (leb 0 to) (ltb from 0) is).1 in omega (arith, low))

tried_planned : IsTrafficWithRefill all units slow four_streams refill_of 0 160 1000 but_the_first each_its_own 0
tried_planned = record {
  longest_at_most = five (λ p. all.bits p ≤ 160) (omega arith) (omega arith) (omega arith) (omega arith) (omega arith);
  of_streams = record {
    keeps = keeps;
    spaced = λ p q in_p in_q differ is other same _ _. absurd (differ (sym (placed p in_p is) ∙ (ap place_of same ∙ placed q in_q other)));
  };
  as_wanted = nothing_wanted all but_the_first each_its_own [] four_streams.stream (λ j. refl);
  refill_by_stream = five (λ p. but_the_first p ≡ true → slow (units.unit p) ≤ refill_of (each_its_own.source p)) (λ is. absurd (false≢true is))
      (λ is. omega arith) (λ is. omega arith) (λ is. omega arith) (λ is. omega arith);
  refill_at_most = five (λ p. slow (units.unit p) ≤ 1000) (omega arith) (omega arith) (omega arith) (omega arith) (omega arith);
  few_unplanned = λ p from to _ _ _ _ _ _.
      let none : total 5 (λ q. counted from to q) ≡ 0 = total-none 5 (λ q. counted from to q) (none_queued from to) in
      omega (arith, none);
}

demand_fits : RefillDemandFits four_streams refill_of 0 160 1000 0 3511
unfolding total
demand_fits = omega arith

pub reached_with_damage : (s : Schedule) × (controllers : Controllers) × (damaged : Damaged) × (own : ℕ) × (refill : ℕ → ℕ) × (traffic : Traffic)
    × (refill_of : ℕ → ℕ) × (planned : ℕ → Bool) × (of : Origins) × IsLegalWithRefillAndErrors s controllers damaged refill
    × IsTrafficWithRefill (with_errors s damaged) (error_units s controllers damaged own) refill traffic refill_of 0 160 1000 planned of 0
    × ((j : ℕ) → j < traffic.count → 0 < (traffic.stream j).period) × ((traffic.stream 0).bits ≤ 160) × (refill_of 0 ≤ 1000)
    × RefillDemandFits traffic refill_of 0 160 1000 0 3511 × (0 < damaged.count) × (2 < s.count) × (planned 2 ≡ true) × (of.source 2 ≡ 0)
    × (s.queued 2 + 3511 < s.now) × (s.start 2 ≡ s.queued 2 + 3511)
reached_with_damage = (
  tried,
  one_unit,
  once,
  1,
  slow,
  four_streams,
  refill_of,
  but_the_first,
  each_its_own,
  tried_legal,
  tried_planned,
  λ j _. omega arith,
  omega arith,
  omega arith,
  demand_fits,
  omega arith,
  omega arith,
  refl,
  refl,
  omega arith,
  refl,
)
