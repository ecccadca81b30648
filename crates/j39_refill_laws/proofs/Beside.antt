-- Where frames of units that refill a buffer count as queued where they begin, the others are on a bus without refills.
use Rattle.std.proofs.Common.{◌≡◌, ℕ, ◌+◌, ◌<◌, ◌≤◌, Bool, true, false, min, cond, ap, ◌∙◌, arith, inl, inr}
use Rattle.std.proofs.lemmas.Bool.{cases_Bool}
use Rattle.j39_timing.specs.AnyOrder.{Controllers, IsLegalInAnyOrder, MayArbitrate, later_by}
use Rattle.j39_timing.specs.FrameStreams.{AreOfStreams, KeepsStream, Origins}
use Rattle.j39_timing.specs.TimedFrames.{IsOnBusAt, Schedule, Waits}
use Rattle.j39_timing.specs.declared.stream.Stream.{Stream}
use Rattle.j39_refill_laws.specs.Refill.{HaveRefillWaits, IsLegalWithRefill, IsRefilling, RefillAlone, after_refill}

module _ (s : Schedule) (controllers : Controllers) (refill : ℕ → ℕ) (refills : ℕ → Bool) (waits : ℕ → ℕ) (legal : IsLegalWithRefill s controllers refill)
  where
    abbrev after : Schedule
    after = after_refill s controllers refills waits

    -- when a frame is queued there
    of_refilling : (p : ℕ) → refills (controllers.unit p) ≡ true → after.queued p ≡ min (s.start p) (s.queued p + waits p)
    of_refilling p is = ap (λ b. cond b (min (s.start p) (s.queued p + waits p)) (s.queued p)) is

    of_other : (p : ℕ) → refills (controllers.unit p) ≡ false → after.queued p ≡ s.queued p
    of_other p isnt = ap (λ b. cond b (min (s.start p) (s.queued p + waits p)) (s.queued p)) isnt

    first_queued : (p : ℕ) → p < s.count → after.queued p ≤ s.start p
    first_queued p in_p = elim (cases_Bool (refills (controllers.unit p))) [
      | inl is ↦ let at = of_refilling p is in omega (arith, at)
      | inr isnt ↦ let at = of_other p isnt in let first = legal.queued_first p in_p in omega (arith, at, first)
    ]

    module _ (alone : RefillAlone refill refills) (have : HaveRefillWaits s controllers refills waits) where
      -- a frame of a unit that refills never waits there
      no_wait : (p t : ℕ) → p < s.count → t < s.now → refills (controllers.unit p) ≡ true → Waits after p t → ⊥
      no_wait p t in_p seen is (queued, ahead) =
          let at = of_refilling p is in
          let early : s.queued p + waits p < t = omega (arith, at, queued, ahead) in
          let begins = have p in_p is (omega (arith, early, seen)) in
          omega (arith, begins, early, ahead)

      -- and no other refills
      not_refilling : (u t : ℕ) → refills u ≡ false → IsRefilling s controllers refill u t → ⊥
      not_refilling u t isnt filling =
          let none = alone u isnt in
          let ended = filling.ended in
          let soon = filling.soon in
          omega (arith, none, ended, soon)

      never_idle : (p t : ℕ) → p < s.count → t < s.now → Waits after p t → (q : ℕ) × (q < s.count) × IsOnBusAt s q t
      never_idle p t in_p seen waiting = elim (cases_Bool (refills (controllers.unit p))) [
        | inl is ↦ absurd (no_wait p t in_p seen is waiting)
        | inr isnt ↦
            let at = of_other p isnt in
            elim (legal.never_idle p t in_p seen (let queued = waiting.0 in omega (arith, at, queued), waiting.1)) [
              | inl on ↦ on
              | inr filling ↦ absurd (not_refilling (controllers.unit p) t isnt filling)
            ]
      ]

      in_order : (p q : ℕ) → p < s.count → q < s.count → s.start q < s.now → Waits after p (s.start q)
          → (h : ℕ) × MayArbitrate after controllers p h (s.start q) × (s.ident q ≤ s.ident h)
      in_order p q in_p in_q seen waiting = elim (cases_Bool (refills (controllers.unit p))) [
        | inl is ↦ absurd (no_wait p (s.start q) in_p seen is waiting)
        | inr isnt ↦
            let at = of_other p isnt in
            elim (legal.in_order p q in_p in_q seen (let queued = waiting.0 in omega (arith, at, queued), waiting.1)) [
              | inr filling ↦ absurd (not_refilling (controllers.unit p) (s.start q) isnt filling)
              | inl taking ↦
                  let (h, may, order) = taking in
                  let (in_h, unit, ready, itself) = may in
                  let there = of_other h (ap refills unit ∙ isnt) in
                  (h, (in_h, unit, (let queued = ready.0 in omega (arith, there, queued), ready.1), itself), order)
            ]
      ]

      pub legal_beside : IsLegalInAnyOrder (after_refill s controllers refills waits) controllers
      legal_beside = record {
        positive = legal.positive;
        queued_first = first_queued;
        alone = legal.alone;
        never_idle = never_idle;
        in_order = in_order;
      }

pub streams_beside : (s : Schedule) (controllers : Controllers) (refill : ℕ → ℕ) (refills : ℕ → Bool) (waits : ℕ → ℕ) (planned : ℕ → Bool) (count : ℕ)
    (stream : ℕ → Stream) (of : Origins) → IsLegalWithRefill s controllers refill → AreOfStreams s (λ p. planned p ≡ true) count stream of
    → AreOfStreams (after_refill s controllers refills (λ p. waits (of.source p))) (λ p. planned p ≡ true) count (λ j. later_by (waits j) (stream j)) of
streams_beside s controllers refill refills waits planned count stream of legal known = record { keeps = keeps; spaced = known.spaced }
  where
    keeps : (p : ℕ) → p < s.count → planned p ≡ true
        → KeepsStream (after_refill s controllers refills (λ p. waits (of.source p))) count (λ j. later_by (waits j) (stream j)) of p
    keeps p in_p is =
        let one = known.keeps p in_p is in
        let early = one.release_first in
        let late = one.jitter_at_most in
        let first = legal.queued_first p in_p in
        elim (cases_Bool (refills (controllers.unit p))) [
          | inl is ↦
              let at = of_refilling s controllers refill refills (λ p. waits (of.source p)) legal p is in
              record {
                known = one.known;
                bits_at_most = one.bits_at_most;
                turns = one.turns;
                release_first = omega (arith, at, early, first);
                jitter_at_most = omega (arith, at, late);
              }
          | inr isnt ↦
              let at = of_other s controllers refill refills (λ p. waits (of.source p)) legal p isnt in
              record {
                known = one.known;
                bits_at_most = one.bits_at_most;
                turns = one.turns;
                release_first = omega (arith, at, early);
                jitter_at_most = omega (arith, at, late);
              }
        ]
