-- Frames of units that refill a buffer are in time where the wait has room for all frames, each with the refill of its unit: a bus is never idle beside a
-- waiting frame but behind a frame of its unit, so each frame counts as if it went on until its unit takes part again.
use Rattle.std.proofs.Common.{◌≡◌, ◌≢◌, ℕ, ◌+◌, ◌<◌, ◌≤◌, ◌⊎◌, Bool, true, false, not, eqb, refl, sym, subst, ap, arith, inl, inr}
use Rattle.std.proofs.lemmas.Bool.{cases_Bool, cases_lt, eq-eqb, eqb-true}
use Rattle.j39_timing.specs.AnyOrder.{AreBegunWithin, Controllers}
use Rattle.j39_timing.specs.FrameStreams.{AreOfStreams, Origins}
use Rattle.j39_timing.specs.Messages.{AreSentWithin}
use Rattle.j39_timing.specs.QueueGroups.{unplanned_queued}
use Rattle.j39_timing.specs.TimedFrames.{IsOnBusAt, Schedule, Waits}
use Rattle.j39_timing.specs.Traffic.{AreAsWanted, IsStreamInTime, Traffic}
use Rattle.j39_timing.specs.declared.stream.Stream.{Stream}
use Rattle.j39_timing.proofs.FullWindows.{some_wait, too_full}
use Rattle.j39_timing.proofs.QueueGroupTraffic.{others_are_unplanned}
use Rattle.j39_timing.proofs.WaitingWindow.{GoingWait, busy_with, others_going}
use Rattle.j39_refill_laws.specs.Refill.{IsLegalWithRefill}
use Rattle.j39_refill_laws.specs.RefillTraffic.{IsTrafficWithRefill, RefillDemandFits, SomeFrameWaits, with_refill}

module _ (s : Schedule) (controllers : Controllers) (refill : ℕ → ℕ) (traffic : Traffic) (refill_of : ℕ → ℕ) (unplanned longest most : ℕ)
    (planned : ℕ → Bool) (of : Origins) (i wait : ℕ) (legal : IsLegalWithRefill s controllers refill)
    (known : IsTrafficWithRefill s controllers refill traffic refill_of unplanned longest most planned of i)
    (positive : (j : ℕ) → j < traffic.count → 0 < (traffic.stream j).period) (small : (traffic.stream i).bits ≤ longest) (few_more : refill_of i ≤ most)
    (demand_fits : RefillDemandFits traffic refill_of unplanned longest most i wait) where
  -- the schedule in which each frame goes on until its unit takes part again: frames may then be on the bus at once
  abbrev longer : Schedule
  longer = record {
    count = s.count;
    queued = s.queued;
    start = s.start;
    bits = λ p. s.bits p + refill (controllers.unit p);
    ident = s.ident;
    now = s.now;
  }

  abbrev streams : ℕ → Stream
  streams j = with_refill (refill_of j) (traffic.stream j)

  some_bits : (p : ℕ) → p < s.count → 1 ≤ longer.bits p
  some_bits p in_p = let some = legal.positive p in_p in omega (arith, some)

  short : (p : ℕ) → p < s.count → longer.bits p ≤ longest + most
  short p in_p = let few = known.longest_at_most p in_p in let less = known.refill_at_most p in_p in omega (arith, few, less)

  never_idle : (p t : ℕ) → p < s.count → t < s.now → Waits s p t → (q : ℕ) × (q < s.count) × IsOnBusAt longer q t
  never_idle p t in_p seen waits = elim (legal.never_idle p t in_p seen waits) [
    | inl on ↦
        let (q, in_q, busy) = on in
        (q, in_q, (busy.0, let high = busy.1 in omega (arith, high)))
    | inr filling ↦
        let soon : t < s.start filling.frame + s.bits filling.frame + refill (controllers.unit filling.frame) =
        subst (λ u. t < s.start filling.frame + s.bits filling.frame + refill u) (sym filling.its_unit) filling.soon in
        let ended = filling.ended in
        (filling.frame, filling.inside, (omega (arith, ended), omega (arith, soon)))
  ]

  of_streams : AreOfStreams longer (λ p. planned p ≡ true) traffic.count streams of
  of_streams = record {
    keeps = λ p in_p is.
        let keeps = known.of_streams.keeps p in_p is in
        let bits = keeps.bits_at_most in
        let more = known.refill_by_stream p in_p is in
        record {
          known = keeps.known;
          bits_at_most = omega (arith, bits, more);
          turns = keeps.turns;
          release_first = keeps.release_first;
          jitter_at_most = keeps.jitter_at_most;
        };
    spaced = known.of_streams.spaced;
  }

  as_wanted : AreAsWanted longer planned of traffic.demands streams
  as_wanted = record { by_sender = known.as_wanted.by_sender; by_askers = known.as_wanted.by_askers }

  -- all frames go, and all streams
  abbrev any : ℕ → Bool
  any p = true

  all_go : (p : ℕ) → p < s.count → planned p ≡ true → any p ≡ true → any (of.source p) ≡ true
  all_go p in_p is with_p = refl

  -- ---- one frame

  module _ (x : ℕ) (in_x : x < s.count) (is_planned : planned x ≡ true) (source : of.source x ≡ i) where
    x_bits : (streams (of.source x)).bits ≡ (traffic.stream i).bits + refill_of i
    x_bits = ap (λ j. (traffic.stream j).bits + refill_of j) source

    abbrev first : ℕ → Bool
    first p = not (eqb p x)

    itself : first x ≡ false
    itself = let same = eq-eqb x x refl in rw (same) refl

    first_from : (q : ℕ) → q ≢ x → first q ≡ true
    first_from q differ = elim (cases_Bool (eqb q x)) [
      | inl same ↦ absurd (differ (eqb-true q x same))
      | inr other ↦ ap not other
    ]

    module _ (seen : s.queued x + wait < s.now) (late : s.queued x + wait < s.start x) where
      some : 1 ≤ wait
      some =
          some_wait longer traffic.count streams traffic.demands planned of of_streams as_wanted positive any any all_go wait (longest + most) unplanned
          ((traffic.stream i).bits + refill_of i) x in_x is_planned refl x_bits (omega (arith, small, few_more)) (some_bits x in_x) (short x in_x) demand_fits

      closed : (from : ℕ) → GoingWait longer planned first x from (s.queued x + wait) → (p q : ℕ) → p < s.count → q < s.count → planned p ≡ true
          → (first p ≡ true) ⊎ (p ≡ x) → Waits longer p (s.start q) → from < s.start q → s.start q ≤ s.queued x + wait → first q ≡ true
      closed from stretch p q in_p in_q is one waits after within =
          first_from q (λ same. absurd (let at : s.start q ≡ s.start x = ap s.start same in omega (arith, at, within, late)))

      as_some : (from : ℕ) → GoingWait longer planned first x from (s.queued x + wait) → SomeFrameWaits s planned from (s.queued x + wait)
      as_some from stretch t after within =
          let (p, in_p, is, one, waits) = stretch t after within in
          (p, in_p, is, waits)

      fewer : (begin : ℕ) → GoingWait longer planned first x begin (s.queued x + wait) → others_going longer planned first begin (s.queued x + wait) ≤ unplanned
      fewer begin stretch =
          let enough = some in
          let few : unplanned_queued s planned begin (s.queued x + wait) ≤ unplanned =
          known.few_unplanned x begin (s.queued x + wait) in_x is_planned source seen (omega (arith, enough), omega (arith, late)) (as_some begin stretch) in
          let all = others_are_unplanned longer planned first begin (s.queued x + wait) in
          omega (arith, few, all)

      not_late : ⊥
      not_late =
          let (begin, is_busy) = busy_with longer planned first (longest + most) wait some_bits legal.queued_first never_idle short x in_x is_planned seen late
          closed in
          too_full longer traffic.count streams traffic.demands planned of of_streams as_wanted positive any any all_go wait (longest + most) unplanned
          ((traffic.stream i).bits + refill_of i) x in_x is_planned refl x_bits (omega (arith, small, few_more)) (some_bits x in_x) (short x in_x) demand_fits
          first itself (λ p is one. refl) begin is_busy.before is_busy (fewer begin is_busy.waiting)

  pub begun_with_refill : AreBegunWithin s planned of i wait
  begun_with_refill p in_p is source seen = elim (cases_lt (s.queued p + wait) (s.start p)) [
    | inr in_time ↦ in_time
    | inl late ↦ absurd (not_late p in_p is source seen late)
  ]

  pub in_time_with_refill : IsStreamInTime s planned of i (traffic.stream i) wait
  in_time_with_refill p in_p is source seen =
      let keeps = known.of_streams.keeps p in_p is in
      let late : s.queued p ≤ of.since p + (traffic.stream i).jitter =
      subst (λ j. s.queued p ≤ of.since p + (traffic.stream j).jitter) source keeps.jitter_at_most in
      let begins : s.start p ≤ s.queued p + wait = begun_with_refill p in_p is source (omega (arith, late, seen)) in
      let bits : s.bits p ≤ (traffic.stream i).bits = subst (λ j. s.bits p ≤ (traffic.stream j).bits) source keeps.bits_at_most in
      (begins, omega (arith, begins, bits, late))

  pub sent_with_refill : AreSentWithin s planned of i (traffic.stream i) wait
  sent_with_refill p in_p is source seen =
      let begins : s.start p ≤ s.queued p + wait = begun_with_refill p in_p is source seen in
      let bits : s.bits p ≤ (traffic.stream i).bits =
      subst (λ j. s.bits p ≤ (traffic.stream j).bits) source (known.of_streams.keeps p in_p is).bits_at_most in
      omega (arith, begins, bits)
