-- What is said of frames up to a bit rests on what is seen up to there.
use Rattle.std.proofs.Common.{◌≡◌, ℕ, ◌<◌, ◌≤◌, Bool, true, false, not, cond, ◌&&◌, ltb, leb, refl, ap, arith, inl, inr}
use Rattle.std.proofs.lemmas.Bool.{and_parts, and_from, cases_Bool, lt-ltb, leb-true, ltb-true, both_ways}
use Rattle.j39_timing.specs.TimedFrames.{Schedule, IsLegal}
use Rattle.j39_timing.specs.declared.stream.Stream.{Stream}
use Rattle.j39_timing.specs.FrameStreams.{AreOfStreams, Origins}
use Rattle.j39_timing.specs.Traffic.{Traffic, Others, IsPlannedTraffic, IsSingle, DemandFits, OwnDemandFits, PlannedFramesWait, delay_of, is_other_queued}
use Rattle.j39_timing.specs.Traffic.{others_queued}
use Rattle.j39_timing.specs.Prefixes.{seen_until, planned_until, IsPlannedUntil, AreBegunUntil}
use Rattle.j39_timing.proofs.PlannedTraffic.{begun_in_time, own_begun}
use Rattle.j39_timing.proofs.Sums.{total-le}

module _ (s : Schedule) (by ident : ℕ) where
  -- a frame that is queued before has its own identifier
  pub its_own : (p : ℕ) → s.queued p < by → (seen_until s by ident).ident p ≡ s.ident p
  its_own p early = rw (lt-ltb (s.queued p) by early) refl

  other_ident : (p : ℕ) → by ≤ s.queued p → (seen_until s by ident).ident p ≡ ident
  other_ident p late = elim (cases_Bool (ltb (s.queued p) by)) [
    | inl is ↦ absurd (let early : s.queued p < by = ltb-true (s.queued p) by is in omega arith)
    | inr isnt ↦ rw (isnt) refl
  ]

  pub still_legal : IsLegal s → by ≤ s.now → IsLegal (seen_until s by ident)
  still_legal legal seen = record {
    positive = legal.positive;
    queued_first = legal.queued_first;
    alone = λ p q t in_p in_q before. legal.alone p q t in_p in_q (omega arith);
    never_idle = λ p t in_p before waits. legal.never_idle p t in_p (omega arith) waits;
    in_order = λ p q in_p in_q before waits.
        let first : s.queued q ≤ s.start q = legal.queued_first q in_q in
        let order : s.ident q ≤ s.ident p = legal.in_order p q in_p in_q (omega arith) waits in
        let of_q : (seen_until s by ident).ident q ≡ s.ident q = its_own q (omega arith) in
        let of_p : (seen_until s by ident).ident p ≡ s.ident p = its_own p (let ready : s.queued p < s.start q = waits.0 in omega arith) in
        rw (of_q, of_p) order;
  }

pub still_of_streams : (s : Schedule) (by ident : ℕ) (its : ℕ → Type 0) (count : ℕ) (stream : ℕ → Stream) (of : Origins)
    → AreOfStreams s its count stream of → AreOfStreams (seen_until s by ident) its count stream of
still_of_streams s by ident its count stream of known = record {
  keeps = λ p in_p is.
      let keeps = known.keeps p in_p is in
      record {
        known = keeps.known;
        bits_at_most = keeps.bits_at_most;
        turns = keeps.turns;
        release_first = keeps.release_first;
        jitter_at_most = keeps.jitter_at_most;
      };
  spaced = known.spaced;
}

pub is_planned_then : (s : Schedule) (planned : ℕ → Bool) (by p : ℕ) → planned_until s planned by p ≡ true → (planned p ≡ true) × (s.queued p < by)
is_planned_then s planned by p is = let parts = and_parts (planned p) (ltb (s.queued p) by) is in (parts.0, ltb-true (s.queued p) by parts.1)

pub then_is_planned : (s : Schedule) (planned : ℕ → Bool) (by p : ℕ) → planned p ≡ true → s.queued p < by → planned_until s planned by p ≡ true
then_is_planned s planned by p is early = and_from (planned p) (ltb (s.queued p) by) is (lt-ltb (s.queued p) by early)

module _ (s : Schedule) (traffic : Traffic) (others : Others) (longest : ℕ) (planned : ℕ → Bool) (of : Origins) (i by : ℕ) (seen : by ≤ s.now)
    (known : IsPlannedUntil s traffic others longest planned of i by) where
  abbrev then_seen : Schedule
  then_seen = seen_until s by others.least

  abbrev then_planned : ℕ → Bool
  then_planned = planned_until s planned by

  is_planned : (p : ℕ) → then_planned p ≡ true → (planned p ≡ true) × (s.queued p < by)
  is_planned p is = is_planned_then s planned by p is

  then_is : (p : ℕ) → planned p ≡ true → s.queued p < by → then_planned p ≡ true
  then_is p is early = then_is_planned s planned by p is early

  own : (p : ℕ) → s.queued p < by → then_seen.ident p ≡ s.ident p
  own p early = its_own s by others.least p early

  stretch_before : (c from to : ℕ) → PlannedFramesWait then_seen then_planned c from to → PlannedFramesWait s planned c from to
  stretch_before c from to stretch t after within =
      let (p, in_p, is, most, waits) = stretch t after within in
      let (plain, early) = is_planned p is in
      let same : then_seen.ident p ≡ s.ident p = own p early in
      (p, in_p, plain, omega (arith, most, same), waits)

  fewer_others : (c from to : ℕ) → to < by → others_queued then_seen then_planned c from to ≤ others_queued s planned c from to
  fewer_others c from to before =
      total-le s.count (λ q. cond (is_other_queued then_seen then_planned c from to q) 1 0) (λ q. cond (is_other_queued s planned c from to q) 1 0) (λ q in_q.
      elim (cases_Bool (is_other_queued then_seen then_planned c from to q)) [
        | inr fails ↦ rw (fails) (omega arith)
        | inl it ↦
            let one = and_parts (not (then_planned q)) (ltb (then_seen.ident q) c && (leb (s.queued q) to && ltb from (s.start q))) it in
            let two = and_parts (ltb (then_seen.ident q) c) (leb (s.queued q) to && ltb from (s.start q)) one.1 in
            let three = and_parts (leb (s.queued q) to) (ltb from (s.start q)) two.1 in
            let until : s.queued q ≤ to = leb-true (s.queued q) to three.0 in
            let same : then_seen.ident q ≡ s.ident q = own q (omega arith) in
            let less : then_seen.ident q < c = ltb-true (then_seen.ident q) c two.0 in
            let isnt : not (planned q) ≡ true = elim (cases_Bool (planned q)) [
              | inl is ↦ absurd (both_ways (not (then_planned q)) (ap not (then_is q is (omega arith))) one.0)
              | inr unplanned ↦ rw (unplanned) refl
            ] in
            let there : is_other_queued s planned c from to q ≡ true =
            and_from (not (planned q)) (ltb (s.ident q) c && (leb (s.queued q) to && ltb from (s.start q))) isnt
            (and_from (ltb (s.ident q) c) (leb (s.queued q) to && ltb from (s.start q)) (lt-ltb (s.ident q) c (omega (arith, less, same))) two.1) in
            rw (it, there) (omega arith)
      ])

  pub then_known : IsPlannedTraffic then_seen traffic others longest then_planned of i
  then_known = record {
    longest_at_most = known.longest_at_most;
    of_streams = still_of_streams s by others.least (λ p. then_planned p ≡ true) traffic.count traffic.stream of known.of_streams;
    as_wanted = record { by_sender = known.as_wanted.by_sender; by_askers = known.as_wanted.by_askers };
    from_least = λ p in_p is.
        let (plain, early) = is_planned p is in
        let least = known.from_least p in_p plain in
        let same : then_seen.ident p ≡ s.ident p = own p early in
        omega (arith, least, same);
    to_greatest = λ p in_p is source.
        let (plain, early) = is_planned p is in
        let most = known.to_greatest p in_p plain source in
        let same : then_seen.ident p ≡ s.ident p = own p early in
        omega (arith, most, same);
    own_identifier = λ p q t in_p in_q before is shared at_p at_q same.
        let (plain, early) = is_planned p is in
        let ready : s.queued q < by = let at = at_q.0 in omega arith in
        let of_p : then_seen.ident p ≡ s.ident p = own p early in
        let of_q : then_seen.ident q ≡ s.ident q = own q ready in
        let both = known.own_identifier p q t in_p in_q (omega arith) plain shared at_p at_q (omega (arith, same, of_p, of_q)) in
        (then_is q both.0 ready, both.1);
    urgency_of_others = λ p in_p isnt. elim (cases_Bool (ltb (s.queued p) by)) [
      | inl early ↦
          let queued : s.queued p < by = ltb-true (s.queued p) by early in
          let same : then_seen.ident p ≡ s.ident p = own p queued in
          let none : planned p ≡ false = elim (cases_Bool (planned p)) [
            | inl is ↦ absurd (both_ways (then_planned p) isnt (then_is p is queued))
            | inr unplanned ↦ unplanned
          ] in
          let least = known.urgency_of_others p in_p none in
          omega (arith, least, same)
      | inr late ↦ rw (late) (omega arith)
    ];
    few_others = λ p from to in_p is source before waits stretch.
        let (plain, early) = is_planned p is in
        let same : then_seen.ident p ≡ s.ident p = own p early in
        let fewer : others_queued then_seen then_planned (then_seen.ident p) from to ≤ others_queued s planned (then_seen.ident p) from to =
        fewer_others (then_seen.ident p) from to before in
        let most : others_queued s planned (s.ident p) from to ≤ others.count =
        known.few_others p from to in_p plain source (omega arith) waits (λ t after within.
        let (h, in_h, of_plan, at_most, waiting) = stretch_before (then_seen.ident p) from to stretch t after within in
        (h, in_h, of_plan, omega (arith, at_most, same), waiting)) in
        let alike : others_queued s planned (then_seen.ident p) from to ≡ others_queued s planned (s.ident p) from to =
        ap (λ c. others_queued s planned c from to) same in
        omega (arith, fewer, most, alike);
  }

  pub begun_until : IsLegal s → (wait : ℕ) → ((j : ℕ) → j < traffic.count → 0 < (traffic.stream j).period) → DemandFits traffic others longest i wait
      → IsSingle (traffic.stream i) → delay_of (traffic.stream i) wait ≤ (traffic.stream i).period → AreBegunUntil s planned of i wait by
  begun_until legal wait positive demand_fits single fits p in_p is source before =
      begun_in_time then_seen traffic others longest then_planned of (still_legal s by others.least legal seen) i wait then_known positive demand_fits single fits
      p in_p (then_is p is (omega arith)) source before

  pub own_begun_until : IsLegal s → (wait : ℕ) → ((j : ℕ) → j < traffic.count → 0 < (traffic.stream j).period) → (traffic.stream i).bits ≤ longest
      → OwnDemandFits traffic others longest i wait → AreBegunUntil s planned of i wait by
  own_begun_until legal wait positive small own_fits p in_p is source before =
      own_begun then_seen traffic others longest then_planned of (still_legal s by others.least legal seen) i wait then_known positive small own_fits
      p in_p (then_is p is (omega arith)) source before
