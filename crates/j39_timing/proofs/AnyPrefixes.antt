-- What is said of frames up to a bit rests on what is seen up to there, also where units keep no order.
use Rattle.std.proofs.Common.{◌≡◌, ℕ, ◌<◌, ◌≤◌, Bool, true, not, cond, ◌&&◌, ◌||◌, ltb, leb, refl, sym, ◌∙◌, ap, subst, arith, inl, inr}
use Rattle.std.proofs.lemmas.Bool.{and_parts, and_from, cases_Bool, leb-true, both_ways, true≢false}
use Rattle.j39_timing.specs.TimedFrames.{Schedule}
use Rattle.j39_timing.specs.FrameStreams.{Origins}
use Rattle.j39_timing.specs.Traffic.{Traffic, Others, DemandFits, IsSingle, OwnDemandFits, delay_of}
use Rattle.j39_timing.specs.AnyOrder.{Controllers, IsLegalInAnyOrder, IsOrderedStream, buffered_traffic}
use Rattle.j39_timing.specs.QueueGroups.{QueueGroup, QueueGroupWaits, QueueGroupDemandFits, IsTrafficOfQueueGroup, is_unplanned_queued, is_with_queue_group}
use Rattle.j39_timing.specs.QueueGroups.{unplanned_queued}
use Rattle.j39_timing.specs.Prefixes.{seen_until, planned_until, IsPlannedUntil, AreBegunUntil, IsQueueGroupUntil, HaveWaitsUntil}
use Rattle.j39_timing.proofs.QueueGroupTraffic.{begun_within}
use Rattle.j39_timing.proofs.Buffering.{ordered_begun, own_ordered_begun}
use Rattle.j39_timing.proofs.Prefixes.{its_own, is_planned_then, still_of_streams, then_is_planned, then_known}
use Rattle.j39_timing.proofs.Sums.{total-le}

pub still_legal_in_any_order : (s : Schedule) (controllers : Controllers) (by ident : ℕ) → IsLegalInAnyOrder s controllers → by ≤ s.now
    → IsLegalInAnyOrder (seen_until s by ident) controllers
still_legal_in_any_order s controllers by ident legal seen = record {
  positive = legal.positive;
  queued_first = legal.queued_first;
  alone = λ p q t in_p in_q before. legal.alone p q t in_p in_q (omega arith);
  never_idle = λ p t in_p before waits. legal.never_idle p t in_p (omega arith) waits;
  in_order = λ p q in_p in_q before waits.
      let first : s.queued q ≤ s.start q = legal.queued_first q in_q in
      let (h, may, order) = legal.in_order p q in_p in_q (omega arith) waits in
      let ready : s.queued h ≤ s.start q = may.2.0 in
      let of_q : (seen_until s by ident).ident q ≡ s.ident q = its_own s by ident q (omega arith) in
      let of_h : (seen_until s by ident).ident h ≡ s.ident h = its_own s by ident h (omega arith) in
      (h, may, omega (arith, order, of_q, of_h));
}

-- ---- a queue group

module _ (s : Schedule) (planned : ℕ → Bool) (of : Origins) (queue_group : QueueGroup) (by ident : ℕ) where
  abbrev seen_then : Schedule
  seen_then = seen_until s by ident

  abbrev planned_then : ℕ → Bool
  planned_then = planned_until s planned by

  pub with_queue_group : (p : ℕ) → s.queued p < by → is_with_queue_group (seen_until s by ident) of queue_group p ≡ is_with_queue_group s of queue_group p
  with_queue_group p early = ap (λ c. queue_group.has (of.source p) || ltb c queue_group.level) (its_own s by ident p early)

  pub queue_group_before : (from to : ℕ) → QueueGroupWaits (seen_until s by ident) (planned_until s planned by) of queue_group from to
      → QueueGroupWaits s planned of queue_group from to
  queue_group_before from to stretch t after within =
      let (p, in_p, is, with_it, waits) = stretch t after within in
      let (plain, early) = is_planned_then s planned by p is in
      (p, in_p, plain, subst (λ x. x ≡ true) (with_queue_group p early) with_it, waits)

  pub fewer_unplanned : (from to : ℕ) → to < by
      → unplanned_queued (seen_until s by ident) (planned_until s planned by) from to ≤ unplanned_queued s planned from to
  fewer_unplanned from to before =
      total-le s.count (λ q. cond (is_unplanned_queued seen_then planned_then from to q) 1 0) (λ q. cond (is_unplanned_queued s planned from to q) 1 0) (λ q in_q.
      elim (cases_Bool (is_unplanned_queued seen_then planned_then from to q)) [
        | inr fails ↦ rw (fails) (omega arith)
        | inl it ↦
            let one = and_parts (not (planned_then q)) (leb (s.queued q) to && ltb from (s.start q)) it in
            let two = and_parts (leb (s.queued q) to) (ltb from (s.start q)) one.1 in
            let until : s.queued q ≤ to = leb-true (s.queued q) to two.0 in
            let isnt : not (planned q) ≡ true = elim (cases_Bool (planned q)) [
              | inl is ↦ absurd (both_ways (not (planned_then q)) (ap not (then_is_planned s planned by q is (omega arith))) one.0)
              | inr unplanned_one ↦ rw (unplanned_one) refl
            ] in
            let there : is_unplanned_queued s planned from to q ≡ true = and_from (not (planned q)) (leb (s.queued q) to && ltb from (s.start q)) isnt one.1 in
            rw (it, there) (omega arith)
      ])

module _ (s : Schedule) (controllers : Controllers) (traffic : Traffic) (unplanned longest : ℕ) (planned : ℕ → Bool) (of : Origins) (queue_group : QueueGroup)
    (by : ℕ) (seen : by ≤ s.now) (known : IsQueueGroupUntil s controllers traffic unplanned longest planned of queue_group by) where
  abbrev then_seen : Schedule
  then_seen = seen_until s by 0

  abbrev then_planned : ℕ → Bool
  then_planned = planned_until s planned by

  own : (p : ℕ) → s.queued p < by → then_seen.ident p ≡ s.ident p
  own p early = its_own s by 0 p early

  then_queue_group : IsTrafficOfQueueGroup then_seen controllers traffic unplanned longest then_planned of queue_group
  then_queue_group = record {
    longest_at_most = known.longest_at_most;
    of_streams = still_of_streams s by 0 (λ p. then_planned p ≡ true) traffic.count traffic.stream of known.of_streams;
    as_wanted = record { by_sender = known.as_wanted.by_sender; by_askers = known.as_wanted.by_askers };
    from_least = λ p in_p is.
        let (plain, early) = is_planned_then s planned by p is in
        let least = known.from_least p in_p plain in
        let same : then_seen.ident p ≡ s.ident p = own p early in
        omega (arith, least, same);
    to_level = λ p in_p is has.
        let (plain, early) = is_planned_then s planned by p is in
        let most = known.to_level p in_p plain has in
        let same : then_seen.ident p ≡ s.ident p = own p early in
        omega (arith, most, same);
    closed = λ p q in_p in_q is also unit unordered with_it.
        let (plain, early) = is_planned_then s planned by p is in
        let (plain_q, _) = is_planned_then s planned by q also in
        known.closed p q in_p in_q plain plain_q unit unordered (subst (λ x. x ≡ true) (with_queue_group s planned of queue_group by 0 p early) with_it);
    own_identifiers = λ p q t in_p in_q before is has at_p at_q same.
        let (plain, early) = is_planned_then s planned by p is in
        let ready : s.queued q < by = let at = at_q.0 in omega arith in
        let of_p : then_seen.ident p ≡ s.ident p = own p early in
        let of_q : then_seen.ident q ≡ s.ident q = own q ready in
        let both = known.own_identifiers p q t in_p in_q (omega arith) plain has at_p at_q (omega (arith, same, of_p, of_q)) in
        (then_is_planned s planned by q both.0 ready, both.1);
    few_unplanned = λ p from to in_p is has before waits stretch.
        let (plain, early) = is_planned_then s planned by p is in
        let most : unplanned_queued s planned from to ≤ unplanned =
        known.few_unplanned p from to in_p plain has (omega arith) waits (queue_group_before s planned of queue_group by 0 from to stretch) in
        let less : unplanned_queued then_seen then_planned from to ≤ unplanned_queued s planned from to =
        fewer_unplanned s planned of queue_group by 0 from to before in
        omega (arith, most, less);
    above_unplanned = λ p in_p isnt early some.
        let same : then_seen.ident p ≡ s.ident p = own p early in
        let below = known.above_unplanned p in_p (elim (cases_Bool (planned p)) [
          | inl is ↦ absurd (true≢false (sym (then_is_planned s planned by p is early) ∙ isnt))
          | inr not_planned ↦ not_planned
        ]) (omega (arith, seen, early)) some in
        omega (arith, below, same);
  }

  pub queue_group_begun_until : IsLegalInAnyOrder s controllers → ((j : ℕ) → j < traffic.count → 0 < (traffic.stream j).period) → (i wait : ℕ)
      → queue_group.has i ≡ true
      → (traffic.stream i).bits ≤ longest → QueueGroupDemandFits traffic queue_group unplanned longest i wait → AreBegunUntil s planned of i wait by
  queue_group_begun_until legal positive i wait member small demand_fits p in_p is source before =
      begun_within then_seen controllers traffic unplanned longest then_planned of queue_group (still_legal_in_any_order s controllers by 0 legal seen) then_queue_group
      positive i wait member small demand_fits p in_p (then_is_planned s planned by p is (omega arith)) source before

-- ---- a stream of a unit that keeps order, beside others

pub ordered_begun_until : (s : Schedule) (controllers : Controllers) (traffic : Traffic) (others : Others) (longest : ℕ) (planned : ℕ
    → Bool) (of : Origins) (i by : ℕ)
    → by ≤ s.now → IsPlannedUntil s traffic others longest planned of i by → IsLegalInAnyOrder s controllers
    → ((j : ℕ) → j < traffic.count → 0 < (traffic.stream j).period) → IsOrderedStream s controllers planned of i
    → (wait : ℕ) (waits : ℕ → ℕ) → HaveWaitsUntil s controllers traffic planned of i waits by
    → DemandFits (buffered_traffic traffic waits) others longest i wait
    → IsSingle (traffic.stream i) → delay_of (traffic.stream i) wait ≤ (traffic.stream i).period → AreBegunUntil s planned of i wait by
ordered_begun_until s controllers traffic others longest planned of i by seen known legal positive ordered wait waits have demand_fits single fits p in_p is source before =
    ordered_begun (seen_until s by others.least) controllers (still_legal_in_any_order s controllers by others.least legal seen) traffic others longest
    (planned_until s planned by) of i wait (then_known s traffic others longest planned of i by seen known) positive
    (λ q in_q it same. ordered q in_q (is_planned_then s planned by q it).0 same) waits
    (λ q in_q it goes loses until. have q in_q (is_planned_then s planned by q it).0 goes loses until)
    demand_fits single fits p in_p (then_is_planned s planned by p is (omega arith)) source before

pub own_ordered_until : (s : Schedule) (controllers : Controllers) (traffic : Traffic) (others : Others) (longest : ℕ) (planned : ℕ
    → Bool) (of : Origins) (i by : ℕ)
    → by ≤ s.now → IsPlannedUntil s traffic others longest planned of i by → IsLegalInAnyOrder s controllers
    → ((j : ℕ) → j < traffic.count → 0 < (traffic.stream j).period) → IsOrderedStream s controllers planned of i
    → (wait : ℕ) (waits : ℕ → ℕ) → HaveWaitsUntil s controllers traffic planned of i waits by → (traffic.stream i).bits ≤ longest
    → OwnDemandFits (buffered_traffic traffic waits) others longest i wait → AreBegunUntil s planned of i wait by
own_ordered_until s controllers traffic others longest planned of i by seen known legal positive ordered wait waits have small own_fits p in_p is source before =
    own_ordered_begun (seen_until s by others.least) controllers (still_legal_in_any_order s controllers by others.least legal seen) traffic others longest
    (planned_until s planned by) of i wait (then_known s traffic others longest planned of i by seen known) positive
    (λ q in_q it same. ordered q in_q (is_planned_then s planned by q it).0 same) waits
    (λ q in_q it goes loses until. have q in_q (is_planned_then s planned by q it).0 goes loses until)
    small own_fits p in_p (then_is_planned s planned by p is (omega arith)) source before
