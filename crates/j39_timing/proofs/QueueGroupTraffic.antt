-- Frames of units that keep no order are in time where the wait has room for their queue group, and for what may go before its frames.
use Rattle.std.proofs.Common.{◌≡◌, ◌≢◌, ℕ, ◌+◌, ◌<◌, ◌≤◌, ◌⊎◌, Bool, true, false, not, cond, ◌&&◌, ◌||◌, eqb, ltb, leb, refl, sym, subst, ap, arith, inl, inr}
use Rattle.std.proofs.lemmas.Bool.{and_parts, and_from, cases_lt, cases_eq, cases_Bool, or_cases, or_left, or_right, le-leb, lt-ltb, ltb-true, eqb-true, eq-eqb}
use Rattle.std.proofs.lemmas.Bool.{both_ways}
use Rattle.j39_timing.specs.TimedFrames.{Schedule, Waits}
use Rattle.j39_timing.specs.FrameStreams.{Origins}
use Rattle.j39_timing.specs.Traffic.{Traffic, IsQueuedAt, IsStreamInTime}
use Rattle.j39_timing.specs.AnyOrder.{AreBegunWithin, Controllers, IsLegalInAnyOrder}
use Rattle.j39_timing.specs.Messages.{AreSentWithin}
use Rattle.j39_timing.specs.QueueGroups.{QueueGroup, QueueGroupWaits, QueueGroupDemandFits, IsTrafficOfQueueGroup, is_unplanned_queued, is_with_queue_group}
use Rattle.j39_timing.specs.QueueGroups.{may_go_with, unplanned_queued}
use Rattle.j39_timing.proofs.FullWindows.{some_wait, too_full, total-one}
use Rattle.j39_timing.proofs.Sums.{total-le}
use Rattle.j39_timing.proofs.WaitingWindow.{GoingWait, busy_with, is_other_going, others_going}

-- what isn't planned and goes before is queued
pub others_are_unplanned : (s : Schedule) (planned goes : ℕ → Bool) (from to : ℕ) → others_going s planned goes from to ≤ unplanned_queued s planned from to
others_are_unplanned s planned goes from to =
    total-le s.count (λ p. cond (is_other_going s planned goes from to p) 1 0) (λ p. cond (is_unplanned_queued s planned from to p) 1 0) (λ p in_p.
    elim (cases_Bool (is_other_going s planned goes from to p)) [
      | inr fails ↦ rw (fails) (omega arith)
      | inl is ↦
          let one = and_parts (not (planned p)) (goes p && (leb (s.queued p) to && ltb from (s.start p))) is in
          let two = and_parts (goes p) (leb (s.queued p) to && ltb from (s.start p)) one.1 in
          let there : is_unplanned_queued s planned from to p ≡ true = and_from (not (planned p)) (leb (s.queued p) to && ltb from (s.start p)) one.0 two.1 in
          rw (is, there) (omega arith)
    ])

module _ (s : Schedule) (controllers : Controllers) (traffic : Traffic) (unplanned longest : ℕ) (planned : ℕ → Bool) (of : Origins) (queue_group : QueueGroup)
    (legal : IsLegalInAnyOrder s controllers) (known : IsTrafficOfQueueGroup s controllers traffic unplanned longest planned of queue_group)
    (positive : (j : ℕ) → j < traffic.count → 0 < (traffic.stream j).period) (i wait : ℕ) (member : queue_group.has i ≡ true)
    (small : (traffic.stream i).bits ≤ longest) (demand_fits : QueueGroupDemandFits traffic queue_group unplanned longest i wait) where
  abbrev with_it : ℕ → Bool
  with_it p = is_with_queue_group s of queue_group p

  goes : (p : ℕ) → p < s.count → planned p ≡ true → with_it p ≡ true → may_go_with traffic queue_group (of.source p) ≡ true
  goes p in_p is with_queue_group = elim (or_cases (queue_group.has (of.source p)) (ltb (s.ident p) queue_group.level) with_queue_group) [
    | inl has ↦ or_left (queue_group.has (of.source p)) (ltb (traffic.least (of.source p)) queue_group.level) has
    | inr low ↦
        let below : s.ident p < queue_group.level = ltb-true (s.ident p) queue_group.level low in
        let least : traffic.least (of.source p) ≤ s.ident p = known.from_least p in_p is in
        or_right (queue_group.has (of.source p)) (ltb (traffic.least (of.source p)) queue_group.level)
        (lt-ltb (traffic.least (of.source p)) queue_group.level (omega arith))
  ]

  -- ---- one frame

  module _ (x : ℕ) (in_x : x < s.count) (is_planned : planned x ≡ true) (source : of.source x ≡ i) where
    x_has : queue_group.has (of.source x) ≡ true
    x_has = subst (λ j. queue_group.has j ≡ true) (sym source) member

    x_with : with_it x ≡ true
    x_with = or_left (queue_group.has (of.source x)) (ltb (s.ident x) queue_group.level) x_has

    x_bits : (traffic.stream (of.source x)).bits ≡ (traffic.stream i).bits
    x_bits = ap (λ j. (traffic.stream j).bits) source

    -- what goes before it: planned frames that go with the queue group, and whatever isn't planned
    abbrev first : ℕ → Bool
    first p = not (eqb p x) && (not (planned p) || with_it p)

    first_from : (q : ℕ) → q ≢ x → (not (planned q) || with_it q) ≡ true → first q ≡ true
    first_from q differ is =
        and_from (not (eqb q x)) (not (planned q) || with_it q) (elim (cases_Bool (eqb q x)) [
          | inl same ↦ absurd (differ (eqb-true q x same))
          | inr other ↦ ap not other
        ]) is

    -- such a frame, or the frame itself, goes with the queue group
    first_with : (p : ℕ) → planned p ≡ true → (first p ≡ true) ⊎ (p ≡ x) → with_it p ≡ true
    first_with p is one = elim one [
      | inl before_it ↦
          let test = (and_parts (not (eqb p x)) (not (planned p) || with_it p) before_it).1 in
          elim (or_cases (not (planned p)) (with_it p) test) [
            | inl isnt ↦ absurd (both_ways (not (planned p)) (ap not is) isnt)
            | inr with_queue_group ↦ with_queue_group
          ]
      | inr itself ↦ subst (λ n. with_it n ≡ true) (sym itself) x_with
    ]

    as_queue_group : (from to : ℕ) → GoingWait s planned first x from to → QueueGroupWaits s planned of queue_group from to
    as_queue_group from to stretch t after within =
        let (p, in_p, is, one, waits) = stretch t after within in
        (p, in_p, is, first_with p is one, waits)

    module _ (seen : s.queued x + wait < s.now) (late : s.queued x + wait < s.start x) where
      -- the frame itself has room in the wait
      some : 1 ≤ wait
      some =
          some_wait s traffic.count traffic.stream traffic.demands planned of known.of_streams known.as_wanted positive (may_go_with traffic queue_group) with_it goes wait
          longest unplanned (traffic.stream i).bits x in_x is_planned x_with x_bits small (legal.positive x in_x) (known.longest_at_most x in_x) demand_fits

      -- so no more of what isn't planned is queued than is foreseen
      few : (from : ℕ) → GoingWait s planned first x from (s.queued x + wait) → unplanned_queued s planned from (s.queued x + wait) ≤ unplanned
      few from stretch =
          let enough = some in
          known.few_unplanned x from (s.queued x + wait) in_x is_planned x_has seen (omega (arith, enough), omega (arith, late))
          (as_queue_group from (s.queued x + wait) stretch)

      -- what begins while a frame of the queue group may take part in arbitration goes with it
      by_member : (h q : ℕ) → h < s.count → q < s.count → planned h ≡ true → queue_group.has (of.source h) ≡ true → s.start q < s.now
          → IsQueuedAt s h (s.start q) → s.ident q ≤ s.ident h → (not (planned q) || with_it q) ≡ true
      by_member h q in_h in_q is has early ready order =
          let level : s.ident h ≤ queue_group.level = known.to_level h in_h is has in
          elim (cases_eq (s.ident h) (s.ident q)) [
            | inl same ↦
                let queued : s.queued q ≤ s.start q = legal.queued_first q in_q in
                let its = known.own_identifiers h q (s.start q) in_h in_q early is has ready (queued, omega arith) same in
                or_right (not (planned q)) (with_it q) (or_left (queue_group.has (of.source q)) (ltb (s.ident q) queue_group.level) its.1)
            | inr differs ↦
                or_right (not (planned q)) (with_it q)
                (or_right (queue_group.has (of.source q)) (ltb (s.ident q) queue_group.level) (lt-ltb (s.ident q) queue_group.level (omega arith)))
          ]

      -- so does what begins while one may be that isn't planned
      by_unplanned : (from h q : ℕ) → GoingWait s planned first x from (s.queued x + wait) → h < s.count → q < s.count → planned h ≡ false
          → IsQueuedAt s h (s.start q) → s.ident q ≤ s.ident h → from < s.start q → s.start q ≤ s.queued x + wait
          → (not (planned q) || with_it q) ≡ true
      by_unplanned from h q stretch in_h in_q isnt ready order after within =
          let it : is_unplanned_queued s planned from (s.queued x + wait) h ≡ true =
          and_from (not (planned h)) (leb (s.queued h) (s.queued x + wait) && ltb from (s.start h)) (ap not isnt)
          (and_from (leb (s.queued h) (s.queued x + wait)) (ltb from (s.start h))
          (le-leb (s.queued h) (s.queued x + wait) (omega (arith, ready.0, within))) (lt-ltb from (s.start h) (omega (arith, ready.1, after)))) in
          let one : 1 ≤ unplanned_queued s planned from (s.queued x + wait) =
          total-one s.count (λ p. cond (is_unplanned_queued s planned from (s.queued x + wait) p) 1 0) h 1 in_h (rw (it) (omega arith)) in
          let most = few from stretch in
          let above : s.ident h < queue_group.level = known.above_unplanned h in_h isnt (omega (arith, ready.0, within, seen))
          (omega (arith, one, most)) in
          let below : s.ident q < queue_group.level = omega (arith, order, above) in
          or_right (not (planned q)) (with_it q) (or_right (queue_group.has (of.source q)) (ltb (s.ident q) queue_group.level) (lt-ltb (s.ident q) queue_group.level below))

      closed : (from : ℕ) → GoingWait s planned first x from (s.queued x + wait) → (p q : ℕ) → p < s.count → q < s.count → planned p ≡ true
          → (first p ≡ true) ⊎ (p ≡ x) → Waits s p (s.start q) → from < s.start q → s.start q ≤ s.queued x + wait → first q ≡ true
      closed from stretch p q in_p in_q is one waits after within =
          let differ : q ≢ x = λ same. absurd (let at : s.start q ≡ s.start x = ap s.start same in omega (arith, at, within, late)) in
          let early : s.start q < s.now = omega arith in
          let with_queue_group : with_it p ≡ true = first_with p is one in
          let (h, may, order) = legal.in_order p q in_p in_q early waits in
          let (in_h, unit, ready, itself) = may in
          first_from q differ (elim (cases_Bool (controllers.keeps_order (controllers.unit p))) [
            | inl keeps ↦
                let same : s.ident h ≡ s.ident p = ap s.ident (itself keeps) in
                elim (or_cases (queue_group.has (of.source p)) (ltb (s.ident p) queue_group.level) with_queue_group) [
                  | inl has ↦ by_member p q in_p in_q is has early (let behind : s.queued p < s.start q = waits.0 in omega arith, waits.1) (omega (arith, order, same))
                  | inr low ↦
                      let below : s.ident p < queue_group.level = ltb-true (s.ident p) queue_group.level low in
                      or_right (not (planned q)) (with_it q) (or_right (queue_group.has (of.source q)) (ltb (s.ident q) queue_group.level)
                      (lt-ltb (s.ident q) queue_group.level (omega (arith, order, same, below))))
                ]
            | inr loses ↦ elim (cases_Bool (planned h)) [
              | inl of_plan ↦
                  let has : queue_group.has (of.source h) ≡ true = known.closed p h in_p in_h is of_plan unit loses with_queue_group in
                  by_member h q in_h in_q of_plan has early ready order
              | inr isnt ↦ by_unplanned from h q stretch in_h in_q isnt ready order after within
            ]
          ])

      itself : first x ≡ false
      itself = let same = eq-eqb x x refl in rw (same) refl

      fewer : (begin : ℕ) → GoingWait s planned first x begin (s.queued x + wait) → others_going s planned first begin (s.queued x + wait) ≤ unplanned
      fewer begin stretch =
          let most = few begin stretch in
          let all = others_are_unplanned s planned first begin (s.queued x + wait) in
          omega (arith, most, all)

      not_late : ⊥
      not_late =
          let (begin, is_busy) = busy_with s planned first longest wait legal.positive legal.queued_first legal.never_idle known.longest_at_most x in_x
          is_planned seen late closed in
          too_full s traffic.count traffic.stream traffic.demands planned of known.of_streams known.as_wanted positive (may_go_with traffic queue_group) with_it goes wait
          longest unplanned (traffic.stream i).bits x in_x is_planned x_with x_bits small (legal.positive x in_x) (known.longest_at_most x in_x) demand_fits
          first itself (λ p is one. first_with p is (inl one)) begin is_busy.before is_busy (fewer begin is_busy.waiting)

  pub begun_within : AreBegunWithin s planned of i wait
  begun_within p in_p is source seen = elim (cases_lt (s.queued p + wait) (s.start p)) [
    | inr in_time ↦ in_time
    | inl late ↦ absurd (not_late p in_p is source seen late)
  ]

  pub queue_group_in_time : IsStreamInTime s planned of i (traffic.stream i) wait
  queue_group_in_time p in_p is source seen =
      let late : s.queued p ≤ of.since p + (traffic.stream i).jitter =
      subst (λ j. s.queued p ≤ of.since p + (traffic.stream j).jitter) source (known.of_streams.keeps p in_p is).jitter_at_most in
      let begins : s.start p ≤ s.queued p + wait = begun_within p in_p is source (omega arith) in
      let most : s.bits p ≤ (traffic.stream i).bits = subst (λ j. s.bits p ≤ (traffic.stream j).bits) source (known.of_streams.keeps p in_p is).bits_at_most in
      (begins, omega arith)

  pub queue_group_sent : AreSentWithin s planned of i (traffic.stream i) wait
  queue_group_sent p in_p is source seen =
      let begins : s.start p ≤ s.queued p + wait = begun_within p in_p is source seen in
      let most : s.bits p ≤ (traffic.stream i).bits = subst (λ j. s.bits p ≤ (traffic.stream j).bits) source (known.of_streams.keeps p in_p is).bits_at_most in
      omega arith
