-- The schedule in which each frame is queued at the end of its buffering delay is legal; so frames of units that keep order are in
-- time where those of other units count from there.
use Rattle.std.proofs.Common.{◌≡◌, ℕ, zero, suc, ◌+◌, ◌<◌, ◌≤◌, ◌⊎◌, Bool, true, false, not, cond, ◌&&◌, eqb, ltb, leb, refl, sym, subst, ap, ◌∙◌, arith, inl, inr}
use Rattle.std.proofs.lemmas.Bool.{and_parts, and_from, cases_lt, cases_eq, cases_Bool, le-leb, lt-ltb, leb-true, ltb-true, eqb-true, eq-eqb, both_ways}
use Rattle.j39_timing.specs.Sums.{total}
use Rattle.j39_timing.specs.TimedFrames.{Schedule, IsLegal, Waits}
use Rattle.j39_timing.specs.FrameStreams.{Origins}
use Rattle.j39_timing.specs.Traffic.{Traffic, Others, IsPlannedTraffic, AreQueuedBehind, AreSteady, IsSingle, DemandFits, IsStreamInTime, OwnDemandFits}
use Rattle.j39_timing.specs.Traffic.{delay_of, may_go_before, may_go_beside, others_queued, is_other_queued}
use Rattle.j39_timing.specs.Messages.{AreSentWithin}
use Rattle.j39_timing.specs.Waits.{lesser_share}
use Rattle.j39_timing.specs.AnyOrder.{AreBegunWithin, Controllers, IsLegalInAnyOrder, IsFromOrdered, IsOrderedStream, HaveWaits, after_buffering, is_passed_by}
use Rattle.j39_timing.specs.AnyOrder.{later_by, buffered_until, buffered_traffic}
use Rattle.j39_timing.proofs.Demands.{wanted_later}
use Rattle.j39_timing.proofs.PlannedTraffic.{begun_in_time, behind_in_time, own_begun, stream_in_time}
use Rattle.j39_timing.proofs.Sums.{total-le}

-- ---- one frame

module _ (s : Schedule) (p : ℕ) where
  passed_parts : (q : ℕ) → is_passed_by s p q ≡ true
      → (s.ident p < s.ident q) × (s.queued p < s.start q) × (s.start q ≤ s.start p) × (s.start q < s.now)
  passed_parts q is =
      let one = and_parts (ltb (s.ident p) (s.ident q)) (ltb (s.queued p) (s.start q) && (leb (s.start q) (s.start p) && ltb (s.start q) s.now)) is in
      let two = and_parts (ltb (s.queued p) (s.start q)) (leb (s.start q) (s.start p) && ltb (s.start q) s.now) one.1 in
      let three = and_parts (leb (s.start q) (s.start p)) (ltb (s.start q) s.now) two.1 in (
        ltb-true (s.ident p) (s.ident q) one.0,
        ltb-true (s.queued p) (s.start q) two.0,
        leb-true (s.start q) (s.start p) three.0,
        ltb-true (s.start q) s.now three.1,
      )

  passed_from : (q : ℕ) → s.ident p < s.ident q → s.queued p < s.start q → s.start q ≤ s.start p → s.start q < s.now → is_passed_by s p q ≡ true
  passed_from q less ready ahead seen =
      and_from (ltb (s.ident p) (s.ident q)) (ltb (s.queued p) (s.start q) && (leb (s.start q) (s.start p) && ltb (s.start q) s.now))
      (lt-ltb (s.ident p) (s.ident q) less)
      (and_from (ltb (s.queued p) (s.start q)) (leb (s.start q) (s.start p) && ltb (s.start q) s.now) (lt-ltb (s.queued p) (s.start q) ready)
      (and_from (leb (s.start q) (s.start p)) (ltb (s.start q) s.now) (le-leb (s.start q) (s.start p) ahead) (lt-ltb (s.start q) s.now seen)))

  -- its buffering delay ends where it is ready, or where another frame passes it last
  buffered_is : (n : ℕ) → (buffered_until s p n ≡ s.queued p) ⊎ ((q : ℕ) × (q < n) × (is_passed_by s p q ≡ true) × (buffered_until s p n ≡ s.start q))
  unfolding buffered_until
  buffered_is zero = inl refl
  buffered_is (suc n) = elim (cases_Bool (is_passed_by s p n && ltb (buffered_until s p n) (s.start n))) [
    | inl is ↦
        let passed = (and_parts (is_passed_by s p n) (ltb (buffered_until s p n) (s.start n)) is).0 in
        inr (n, omega arith, passed, rw (is) refl)
    | inr isnt ↦ elim (buffered_is n) [
      | inl same ↦ inl (rw (isnt) same)
      | inr it ↦
          let (q, below, passed, at) = it in
          inr (q, omega arith, passed, rw (isnt) at)
    ]
  ]

  -- behind each frame that passes it
  behind_passed : (n q : ℕ) → q < n → is_passed_by s p q ≡ true → s.start q ≤ buffered_until s p n
  unfolding buffered_until
  behind_passed zero q below passed = absurd (omega arith)
  behind_passed (suc n) q below passed = elim (cases_Bool (is_passed_by s p n && ltb (buffered_until s p n) (s.start n))) [
    | inl is ↦
        let more : buffered_until s p n < s.start n = ltb-true (buffered_until s p n) (s.start n)
        (and_parts (is_passed_by s p n) (ltb (buffered_until s p n) (s.start n)) is).1 in
        elim (cases_eq q n) [
          | inl same ↦ let at : s.start q ≡ s.start n = ap s.start same in rw (is) (omega arith)
          | inr other ↦ let before : s.start q ≤ buffered_until s p n = behind_passed n q (omega arith) passed in rw (is) (omega arith)
        ]
    | inr isnt ↦ elim (cases_eq q n) [
      | inl same ↦
          let at : s.start q ≡ s.start n = ap s.start same in
          elim (cases_lt (buffered_until s p n) (s.start n)) [
            | inl more ↦ absurd (both_ways (is_passed_by s p n && ltb (buffered_until s p n) (s.start n)) isnt
                (and_from (is_passed_by s p n) (ltb (buffered_until s p n) (s.start n)) (subst (λ k. is_passed_by s p k ≡ true) same passed)
                (lt-ltb (buffered_until s p n) (s.start n) more)))
            | inr enough ↦ rw (isnt) (omega arith)
          ]
      | inr other ↦ rw (isnt) (behind_passed n q (omega arith) passed)
    ]
  ]

  buffered_after : (n : ℕ) → s.queued p ≤ buffered_until s p n
  buffered_after n = elim (buffered_is n) [
    | inl same ↦ omega arith
    | inr it ↦
        let (q, below, passed, at) = it in
        let ready : s.queued p < s.start q = (passed_parts q passed).1 in
        omega arith
  ]

  buffered_first : (n : ℕ) → s.queued p ≤ s.start p → buffered_until s p n ≤ s.start p
  buffered_first n first = elim (buffered_is n) [
    | inl same ↦ omega arith
    | inr it ↦
        let (q, below, passed, at) = it in
        let ahead : s.start q ≤ s.start p = (passed_parts q passed).2 in
        omega arith
  ]

  -- no later than it is sent at the latest
  buffered_within : (n wait : ℕ) → (s.queued p + wait < s.now → s.start p ≤ s.queued p + wait) → buffered_until s p n ≤ s.queued p + wait
  buffered_within n wait begins = elim (buffered_is n) [
    | inl same ↦ omega arith
    | inr it ↦
        let (q, below, passed, at) = it in
        let (_, _, ahead, early) = passed_parts q passed in
        elim (cases_lt (s.queued p + wait) s.now) [
          | inl seen ↦ let begun : s.start p ≤ s.queued p + wait = begins seen in omega (arith, ahead, at, begun)
          | inr unseen ↦ omega (arith, early, at, unseen)
        ]
  ]

  -- and no later than what is seen
  buffered_seen : (n : ℕ) → buffered_until s p n ≤ s.queued p + s.now
  buffered_seen n = elim (buffered_is n) [
    | inl same ↦ omega arith
    | inr it ↦
        let (q, below, passed, at) = it in
        let early : s.start q < s.now = (passed_parts q passed).3 in
        omega arith
  ]

-- ---- all frames

module _ (s : Schedule) (controllers : Controllers) (legal : IsLegalInAnyOrder s controllers) where
  as_waiting : (p t : ℕ) → Waits (after_buffering s) p t → Waits s p t
  as_waiting p t waits = let late : s.queued p ≤ buffered_until s p s.count = buffered_after s p s.count in (omega (arith, late, waits.0), waits.1)

  pub legal_after_buffering : IsLegal (after_buffering s)
  legal_after_buffering = record {
    positive = legal.positive;
    queued_first = λ p in_p. buffered_first s p s.count (legal.queued_first p in_p);
    alone = legal.alone;
    never_idle = λ p t in_p seen waits. legal.never_idle p t in_p seen (as_waiting p t waits);
    in_order = λ p q in_p in_q seen waits.
        elim (cases_lt (s.ident p) (s.ident q)) [
          | inr order ↦ order
          | inl passes ↦
              let ready = as_waiting p (s.start q) waits in
              let behind : s.start q ≤ buffered_until s p s.count = behind_passed s p s.count q in_q (passed_from s p q passes ready.0 ready.1 seen) in
              absurd (omega (arith, behind, waits.0))
        ];
  }

  -- a frame of a unit that keeps order takes part in arbitration whenever it is ready
  pub ordered_as_ready : (p : ℕ) → p < s.count → IsFromOrdered controllers p → buffered_until s p s.count ≡ s.queued p
  ordered_as_ready p in_p ordered = elim (buffered_is s p s.count) [
    | inl same ↦ same
    | inr it ↦
        let (q, in_q, passed, at) = it in
        let (less, ready, ahead, seen) = passed_parts s p q passed in
        let (h, may, order) = legal.in_order p q in_p in_q seen (ready, ahead) in
        let itself : h ≡ p = may.3 ordered in
        let ident : s.ident h ≡ s.ident p = ap s.ident itself in
        absurd (omega (arith, less, order, ident))
  ]

  -- ---- a stream of a unit that keeps order, beside others

  module _ (traffic : Traffic) (others : Others) (longest : ℕ) (planned : ℕ → Bool) (of : Origins) (i wait : ℕ)
      (known : IsPlannedTraffic s traffic others longest planned of i) (positive : (j : ℕ) → j < traffic.count → 0 < (traffic.stream j).period)
      (ordered : IsOrderedStream s controllers planned of i) (waits : ℕ → ℕ) (have : HaveWaits s controllers traffic planned of i waits) where
    module _ (own : ℕ) where
      -- how long frames of a stream may be buffered: nothing is known where they don't go before. Those of the stream itself never are, and may count
      -- as if they were
      abbrev more : ℕ → ℕ
      more j = cond (may_go_before traffic i j) (waits j) (cond (eqb j i) own s.now)

      own_more : more i ≡ own
      own_more =
          let same = eq-eqb i i refl in
          let isnt : may_go_before traffic i i ≡ false = rw (same) refl in
          rw (isnt, same) refl

      abbrev later : Traffic
      later = buffered_traffic traffic more

      buffered_by : (p : ℕ) → p < s.count → planned p ≡ true → buffered_until s p s.count ≤ s.queued p + more (of.source p)
      buffered_by p in_p is = elim (cases_Bool (controllers.keeps_order (controllers.unit p))) [
        | inl keeps ↦ let same : buffered_until s p s.count ≡ s.queued p = ordered_as_ready p in_p keeps in omega (arith, same)
        | inr loses ↦ elim (cases_Bool (may_go_before traffic i (of.source p))) [
          | inl goes ↦
              let within : buffered_until s p s.count ≤ s.queued p + waits (of.source p) =
              buffered_within s p s.count (waits (of.source p)) (have p in_p is goes loses) in
              rw (goes) (omega (arith, within))
          | inr stays ↦ elim (cases_Bool (eqb (of.source p) i)) [
            | inl its ↦ absurd (both_ways (controllers.keeps_order (controllers.unit p)) loses
                (ordered p in_p is (eqb-true (of.source p) i its)))
            | inr foreign ↦
                let seen : buffered_until s p s.count ≤ s.queued p + s.now = buffered_seen s p s.count in
                rw (stays, foreign) (omega (arith, seen))
          ]
        ]
      ]

      later_known : IsPlannedTraffic (after_buffering s) later others longest planned of i
      later_known = record {
        longest_at_most = known.longest_at_most;
        of_streams = record {
          keeps = λ p in_p is.
              let keeps = known.of_streams.keeps p in_p is in
              let late : s.queued p ≤ buffered_until s p s.count = buffered_after s p s.count in
              record {
                known = keeps.known;
                bits_at_most = keeps.bits_at_most;
                turns = keeps.turns;
                release_first = let first : of.since p ≤ s.queued p = keeps.release_first in omega (arith, first, late);
                jitter_at_most =
                    let last : s.queued p ≤ of.since p + (traffic.stream (of.source p)).jitter = keeps.jitter_at_most in
                    let by = buffered_by p in_p is in
                    omega (arith, last, by);
              };
          spaced = known.of_streams.spaced;
        };
        as_wanted = wanted_later s (after_buffering s) planned of traffic.demands traffic.stream more (λ p in_p is. buffered_after s p s.count) buffered_by refl
            known.as_wanted;
        from_least = known.from_least;
        to_greatest = known.to_greatest;
        own_identifier = λ p q t in_p in_q seen is shared at_p at_q same.
            let late_p : s.queued p ≤ buffered_until s p s.count = buffered_after s p s.count in
            let late_q : s.queued q ≤ buffered_until s q s.count = buffered_after s q s.count in
            known.own_identifier p q t in_p in_q seen is shared (omega (arith, late_p, at_p.0), at_p.1) (omega (arith, late_q, at_q.0), at_q.1) same;
        urgency_of_others = known.urgency_of_others;
        few_others = λ p from to in_p is source seen waiting stretch.
            let most : others_queued s planned (s.ident p) from to ≤ others.count =
            known.few_others p from to in_p is source seen (as_waiting p to waiting)
            (λ t after within. let (h, in_h, of_plan, at_most, ready) = stretch t after within in (h, in_h, of_plan, at_most, as_waiting h t ready)) in
            let fewer : others_queued (after_buffering s) planned (s.ident p) from to ≤ others_queued s planned (s.ident p) from to =
            total-le s.count (λ q. cond (is_other_queued (after_buffering s) planned (s.ident p) from to q) 1 0)
            (λ q. cond (is_other_queued s planned (s.ident p) from to q) 1 0) (λ q in_q.
            elim (cases_Bool (is_other_queued (after_buffering s) planned (s.ident p) from to q)) [
              | inr fails ↦ rw (fails) (omega arith)
              | inl it ↦
                  let one = and_parts (not (planned q)) (ltb (s.ident q) (s.ident p) && (leb (buffered_until s q s.count) to && ltb from (s.start q))) it in
                  let two = and_parts (ltb (s.ident q) (s.ident p)) (leb (buffered_until s q s.count) to && ltb from (s.start q)) one.1 in
                  let three = and_parts (leb (buffered_until s q s.count) to) (ltb from (s.start q)) two.1 in
                  let until : buffered_until s q s.count ≤ to = leb-true (buffered_until s q s.count) to three.0 in
                  let late : s.queued q ≤ buffered_until s q s.count = buffered_after s q s.count in
                  let there : is_other_queued s planned (s.ident p) from to q ≡ true =
                  and_from (not (planned q)) (ltb (s.ident q) (s.ident p) && (leb (s.queued q) to && ltb from (s.start q))) one.0
                  (and_from (ltb (s.ident q) (s.ident p)) (leb (s.queued q) to && ltb from (s.start q)) two.0
                  (and_from (leb (s.queued q) to) (ltb from (s.start q)) (le-leb (s.queued q) to (omega (arith, until, late))) three.1)) in
                  rw (it, there) (omega arith)
            ]) in
            omega (arith, most, fewer);
      }

    -- what goes before as much later as it may be buffered
    its_more : (own j : ℕ) → may_go_before traffic i j ≡ true → more own j ≡ waits j
    its_more own j goes = rw (goes) refl

    -- ---- a stream of single frames whose releases are a period apart

    module _ (demand_fits : DemandFits (buffered_traffic traffic waits) others longest i wait) where
      later_fits : DemandFits (later 0) others longest i wait
      later_fits =
          let same : total traffic.count (λ j. cond (may_go_before traffic i j) (lesser_share traffic.demands (wait + 1) (later_by (more 0 j) (traffic.stream j))) 0)
          ≤ total traffic.count (λ j. cond (may_go_before traffic i j) (lesser_share traffic.demands (wait + 1) (later_by (waits j) (traffic.stream j))) 0) =
          total-le traffic.count (λ j. cond (may_go_before traffic i j) (lesser_share traffic.demands (wait + 1) (later_by (more 0 j) (traffic.stream j))) 0)
          (λ j. cond (may_go_before traffic i j) (lesser_share traffic.demands (wait + 1) (later_by (waits j) (traffic.stream j))) 0) (λ j below.
          elim (cases_Bool (may_go_before traffic i j)) [
            | inl goes ↦ rw (goes) (omega arith)
            | inr stays ↦ rw (stays) (omega arith)
          ]) in
          omega (arith, demand_fits, same)

      pub ordered_begun : IsSingle (traffic.stream i) → delay_of (traffic.stream i) wait ≤ (traffic.stream i).period → AreBegunWithin s planned of i wait
      ordered_begun single fits p in_p is same seen =
          let own = own_more 0 in
          let ready : buffered_until s p s.count ≡ s.queued p = ordered_as_ready p in_p (ordered p in_p is same) in
          let begins = begun_in_time (after_buffering s) (later 0) others longest planned of legal_after_buffering i wait (later_known 0) positive later_fits single
          (omega (arith, own, fits)) p in_p is same (omega (arith, ready, seen)) in
          omega (arith, begins, ready)

      pub ordered_in_time : IsSingle (traffic.stream i) → delay_of (traffic.stream i) wait ≤ (traffic.stream i).period
          → IsStreamInTime s planned of i (traffic.stream i) wait
      ordered_in_time single fits p in_p is same seen =
          let own = own_more 0 in
          let ready : buffered_until s p s.count ≡ s.queued p = ordered_as_ready p in_p (ordered p in_p is same) in
          let (begins, sent) = stream_in_time (after_buffering s) (later 0) others longest planned of legal_after_buffering i wait (later_known 0) positive later_fits single
          (omega (arith, own, fits)) p in_p is same (omega (arith, own, seen)) in
          (omega (arith, begins, ready), omega (arith, sent, own))

      pub ordered_behind : ((j : ℕ) → traffic.are_twins i j ≡ false) → AreQueuedBehind s planned of i → AreSteady s planned of i → AreSentWithin s planned of i (traffic.stream i) wait
      ordered_behind alone behind steady p in_p is source seen =
          let ready : (q : ℕ) → q < s.count → planned q ≡ true → of.source q ≡ i → buffered_until s q s.count ≡ s.queued q =
          λ q in_q of_plan same. ordered_as_ready q in_q (ordered q in_q of_plan same) in
          let apart : AreQueuedBehind (after_buffering s) planned of i = λ q r in_q in_r differ is_q is_r of_q of_r.
          let at_q = ready q in_q is_q of_q in
          let at_r = ready r in_r is_r of_r in
          elim (behind q r in_q in_r differ is_q is_r of_q of_r) [
            | inl one ↦ inl (omega (arith, one, at_r))
            | inr two ↦ inr (omega (arith, two, at_q))
          ] in
          let still : AreSteady (after_buffering s) planned of i = λ q r in_q in_r is_q is_r of_q of_r order stretch.
          let at_q = ready q in_q is_q of_q in
          let at_r = ready r in_r is_r of_r in
          steady q r in_q in_r is_q is_r of_q of_r (omega (arith, order, at_q, at_r)) (λ t after within.
          let (h, in_h, of_plan, at_most, waits) = stretch t (omega (arith, after, at_q)) (omega (arith, within, at_r)) in
          (h, in_h, of_plan, at_most, as_waiting h t waits)) in
          let own = ready p in_p is source in
          let sent : s.start p + s.bits p ≤ buffered_until s p s.count + (wait + (traffic.stream i).bits) =
          behind_in_time (after_buffering s) (later 0) others longest planned of legal_after_buffering i wait (later_known 0) positive later_fits alone apart still
          p in_p is source (omega (arith, seen, own)) in
          omega (arith, sent, own)

    -- ---- one of which two frames may be queued at once

    module _ (small : (traffic.stream i).bits ≤ longest) (own_fits : OwnDemandFits (buffered_traffic traffic waits) others longest i wait) where
      own_later_fits : OwnDemandFits (later (waits i)) others longest i wait
      own_later_fits =
          let same : total traffic.count (λ j. cond (may_go_beside traffic i j) (lesser_share traffic.demands (wait + 1) (later_by (more (waits i) j) (traffic.stream j))) 0)
          ≤ total traffic.count (λ j. cond (may_go_beside traffic i j) (lesser_share traffic.demands (wait + 1) (later_by (waits j) (traffic.stream j))) 0) =
          total-le traffic.count (λ j. cond (may_go_beside traffic i j) (lesser_share traffic.demands (wait + 1) (later_by (more (waits i) j) (traffic.stream j))) 0)
          (λ j. cond (may_go_beside traffic i j) (lesser_share traffic.demands (wait + 1) (later_by (waits j) (traffic.stream j))) 0) (λ j below.
          elim (cases_Bool (eqb j i)) [
            | inl its ↦
                let at : j ≡ i = eqb-true j i its in
                let late : more (waits i) j ≡ waits j = ap (more (waits i)) at ∙ (own_more (waits i) ∙ sym (ap waits at)) in
                rw (late) (omega arith)
            | inr foreign ↦ elim (cases_Bool (may_go_before traffic i j)) [
              | inl goes ↦ let late = its_more (waits i) j goes in rw (late) (omega arith)
              | inr stays ↦ rw (stays, foreign) (omega arith)
            ]
          ]) in
          omega (arith, own_fits, same)

      pub own_ordered_begun : AreBegunWithin s planned of i wait
      own_ordered_begun p in_p is same seen =
          let ready : buffered_until s p s.count ≡ s.queued p = ordered_as_ready p in_p (ordered p in_p is same) in
          let begins = own_begun (after_buffering s) (later (waits i)) others longest planned of legal_after_buffering i wait (later_known (waits i)) positive small
          own_later_fits p in_p is same (omega (arith, ready, seen)) in
          omega (arith, begins, ready)

      pub own_ordered_in_time : IsStreamInTime s planned of i (traffic.stream i) wait
      own_ordered_in_time p in_p is same seen =
          let keeps = known.of_streams.keeps p in_p is in
          let late : s.queued p ≤ of.since p + (traffic.stream i).jitter = subst (λ j. s.queued p ≤ of.since p + (traffic.stream j).jitter) same keeps.jitter_at_most in
          let begins = own_ordered_begun p in_p is same (omega (arith, late, seen)) in
          let most : s.bits p ≤ (traffic.stream i).bits = subst (λ j. s.bits p ≤ (traffic.stream j).bits) same keeps.bits_at_most in
          (begins, omega (arith, begins, most, late))
