-- Frames of a stream of single frames, among planned frames of other streams and some of none, are in time where the wait has room.
use Rattle.std.proofs.Common.{◌≡◌, ◌≢◌, ℕ, ◌+◌, ◌*◌, ◌<◌, ◌≤◌, ◌⊎◌, Bool, true, false, not, cond, ◌&&◌, ◌||◌, eqb, ltb, leb, refl, sym, subst, ap, ◌∙◌, arith}
use Rattle.std.proofs.Common.{inl, inr}
use Rattle.std.proofs.Math.Nat.{mul-le-mul_left}
use Rattle.std.specs.Int.{div_ceil}
use Rattle.std.proofs.lemmas.Bool.{and_parts, and_from, cases_lt, cases_Bool, or_cases, or_left, or_right, le-leb, lt-ltb, leb-true, ltb-true, eqb-true, eq-eqb}
use Rattle.std.proofs.lemmas.Bool.{both_ways}
use Rattle.std.proofs.lemmas.Grind.{div_ceil_times}
use Rattle.j39_timing.specs.Sums.{total}
use Rattle.j39_timing.specs.TimedFrames.{Schedule, IsLegal, Waits}
use Rattle.j39_timing.specs.declared.stream.Stream.{Stream}
use Rattle.j39_timing.specs.FrameStreams.{Origins, AreOfStreams}
use Rattle.j39_timing.specs.Traffic.{Traffic, Others, AreAsWanted, IsPlannedTraffic, IsSingle, DemandFits, IsStreamInTime, OwnDemandFits, PlannedFramesWait}
use Rattle.j39_timing.specs.Traffic.{AreQueuedBehind, AreSteady, delay_of}
use Rattle.j39_timing.specs.Traffic.{may_go_before, may_go_beside, may_share, others_before, others_queued, is_other_queued}
use Rattle.j39_timing.specs.AnyOrder.{AreBegunWithin}
use Rattle.j39_timing.specs.Messages.{AreSentWithin}
use Rattle.j39_timing.specs.Waits.{IsSpaced, lesser_share, share}
use Rattle.j39_timing.proofs.FullWindows.{shares_of, some_wait, too_full, window_most}
use Rattle.j39_timing.proofs.StreamSums.{at_most_one}
use Rattle.j39_timing.proofs.Sums.{total-le, total-none, total-two}
use Rattle.j39_timing.proofs.Demands.{spaced-most}
use Rattle.j39_timing.proofs.WaitingWindow.{GoingWait, IsBusyFrom, busy_from, busy_with, is_other_going, is_planned_within, is_within, others_going}
use Rattle.j39_timing.proofs.WaitingWindow.{planned_demand}

-- what counts of a stream, where it is the frame's own, or may go before
counted : (own goes : Bool) (itself other longest : ℕ) → (own ≡ true → itself ≤ longest) → (own ≡ false → itself ≤ other)
    → cond (own || goes) itself 0 ≤ cond goes other 0 + cond own longest 0
counted true goes itself other longest small less = let le = small refl in omega (arith, le)
counted false true itself other longest small less = let le = less refl in omega (arith, le)
counted false false itself other longest small less = omega arith

module _ (s : Schedule) (traffic : Traffic) (others : Others) (longest : ℕ) (planned : ℕ → Bool) (of : Origins) (legal : IsLegal s)
    (i wait : ℕ) (known : IsPlannedTraffic s traffic others longest planned of i)
    (positive : (j : ℕ) → j < traffic.count → 0 < (traffic.stream j).period) where
  abbrev own : ℕ → Bool
  own p = planned p && eqb (of.source p) i

  own_from : (p : ℕ) → planned p ≡ true → of.source p ≡ i → own p ≡ true
  own_from p is same = and_from (planned p) (eqb (of.source p) i) is (eq-eqb (of.source p) i same)

  own_parts : (p : ℕ) → own p ≡ true → (planned p ≡ true) × (of.source p ≡ i)
  own_parts p is = let two = and_parts (planned p) (eqb (of.source p) i) is in (two.0, eqb-true (of.source p) i two.1)

  abbrev count : ℕ
  count = others_before others (traffic.greatest i)

  -- what the streams that may go before can queue in a wait and the bit behind
  abbrev shares : ℕ
  shares = shares_of traffic.count traffic.stream traffic.demands (may_go_before traffic i) wait

  -- a frame of another stream with a smaller identifier than one of this stream is of one that may go before
  goes_before : (c p : ℕ) → c ≤ traffic.greatest i → p < s.count → planned p ≡ true → eqb (of.source p) i ≡ false → s.ident p < c
      → may_go_before traffic i (of.source p) ≡ true
  goes_before c p low in_p is other less =
      let least : traffic.least (of.source p) ≤ s.ident p = known.from_least p in_p is in
      and_from (not (eqb (of.source p) i)) (ltb (traffic.least (of.source p)) (traffic.greatest i) || traffic.are_twins i (of.source p)) (ap not other)
      (or_left (ltb (traffic.least (of.source p)) (traffic.greatest i)) (traffic.are_twins i (of.source p))
      (lt-ltb (traffic.least (of.source p)) (traffic.greatest i) (omega (arith, least, less, low))))

  -- ---- what isn't planned

  few : (x begin : ℕ) → x < s.count → own x ≡ true → s.queued x + wait < s.now → 1 ≤ wait → s.queued x + wait < s.start x
      → PlannedFramesWait s planned (s.ident x) begin (s.queued x + wait)
      → others_queued s planned (s.ident x) begin (s.queued x + wait) ≤ others_before others (traffic.greatest i)
  few x begin in_x is_x seen some late stretch = elim (cases_Bool (leb others.least (traffic.greatest i))) [
    | inl may ↦
        let most = known.few_others x begin (s.queued x + wait) in_x (own_parts x is_x).0 (own_parts x is_x).1 seen (omega arith, omega arith) stretch in
        rw (may) most
    | inr cannot ↦
        let high : traffic.greatest i < others.least = elim (cases_lt (traffic.greatest i) others.least) [
          | inl above ↦ above
          | inr below ↦ absurd (both_ways (leb others.least (traffic.greatest i)) cannot (le-leb others.least (traffic.greatest i) below))
        ] in
        let greatest : s.ident x ≤ traffic.greatest i = known.to_greatest x in_x (own_parts x is_x).0 (own_parts x is_x).1 in
        let none : others_queued s planned (s.ident x) begin (s.queued x + wait) ≡ 0 =
        total-none s.count (λ p. cond (is_other_queued s planned (s.ident x) begin (s.queued x + wait) p) 1 0) (λ p in_p.
        elim (cases_Bool (is_other_queued s planned (s.ident x) begin (s.queued x + wait) p)) [
          | inr fails ↦ rw (fails) refl
          | inl is ↦
              let one = and_parts (not (planned p)) (ltb (s.ident p) (s.ident x) && (leb (s.queued p) (s.queued x + wait) && ltb begin (s.start p))) is in
              let two = and_parts (ltb (s.ident p) (s.ident x)) (leb (s.queued p) (s.queued x + wait) && ltb begin (s.start p)) one.1 in
              let less : s.ident p < s.ident x = ltb-true (s.ident p) (s.ident x) two.0 in
              let unplanned : planned p ≡ false = elim (cases_Bool (planned p)) [
                | inl of_plan ↦ absurd (both_ways (not (planned p)) (ap not of_plan) one.0)
                | inr isnt ↦ isnt
              ] in
              let from : others.least ≤ s.ident p = known.urgency_of_others p in_p unplanned in
              absurd (omega arith)
        ]) in
        rw (none) (omega arith)
  ]

  -- ---- one frame of the stream, where the wait has room for what may go before it and for what the stream itself can queue, but for the frame: its frames
  -- keep to these streams too, and count as having so many bits

  module _ (streams : ℕ → Stream) (of_streams : AreOfStreams s (λ p. planned p ≡ true) traffic.count streams of)
      (as_wanted : AreAsWanted s planned of traffic.demands streams) (paced : (j : ℕ) → j < traffic.count → 0 < (streams j).period)
      (room : ℕ) (its_room : (streams i).bits ≡ room) (small : room ≤ longest)
      (it_fits : longest * (1 + count) + shares_of traffic.count streams traffic.demands (may_go_beside traffic i) wait ≤ wait + room) where
    module _ (x : ℕ) (in_x : x < s.count) (is_planned : planned x ≡ true) (source : of.source x ≡ i) where
      abbrev c : ℕ
      c = s.ident x

      low : c ≤ traffic.greatest i
      low = known.to_greatest x in_x is_planned source

      shortest : 1 ≤ s.bits x
      shortest = legal.positive x in_x

      short : s.bits x ≤ longest
      short = known.longest_at_most x in_x

      -- what goes with it: frames of smaller identifiers, and of its own one those of its stream and of twins
      abbrev with_it : ℕ → Bool
      with_it p = ltb (s.ident p) c || (eqb (s.ident p) c && may_share traffic i (of.source p))

      goes : (p : ℕ) → p < s.count → planned p ≡ true → with_it p ≡ true → may_go_beside traffic i (of.source p) ≡ true
      goes p in_p is with_x = elim (cases_Bool (eqb (of.source p) i)) [
        | inl same ↦ or_left (eqb (of.source p) i) (may_go_before traffic i (of.source p)) same
        | inr other ↦ or_right (eqb (of.source p) i) (may_go_before traffic i (of.source p))
            (elim (or_cases (ltb (s.ident p) c) (eqb (s.ident p) c && may_share traffic i (of.source p)) with_x) [
              | inl less ↦ goes_before c p low in_p is other (ltb-true (s.ident p) c less)
              | inr alike ↦
                  let shared = (and_parts (eqb (s.ident p) c) (may_share traffic i (of.source p)) alike).1 in
                  elim (or_cases (eqb (of.source p) i) (traffic.are_twins i (of.source p)) shared) [
                    | inl same ↦ absurd (both_ways (eqb (of.source p) i) other same)
                    | inr twin ↦
                        and_from (not (eqb (of.source p) i)) (ltb (traffic.least (of.source p)) (traffic.greatest i) || traffic.are_twins i (of.source p))
                        (ap not other) (or_right (ltb (traffic.least (of.source p)) (traffic.greatest i)) (traffic.are_twins i (of.source p)) twin)
                  ]
            ])
      ]

      its_own : may_share traffic i (of.source x) ≡ true
      its_own = or_left (eqb (of.source x) i) (traffic.are_twins i (of.source x)) (eq-eqb (of.source x) i source)

      x_with : with_it x ≡ true
      x_with = or_right (ltb c c) (eqb c c && may_share traffic i (of.source x))
          (and_from (eqb c c) (may_share traffic i (of.source x)) (eq-eqb c c refl) its_own)

      x_bits : (streams (of.source x)).bits ≡ room
      x_bits = subst (λ j. (streams j).bits ≡ room) (sym source) its_room

      some : 1 ≤ wait
      some =
          some_wait s traffic.count streams traffic.demands planned of of_streams as_wanted paced (may_go_beside traffic i) with_it goes wait longest count room x
          in_x is_planned x_with x_bits small shortest short it_fits

      -- what goes before it: of its own identifier only planned frames do
      abbrev first : ℕ → Bool
      first p = not (eqb p x) && (ltb (s.ident p) c || (planned p && (eqb (s.ident p) c && may_share traffic i (of.source p))))

      itself : first x ≡ false
      itself = let same = eq-eqb x x refl in rw (same) refl

      first_from : (p : ℕ) → p ≢ x → (ltb (s.ident p) c || (planned p && (eqb (s.ident p) c && may_share traffic i (of.source p)))) ≡ true → first p ≡ true
      first_from p differ is =
          and_from (not (eqb p x)) (ltb (s.ident p) c || (planned p && (eqb (s.ident p) c && may_share traffic i (of.source p))))
          (elim (cases_Bool (eqb p x)) [
            | inl same ↦ absurd (differ (eqb-true p x same))
            | inr other ↦ ap not other
          ]) is

      -- such a frame has a smaller identifier, or it is planned, and has the same one
      first_parts : (p : ℕ) → first p ≡ true
          → (s.ident p < c) ⊎ ((planned p ≡ true) × (s.ident p ≡ c) × (may_share traffic i (of.source p) ≡ true))
      first_parts p is =
          let test = (and_parts (not (eqb p x)) (ltb (s.ident p) c || (planned p && (eqb (s.ident p) c && may_share traffic i (of.source p)))) is).1 in
          elim (or_cases (ltb (s.ident p) c) (planned p && (eqb (s.ident p) c && may_share traffic i (of.source p))) test) [
            | inl less ↦ inl (ltb-true (s.ident p) c less)
            | inr alike ↦
                let one = and_parts (planned p) (eqb (s.ident p) c && may_share traffic i (of.source p)) alike in
                let two = and_parts (eqb (s.ident p) c) (may_share traffic i (of.source p)) one.1 in
                inr (one.0, eqb-true (s.ident p) c two.0, two.1)
          ]

      first_with : (p : ℕ) → planned p ≡ true → first p ≡ true → with_it p ≡ true
      first_with p is one = elim (first_parts p one) [
        | inl less ↦ or_left (ltb (s.ident p) c) (eqb (s.ident p) c && may_share traffic i (of.source p)) (lt-ltb (s.ident p) c less)
        | inr alike ↦
            or_right (ltb (s.ident p) c) (eqb (s.ident p) c && may_share traffic i (of.source p))
            (and_from (eqb (s.ident p) c) (may_share traffic i (of.source p)) (eq-eqb (s.ident p) c alike.1) alike.2)
      ]

      -- none has a larger one
      at_most : (p : ℕ) → (first p ≡ true) ⊎ (p ≡ x) → s.ident p ≤ c
      at_most p one = elim one [
        | inl before ↦ elim (first_parts p before) [
          | inl less ↦ omega (arith, less)
          | inr alike ↦ let same = alike.1 in omega (arith, same)
        ]
        | inr is_x ↦ let same : s.ident p ≡ c = ap s.ident is_x in omega (arith, same)
      ]

      as_planned : (from to : ℕ) → GoingWait s planned first x from to → PlannedFramesWait s planned c from to
      as_planned from to stretch t after within =
          let (p, in_p, is, one, waits) = stretch t after within in
          (p, in_p, is, at_most p one, waits)

      module _ (seen : s.queued x + wait < s.now) (late : s.queued x + wait < s.start x) where
        -- what begins while one waits that goes before, or the frame itself, goes before
        closed : (from : ℕ) → GoingWait s planned first x from (s.queued x + wait) → (p q : ℕ) → p < s.count → q < s.count → planned p ≡ true
            → (first p ≡ true) ⊎ (p ≡ x) → Waits s p (s.start q) → from < s.start q → s.start q ≤ s.queued x + wait → first q ≡ true
        closed from stretch p q in_p in_q is one waits after within =
            let differ : q ≢ x = λ same. absurd (let at : s.start q ≡ s.start x = ap s.start same in omega (arith, at, within, late)) in
            let order : s.ident q ≤ s.ident p = legal.in_order p q in_p in_q (omega arith) waits in
            let most = at_most p one in
            elim (cases_lt (s.ident q) c) [
              | inl less ↦
                  first_from q differ (or_left (ltb (s.ident q) c) (planned q && (eqb (s.ident q) c && may_share traffic i (of.source q)))
                  (lt-ltb (s.ident q) c less))
              | inr equal ↦
                  let same : s.ident p ≡ s.ident q = omega (arith, order, most, equal) in
                  let shared : may_share traffic i (of.source p) ≡ true = elim one [
                    | inl before ↦ elim (first_parts p before) [
                      | inl less ↦ absurd (omega (arith, less, order, equal))
                      | inr alike ↦ alike.2
                    ]
                    | inr is_x ↦ subst (λ n. may_share traffic i (of.source n) ≡ true) (sym is_x) its_own
                  ] in
                  let ready : s.queued q ≤ s.start q = legal.queued_first q in_q in
                  let before : s.queued p < s.start q = waits.0 in
                  let its = known.own_identifier p q (s.start q) in_p in_q (omega arith) is shared (omega (arith, before), waits.1) (ready, omega arith) same in
                  first_from q differ (or_right (ltb (s.ident q) c) (planned q && (eqb (s.ident q) c && may_share traffic i (of.source q)))
                  (and_from (planned q) (eqb (s.ident q) c && may_share traffic i (of.source q)) its.0
                  (and_from (eqb (s.ident q) c) (may_share traffic i (of.source q)) (eq-eqb (s.ident q) c (omega (arith, same, order, most, equal))) its.1)))
            ]

        fewer : (begin : ℕ) → GoingWait s planned first x begin (s.queued x + wait) → others_going s planned first begin (s.queued x + wait) ≤ count
        fewer begin stretch =
            let most = few x begin in_x (own_from x is_planned source) seen some late (as_planned begin (s.queued x + wait) stretch) in
            let all : others_going s planned first begin (s.queued x + wait) ≤ others_queued s planned c begin (s.queued x + wait) =
            total-le s.count (λ p. cond (is_other_going s planned first begin (s.queued x + wait) p) 1 0)
            (λ p. cond (is_other_queued s planned c begin (s.queued x + wait) p) 1 0) (λ p in_p.
            elim (cases_Bool (is_other_going s planned first begin (s.queued x + wait) p)) [
              | inr fails ↦ rw (fails) (omega arith)
              | inl is ↦
                  let one = and_parts (not (planned p)) (first p && (leb (s.queued p) (s.queued x + wait) && ltb begin (s.start p))) is in
                  let two = and_parts (first p) (leb (s.queued p) (s.queued x + wait) && ltb begin (s.start p)) one.1 in
                  let less : s.ident p < c = elim (first_parts p two.0) [
                    | inl less ↦ less
                    | inr alike ↦ absurd (both_ways (not (planned p)) (ap not alike.0) one.0)
                  ] in
                  let there : is_other_queued s planned c begin (s.queued x + wait) p ≡ true =
                  and_from (not (planned p)) (ltb (s.ident p) c && (leb (s.queued p) (s.queued x + wait) && ltb begin (s.start p))) one.0
                  (and_from (ltb (s.ident p) c) (leb (s.queued p) (s.queued x + wait) && ltb begin (s.start p)) (lt-ltb (s.ident p) c less) two.1) in
                  rw (is, there) (omega arith)
            ]) in
            omega (arith, most, all)

        not_late : ⊥
        not_late =
            let (begin, is_busy) = busy_with s planned first longest wait legal.positive legal.queued_first legal.never_idle known.longest_at_most x in_x
            is_planned seen late closed in
            too_full s traffic.count streams traffic.demands planned of of_streams as_wanted paced (may_go_beside traffic i) with_it goes wait longest count room x
            in_x is_planned x_with x_bits small shortest short it_fits first itself first_with begin is_busy.before is_busy (fewer begin is_busy.waiting)

    begun_beside : AreBegunWithin s planned of i wait
    begun_beside p in_p is same seen = elim (cases_lt (s.queued p + wait) (s.start p)) [
      | inr in_time ↦ in_time
      | inl later ↦ absurd (not_late p in_p is same seen later)
    ]

  in_time_from : AreBegunWithin s planned of i wait → IsStreamInTime s planned of i (traffic.stream i) wait
  in_time_from begun p in_p is same seen =
      let late : s.queued p ≤ of.since p + (traffic.stream i).jitter =
      subst (λ j. s.queued p ≤ of.since p + (traffic.stream j).jitter) same (known.of_streams.keeps p in_p is).jitter_at_most in
      let begins = begun p in_p is same (omega (arith, late, seen)) in
      let most : s.bits p ≤ (traffic.stream i).bits = subst (λ j. s.bits p ≤ (traffic.stream j).bits) same (known.of_streams.keeps p in_p is).bits_at_most in
      (begins, omega (arith, begins, most, late))

  -- ---- frames of which two may be queued at once

  module _ (small : (traffic.stream i).bits ≤ longest) (own_fits : OwnDemandFits traffic others longest i wait) where
    pub own_begun : AreBegunWithin s planned of i wait
    own_begun = begun_beside traffic.stream known.of_streams known.as_wanted positive (traffic.stream i).bits refl small own_fits

    pub own_in_time : IsStreamInTime s planned of i (traffic.stream i) wait
    own_in_time = in_time_from own_begun

  -- ---- single frames whose releases are a period apart

  module _ (demand_fits : DemandFits traffic others longest i wait) (single : IsSingle (traffic.stream i))
      (fits : delay_of (traffic.stream i) wait ≤ (traffic.stream i).period) where
    -- the streams, where a frame of this one is as long as any
    abbrev streams : ℕ → Stream
    streams j = record {
      frames = (traffic.stream j).frames;
      period = (traffic.stream j).period;
      bits = cond (eqb j i) longest (traffic.stream j).bits;
      jitter = (traffic.stream j).jitter;
      wanted = (traffic.stream j).wanted;
    }

    of_streams : AreOfStreams s (λ p. planned p ≡ true) traffic.count streams of
    of_streams = record {
      keeps = λ p in_p is.
          let keeps = known.of_streams.keeps p in_p is in
          record {
            known = keeps.known;
            bits_at_most = elim (eqb (of.source p) i) as (λ e. s.bits p ≤ cond e longest (traffic.stream (of.source p)).bits) [
              | true ↦ known.longest_at_most p in_p
              | false ↦ keeps.bits_at_most
            ];
            turns = keeps.turns;
            release_first = keeps.release_first;
            jitter_at_most = keeps.jitter_at_most;
          };
      spaced = known.of_streams.spaced;
    }

    as_wanted : AreAsWanted s planned of traffic.demands streams
    as_wanted = record { by_sender = known.as_wanted.by_sender; by_askers = known.as_wanted.by_askers }

    -- of the stream no other frame is queued in a wait and the bit behind
    module _ (some_bits : 1 ≤ (traffic.stream i).bits) where
      one_message : div_ceil (wait + 1 + (traffic.stream i).jitter) (traffic.stream i).period ≤ 1
      one_message =
          let few_slots = (div_ceil_times (wait + 1 + (traffic.stream i).jitter) (traffic.stream i).period (omega (arith, some_bits, fits))).1 in
          elim (cases_lt 1 (div_ceil (wait + 1 + (traffic.stream i).jitter) (traffic.stream i).period)) [
            | inr one ↦ one
            | inl two ↦
                let more : (traffic.stream i).period * 2 ≤ (traffic.stream i).period * div_ceil (wait + 1 + (traffic.stream i).jitter) (traffic.stream i).period =
                mul-le-mul_left (traffic.stream i).period two in
                absurd (omega (arith, more, few_slots, some_bits, fits))
          ]

      shares_most : shares_of traffic.count streams traffic.demands (may_go_beside traffic i) wait ≤ shares + longest
      shares_most =
          let one = one_message in
          let itself : total traffic.count (λ j. cond (eqb j i) longest 0) ≤ longest =
          at_most_one traffic.count (λ j. eqb j i) (λ j. longest) longest (λ j below is. omega arith)
          (λ j k below_j below_k is_j is_k. let same_j = eqb-true j i is_j in let same_k = eqb-true k i is_k in omega (arith, same_j, same_k)) in
          let two : shares_of traffic.count streams traffic.demands (may_go_beside traffic i) wait ≤ shares + total traffic.count (λ j. cond (eqb j i) longest 0) =
          total-two traffic.count (λ j. cond (may_go_beside traffic i j) (lesser_share traffic.demands (wait + 1) (streams j)) 0)
          (λ j. cond (may_go_before traffic i j) (lesser_share traffic.demands (wait + 1) (traffic.stream j)) 0) (λ j. cond (eqb j i) longest 0) (λ j below.
          counted (eqb j i) (may_go_before traffic i j) (lesser_share traffic.demands (wait + 1) (streams j))
          (lesser_share traffic.demands (wait + 1) (traffic.stream j)) longest (λ same.
          let at : j ≡ i = eqb-true j i same in
          let frames : (traffic.stream j).frames ≡ 1 = ap (λ k. (traffic.stream k).frames) at ∙ single.0 in
          let slots : div_ceil (wait + 1 + (traffic.stream j).jitter) (traffic.stream j).period ≤ 1 =
          subst (λ k. div_ceil (wait + 1 + (traffic.stream k).jitter) (traffic.stream k).period ≤ 1) (sym at) one in
          let bits : longest * div_ceil (wait + 1 + (traffic.stream j).jitter) (traffic.stream j).period ≤ longest * 1 = mul-le-mul_left longest slots in
          let most : share (wait + 1) (streams j) ≤ longest = rw (same, frames) (omega (arith, bits)) in
          let less : lesser_share traffic.demands (wait + 1) (streams j) ≤ share (wait + 1) (streams j) =
          spaced-most traffic.demands (wait + 1) (streams j) (subst (λ k. IsSpaced (traffic.stream k)) (sym at) single.1) in
          omega (arith, most, less))
          (λ other.
          let alike : streams j ≡ traffic.stream j = rw (other) refl in
          let equal : lesser_share traffic.demands (wait + 1) (streams j) ≡ lesser_share traffic.demands (wait + 1) (traffic.stream j) =
          ap (lesser_share traffic.demands (wait + 1)) alike in
          omega (arith, equal))) in
          omega (arith, itself, two)

      it_fits : longest * (1 + count) + shares_of traffic.count streams traffic.demands (may_go_beside traffic i) wait ≤ wait + longest
      it_fits = let most = shares_most in omega (arith, most, demand_fits)

    pub begun_in_time : AreBegunWithin s planned of i wait
    begun_in_time p in_p is same seen =
        let bits : s.bits p ≤ (traffic.stream i).bits = subst (λ j. s.bits p ≤ (traffic.stream j).bits) same (known.of_streams.keeps p in_p is).bits_at_most in
        let some = legal.positive p in_p in
        let its_own = eq-eqb i i refl in
        begun_beside streams of_streams as_wanted positive longest (rw (its_own) refl) (omega arith) (it_fits (omega (arith, bits, some))) p in_p is same seen

    pub stream_in_time : IsStreamInTime s planned of i (traffic.stream i) wait
    stream_in_time = in_time_from begun_in_time

  -- ---- frames of which each is queued after the end of the one before, of a stream without twins

  module _ (demand_fits : DemandFits traffic others longest i wait) (alone : (j : ℕ) → traffic.are_twins i j ≡ false) (behind : AreQueuedBehind s planned of i) (steady : AreSteady s planned of i) where
    own_source : (q : ℕ) → may_share traffic i (of.source q) ≡ true → of.source q ≡ i
    own_source q shared = elim (or_cases (eqb (of.source q) i) (traffic.are_twins i (of.source q)) shared) [
      | inl same ↦ eqb-true (of.source q) i same
      | inr twin ↦ absurd (both_ways (traffic.are_twins i (of.source q)) (alone (of.source q)) twin)
    ]

    module _ (x : ℕ) (in_x : x < s.count) (is_x : own x ≡ true) (late : s.queued x + wait < s.start x) (begin : ℕ) (early : begin ≤ s.queued x)
        (stretch : PlannedFramesWait s planned (s.ident x) begin (s.queued x)) where
      its_rank : s.ident x ≤ traffic.greatest i
      its_rank = known.to_greatest x in_x (own_parts x is_x).0 (own_parts x is_x).1

      -- none of the stream counts
      none_before : (p : ℕ) → p < s.count → own p ≡ true → s.ident p < s.ident x → is_within s begin (wait + 1) p ≡ true → ⊥
      none_before p in_p is less inside =
          let two = and_parts (leb begin (s.queued p)) (ltb (s.queued p) (begin + (wait + 1))) inside in
          let from : begin ≤ s.queued p = leb-true begin (s.queued p) two.0 in
          let to : s.queued p < begin + (wait + 1) = ltb-true (s.queued p) (begin + (wait + 1)) two.1 in
          let differ : p ≢ x = λ same. absurd (let at : s.ident p ≡ s.ident x = ap s.ident same in omega arith) in
          let (of_plan, source) = own_parts p is in
          let (x_of_plan, x_source) = own_parts x is_x in
          elim (behind p x in_p in_x differ of_plan x_of_plan source x_source) [
            | inl ended ↦
                let first : s.queued p ≤ s.start p = legal.queued_first p in_p in
                let same : s.ident p ≡ s.ident x = steady p x in_p in_x of_plan x_of_plan source x_source (omega arith)
                (λ t after until. stretch t (omega arith) until) in
                omega (arith, same)
            | inr later ↦ omega arith
          ]

      -- a frame of another stream with a smaller identifier
      abbrev foreign : ℕ → Bool
      foreign p = not (eqb (of.source p) i) && ltb (s.ident p) (s.ident x)

      goes_foreign : (p : ℕ) → p < s.count → planned p ≡ true → foreign p ≡ true → may_go_before traffic i (of.source p) ≡ true
      goes_foreign p in_p is its =
          let two = and_parts (not (eqb (of.source p) i)) (ltb (s.ident p) (s.ident x)) its in
          let other : eqb (of.source p) i ≡ false = elim (cases_Bool (eqb (of.source p) i)) [
            | inl same ↦ absurd (both_ways (not (eqb (of.source p) i)) (ap not same) two.0)
            | inr differs ↦ differs
          ] in
          goes_before (s.ident x) p its_rank in_p is other (ltb-true (s.ident p) (s.ident x) two.1)

      planned_most : planned_demand s planned (s.ident x) begin (wait + 1) ≤ shares
      planned_most =
          window_most s traffic.count traffic.stream traffic.demands planned of known.of_streams known.as_wanted positive (may_go_before traffic i) foreign goes_foreign wait
          (is_planned_within s planned (s.ident x) begin (wait + 1)) begin (λ p in_p is.
          let one = and_parts (planned p) (ltb (s.ident p) (s.ident x) && is_within s begin (wait + 1) p) is in
          let rest = and_parts (ltb (s.ident p) (s.ident x)) (is_within s begin (wait + 1) p) one.1 in
          let other : not (eqb (of.source p) i) ≡ true = elim (cases_Bool (eqb (of.source p) i)) [
            | inl same ↦ absurd (none_before p in_p (and_from (planned p) (eqb (of.source p) i) one.0 same) (ltb-true (s.ident p) (s.ident x) rest.0) rest.1)
            | inr differs ↦ ap not differs
          ] in
          (one.0, and_from (not (eqb (of.source p) i)) (ltb (s.ident p) (s.ident x)) other rest.0, rest.1))

      not_busy : IsBusyFrom s planned longest (s.ident x) (s.queued x) wait begin → others_queued s planned (s.ident x) begin (s.queued x + wait) ≤ count → ⊥
      not_busy is_busy fewer =
          let has = is_busy.busy (wait + 1) (omega arith) in
          let most = planned_most in
          let few_bits : longest * others_queued s planned (s.ident x) begin (s.queued x + wait) ≤ longest * count = mul-le-mul_left longest fewer in
          omega (arith, has, most, few_bits, demand_fits)

    begins_in_time : (x : ℕ) → x < s.count → own x ≡ true → s.queued x + wait < s.now → s.start x ≤ s.queued x + wait
    begins_in_time x in_x is_x seen = elim (cases_lt (s.queued x + wait) (s.start x)) [
      | inr in_time ↦ in_time
      | inl late ↦
          let (is_planned, same) = own_parts x is_x in
          let size : s.bits x ≤ longest = known.longest_at_most x in_x in
          let positive : 1 ≤ s.bits x = legal.positive x in_x in
          let shared : may_share traffic i (of.source x) ≡ true =
          or_left (eqb (of.source x) i) (traffic.are_twins i (of.source x)) (eq-eqb (of.source x) i same) in
          let others_none : (q : ℕ) → q < s.count → q ≢ x → s.ident q ≡ s.ident x → s.queued x < s.start q → s.start q ≤ s.queued x + wait → ⊥ =
          λ q in_q differ equal after within.
          let first : s.queued q ≤ s.start q = legal.queued_first q in_q in
          let its = known.own_identifier x q (s.start q) in_x in_q (omega arith) is_planned shared (omega arith, omega arith) (first, omega arith) (sym equal) in
          elim (behind q x in_q in_x differ its.0 is_planned (own_source q its.1) same) [
            | inl ended ↦ absurd (let long : 1 ≤ s.bits q = legal.positive q in_q in omega arith)
            | inr later ↦ absurd (omega arith)
          ] in
          let (begin, is_busy) = busy_from s planned longest wait legal known.longest_at_most x in_x is_planned seen late others_none in
          let before : begin ≤ s.queued x = is_busy.before in
          absurd (not_busy x in_x is_x late begin before (λ t after within. is_busy.waiting t after (omega arith)) is_busy
          (few x begin in_x is_x seen (omega arith) late is_busy.waiting))
    ]

    pub behind_in_time : AreSentWithin s planned of i (traffic.stream i) wait
    behind_in_time p in_p is same seen =
        let begins : s.start p ≤ s.queued p + wait = begins_in_time p in_p (own_from p is same) seen in
        let most : s.bits p ≤ (traffic.stream i).bits = subst (λ j. s.bits p ≤ (traffic.stream j).bits) same (known.of_streams.keeps p in_p is).bits_at_most in
        omega arith
