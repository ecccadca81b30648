-- On a bus whose units partly keep no order, frames of those that do are in time for which the wait that is reported has room, beside the buffering delays.
use Rattle.std.proofs.Common.{◌≡◌, ℕ, suc, ◌+◌, ◌*◌, ◌-◌, ◌<◌, ◌≤◌, Bool, true, false, not, cond, ◌&&◌, ◌||◌, eqb, ltb, if◌then◌else◌, List, []}
use Rattle.std.proofs.Common.{◌∷◌, ◌++◌, length, get_or, All, IfSome, unwrap_or, is_some, Option, Some, None, refl, sym, ap, ◌∙◌, subst, inl, inr}
use Rattle.std.proofs.Common.{option_map, arith}
use Rattle.std.proofs.lemmas.Bool.{and_parts, both_ways, cases_Bool, cases_lt, eqb-true, false≢true, lt-ltb, ltb-true, or_cases}
use Rattle.std.proofs.lemmas.Bool.{true≢false}
use Rattle.std.proofs.lemmas.List.{get_or-append-add, get_or_append_left, get_or_past}
use Rattle.std.specs.Option.{option_map_or}
use Rattle.j39_network.specs.declared.plan.timing.Timing.{Timing}
use Rattle.j39_load.specs.declared.frames.flow_frames.FlowFrames.{FlowFrames}
use Rattle.j39_load.specs.Ages.{least}
use Rattle.j39_load.specs.AnyQueues.{IsBuffering, Buffering, are_of_unit}
use Rattle.j39_load.specs.AnyQueues.{buffered_for, keep_order, later_frames, may_be_passed, buffered}
use Rattle.j39_load.specs.AnyQueues.{unbounded_at}
use Rattle.j39_load.specs.Damage.{damage_frames}
use Rattle.j39_load.specs.AnswerStreams.{are_asked_for}
use Rattle.j39_load.specs.Delays.{blocking, blocking_of, need_of, streams_before}
use Rattle.j39_load.specs.Demands.{demands_of}
use Rattle.j39_load.specs.PlannedFrames.{AreFramesInAnyOrder, no_frames, others_of, planned_at, traffic_of}
use Rattle.j39_load.specs.Twins.{are_twins, is_same, may_precede}
use Rattle.j39_load.proofs.DemandLaws.{demands_where_buffered, demands_with_damage}
use Rattle.j39_load.proofs.BufferingDelays.{buffered_read, one_each}
use Rattle.j39_load.proofs.PositivePeriods.{HasPeriod}
use Rattle.j39_load.proofs.Sending.{IsSent}
use Rattle.j39_load.proofs.StreamsBefore.{all_before, counts_before, get_or_inside, taken, with_damage}
use Rattle.j39_timing.specs.AnyOrder.{Controllers, HaveWaits, IsLegalInAnyOrder, IsOrderedStream, later_by, buffered_traffic}
use Rattle.j39_timing.specs.FrameBits.{longest_frame}
use Rattle.j39_timing.specs.Messages.{AreSentWithin}
use Rattle.j39_timing.specs.TimedFrames.{Schedule}
use Rattle.j39_timing.specs.FrameStreams.{Origins}
use Rattle.j39_timing.specs.Sums.{total}
use Rattle.j39_timing.specs.Traffic.{AreQueuedBehind, AreSteady, DemandFits, IsSingle, IsStreamInTime, OwnDemandFits, delay_of, others_before}
use Rattle.j39_timing.specs.Waits.{Demand, IsSpaced, lesser_share, need}
use Rattle.j39_timing.specs.declared.wants.Want.{Want}
use Rattle.j39_timing.specs.declared.stream.Stream.{Stream}
use Rattle.j39_timing.proofs.Buffering.{ordered_behind, ordered_in_time, own_ordered_in_time}
use Rattle.j39_timing.proofs.Sums.{total-le}
use Rattle.j39_load.proofs.QueueGroupFrames.{begun, found, least_within, positive, read, unordered_of, wait_of_queue_group}

module _ (timing : Timing) (ends : ℕ) (asked : List (Option FlowFrames)) (paced : All HasPeriod (asked ++ damage_frames timing))
    (sent : All (λ (f : Option FlowFrames). IfSome f IsSent) asked) where
  abbrev all : List (Option FlowFrames)
  all = asked ++ damage_frames timing

  -- ---- room beside them

  module _ (waits : List (Option ℕ)) (count : length waits ≡ length asked) (i : ℕ) (own : FlowFrames) (span : ℕ) where
    abbrev demands : List Demand
    demands = demands_of all

    abbrev later : List (Option FlowFrames)
    later = buffered waits asked ++ damage_frames timing

    abbrev part : FlowFrames → ℕ → ℕ → ℕ
    part f w j = cond (counts_before i own j f) (lesser_share demands span (later_by w f.stream)) 0

    length_buffered : length (buffered waits asked) ≡ length asked
    length_buffered = one_each (λ (p : ℕ) (x : Option FlowFrames). option_map (later_frames (buffered_for waits p)) x) 0 asked

    none_part : (w j : ℕ) → part no_frames w j ≤ 0
    none_part w j = elim (counts_before i own j no_frames) as (λ e. cond e (lesser_share demands span (later_by w no_frames.stream)) 0 ≤ 0) [
      | true ↦ omega arith
      | false ↦ omega arith
    ]

    front : (j : ℕ) (o : Option FlowFrames) → j < length asked → get_or asked j None ≡ o
        → part (planned_at all j) (buffered_for waits j) j ≤ taken demands later i own span j
    front j None below at =
        let here : planned_at all j ≡ no_frames =
        ap (λ (x : Option FlowFrames). unwrap_or x no_frames) (get_or_append_left asked (damage_frames timing) None j below ∙ at) in
        let few : part (planned_at all j) (buffered_for waits j) j ≤ 0 =
        subst (λ (f : FlowFrames). part f (buffered_for waits j) j ≤ 0) (sym here) (none_part (buffered_for waits j) j) in
        omega (arith, few)
    front j (Some x) below at =
        let here : planned_at all j ≡ x = with_damage timing asked j x at in
        let there : planned_at later j ≡ later_frames (buffered_for waits j) x =
        ap (λ (f : Option FlowFrames). unwrap_or f no_frames)
        (get_or_append_left (buffered waits asked) (damage_frames timing) None j (omega (arith, below, length_buffered))
        ∙ buffered_read waits asked j below ∙ ap (option_map (later_frames (buffered_for waits j))) at) in
        subst (λ (f : FlowFrames). part f (buffered_for waits j) j ≤ taken demands later i own span j) (sym here)
        (subst (λ (f : FlowFrames). part x (buffered_for waits j) j ≤ cond (counts_before i own j f) (lesser_share demands span f.stream) 0) (sym there)
        (omega arith))

    behind : (n : ℕ) → part (planned_at all (length asked + n)) (buffered_for waits (length asked + n)) (length asked + n)
        ≤ taken demands later i own span (length asked + n)
    behind n =
        let j : ℕ = length asked + n in
        let here : get_or all (length asked + n) None ≡ get_or (damage_frames timing) n None = get_or-append-add asked (damage_frames timing) n None in
        let there : get_or later (length asked + n) None ≡ get_or (damage_frames timing) n None =
        ap (λ (m : ℕ). get_or later (m + n) None) (sym length_buffered) ∙ get_or-append-add (buffered waits asked) (damage_frames timing) n None in
        let same : planned_at later (length asked + n) ≡ planned_at all (length asked + n) =
        ap (λ (x : Option FlowFrames). unwrap_or x no_frames) (there ∙ sym here) in
        let none : buffered_for waits (length asked + n) ≡ 0 =
        ap (λ (x : Option ℕ). unwrap_or x 0) (get_or_past waits (length asked + n) None (omega (arith, count))) in
        let f : FlowFrames = planned_at all (length asked + n) in
        subst (λ (g : FlowFrames). part (planned_at all (length asked + n)) (buffered_for waits (length asked + n)) (length asked + n)
        ≤ cond (counts_before i own (length asked + n) g) (lesser_share demands span g.stream) 0) (sym same)
        (subst (λ (w : ℕ). part (planned_at all (length asked + n)) w (length asked + n)
        ≤ cond (counts_before i own (length asked + n) (planned_at all (length asked + n)))
        (lesser_share demands span (planned_at all (length asked + n)).stream) 0)
        (sym none) (no_later (planned_at all (length asked + n)) (counts_before i own (length asked + n) (planned_at all (length asked + n)))))
      where
        queued_late : Stream → ℕ → Stream
        queued_late x n = record { frames = x.frames; period = x.period; bits = x.bits; jitter = n; wanted = x.wanted }

        no_later : (f : FlowFrames) (e : Bool) → cond e (lesser_share demands span (later_by 0 f.stream)) 0 ≤ cond e (lesser_share demands span f.stream) 0
        no_later f true =
            let same : f.stream.jitter + 0 ≡ f.stream.jitter = omega arith in
            let equal : lesser_share demands span (later_by 0 f.stream) ≡ lesser_share demands span f.stream =
            ap (λ (n : ℕ). lesser_share demands span (queued_late f.stream n)) same in
            omega (arith, equal)
        no_later f false = omega arith

    each_part : (j : ℕ) → part (planned_at all j) (buffered_for waits j) j ≤ taken demands later i own span j
    each_part j = elim (cases_lt j (length asked)) [
      | inl below ↦ front j (get_or asked j None) below refl
      | inr past ↦
          let place : length asked + (j - length asked) ≡ j = omega arith in
          subst (λ (n : ℕ). part (planned_at all n) (buffered_for waits n) n ≤ taken demands later i own span n) place (behind (j - length asked))
    ]

    pub buffered_parts : total (length all) (λ j. part (planned_at all j) (buffered_for waits j) j) ≤ total (length later) (taken demands later i own span)
    buffered_parts =
        let most = total-le (length all) (λ j. part (planned_at all j) (buffered_for waits j) j) (taken demands later i own span) (λ j below. each_part j) in
        let same : length later ≡ length all =
        append_same (buffered waits asked) asked (damage_frames timing) length_buffered in
        subst (λ (n : ℕ). total (length all) (λ j. part (planned_at all j) (buffered_for waits j) j) ≤ total n (taken demands later i own span)) (sym same) most
      where
        append_same : (xs ys zs : List (Option FlowFrames)) → length xs ≡ length ys → length (xs ++ zs) ≡ length (ys ++ zs)
        append_same [] [] zs same = refl
        append_same [] (y ∷ ys) zs same = absurd (omega (arith, same))
        append_same (x ∷ xs) [] zs same = absurd (omega (arith, same))
        append_same (x ∷ xs) (y ∷ ys) zs same = ap suc (append_same xs ys zs (omega (arith, same)))

  -- ---- frames of units that keep order

  module _ (buffering : Buffering) (buffering_delays : IsBuffering timing ends asked buffering) (i : ℕ) (frames : FlowFrames)
      (at : get_or asked i None ≡ Some frames)
      (ordered : keep_order frames ≡ true) (bounded : may_be_passed buffering frames.greatest_ident ≡ false) (wait : ℕ)
      (enough : need_of timing buffering.frames i frames wait ≤ wait) where
    pub placed : planned_at all i ≡ frames
    placed = with_damage timing asked i frames at

    -- what counts at a place
    abbrev its_share : ℕ → ℕ
    its_share j = lesser_share (demands_of all) (wait + 1) (later_by (buffered_for buffering.waits j) (planned_at all j).stream)

    needed : blocking_of timing frames + total (length all) (λ j. cond (counts_before i frames j (planned_at all j)) (its_share j) 0) ≤ wait
    needed =
        let placed_need : need_of timing (buffered buffering.waits asked) i frames wait ≤ wait =
        subst (λ (xs : List (Option FlowFrames)). need_of timing xs i frames wait ≤ wait) buffering_delays.frames enough in
        let fits : need (demands_of all) (blocking_of timing frames) (streams_before timing i frames (buffered buffering.waits asked)) wait ≤ wait =
        subst (λ (ds : List Demand). need ds (blocking_of timing frames) (streams_before timing i frames (buffered buffering.waits asked)) wait ≤ wait)
        (demands_where_buffered buffering.waits asked ∙ sym (demands_with_damage timing asked)) placed_need in
        let most = all_before (demands_of all) i frames (wait + 1) timing (buffered buffering.waits asked) in
        let parts = buffered_parts buffering.waits buffering_delays.bounded.count i frames (wait + 1) in
        omega (arith, fits, most, parts)

    one_foreign : (e m a : Bool) (x : ℕ) → cond (not e && m) x 0 ≤ cond (cond e a m) x 0
    one_foreign true m a x = omega arith
    one_foreign false m a x = omega arith

    one_beside : (e m a : Bool) (x : ℕ) → (e ≡ true → a ≡ true) → cond (e || (not e && m)) x 0 ≤ cond (cond e a m) x 0
    one_beside true m a x asks = let is = asks refl in rw (is) (omega arith)
    one_beside false m a x asks = omega arith

    pub demand_fits : IsSpaced frames.stream → DemandFits (buffered_traffic (traffic_of all) (buffered_for buffering.waits)) (others_of timing)
        (longest_frame 8) i wait
    demand_fits spaced =
        let fewer : total (length all) (λ j. cond (not (eqb j i) && may_precede frames (planned_at all j)) (its_share j) 0)
        ≤ total (length all) (λ j. cond (counts_before i frames j (planned_at all j)) (its_share j) 0) =
        total-le (length all) (λ j. cond (not (eqb j i) && may_precede frames (planned_at all j)) (its_share j) 0)
        (λ j. cond (counts_before i frames j (planned_at all j)) (its_share j) 0)
        (λ j below. one_foreign (eqb j i) (may_precede frames (planned_at all j)) (are_asked_for (planned_at all j)) (its_share j)) in
        let blocks : blocking_of timing frames ≡ blocking timing frames.greatest_ident - 0 =
        ap (λ (o : Option Want). blocking timing frames.greatest_ident - (if is_some o then frames.stream.bits else 0)) spaced in
        let room = needed in
        subst (λ (own : FlowFrames). longest_frame 8 * (1 + others_before (others_of timing) own.greatest_ident)
        + total (length all) (λ j. cond (not (eqb j i) && may_precede own (planned_at all j)) (its_share j) 0) ≤ wait) (sym placed)
        (omega (arith, room, fewer, blocks))

    -- where others of them may be queued at once
    pub own_fits : are_asked_for frames ≡ true
        → OwnDemandFits (buffered_traffic (traffic_of all) (buffered_for buffering.waits)) (others_of timing) (longest_frame 8) i wait
    own_fits asks =
        let here : (j : ℕ) → eqb j i ≡ true → are_asked_for (planned_at all j) ≡ true = λ j same.
        subst (λ (k : ℕ). are_asked_for (planned_at all k) ≡ true) (sym (eqb-true j i same))
        (subst (λ (f : FlowFrames). are_asked_for f ≡ true) (sym placed) asks) in
        let fewer : total (length all) (λ j. cond (eqb j i || (not (eqb j i) && may_precede frames (planned_at all j))) (its_share j) 0)
        ≤ total (length all) (λ j. cond (counts_before i frames j (planned_at all j)) (its_share j) 0) =
        total-le (length all) (λ j. cond (eqb j i || (not (eqb j i) && may_precede frames (planned_at all j))) (its_share j) 0)
        (λ j. cond (counts_before i frames j (planned_at all j)) (its_share j) 0)
        (λ j below. one_beside (eqb j i) (may_precede frames (planned_at all j)) (are_asked_for (planned_at all j)) (its_share j) (here j)) in
        let blocks : blocking_of timing frames ≡ blocking timing frames.greatest_ident - frames.stream.bits =
        ap (λ (b : Bool). blocking timing frames.greatest_ident - (if b then frames.stream.bits else 0)) asks in
        let room = needed in
        subst (λ (own : FlowFrames). longest_frame 8 * (1 + others_before (others_of timing) own.greatest_ident)
        + total (length all) (λ j. cond (eqb j i || (not (eqb j i) && may_precede own (planned_at all j))) (its_share j) 0) ≤ wait + own.stream.bits)
        (sym placed)
        (omega (arith, room, fewer, blocks))

    -- each stream that may go before has a wait
    known_wait : (j : ℕ) (x : FlowFrames) → get_or asked j None ≡ Some x → x.least_ident < frames.greatest_ident
        → (w : ℕ) × (get_or buffering.waits j None ≡ Some w)
    known_wait j x found_at less = go (get_or buffering.waits j None) refl
      where
        go : (o : Option ℕ) → get_or buffering.waits j None ≡ o → (w : ℕ) × (get_or buffering.waits j None ≡ Some w)
        go (Some w) is = (w, is)
        go None is =
            let none : get_or buffering.waits (0 + j) None ≡ None = ap (λ (n : ℕ). get_or buffering.waits n None) (omega arith) ∙ is in
            let own : least (unbounded_at buffering.waits (0 + j) (get_or asked j None)) ≡ Some x.least_ident =
            subst (λ (o : Option FlowFrames). least (unbounded_at buffering.waits (0 + j) o) ≡ Some x.least_ident) (sym found_at)
            (ap (λ (o : Option ℕ). least (if is_some o then [] else x.least_ident ∷ [])) none) in
            let (n, stated, le) = least_within (unbounded_at buffering.waits) 0 asked j x.least_ident (get_or_inside asked j x found_at) own in
            let low : buffering.least_unbounded ≡ Some n = buffering_delays.least_unbounded ∙ stated in
            let passed : may_be_passed buffering frames.greatest_ident ≡ true =
            subst (λ (o : Option ℕ). option_map_or (λ (m : ℕ). ltb m frames.greatest_ident) o false ≡ true) (sym low)
            (lt-ltb n frames.greatest_ident (omega (arith, le, less))) in
            absurd (false≢true (sym bounded ∙ passed))

    module _ (s : Schedule) (controllers : Controllers) (planned : ℕ → Bool) (of : Origins) (legal : IsLegalInAnyOrder s controllers)
        (known : AreFramesInAnyOrder timing ends asked s controllers planned of i) where
      pub own_ordered : IsOrderedStream s controllers planned of i
      own_ordered p in_p is source = elim (cases_Bool (controllers.keeps_order (controllers.unit p))) [
        | inl keeps ↦ keeps
        | inr un ↦
            let its : are_of_unit (planned_at asked i) (controllers.unit p) ≡ true =
            subst (λ (j : ℕ). are_of_unit (planned_at asked j) (controllers.unit p) ≡ true) source (known.of_unit p in_p is un) in
            let own : are_of_unit frames (controllers.unit p) ≡ true =
            subst (λ (f : FlowFrames). are_of_unit f (controllers.unit p) ≡ true) (read asked i frames at) its in
            absurd (true≢false (sym ordered ∙ unordered_of frames.any_sender frames.any_receiver (controllers.unit p) own))
      ]

      -- a twin's unit keeps order too
      no_twin : (j : ℕ) (x : FlowFrames) → get_or asked j None ≡ Some x → keep_order x ≡ false
          → are_twins (planned_at all i) (planned_at all j) ≡ true → ⊥
      no_twin j x found_at kept twins =
          let its : are_twins frames x ≡ true =
          subst (λ (f : FlowFrames). are_twins f x ≡ true) placed
          (subst (λ (f : FlowFrames). are_twins (planned_at all i) f ≡ true) (with_damage timing asked j x found_at) twins) in
          elim (or_cases (keep_order x) (not (keep_order frames))
          (and_parts (is_same frames.twin_ident x.twin_ident) (keep_order x || not (keep_order frames)) its).1) [
            | inl keeps ↦ true≢false (sym keeps ∙ kept)
            | inr loses ↦ both_ways (not (keep_order frames)) (ap not ordered) loses
          ]

      pub have : HaveWaits s controllers (traffic_of all) planned of i (buffered_for buffering.waits)
      have p in_p is goes un seen =
          let j = of.source p in
          let u = controllers.unit p in
          let its : are_of_unit (planned_at asked (of.source p)) (controllers.unit p) ≡ true = known.of_unit p in_p is un in
          let (x, found_at) = found asked (of.source p) (controllers.unit p) its in
          let here : planned_at asked (of.source p) ≡ x = read asked (of.source p) x found_at in
          let kept : keep_order x ≡ false =
          unordered_of x.any_sender x.any_receiver (controllers.unit p)
          (subst (λ (f : FlowFrames). are_of_unit f (controllers.unit p) ≡ true) here its) in
          let low : (planned_at all (of.source p)).least_ident < (planned_at all i).greatest_ident =
          elim (or_cases (ltb (planned_at all (of.source p)).least_ident (planned_at all i).greatest_ident)
          (are_twins (planned_at all i) (planned_at all (of.source p)))
          (and_parts (not (eqb (of.source p) i)) (may_precede (planned_at all i) (planned_at all (of.source p))) goes).1) [
            | inl less ↦ ltb-true _ _ less
            | inr twins ↦ absurd (no_twin (of.source p) x found_at kept twins)
          ] in
          let less : x.least_ident < frames.greatest_ident =
          subst (λ (f : FlowFrames). x.least_ident < f.greatest_ident) placed
          (subst (λ (f : FlowFrames). f.least_ident < (planned_at all i).greatest_ident) (with_damage timing asked (of.source p) x found_at) low) in
          let before : (planned_at asked (of.source p)).least_ident < (planned_at asked i).greatest_ident =
          subst (λ (f : FlowFrames). f.least_ident < (planned_at asked i).greatest_ident) (sym here)
          (subst (λ (f : FlowFrames). x.least_ident < f.greatest_ident) (sym (read asked i frames at)) less) in
          let (w, stated) = known_wait (of.source p) x found_at less in
          let is_wait = wait_of_queue_group timing ends asked paced sent buffering.waits buffering_delays.bounded (of.source p) x found_at kept w stated in
          let held : buffered_for buffering.waits (of.source p) ≡ w = ap (λ (o : Option ℕ). unwrap_or o 0) stated in
          let by_wait = begun timing ends asked paced sent s controllers planned of legal i known (of.source p) x found_at kept
          (inr before) w is_wait p in_p is refl
          (omega (arith, seen, held)) in
          omega (arith, by_wait, held)

      pub ordered_bound : IsSingle frames.stream → delay_of frames.stream wait ≤ frames.stream.period → IsStreamInTime s planned of i frames.stream wait
      ordered_bound single fits =
          subst (λ (own : FlowFrames). IsStreamInTime s planned of i own.stream wait) placed
          (ordered_in_time s controllers legal (traffic_of all) (others_of timing) (longest_frame 8) planned of i wait known.known
          (positive timing ends asked paced sent) own_ordered
          (buffered_for buffering.waits) have (demand_fits single.1) (subst (λ (own : FlowFrames). IsSingle own.stream) (sym placed) single)
          (subst (λ (own : FlowFrames). delay_of own.stream wait ≤ own.stream.period) (sym placed) fits))

      -- the same where others of them may be queued at once
      pub asked_bound : are_asked_for frames ≡ true → frames.stream.bits ≤ longest_frame 8 → IsStreamInTime s planned of i frames.stream wait
      asked_bound asks small =
          subst (λ (own : FlowFrames). IsStreamInTime s planned of i own.stream wait) placed
          (own_ordered_in_time s controllers legal (traffic_of all) (others_of timing) (longest_frame 8) planned of i wait known.known
          (positive timing ends asked paced sent) own_ordered (buffered_for buffering.waits) have
          (subst (λ (own : FlowFrames). own.stream.bits ≤ longest_frame 8) (sym placed) small) (own_fits asks))

      pub ordered_sent : IsSpaced frames.stream → frames.twin_ident ≡ None → AreQueuedBehind s planned of i → AreSteady s planned of i
          → AreSentWithin s planned of i frames.stream wait
      ordered_sent spaced single after steady =
          subst (λ (own : FlowFrames). AreSentWithin s planned of i own.stream wait) placed
          (ordered_behind s controllers legal (traffic_of all) (others_of timing) (longest_frame 8) planned of i wait known.known
          (positive timing ends asked paced sent) own_ordered
          (buffered_for buffering.waits) have (demand_fits spaced) alone after steady)
        where
          alone : (j : ℕ) → (traffic_of all).are_twins i j ≡ false
          alone j = subst (λ (f : FlowFrames). are_twins f (planned_at all j) ≡ false) (sym placed)
              (ap (λ (o : Option ℕ). is_same o (planned_at all j).twin_ident && (keep_order (planned_at all j) || not (keep_order frames))) single)
