-- Delays of a part are no later.
use Rattle.std.proofs.Common.{◌≡◌, ◌⊎◌, ℕ, zero, suc, ◌+◌, ◌<◌, ◌≤◌, Bool, true, false, not, ◌||◌, nat_le, nat_lt, if◌then◌else◌, get_or, is_some}
use Rattle.std.proofs.Common.{List, [], ◌∷◌, length, Option, Some, None, option_map, refl, sym, ◌∙◌, ap, subst, inl, inr, arith, slice_index_or}
use Rattle.std.specs.Bool.{MatchBool}
use Rattle.std.specs.List.{slice_get}
use Rattle.std.specs.Option.{option_map_or}
use Rattle.std.proofs.lemmas.Bool.{and_parts, cases_Bool, false≢true, le-leb, leb-true, lt-ltb, ltb-true, or_cases, true≢false}
use Rattle.std.proofs.lemmas.Option.{get_or_from_slice_get, none-some, same_Some, slice_get-get_or, slice_get_within}
use Rattle.j39_network.specs.declared.plan.timing.Timing.{Timing}
use Rattle.j39_search.specs.ListPlaces.{ValueAt}
use Rattle.j39_load.specs.declared.frames.flow_frames.FlowFrames.{FlowFrames}
use Rattle.j39_load.specs.declared.waits.delay.Delay.{Delay}
use Rattle.j39_load.specs.declared.waits.delay.Delay.TheVariants.{Beyond, Late, Long, Whole, Within}
use Rattle.j39_load.specs.AnyQueues.{AreBufferingDelays, buffered, buffered_for, Buffering, IsBufferedFor, IsBuffering, IsQueueGroupWait, keep_order}
use Rattle.j39_load.specs.AnyQueues.{later_frames}
use Rattle.j39_load.specs.AnyQueues.{least_unbounded, leasts_of, may_be_passed, unbounded_at}
use Rattle.j39_load.specs.Delays.{any_delay, blocking_of, HasNoneWithin, IsDelayWithin, IsFrameDelay, IsInTime, IsShortDelay, IsWaitIn, IsWaitOf, judged}
use Rattle.j39_load.specs.Delays.{streams_before}
use Rattle.j39_load.specs.Demands.{demands_of}
use Rattle.j39_load.specs.LineLists.{lines_of_each}
use Rattle.j39_load.specs.Loads.{longest_wait}
use Rattle.j39_load.specs.Twins.{are_twins, is_same, may_precede}
use Rattle.j39_load.proofs.BufferingDelays.{buffered_read, one_each}
use Rattle.j39_timing.specs.Traffic.{delay_of}
use Rattle.j39_part_laws.specs.PartDelays.{IsNoLater}
use Rattle.j39_part_laws.specs.PartLoads.{counting}
use Rattle.j39_part_laws.specs.PlanParts.{AreSome}
use Rattle.j39_part_laws.specs.Shares.{WaitNoLonger}
use Rattle.j39_part_laws.specs.Sublists.{IsSub}
use Rattle.j39_part_laws.proofs.Buffering.{Always, buffered_no_longer, IsNoLess, least_sub}
use Rattle.j39_part_laws.proofs.Frames.{AreAtOnePace, AreFrames, AreFramesWhere, same_order, waits_there}
use Rattle.j39_part_laws.proofs.Sublists.{sub_lines}

same_length : (waits : List (Option ℕ)) (all : List (Option FlowFrames)) → length (buffered waits all) ≡ length all
same_length waits all = one_each (λ (p : ℕ) (x : Option FlowFrames). option_map (later_frames (buffered_for waits p)) x) 0 all

module _ (unit : ℕ → ℕ) (Twins : ℕ → ℕ → Type 0) (one_twin : (m n o : ℕ) → Twins m n → Twins m o → n ≡ o)
    (timing : Timing) (unplanned : ℕ) (range : unplanned ≤ 1000) (busier : timing.unplanned ≤ unplanned) (all others : List (Option FlowFrames)) (place : ℕ → ℕ)
    (are : AreSome place (AreFramesWhere unit Twins (Always unit Twins one_twin)) all others)
    (ends : ℕ) (vs ws : List (Option ℕ)) (here : AreBufferingDelays timing ends all vs)
    (whole : AreBufferingDelays (counting timing unplanned range) ends others ws) where
  abbrev busy : Timing
  busy = counting timing unplanned range

  abbrev Alike : Option FlowFrames → Option FlowFrames → Type 0
  Alike = AreFramesWhere unit Twins (Always unit Twins one_twin)

  -- a wait that is known in the whole is known in the part
  known_here : (j : ℕ) (x : Option FlowFrames) → slice_get all j ≡ Some x → (b : ℕ) → slice_index_or ws (place j) None ≡ Some b
      → (a : ℕ) × (slice_index_or vs j None ≡ Some a) × (a ≤ b)
  known_here j x at b known =
      let there = are.each j x at in
      let is_x : slice_index_or all j None ≡ x = get_or_from_slice_get all j x None at in
      let is_y : slice_index_or others (place j) None ≡ there.value = get_or_from_slice_get others (place j) there.value None there.value_is in
      let wait = here.each j (slice_get_within all j x at) in
      let longer = whole.each (place j) (slice_get_within others (place j) there.value there.value_is) in
      buffered_no_longer unit Twins one_twin timing unplanned range busier all others place are ends x there.value there.meets (slice_index_or vs j None) b
      (subst (λ o. IsBufferedFor timing ends all o (slice_index_or vs j None)) is_x wait)
      (subst (λ w. IsBufferedFor busy ends others there.value w) known
      (subst (λ o. IsBufferedFor busy ends others o (slice_index_or ws (place j) None)) is_y longer))

  -- ---- those of which no wait is known

  unbounded_there : (j : ℕ) (x y : Option FlowFrames) → slice_get all j ≡ Some x → Alike x y
      → IsSub IsNoLess (unbounded_at vs j x) (unbounded_at ws (place j) y)
  unbounded_there j None y at alike = tt
  unbounded_there j (Some x) None at alike = absurd alike
  unbounded_there j (Some x) (Some y) at alike = go (slice_index_or vs j None) (slice_index_or ws (place j) None) refl refl
    where
      go : (v w : Option ℕ) → slice_index_or vs j None ≡ v → slice_index_or ws (place j) None ≡ w
          → IsSub IsNoLess (if is_some v then [] else x.least_ident ∷ []) (if is_some w then [] else y.least_ident ∷ [])
      go (Some a) w is_v is_w = tt
      go None None is_v is_w = inl (alike.0.least, tt)
      go None (Some b) is_v is_w = let (a, known, below) = known_here j (Some x) at b is_w in absurd (none-some a (sym is_v ∙ known))

  least_unbounded_there : (m : ℕ) → least_unbounded vs all ≡ Some m → (n : ℕ) × (least_unbounded ws others ≡ Some n) × (n ≤ m)
  least_unbounded_there = least_sub (lines_of_each (unbounded_at vs) 0 all) (lines_of_each (unbounded_at ws) 0 others)
      (sub_lines IsNoLess (unbounded_at vs) (unbounded_at ws) all others place 0 0 are.rises (λ j x at. let there = are.each j x at in
      let near : j ≡ 0 + j = omega arith in
      let far : place j ≡ 0 + place j = omega arith in
      record {
        value = there.value;
        value_is = there.value_is;
        meets = subst (λ k. IsSub IsNoLess (unbounded_at vs k x) (unbounded_at ws (0 + place j) there.value)) near
            (subst (λ k. IsSub IsNoLess (unbounded_at vs j x) (unbounded_at ws k there.value)) far (unbounded_there j x there.value at there.meets));
      }))

  -- of what isn't bounded the least identifier is at most any
  one_unbounded : (k : ℕ) (y : FlowFrames) → slice_get others k ≡ Some (Some y) → slice_index_or ws k None ≡ None
      → (q : ℕ) × (least_unbounded ws others ≡ Some q) × (q ≤ y.least_ident)
  unfolding lines_of_each
  one_unbounded k y at none =
      least_sub (y.least_ident ∷ []) (lines_of_each (unbounded_at ws) 0 others) single y.least_ident refl
    where
      report : ℕ → FlowFrames → List ℕ
      report p f = f.least_ident ∷ []

      one : lines_of_each report 0 (y ∷ []) ≡ y.least_ident ∷ []
      one = refl

      its : (i : ℕ) (f : FlowFrames) → slice_get (y ∷ []) i ≡ Some f
          → ValueAt (λ z. IsSub IsNoLess (report (0 + i) f) (unbounded_at ws (0 + (k + i)) z)) others (k + i)
      its zero f is_f =
          let same : y ≡ f = same_Some y f is_f in
          let there : k + 0 ≡ k = omega arith in
          let far : k ≡ 0 + (k + 0) = omega arith in
          subst (λ g. ValueAt (λ z. IsSub IsNoLess (g.least_ident ∷ []) (unbounded_at ws (0 + (k + 0)) z)) others (k + 0)) same
          (record {
            value = Some y;
            value_is = ap (slice_get others) there ∙ at;
            meets = subst (λ n. IsSub IsNoLess (y.least_ident ∷ []) (unbounded_at ws n (Some y))) far
                (subst (λ o. IsSub IsNoLess (y.least_ident ∷ []) (if is_some o then [] else y.least_ident ∷ [])) (sym none) (inl (omega arith, tt)));
          })
      its (suc i) f is_f = absurd (past i f is_f)
        where
          past : (n : ℕ) (g : FlowFrames) → slice_get (y ∷ []) (suc n) ≡ Some g → ⊥
          past zero g is_g = cc
          past (suc n) g is_g = cc

      single : IsSub IsNoLess (y.least_ident ∷ []) (lines_of_each (unbounded_at ws) 0 others)
      single = subst (λ l. IsSub IsNoLess l (lines_of_each (unbounded_at ws) 0 others)) one
          (sub_lines IsNoLess report (unbounded_at ws) (y ∷ []) others (λ i. k + i) 0 0 (λ i j below. omega (arith, below)) its)

  -- ---- frames at the end of their buffering delays

  later_alike : (m n : ℕ) (x y : FlowFrames) → AreFrames unit Twins x y → AreFrames unit Twins (later_frames m x) (later_frames n y)
  later_alike m n x y alike = record {
    frames = alike.frames;
    bits = alike.bits;
    positive = alike.positive;
    period = alike.period;
    wanted = alike.wanted;
    least = alike.least;
    greatest = alike.greatest;
    last = alike.last;
    sender = alike.sender;
    receiver = alike.receiver;
    few_sender = alike.few_sender;
    few_receiver = alike.few_receiver;
    twin = alike.twin;
    want = alike.want;
  }

  module _ (own there : FlowFrames) (are_own : AreFrames unit Twins own there) (ordered : keep_order there ≡ true)
      (passed : option_map_or (λ (n : ℕ). nat_lt n there.greatest_ident) (least_unbounded ws others) false ≡ false) where
    -- those count that may go before, and of which the wait is known since they keep order
    abbrev Goes : FlowFrames → Type 0
    Goes y = (may_precede there y ≡ true) ⊎ (keep_order y ≡ true)

    -- what keeps order is buffered for no time, so that its wait is known
    known_ordered : (k : ℕ) (y : FlowFrames) → slice_get others k ≡ Some (Some y) → keep_order y ≡ true → slice_index_or ws k None ≡ None → ⊥
    known_ordered k y at keeps none =
        let is_y : slice_index_or others k None ≡ Some y = get_or_from_slice_get others k (Some y) None at in
        let wait = subst (λ o. IsBufferedFor busy ends others o (slice_index_or ws k None)) is_y (whole.each k (slice_get_within others k (Some y) at)) in
        let zero_wait = subst (λ b. MatchBool b (slice_index_or ws k None ≡ Some 0)
        (IsQueueGroupWait busy ends (leasts_of others) others y (slice_index_or ws k None))) keeps wait in
        none-some 0 (sym none ∙ zero_wait)

    -- nothing goes before of which no wait is known
    never_before : (k : ℕ) (y : FlowFrames) → slice_get others k ≡ Some (Some y) → slice_index_or ws k None ≡ None → may_precede there y ≡ true → ⊥
    never_before k y at none before = elim (or_cases (nat_lt y.least_ident there.greatest_ident) (are_twins there y) before) [
      | inl low ↦
          let (q, is_q, below) = one_unbounded k y at none in
          let less = ltb-true y.least_ident there.greatest_ident low in
          let found : nat_lt q there.greatest_ident ≡ true = lt-ltb q there.greatest_ident (omega (arith, less, below)) in
          true≢false (sym found ∙ subst (λ o. option_map_or (λ (n : ℕ). nat_lt n there.greatest_ident) o false ≡ false) is_q passed)
      | inr twins ↦
          let order = (and_parts (is_same there.twin_ident y.twin_ident) (keep_order y || not (keep_order there)) twins).1 in
          elim (or_cases (keep_order y) (not (keep_order there)) order) [
            | inl keeps ↦ known_ordered k y at keeps none
            | inr other ↦ false≢true (sym (ap not ordered) ∙ other)
          ]
    ]

    jitter_there : (j : ℕ) (x y : FlowFrames) → slice_get all j ≡ Some (Some x) → slice_get others (place j) ≡ Some (Some y)
        → x.stream.jitter ≤ y.stream.jitter → Goes y
        → x.stream.jitter + buffered_for vs j ≤ y.stream.jitter + buffered_for ws (place j)
    jitter_there j x y at at_there less before = go (slice_index_or ws (place j) None) refl
      where
        go : (w : Option ℕ) → slice_index_or ws (place j) None ≡ w → x.stream.jitter + buffered_for vs j ≤ y.stream.jitter + buffered_for ws (place j)
        go None none = elim before [
          | inl precedes_it ↦ absurd (never_before (place j) y at_there none precedes_it)
          | inr keeps ↦ absurd (known_ordered (place j) y at_there keeps none)
        ]
        go (Some b) known =
            let (a, is_a, below) = known_here j (Some x) at b known in
            rw (known, is_a) (omega (arith, less, below))

    later_there : (j : ℕ) (x y : Option FlowFrames) → slice_get all j ≡ Some x → slice_get others (place j) ≡ Some y → Alike x y
        → AreFramesWhere unit Twins Goes (option_map (later_frames (buffered_for vs j)) x) (option_map (later_frames (buffered_for ws (place j))) y)
    later_there j None y at at_there alike = tt
    later_there j (Some x) None at at_there alike = absurd alike
    later_there j (Some x) (Some y) at at_there alike = (
      later_alike (buffered_for vs j) (buffered_for ws (place j)) x y alike.0,
      λ before. jitter_there j x y at at_there (alike.1 tt) before,
    )

    buffered_some : AreSome place (AreFramesWhere unit Twins Goes) (buffered vs all) (buffered ws others)
    buffered_some = record { rises = are.rises; each = each }
      where
        each : (j : ℕ) (z : Option FlowFrames) → slice_get (buffered vs all) j ≡ Some z
            → ValueAt (AreFramesWhere unit Twins Goes z) (buffered ws others) (place j)
        each j z its =
            let size = same_length vs all in
            let sum = same_length ws others in
            let low = slice_get_within (buffered vs all) j z its in
            let below : j < length all = omega (arith, size, low) in
            let x = get_or all j None in
            let at : slice_get all j ≡ Some x = slice_get-get_or all j None below in
            let stands = are.each j x at in
            let inside = slice_get_within others (place j) stands.value stands.value_is in
            let is_z : option_map (later_frames (buffered_for vs j)) x ≡ z =
            sym (buffered_read vs all j below) ∙ get_or_from_slice_get (buffered vs all) j z None its in
            let is_y : get_or others (place j) None ≡ stands.value = get_or_from_slice_get others (place j) stands.value None stands.value_is in
            record {
              value = option_map (later_frames (buffered_for ws (place j))) stands.value;
              value_is = slice_get-get_or (buffered ws others) (place j) None (omega (arith, sum, inside))
                  ∙ ap Some (buffered_read ws others (place j) inside ∙ ap (option_map (later_frames (buffered_for ws (place j)))) is_y);
              meets = subst (λ o. AreFramesWhere unit Twins Goes o (option_map (later_frames (buffered_for ws (place j))) stands.value)) is_z
                  (later_there j x stands.value at stands.value_is stands.meets);
            }

    -- at a place where these stand
    module _ (i : ℕ) (at_own : slice_get all i ≡ Some (Some own)) (at_there : slice_get others (place i) ≡ Some (Some there)) where
      abbrev Bound : Type 0
      Bound = WaitNoLonger (demands_of (buffered vs all)) (demands_of (buffered ws others)) (blocking_of timing own)
          (blocking_of busy there) (streams_before timing i own (buffered vs all)) (streams_before busy (place i) there (buffered ws others))

      own_late : own.stream.jitter ≤ there.stream.jitter
      own_late =
          let stands = are.each i (Some own) at_own in
          let same : stands.value ≡ Some there = same_Some stands.value (Some there) (sym stands.value_is ∙ at_there) in
          (subst (Alike (Some own)) same stands.meets).1 tt

      buffered_at : (waits : List (Option ℕ)) (xs : List (Option FlowFrames)) (j : ℕ) (x : FlowFrames) → slice_get xs j ≡ Some (Some x)
          → slice_get (buffered waits xs) j ≡ Some (Some (later_frames (buffered_for waits j) x))
      buffered_at waits xs j x its =
          let below = slice_get_within xs j (Some x) its in
          let size = same_length waits xs in
          slice_get-get_or (buffered waits xs) j None (omega (arith, below, size))
          ∙ ap Some (buffered_read waits xs j below ∙ ap (option_map (later_frames (buffered_for waits j))) (get_or_from_slice_get xs j (Some x) None its))

      bound : Bound
      bound = waits_there unit Twins one_twin timing unplanned range busier own there are_own Goes (λ y before. inl before) (buffered vs all)
          (buffered ws others)
          place buffered_some i (later_frames (buffered_for vs i) own) (later_frames (buffered_for ws (place i)) there) (buffered_at vs all i own at_own)
          (buffered_at ws others (place i) there at_there) (later_alike (buffered_for vs i) (buffered_for ws (place i)) own there are_own) refl refl refl
          (jitter_there i own there at_own at_there own_late (inr ordered))

    -- that of a flow whose sender keeps order
    module _ (i : ℕ) (at_own : slice_get all i ≡ Some (Some own)) (at_there : slice_get others (place i) ≡ Some (Some there))
        (same : AreAtOnePace own.stream there.stream) where
      abbrev its_bound : Bound i at_own at_there
      its_bound = bound i at_own at_there

      same_delay : (w : ℕ) → delay_of own.stream w ≡ delay_of there.stream w
      same_delay w = let jitter = same.jitter in let bits = same.bits in omega (arith, jitter, bits)

      -- where some wait is in time there one is in time here
      some_here : (most high w : ℕ) → high ≤ most → IsInTime busy (buffered ws others) (place i) there high w
          → HasNoneWithin timing (buffered vs all) i own most → ⊥
      some_here most high w more room never =
          let needs = its_bound.needs w in
          let fits = room.demand_fits in
          let late = same_delay w in
          let within = room.within in
          never w (record { demand_fits = omega (arith, needs, fits); within = omega (arith, late, within, more) })

      shorter : (most high a b : ℕ) → IsDelayWithin timing (buffered vs all) i own most a → IsDelayWithin busy (buffered ws others) (place i) there high b
          → a ≤ b
      shorter most high a b (v, fits, none, is_a) (w, room, least_w, is_b) =
          let less = its_bound.least v w none room.demand_fits in
          let late = same_delay w in
          omega (arith, is_a, is_b, less, late)

      short_no_later : (limit : ℕ) (d e : Delay) → IsShortDelay timing (buffered vs all) i own limit d → IsShortDelay busy (buffered ws others)
          (place i) there limit e
          → IsNoLater (Some d) (Some e)
      short_no_later limit (Long n) e here reported = absurd here
      short_no_later limit (Whole n) e here reported = absurd here
      short_no_later limit d (Long n) here reported = absurd reported
      short_no_later limit d (Whole n) here reported = absurd reported
      short_no_later limit d Late here reported = (d, refl)
      short_no_later limit (Within a) (Within b) here reported = (a, refl, shorter limit limit a b here reported)
      short_no_later limit (Beyond a) (Within b) here (w, room, least_w, is_b) = absurd (some_here limit limit w (omega arith) room here.0)
      short_no_later limit Late (Within b) here (w, room, least_w, is_b) = absurd (some_here limit limit w (omega arith) room here.0)
      short_no_later limit (Within a) (Beyond b) here reported = (a, inl refl, shorter limit there.stream.period a b here reported.1)
      short_no_later limit (Beyond a) (Beyond b) here reported = (a, inr refl, shorter own.stream.period there.stream.period a b here.1 reported.1)
      short_no_later limit Late (Beyond b) here (never, (w, room, least_w, is_b)) =
          let period = same.period in
          absurd (some_here own.stream.period there.stream.period w (omega (arith, period)) room here.1)

  wait_no_later : (x y : FlowFrames) → AreFrames unit Twins x y → keep_order y ≡ true
      → option_map_or (λ (n : ℕ). nat_lt n y.greatest_ident) (least_unbounded ws others) false ≡ false → (i : ℕ)
      → slice_get all i ≡ Some (Some x) → slice_get others (place i) ≡ Some (Some y) → (v : Option ℕ) (b : ℕ)
      → IsWaitOf timing (buffered vs all) i x v → IsWaitOf busy (buffered ws others) (place i) y (Some b) → (a : ℕ) × (v ≡ Some a) × (a ≤ b)
  wait_no_later x y alike ordered passed i at_x at_y None b none (short, fits, least_w) =
      let above = (bound x y alike ordered passed i at_x at_y).least (longest_wait timing + 1) b none fits in
      absurd (omega (arith, above, short))
  wait_no_later x y alike ordered passed i at_x at_y (Some a) b is_a (short, fits, least_w) =
      (a, refl, (bound x y alike ordered passed i at_x at_y).least a b is_a.2 fits)

  -- ---- any flow whose messages go in one frame each

  unpassed_here : (m n : ℕ) → m ≤ n → option_map_or (λ (k : ℕ). nat_lt k n) (least_unbounded ws others) false ≡ false
      → option_map_or (λ (k : ℕ). nat_lt k m) (least_unbounded vs all) false ≡ false
  unpassed_here m n mn none = go (least_unbounded vs all) refl
    where
      go : (o : Option ℕ) → least_unbounded vs all ≡ o → option_map_or (λ (k : ℕ). nat_lt k m) o false ≡ false
      go None is_o = refl
      go (Some p) is_o = elim (cases_Bool (nat_lt p m)) [
        | inr above ↦ above
        | inl below ↦
            let (q, is_q, low) = least_unbounded_there p is_o in
            let less = ltb-true p m below in
            absurd (true≢false (sym (lt-ltb q n (omega (arith, less, low, mn)))
            ∙ subst (λ o. option_map_or (λ (k : ℕ). nat_lt k n) o false ≡ false) is_q none))
      ]

  judged_no_later : (x y : FlowFrames) → AreAtOnePace x.stream y.stream → (limit p q : ℕ) → p ≤ q
      → IsNoLater (Some (judged x limit p)) (Some (judged y limit q))
  judged_no_later x y same limit p q less = elim (cases_Bool (nat_le q limit)) [
    | inl within ↦
        let low = leb-true q limit within in
        let fits : nat_le p limit ≡ true = le-leb p limit (omega (arith, low, less)) in
        rw (within, fits) (p, refl, less)
    | inr over ↦ elim (cases_Bool (nat_le q y.stream.period)) [
      | inr late ↦ rw (over, late) (judged x limit p, refl)
      | inl beyond ↦
          let low = leb-true q y.stream.period beyond in
          let period = same.period in
          let fits : nat_le p x.stream.period ≡ true = le-leb p x.stream.period (omega (arith, low, less, period)) in
          rw (over, beyond, fits) (either (nat_le p limit))
    ]
  ]
    where
      either : (t : Bool) → (a : ℕ) × ((Some (if t then Within p else Beyond p) ≡ Some (Within a))
          ⊎ (Some (if t then Within p else Beyond p) ≡ Some (Beyond a))) × (a ≤ q)
      either true = (p, inl refl, less)
      either false = (p, inr refl, less)

  any_no_later : (x y : FlowFrames) → AreAtOnePace x.stream y.stream → (limit : ℕ) (v w : Option ℕ) → ((b : ℕ) → w ≡ Some b → (a : ℕ) × (v ≡ Some a) × (a ≤ b))
      → IsNoLater (Some (any_delay x limit v)) (Some (any_delay y limit w))
  any_no_later x y same limit v None known = (any_delay x limit v, refl)
  any_no_later x y same limit v (Some w) known =
      let (a, is_a, below) = known w refl in
      let jitter = same.jitter in
      let bits = same.bits in
      let late : delay_of x.stream w ≡ delay_of y.stream w = omega (arith, jitter, bits) in
      rw (is_a) (judged_no_later x y same limit (delay_of x.stream a) (delay_of y.stream w) (omega (arith, below, late)))

  pub frame_no_later : (bp bw : Buffering) → IsBuffering timing ends all bp → IsBuffering busy ends others bw → bp.waits ≡ vs → bw.waits ≡ ws
      → (i : ℕ) (x y : FlowFrames) → slice_get all i ≡ Some (Some x) → slice_get others (place i) ≡ Some (Some y) → AreFrames unit Twins x y
      → AreAtOnePace x.stream y.stream → (limit : ℕ) (d e : Delay)
      → IsFrameDelay timing bp i x limit d → IsFrameDelay busy bw (place i) y limit e → IsNoLater (Some d) (Some e)
  frame_no_later bp bw is_p is_w waits_p waits_w i x y at at_y alike same limit d e reported there = elim (cases_Bool (keep_order x)) [
    | inr unordered ↦
        let there_un = same_order unit Twins one_twin x y alike ∙ unordered in
        let is_d : d ≡ any_delay x limit (slice_index_or vs i None) =
        subst (λ zs. d ≡ any_delay x limit (slice_index_or zs i None)) waits_p (in_any timing bp i x d unordered reported) in
        let is_e : e ≡ any_delay y limit (slice_index_or ws (place i) None) =
        subst (λ zs. e ≡ any_delay y limit (slice_index_or zs (place i) None)) waits_w (in_any busy bw (place i) y e there_un there) in
        subst (λ k. IsNoLater (Some k) (Some e)) (sym is_d) (subst (λ k. IsNoLater (Some (any_delay x limit (slice_index_or vs i None))) (Some k)) (sym is_e)
        (any_no_later x y same limit (slice_index_or vs i None) (slice_index_or ws (place i) None) (known_here i (Some x) at)))
    | inl keeps ↦
        let there_keeps = same_order unit Twins one_twin x y alike ∙ keeps in
        elim (in_order busy bw (place i) y e there_keeps there) [
          | inl late ↦ subst (λ k. IsNoLater (Some d) (Some k)) (sym late) (d, refl)
          | inr (unpassed, short) ↦
              let passed : option_map_or (λ (n : ℕ). nat_lt n y.greatest_ident) (least_unbounded ws others) false ≡ false =
              subst (λ zs. option_map_or (λ (n : ℕ). nat_lt n y.greatest_ident) (least_unbounded zs others) false ≡ false) waits_w
              (subst (λ o. option_map_or (λ (n : ℕ). nat_lt n y.greatest_ident) o false ≡ false) is_w.least_unbounded unpassed) in
              let unpassed_p : may_be_passed bp x.greatest_ident ≡ false =
              subst (λ o. option_map_or (λ (n : ℕ). nat_lt n x.greatest_ident) o false ≡ false) (sym is_p.least_unbounded)
              (subst (λ zs. option_map_or (λ (n : ℕ). nat_lt n x.greatest_ident) (least_unbounded zs all) false ≡ false) (sym waits_p)
              (unpassed_here x.greatest_ident y.greatest_ident alike.greatest passed)) in
              let short_p : IsShortDelay timing bp.frames i x limit d =
              subst (λ t. MatchBool t (d ≡ Late) (IsShortDelay timing bp.frames i x limit d)) unpassed_p
              (subst (λ t. MatchBool t (MatchBool (may_be_passed bp x.greatest_ident) (d ≡ Late) (IsShortDelay timing bp.frames i x limit d))
              (d ≡ any_delay x limit (slice_index_or bp.waits i None))) keeps reported) in
              short_no_later x y alike there_keeps passed i at at_y same limit d e
              (subst (λ fs. IsShortDelay timing fs i x limit d) (is_p.frames ∙ ap (λ zs. buffered zs all) waits_p) short_p)
              (subst (λ fs. IsShortDelay busy fs (place i) y limit e) (is_w.frames ∙ ap (λ zs. buffered zs others) waits_w) short)
        ]
  ]
    where
      in_any : (bus : Timing) (buffering : Buffering) (k : ℕ) (f : FlowFrames) (c : Delay) → keep_order f ≡ false → IsFrameDelay bus buffering k f limit c
          → c ≡ any_delay f limit (slice_index_or buffering.waits k None)
      in_any bus buffering k f c unordered is = subst (λ t. MatchBool t
          (MatchBool (may_be_passed buffering f.greatest_ident) (c ≡ Late) (IsShortDelay bus buffering.frames k f limit c))
          (c ≡ any_delay f limit (slice_index_or buffering.waits k None))) unordered is

      in_order : (bus : Timing) (buffering : Buffering) (k : ℕ) (f : FlowFrames) (c : Delay) → keep_order f ≡ true → IsFrameDelay bus buffering k f limit c
          → (c ≡ Late) ⊎ ((may_be_passed buffering f.greatest_ident ≡ false) × IsShortDelay bus buffering.frames k f limit c)
      in_order bus buffering k f c keeps is =
          let inner : MatchBool (may_be_passed buffering f.greatest_ident) (c ≡ Late) (IsShortDelay bus buffering.frames k f limit c) =
          subst (λ t. MatchBool t (MatchBool (may_be_passed buffering f.greatest_ident) (c ≡ Late) (IsShortDelay bus buffering.frames k f limit c))
          (c ≡ any_delay f limit (slice_index_or buffering.waits k None))) keeps is in
          elim (cases_Bool (may_be_passed buffering f.greatest_ident)) [
            | inl passed ↦ inl (subst (λ t. MatchBool t (c ≡ Late) (IsShortDelay bus buffering.frames k f limit c)) passed inner)
            | inr open_way ↦ inr (open_way, subst (λ t. MatchBool t (c ≡ Late) (IsShortDelay bus buffering.frames k f limit c)) open_way inner)
          ]

  -- ---- any frames, as far as their waits are reported

  pub wait_in_no_later : (bp bw : Buffering) → IsBuffering timing ends all bp → IsBuffering busy ends others bw → bp.waits ≡ vs → bw.waits ≡ ws
      → (i : ℕ) (x y : FlowFrames) → slice_get all i ≡ Some (Some x) → slice_get others (place i) ≡ Some (Some y) → AreFrames unit Twins x y
      → (v : Option ℕ) (b : ℕ)
      → IsWaitIn timing bp i x v → IsWaitIn busy bw (place i) y (Some b) → (a : ℕ) × (v ≡ Some a) × (a ≤ b)
  wait_in_no_later bp bw is_p is_w waits_p waits_w i x y at at_y alike v b reported there = elim (cases_Bool (keep_order x)) [
    | inr unordered ↦
        let there_un = same_order unit Twins one_twin x y alike ∙ unordered in
        let known = in_any busy bw (place i) y (Some b) there_un there in
        let (a, is_a, below) = known_here i (Some x) at b (subst (λ zs. slice_index_or zs (place i) None ≡ Some b) waits_w (sym known)) in
        (a, in_any timing bp i x v unordered reported ∙ subst (λ zs. slice_index_or zs i None ≡ Some a) (sym waits_p) is_a, below)
    | inl keeps ↦
        let there_keeps = same_order unit Twins one_twin x y alike ∙ keeps in
        let (unpassed, wait) = in_order busy bw (place i) y b there_keeps there in
        let passed : option_map_or (λ (n : ℕ). nat_lt n y.greatest_ident) (least_unbounded ws others) false ≡ false =
        subst (λ zs. option_map_or (λ (n : ℕ). nat_lt n y.greatest_ident) (least_unbounded zs others) false ≡ false) waits_w
        (subst (λ o. option_map_or (λ (n : ℕ). nat_lt n y.greatest_ident) o false ≡ false) is_w.least_unbounded unpassed) in
        let unpassed_p : may_be_passed bp x.greatest_ident ≡ false =
        subst (λ o. option_map_or (λ (n : ℕ). nat_lt n x.greatest_ident) o false ≡ false) (sym is_p.least_unbounded)
        (subst (λ zs. option_map_or (λ (n : ℕ). nat_lt n x.greatest_ident) (least_unbounded zs all) false ≡ false) (sym waits_p)
        (unpassed_here x.greatest_ident y.greatest_ident alike.greatest passed)) in
        let wait_p : IsWaitOf timing bp.frames i x v =
        subst (λ t. MatchBool t (v ≡ None) (IsWaitOf timing bp.frames i x v)) unpassed_p
        (subst (λ t. MatchBool t (MatchBool (may_be_passed bp x.greatest_ident) (v ≡ None) (IsWaitOf timing bp.frames i x v))
        (v ≡ slice_index_or bp.waits i None)) keeps reported) in
        wait_no_later x y alike there_keeps passed i at at_y v b
        (subst (λ fs. IsWaitOf timing fs i x v) (is_p.frames ∙ ap (λ zs. buffered zs all) waits_p) wait_p)
        (subst (λ fs. IsWaitOf busy fs (place i) y (Some b)) (is_w.frames ∙ ap (λ zs. buffered zs others) waits_w) wait)
  ]
    where
      in_any : (bus : Timing) (buffering : Buffering) (k : ℕ) (f : FlowFrames) (w : Option ℕ) → keep_order f ≡ false → IsWaitIn bus buffering k f w
          → w ≡ slice_index_or buffering.waits k None
      in_any bus buffering k f w unordered is = subst (λ t. MatchBool t
          (MatchBool (may_be_passed buffering f.greatest_ident) (w ≡ None) (IsWaitOf bus buffering.frames k f w))
          (w ≡ slice_index_or buffering.waits k None)) unordered is

      in_order : (bus : Timing) (buffering : Buffering) (k : ℕ) (f : FlowFrames) (n : ℕ) → keep_order f ≡ true → IsWaitIn bus buffering k f (Some n)
          → (may_be_passed buffering f.greatest_ident ≡ false) × IsWaitOf bus buffering.frames k f (Some n)
      in_order bus buffering k f n keeps is =
          let inner : MatchBool (may_be_passed buffering f.greatest_ident) (Some n ≡ None) (IsWaitOf bus buffering.frames k f (Some n)) =
          subst (λ t. MatchBool t (MatchBool (may_be_passed buffering f.greatest_ident) (Some n ≡ None) (IsWaitOf bus buffering.frames k f (Some n)))
          (Some n ≡ slice_index_or buffering.waits k None)) keeps is in
          elim (cases_Bool (may_be_passed buffering f.greatest_ident)) [
            | inl passed ↦ absurd (none-some n (sym (subst (λ t. MatchBool t (Some n ≡ None) (IsWaitOf bus buffering.frames k f (Some n))) passed inner)))
            | inr open_way ↦ (open_way, subst (λ t. MatchBool t (Some n ≡ None) (IsWaitOf bus buffering.frames k f (Some n))) open_way inner)
          ]
