-- Frames of units that keep no order: a bus keeps to the premises of their queue groups; so they are in time there for which the wait that is reported has
-- room.
use Rattle.std.proofs.Common.{◌≡◌, ℕ, zero, suc, ◌+◌, ◌^◌, ◌<◌, ◌≤◌, ◌⊎◌, Bool, true, false, not, ◌||◌, eqb, ltb, if◌then◌else◌, List, []}
use Rattle.std.proofs.Common.{◌∷◌, ◌++◌, length, get_or, min, All, IfSome, unwrap_or, is_some, max, Option, Some, None, refl, sym, ap, ◌∙◌, subst, inl, inr}
use Rattle.std.proofs.Common.{arith}
use Rattle.std.proofs.lemmas.Bool.{eq-eqb, eqb-true, false≢true, lt-ltb, ltb-true, or_cases, or_left, or_right}
use Rattle.std.proofs.lemmas.Bool.{true≢false}
use Rattle.std.proofs.lemmas.Bool.Decides.{eqb_tells}
use Rattle.std.proofs.lemmas.List.FromFn.{get_or-map-range_with_len}
use Rattle.std.proofs.lemmas.Option.{none-some, same_Some}
use Rattle.std.specs.Bool.{MatchBool}
use Rattle.std.specs.Option.{option_map_or}
use Rattle.j39_id.specs.Limits.{unit_limit}
use Rattle.j39_network.specs.declared.plan.timing.Timing.{Timing}
use Rattle.j39_load.specs.declared.frames.flow_frames.FlowFrames.{FlowFrames}
use Rattle.j39_load.specs.Ages.{least, smaller_known}
use Rattle.j39_load.specs.AnyQueues.{AreAtMost, IsQueueGroupLevel, IsQueueGroupWait, IsBufferedFor, AreBufferingDelays, are_of_unit}
use Rattle.j39_load.specs.AnyQueues.{is_member, is_of_queue_group, keep_order, least_of, leasts_of}
use Rattle.j39_load.specs.AnyQueues.{own_least, with_unplanned}
use Rattle.j39_load.specs.Damage.{damage_frames}
use Rattle.j39_load.specs.LineLists.{lines_of_each}
use Rattle.j39_load.specs.PlannedFrames.{AreFramesInAnyOrder, KeepToQueueGroup, queue_group_of, no_frames, planned_at, traffic_of}
use Rattle.j39_load.proofs.LeastKnown.{least_of_both}
use Rattle.j39_load.proofs.QueueGroupStreams.{queue_group_fits}
use Rattle.j39_load.proofs.PositivePeriods.{HasPeriod}
use Rattle.j39_load.proofs.Sending.{IsSent}
use Rattle.j39_load.proofs.StreamsBefore.{get_or_inside, with_damage}
use Rattle.j39_timing.specs.AnyOrder.{AreBegunWithin, Controllers, IsLegalInAnyOrder, IsUnordered}
use Rattle.j39_timing.specs.QueueGroups.{QueueGroup, IsTrafficOfQueueGroup, is_with_queue_group}
use Rattle.j39_timing.specs.FrameBits.{longest_frame}
use Rattle.j39_timing.specs.Messages.{AreSentWithin}
use Rattle.j39_timing.specs.TimedFrames.{Schedule}
use Rattle.j39_timing.specs.FrameStreams.{Origins}
use Rattle.j39_timing.specs.Traffic.{IsStreamInTime}
use Rattle.j39_timing.proofs.QueueGroupTraffic.{begun_within, queue_group_in_time, queue_group_sent}

-- ---- the least of what is reported of places

smaller_left : (p q : Option ℕ) (a : ℕ) → p ≡ Some a → (n : ℕ) × (smaller_known p q ≡ Some n) × (n ≤ a)
smaller_left None q a is = absurd (none-some a is)
smaller_left (Some x) None a is = let same : x ≡ a = same_Some x a is in (x, refl, omega (arith, same))
smaller_left (Some x) (Some y) a is = let same : x ≡ a = same_Some x a is in (min x y, refl, omega (arith, same))

smaller_right : (p q : Option ℕ) (a n : ℕ) → q ≡ Some n → n ≤ a → (m : ℕ) × (smaller_known p q ≡ Some m) × (m ≤ a)
smaller_right p None a n is le = absurd (none-some n is)
smaller_right None (Some y) a n is le = let same : y ≡ n = same_Some y n is in (y, refl, omega (arith, same, le))
smaller_right (Some x) (Some y) a n is le = let same : y ≡ n = same_Some y n is in (min x y, refl, omega (arith, same, le))

pub least_within : (report : ℕ → Option FlowFrames → List ℕ) (place : ℕ) (xs : List (Option FlowFrames)) (k a : ℕ) → k < length xs
    → least (report (place + k) (get_or xs k None)) ≡ Some a → (n : ℕ) × (least (lines_of_each report place xs) ≡ Some n) × (n ≤ a)
unfolding lines_of_each
least_within report place [] k a below is = absurd (omega arith)
least_within report place (x ∷ xs) zero a below is =
    let (n, stated, le) = smaller_left (least (report place x)) (least (lines_of_each report (place + 1) xs)) a
    (ap (λ (m : ℕ). least (report m x)) (omega arith) ∙ is) in
    (n, least_of_both (report place x) (lines_of_each report (place + 1) xs) ∙ stated, le)
least_within report place (x ∷ xs) (suc k) a below is =
    let (n, rest, few) = least_within report (place + 1) xs k a (omega (arith, below))
    (ap (λ (m : ℕ). least (report m (get_or xs k None))) (omega arith) ∙ is) in
    let (m, stated, le) = smaller_right (least (report place x)) (least (lines_of_each report (place + 1) xs)) a n rest few in
    (m, least_of_both (report place x) (lines_of_each report (place + 1) xs) ∙ stated, le)

-- ---- units of frames

-- frames of a unit that keeps no order
pub unordered_of : (a b : Option ℕ) (u : ℕ) → (option_map_or (λ (v : ℕ). eqb v u) a false || option_map_or (λ (v : ℕ). eqb v u) b false) ≡ true
    → not (is_some a || is_some b) ≡ false
unordered_of None None u is = absurd (false≢true is)
unordered_of (Some x) b u is = refl
unordered_of None (Some y) u is = refl

module _ (m : ℕ → Bool) where
  -- of frames of a queue group one unit is a member
  unordered_with : (a b : Option ℕ) → (option_map_or m a false || option_map_or m b false) ≡ true → not (is_some a || is_some b) ≡ false
  unordered_with None None is = absurd (false≢true is)
  unordered_with (Some x) b is = refl
  unordered_with None (Some y) is = refl

  -- a member's frames are of the queue group
  of_member : (a b : Option ℕ) (u : ℕ) → (option_map_or (λ (v : ℕ). eqb v u) a false || option_map_or (λ (v : ℕ). eqb v u) b false) ≡ true → m u ≡ true
      → (option_map_or m a false || option_map_or m b false) ≡ true
  of_member a b u is member =
      elim (or_cases (option_map_or (λ (v : ℕ). eqb v u) a false) (option_map_or (λ (v : ℕ). eqb v u) b false) is) [
        | inl one ↦ or_left (option_map_or m a false) (option_map_or m b false) (its a one)
        | inr other ↦ or_right (option_map_or m a false) (option_map_or m b false) (its b other)
      ]
    where
      its : (o : Option ℕ) → option_map_or (λ (v : ℕ). eqb v u) o false ≡ true → option_map_or m o false ≡ true
      its None at = absurd (false≢true at)
      its (Some v) at = let same : v ≡ u = eqb-true v u at in subst (λ (n : ℕ). m n ≡ true) (sym same) member

  -- where frames have one unit it is the member; else they have two
  member_or_both : (a b : Option ℕ) (u : ℕ) → (option_map_or (λ (v : ℕ). eqb v u) a false || option_map_or (λ (v : ℕ). eqb v u) b false) ≡ true
      → (option_map_or m a false || option_map_or m b false) ≡ true → (m u ≡ true) ⊎ (is_some b ≡ true)
  member_or_both a (Some w) u is has = inr refl
  member_or_both None None u is has = absurd (false≢true is)
  member_or_both (Some v) None u is has =
      elim (or_cases (eqb v u) false is) [
        | inr none ↦ absurd (false≢true none)
        | inl same ↦ elim (or_cases (m v) false has) [
          | inr none ↦ absurd (false≢true none)
          | inl member ↦ inl (subst (λ (n : ℕ). m n ≡ true) (eqb-true v u same) member)
        ]
      ]

  -- some unit of frames of which one keeps no order
  some_end : (a b : Option ℕ) → not (is_some a || is_some b) ≡ false
      → ((u : ℕ) → (option_map_or (λ (v : ℕ). eqb v u) a false || option_map_or (λ (v : ℕ). eqb v u) b false) ≡ true → m u ≡ true)
      → (option_map_or m a false || option_map_or m b false) ≡ true
  some_end None None kept all = absurd (true≢false kept)
  some_end (Some v) b kept all = or_left (m v) (option_map_or m b false)
      (all v (or_left (eqb v v) (option_map_or (λ (w : ℕ). eqb w v) b false) (eq-eqb v v refl)))
  some_end None (Some v) kept all = or_right false (m v) (all v (or_right false (eqb v v) (eq-eqb v v refl)))

-- where frames are of a unit there are some
pub found : (asked : List (Option FlowFrames)) (j u : ℕ) → are_of_unit (planned_at asked j) u ≡ true → (x : FlowFrames) × (get_or asked j None ≡ Some x)
found asked j u is = go (get_or asked j None) refl
  where
    go : (o : Option FlowFrames) → get_or asked j None ≡ o → (x : FlowFrames) × (get_or asked j None ≡ Some x)
    go None at = absurd (false≢true (subst (λ (o : Option FlowFrames). are_of_unit (unwrap_or o no_frames) u ≡ true) at is))
    go (Some x) at = (x, at)

pub read : (asked : List (Option FlowFrames)) (j : ℕ) (x : FlowFrames) → get_or asked j None ≡ Some x → planned_at asked j ≡ x
read asked j x at = ap (λ (o : Option FlowFrames). unwrap_or o no_frames) at

module _ (timing : Timing) (ends : ℕ) (asked : List (Option FlowFrames)) (paced : All HasPeriod (asked ++ damage_frames timing))
    (sent : All (λ (f : Option FlowFrames). IfSome f IsSent) asked) where
  abbrev all : List (Option FlowFrames)
  all = asked ++ damage_frames timing

  abbrev leasts : List (Option ℕ)
  leasts = leasts_of asked

  pub positive : (j : ℕ) → j < (traffic_of all).count → 0 < ((traffic_of all).stream j).period
  positive j below = go (get_or all j None) (paced j None below)
    where
      go : (frames : Option FlowFrames) → HasPeriod frames → 0 < (unwrap_or frames no_frames).stream.period
      go None known = omega arith
      go (Some frames) known = known

  is_sent : (j : ℕ) (x : FlowFrames) → get_or asked j None ≡ Some x → IsSent x
  is_sent j x at = subst (λ (o : Option FlowFrames). IfSome o IsSent) at (sent j None (get_or_inside asked j x at))

  -- the least identifier of a unit's frames
  least_known : (j : ℕ) (x : FlowFrames) (u : ℕ) → get_or asked j None ≡ Some x → are_of_unit x u ≡ true
      → (l : ℕ) × (get_or leasts u None ≡ Some l) × (l ≤ x.least_ident)
  least_known j x u at its =
      let inside = get_or_inside asked j x at in
      let own : least (own_least u (0 + j) (get_or asked j None)) ≡ Some x.least_ident =
      subst (λ (o : Option FlowFrames). least (own_least u (0 + j) o) ≡ Some x.least_ident) (sym at)
      (ap (λ (b : Bool). least (if b then x.least_ident ∷ [] else [])) its) in
      let (n, stated, le) = least_within (own_least u) 0 asked j x.least_ident inside own in
      let placed : u < unit_limit = (is_sent j x at).placed u its in
      (n, get_or-map-range_with_len (least_of asked) 0 unit_limit u u None placed (omega arith) ∙ stated, le)

  -- ---- a queue group

  module _ (own : FlowFrames) (level : ℕ) (is_level : IsQueueGroupLevel leasts asked (with_unplanned timing ends own) level) where
    abbrev own_too : FlowFrames
    own_too = with_unplanned timing ends own

    abbrev has_member : ℕ → Bool
    has_member u = is_member leasts own_too level u

    member_below : (u l : ℕ) → get_or leasts u None ≡ Some l → l < level → has_member u ≡ true
    member_below u l at less =
        subst (λ (o : Option ℕ). option_map_or (λ (low : ℕ). are_of_unit own_too u || ltb low level) o false ≡ true) (sym at)
        (or_right (are_of_unit own_too u) (ltb l level) (lt-ltb l level less))

    member_own : (u l : ℕ) → get_or leasts u None ≡ Some l → are_of_unit own u ≡ true → has_member u ≡ true
    member_own u l at its =
        subst (λ (o : Option ℕ). option_map_or (λ (low : ℕ). are_of_unit own_too u || ltb low level) o false ≡ true) (sym at)
        (or_left (are_of_unit own_too u) (ltb l level) its)

    -- frames of the queue group keep to the level
    at_level : (j : ℕ) (x : FlowFrames) → get_or asked j None ≡ Some x → is_of_queue_group leasts own_too level x ≡ true → x.last_ident ≤ level
    at_level j x at has =
        let most : is_of_queue_group leasts own_too level x ≡ true → x.last_ident ≤ level =
        subst (λ (o : Option FlowFrames). AreAtMost leasts own_too level level o) at (is_level.is.queue_group j None (get_or_inside asked j x at)) in
        most has

    -- its own frames are
    own_with : (j : ℕ) → get_or asked j None ≡ Some own → keep_order own ≡ false → is_of_queue_group leasts own_too level own ≡ true
    own_with j at kept = some_end has_member own.any_sender own.any_receiver kept
        (λ u its. let (l, known, le) = least_known j own u at its in member_own u l known its)

    -- a unit of frames that are of the queue group, or go before it, is a member
    unit_with : (j : ℕ) (x : FlowFrames) (u ident : ℕ) → get_or asked j None ≡ Some x → are_of_unit x u ≡ true → x.least_ident ≤ ident
        → (is_of_queue_group leasts own_too level x ≡ true) ⊎ (ident < level) → has_member u ≡ true
    unit_with j x u ident at its low (inr below) =
        let (l, known, le) = least_known j x u at its in
        member_below u l known (omega (arith, le, low, below))
    unit_with j x u ident at its low (inl has) =
        let (l, known, le) = least_known j x u at its in
        elim (member_or_both has_member x.any_sender x.any_receiver u its has) [
          | inl member ↦ member
          | inr both ↦
              let rises : x.least_ident < x.last_ident = (is_sent j x at).rises both in
              let most : x.last_ident ≤ level = at_level j x at has in
              member_below u l known (omega (arith, le, rises, most))
        ]

    last_above : 0 < timing.unplanned → ends ≤ level
    last_above some =
        let most : own_too.last_ident ≤ level = is_level.is.own_frames in
        let isnt : eqb timing.unplanned 0 ≡ false = elim (eqb_tells timing.unplanned 0) [
          | inl both ↦ absurd (let none : timing.unplanned ≡ 0 = both.1 in omega (arith, none, some))
          | inr apart ↦ apart.0
        ] in
        let last : own_too.last_ident ≡ max own.last_ident ends = ap (λ (b : Bool). if b then own.last_ident else max own.last_ident ends) isnt in
        omega (arith, most, last)

    module _ (s : Schedule) (controllers : Controllers) (planned : ℕ → Bool) (of : Origins) (i : ℕ)
        (known : AreFramesInAnyOrder timing ends asked s controllers planned of i)
        (keeps : KeepToQueueGroup timing ends s planned of (queue_group_of timing ends asked own level)) where
      abbrev queue_group : QueueGroup
      queue_group = queue_group_of timing ends asked own level

      from_least : (p : ℕ) → p < s.count → planned p ≡ true → (x : FlowFrames) → get_or asked (of.source p) None ≡ Some x → x.least_ident ≤ s.ident p
      from_least p in_p is x at =
          subst (λ (f : FlowFrames). f.least_ident ≤ s.ident p) (with_damage timing asked (of.source p) x at) (known.known.from_least p in_p is)

      closed : (p q : ℕ) → p < s.count → q < s.count → planned p ≡ true → planned q ≡ true → controllers.unit q ≡ controllers.unit p
          → IsUnordered controllers p → is_with_queue_group s of queue_group p ≡ true → queue_group.has (of.source q) ≡ true
      closed p q in_p in_q is_p is_q same un goes =
          let u = controllers.unit p in
          let un_q : IsUnordered controllers q = subst (λ (v : ℕ). controllers.keeps_order v ≡ false) (sym same) un in
          let of_p : are_of_unit (planned_at asked (of.source p)) u ≡ true = known.of_unit p in_p is_p un in
          let of_q : are_of_unit (planned_at asked (of.source q)) u ≡ true =
          subst (λ (v : ℕ). are_of_unit (planned_at asked (of.source q)) v ≡ true) same (known.of_unit q in_q is_q un_q) in
          let (x, at) = found asked (of.source p) u of_p in
          let here = read asked (of.source p) x at in
          let its : are_of_unit x u ≡ true = subst (λ (f : FlowFrames). are_of_unit f u ≡ true) here of_p in
          let low = from_least p in_p is_p x at in
          let member : has_member u ≡ true = elim (or_cases (queue_group.has (of.source p)) (ltb (s.ident p) level) goes) [
            | inl has ↦ unit_with (of.source p) x u (s.ident p) at its low
                (inl (subst (λ (f : FlowFrames). is_of_queue_group leasts own_too level f ≡ true) here has))
            | inr below ↦ unit_with (of.source p) x u (s.ident p) at its low (inr (ltb-true (s.ident p) level below))
          ] in
          of_member has_member (planned_at asked (of.source q)).any_sender (planned_at asked (of.source q)).any_receiver u of_q member

      to_level : (p : ℕ) → p < s.count → planned p ≡ true → queue_group.has (of.source p) ≡ true → s.ident p ≤ level
      to_level p in_p is has =
          let kept : keep_order (planned_at asked (of.source p)) ≡ false =
          unordered_with has_member (planned_at asked (of.source p)).any_sender (planned_at asked (of.source p)).any_receiver has in
          let last = known.to_last p in_p is kept in
          go (get_or asked (of.source p) None) refl last
        where
          go : (o : Option FlowFrames) → get_or asked (of.source p) None ≡ o → s.ident p ≤ (planned_at asked (of.source p)).last_ident → s.ident p ≤ level
          go None at last = absurd (false≢true (subst (λ (o : Option FlowFrames). is_of_queue_group leasts own_too level (unwrap_or o no_frames)
              ≡ true) at has))
          go (Some x) at last =
              let here = read asked (of.source p) x at in
              let most = at_level (of.source p) x at (subst (λ (f : FlowFrames). is_of_queue_group leasts own_too level f ≡ true) here has) in
              let it : s.ident p ≤ x.last_ident = subst (λ (f : FlowFrames). s.ident p ≤ f.last_ident) here last in
              omega (arith, most, it)

      pub queue_group_known : IsTrafficOfQueueGroup s controllers (traffic_of all) timing.unplanned (longest_frame 8) planned of queue_group
      queue_group_known = record {
        longest_at_most = known.known.longest_at_most;
        of_streams = known.known.of_streams;
        as_wanted = known.known.as_wanted;
        from_least = known.known.from_least;
        to_level = to_level;
        closed = closed;
        own_identifiers = keeps.own_identifiers;
        few_unplanned = keeps.few_unplanned;
        above_unplanned = λ p in_p isnt seen some.
            let few : s.ident p < ends = keeps.identifiers p in_p isnt seen in
            let high = last_above some in
            omega (arith, few, high);
      }

  -- ---- frames of units that keep no order

  module _ (s : Schedule) (controllers : Controllers) (planned : ℕ → Bool) (of : Origins) (legal : IsLegalInAnyOrder s controllers) (i : ℕ)
      (known : AreFramesInAnyOrder timing ends asked s controllers planned of i) where
    module _ (j : ℕ) (own : FlowFrames) (at : get_or asked j None ≡ Some own) (kept : keep_order own ≡ false)
        (goes : (j ≡ i) ⊎ ((planned_at asked j).least_ident < (planned_at asked i).greatest_ident)) (wait : ℕ)
        (waits : IsQueueGroupWait timing ends leasts asked own (Some wait)) where
      here : planned_at asked j ≡ own
      here = read asked j own at

      keeps : KeepToQueueGroup timing ends s planned of (queue_group_of timing ends asked own waits.level)
      keeps = subst (λ (f : FlowFrames). KeepToQueueGroup timing ends s planned of (queue_group_of timing ends asked f waits.level)) here
          (known.queue_groups j waits.level goes (subst (λ (f : FlowFrames). keep_order f ≡ false) (sym here) kept)
          (subst (λ (f : FlowFrames). IsQueueGroupLevel leasts asked (with_unplanned timing ends f) waits.level) (sym here) waits.of_queue_group))

      its_traffic : IsTrafficOfQueueGroup s controllers (traffic_of all) timing.unplanned (longest_frame 8) planned of
          (queue_group_of timing ends asked own waits.level)
      its_traffic = queue_group_known own waits.level waits.of_queue_group s controllers planned of i known keeps

      member : (queue_group_of timing ends asked own waits.level).has j ≡ true
      member = subst (λ (f : FlowFrames). is_of_queue_group leasts (with_unplanned timing ends own) waits.level f ≡ true) (sym here)
          (own_with own waits.level waits.of_queue_group j at kept)

      there : planned_at all j ≡ own
      there = with_damage timing asked j own at

      small : ((traffic_of all).stream j).bits ≤ longest_frame 8
      small = subst (λ (f : FlowFrames). f.stream.bits ≤ 160) (sym there) (is_sent j own at).short

      pub begun : AreBegunWithin s planned of j wait
      begun = begun_within s controllers (traffic_of all) timing.unplanned (longest_frame 8) planned of (queue_group_of timing ends asked own waits.level) legal
          its_traffic positive j wait member small (queue_group_fits timing ends asked own waits.level wait j there waits.least_wait.1)

      pub any_in_time : IsStreamInTime s planned of j own.stream wait
      any_in_time = subst (λ (f : FlowFrames). IsStreamInTime s planned of j f.stream wait) there
          (queue_group_in_time s controllers (traffic_of all) timing.unplanned (longest_frame 8) planned of
          (queue_group_of timing ends asked own waits.level) legal
          its_traffic positive j wait member small (queue_group_fits timing ends asked own waits.level wait j there waits.least_wait.1))

      pub any_sent : AreSentWithin s planned of j own.stream wait
      any_sent = subst (λ (f : FlowFrames). AreSentWithin s planned of j f.stream wait) there
          (queue_group_sent s controllers (traffic_of all) timing.unplanned (longest_frame 8) planned of
          (queue_group_of timing ends asked own waits.level) legal
          its_traffic positive j wait member small (queue_group_fits timing ends asked own waits.level wait j there waits.least_wait.1))

  -- the wait that is reported of such frames
  pub wait_of_queue_group : (waits : List (Option ℕ)) → AreBufferingDelays timing ends asked waits → (j : ℕ) (x : FlowFrames) → get_or asked j None ≡ Some x
      → keep_order x ≡ false → (wait : ℕ) → get_or waits j None ≡ Some wait → IsQueueGroupWait timing ends leasts asked x (Some wait)
  wait_of_queue_group waits states j x at kept wait known =
      let held : IsBufferedFor timing ends asked (Some x) (get_or waits j None) =
      subst (λ (o : Option FlowFrames). IsBufferedFor timing ends asked o (get_or waits j None)) at (states.each j (get_or_inside asked j x at)) in
      let by_queue_group : IsQueueGroupWait timing ends leasts asked x (get_or waits j None) =
      subst (λ (b : Bool). MatchBool b (get_or waits j None ≡ Some 0) (IsQueueGroupWait timing ends leasts asked x (get_or waits j None))) kept held in
      subst (IsQueueGroupWait timing ends leasts asked x) known by_queue_group
