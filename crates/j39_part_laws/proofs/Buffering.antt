-- Frames of units that keep no order wait no longer in a part.
use Rattle.std.proofs.Common.{◌≡◌, ◌≢◌, ◌⊎◌, ℕ, ◌+◌, ◌^◌, ◌<◌, ◌≤◌, max, min, Bool, true, false, ◌||◌, ◌==◌, nat_lt, if◌then◌else◌, get_or}
use Rattle.std.proofs.Common.{List, [], ◌∷◌, Option, Some, None, option_map, refl, sym, ◌∙◌, ap, subst, inl, inr, arith, slice_index_or}
use Rattle.std.specs.Bool.{MatchBool}
use Rattle.std.specs.List.{filter_map}
use Rattle.std.specs.Option.{option_map_or}
use Rattle.std.proofs.lemmas.Bool.{cases_Bool, cases_eq, cases_lt, eq-eqb, eqb-true, false≢true, lt-ltb, ltb-true, ne_eqb, or_cases, or_left, or_right}
use Rattle.std.proofs.lemmas.List.{get_or_past}
use Rattle.std.proofs.lemmas.List.FromFn.{get_or-map-range_with_len, length-map-range_with_len}
use Rattle.std.proofs.lemmas.Option.{none-some, same_Some, slice_get-get_or}
use Rattle.j39_network.specs.declared.plan.timing.Timing.{Timing}
use Rattle.j39_search.proofs.Members.{all_at}
use Rattle.j39_load.specs.declared.frames.flow_frames.FlowFrames.{FlowFrames}
use Rattle.j39_load.specs.Ages.{least, smaller_known}
use Rattle.j39_load.specs.AnyQueues.{are_of_unit, AreAtMost, blocking_with, IsBufferedFor, IsLevel, is_member, is_of_queue_group, IsQueueGroupWait}
use Rattle.j39_load.specs.AnyQueues.{IsWaitWith, keep_order, least_of, leasts_of, own_least, stream_with, streams_with, with_unplanned}
use Rattle.j39_load.specs.Damage.{damage_streams}
use Rattle.j39_load.specs.Demands.{demands_of}
use Rattle.j39_load.specs.LineLists.{lines_of_each}
use Rattle.j39_load.specs.Loads.{longest_wait}
use Rattle.j39_timing.specs.declared.stream.Stream.{Stream}
use Rattle.j39_part_laws.specs.PartLoads.{counting}
use Rattle.j39_part_laws.specs.PlanParts.{AreSome}
use Rattle.j39_part_laws.specs.Shares.{AsksNoMore, WaitNoLonger}
use Rattle.j39_part_laws.specs.Sublists.{IsSub}
use Rattle.j39_part_laws.proofs.Frames.{AreFrames, AreFramesWhere, asks_no_more, damage_asks, same_order}
use Rattle.j39_part_laws.proofs.Shares.{are_bounded}
use Rattle.j39_part_laws.proofs.Sublists.{sub_append, sub_filter, sub_lines, sub_of_some}

-- ---- least numbers

abbrev pub IsNoLess : ℕ → ℕ → Type 0
IsNoLess m n = n ≤ m

with_more : (n : ℕ) (o : Option ℕ) (m : ℕ) → (q : ℕ) × (o ≡ Some q) × (q ≤ m) → (q : ℕ) × (smaller_known (Some n) o ≡ Some q) × (q ≤ m)
with_more n o m (q, its, below) = (min n q, ap (smaller_known (Some n)) its, omega (arith, below))

pub least_sub : (ms ns : List ℕ) → IsSub IsNoLess ms ns → (m : ℕ) → least ms ≡ Some m → (n : ℕ) × (least ns ≡ Some n) × (n ≤ m)
least_sub [] ns sub m its = absurd (none-some m its)
least_sub (k ∷ ks) [] sub m its = absurd sub
least_sub (k ∷ ks) (n ∷ ns) (inr later) m its = with_more n (least ns) m (least_sub (k ∷ ks) ns later m its)
least_sub (k ∷ ks) (n ∷ ns) (inl (le, left)) m its = go (least ks) (least ns) its (λ p is_p. least_sub ks ns left p is_p)
  where
    go : (o q : Option ℕ) → smaller_known (Some k) o ≡ Some m → ((p : ℕ) → o ≡ Some p → (r : ℕ) × (q ≡ Some r) × (r ≤ p))
        → (r : ℕ) × (smaller_known (Some n) q ≡ Some r) × (r ≤ m)
    go None None is_m rest = let same = same_Some k m is_m in (n, refl, omega (arith, same, le))
    go None (Some q) is_m rest = let same = same_Some k m is_m in (min n q, refl, omega (arith, same, le))
    go (Some p) q is_m rest =
        let same = same_Some (min k p) m is_m in
        let (r, is_r, below) = rest p refl in
        (min n r, ap (smaller_known (Some n)) is_r, omega (arith, same, le, below))

module _ (unit : ℕ → ℕ) (Twins : ℕ → ℕ → Type 0) (one_twin : (m n o : ℕ) → Twins m n → Twins m o → n ≡ o) where
  abbrev pub Always : FlowFrames → Type 0
  Always y = Unit {0}

  -- ---- whose frames these are

  equal_there : (u : ℕ) (o : Option ℕ) → option_map_or (λ v. v == u) o false ≡ true → option_map_or (λ v. v == unit u) (option_map unit o) false ≡ true
  equal_there u None same = absurd (false≢true same)
  equal_there u (Some v) same = eq-eqb (unit v) (unit u) (ap unit (eqb-true v u same))

  of_unit_there : (u : ℕ) (x y : FlowFrames) → AreFrames unit Twins x y → are_of_unit x u ≡ true → are_of_unit y (unit u) ≡ true
  of_unit_there u x y are its = elim (or_cases (option_map_or (λ v. v == u) x.any_sender false) (option_map_or (λ v. v == u) x.any_receiver false) its) [
    | inl sender ↦ or_left (option_map_or (λ v. v == unit u) y.any_sender false) (option_map_or (λ v. v == unit u) y.any_receiver false)
        (subst (λ o. option_map_or (λ v. v == unit u) o false ≡ true) (sym are.sender) (equal_there u x.any_sender sender))
    | inr receiver ↦ or_right (option_map_or (λ v. v == unit u) y.any_sender false) (option_map_or (λ v. v == unit u) y.any_receiver false)
        (subst (λ o. option_map_or (λ v. v == unit u) o false ≡ true) (sym are.receiver) (equal_there u x.any_receiver receiver))
  ]

  leasts_read : (all : List (Option FlowFrames)) (u : ℕ) → u < 128 → slice_index_or (leasts_of all) u None ≡ least_of all u
  leasts_read all u few = get_or-map-range_with_len (least_of all) 0 128 u u None few (omega arith)

  leasts_past : (all : List (Option FlowFrames)) (u : ℕ) → 128 ≤ u → slice_index_or (leasts_of all) u None ≡ None
  leasts_past all u above =
      let size = length-map-range_with_len (least_of all) 0 128 in
      get_or_past (leasts_of all) u None (omega (arith, size, above))

  -- the same frames, where the last identifier counts that unplanned ones may have
  unplanned_alike : (ends : ℕ) (timing : Timing) (unplanned : ℕ) (range : unplanned ≤ 1000) (busier : timing.unplanned ≤ unplanned) (x y : FlowFrames)
      → AreFrames unit Twins x y → AreFrames unit Twins (with_unplanned timing ends x) (with_unplanned (counting timing unplanned range) ends y)
  unplanned_alike ends timing unplanned range busier x y are = record {
    frames = are.frames;
    bits = are.bits;
    positive = are.positive;
    period = are.period;
    wanted = are.wanted;
    least = are.least;
    greatest = are.greatest;
    last = either (cases_eq unplanned 0);
    sender = are.sender;
    receiver = are.receiver;
    few_sender = are.few_sender;
    few_receiver = are.few_receiver;
    twin = are.twin;
    want = are.want;
  }
    where
      at_most : (b : Bool) → (if b then x.last_ident else max x.last_ident ends) ≤ max y.last_ident ends
      at_most true = let last = are.last in omega (arith, last)
      at_most false = let last = are.last in omega (arith, last)

      either : (unplanned ≡ 0) ⊎ (unplanned ≢ 0)
          → (if timing.unplanned == 0 then x.last_ident else max x.last_ident ends) ≤ (if unplanned == 0 then y.last_ident else max y.last_ident ends)
      either (inl none) =
          let neither : timing.unplanned ≡ 0 = omega (arith, none, busier) in
          rw (eq-eqb timing.unplanned 0 neither, eq-eqb unplanned 0 none) are.last
      either (inr some) = rw (ne_eqb unplanned 0 some) (at_most (timing.unplanned == 0))

  module _ (timing : Timing) (unplanned : ℕ) (range : unplanned ≤ 1000) (busier : timing.unplanned ≤ unplanned) (all others : List (Option FlowFrames))
      (place : ℕ → ℕ)
      (are : AreSome place (AreFramesWhere unit Twins Always) all others) where
    abbrev busy : Timing
    busy = counting timing unplanned range

    -- ---- queue groups

    own_least_there : (u j k : ℕ) (x y : Option FlowFrames) → AreFramesWhere unit Twins Always x y → IsSub IsNoLess (own_least u j x) (own_least (unit u) k y)
    own_least_there u j k None y alike = tt
    own_least_there u j k (Some x) None alike = absurd alike
    own_least_there u j k (Some x) (Some y) alike = elim (cases_Bool (are_of_unit x u)) [
      | inl its ↦ rw (its, of_unit_there u x y alike.0 its) (inl (alike.0.least, tt))
      | inr other ↦ rw (other) tt
    ]

    least_there : (u m : ℕ) → least_of all u ≡ Some m → (n : ℕ) × (least_of others (unit u) ≡ Some n) × (n ≤ m)
    least_there u = least_sub (lines_of_each (own_least u) 0 all) (lines_of_each (own_least (unit u)) 0 others)
        (sub_lines IsNoLess (own_least u) (own_least (unit u)) all others place 0 0 are.rises (λ i x its. let there = are.each i x its in
        record { value = there.value; value_is = there.value_is; meets = own_least_there u (0 + i) (0 + place i) x there.value there.meets }))

    module _ (own there : FlowFrames) (are_own : AreFrames unit Twins own there) (level higher : ℕ) (up : level ≤ higher) where
      member_there : (u : ℕ) → unit u < 128 → is_member (leasts_of all) own level u ≡ true → is_member (leasts_of others) there higher (unit u) ≡ true
      member_there u few its = elim (cases_lt u 128) [
        | inr above ↦ absurd (false≢true
            (subst (λ o. option_map_or (λ low. are_of_unit own u || nat_lt low level) o false ≡ true) (leasts_past all u above) its))
        | inl below ↦ go (least_of all u) refl
            (subst (λ o. option_map_or (λ low. are_of_unit own u || nat_lt low level) o false ≡ true) (leasts_read all u below) its)
      ]
        where
          go : (o : Option ℕ) → least_of all u ≡ o → option_map_or (λ low. are_of_unit own u || nat_lt low level) o false ≡ true
              → is_member (leasts_of others) there higher (unit u) ≡ true
          go None is_o member = absurd (false≢true member)
          go (Some m) is_o member =
              let (n, is_n, below) = least_there u m is_o in
              subst (λ o. option_map_or (λ low. are_of_unit there (unit u) || nat_lt low higher) o false ≡ true)
              (sym (leasts_read others (unit u) few ∙ is_n))
              (elim (or_cases (are_of_unit own u) (nat_lt m level) member) [
                | inl its_own ↦ or_left (are_of_unit there (unit u)) (nat_lt n higher) (of_unit_there u own there are_own its_own)
                | inr low ↦
                    let less = ltb-true m level low in
                    or_right (are_of_unit there (unit u)) (nat_lt n higher) (lt-ltb n higher (omega (arith, less, below, up)))
              ])

      members_there : (o : Option ℕ) → ((u : ℕ) → o ≡ Some u → unit u < 128) → option_map_or (is_member (leasts_of all) own level) o false ≡ true
          → option_map_or (is_member (leasts_of others) there higher) (option_map unit o) false ≡ true
      members_there None few its = absurd (false≢true its)
      members_there (Some u) few its = member_there u (few u refl) its

      group_there : (x y : FlowFrames) → AreFrames unit Twins x y → is_of_queue_group (leasts_of all) own level x ≡ true
          → is_of_queue_group (leasts_of others) there higher y ≡ true
      group_there x y alike its =
          elim (or_cases (option_map_or (is_member (leasts_of all) own level) x.any_sender false)
          (option_map_or (is_member (leasts_of all) own level) x.any_receiver false) its) [
            | inl sender ↦ or_left (option_map_or (is_member (leasts_of others) there higher) y.any_sender false)
                (option_map_or (is_member (leasts_of others) there higher) y.any_receiver false)
                (subst (λ o. option_map_or (is_member (leasts_of others) there higher) o false ≡ true) (sym alike.sender)
                (members_there x.any_sender alike.few_sender sender))
            | inr receiver ↦ or_right (option_map_or (is_member (leasts_of others) there higher) y.any_sender false)
                (option_map_or (is_member (leasts_of others) there higher) y.any_receiver false)
                (subst (λ o. option_map_or (is_member (leasts_of others) there higher) o false ≡ true) (sym alike.receiver)
                (members_there x.any_receiver alike.few_receiver receiver))
          ]

      abbrev Asks : Stream → Stream → Type 0
      Asks = AsksNoMore (demands_of all) (demands_of others)

      stream_there : (x y : Option FlowFrames) → AreFramesWhere unit Twins Always x y → (s : Stream) → stream_with (leasts_of all) own level x ≡ Some s
          → (t : Stream) × (stream_with (leasts_of others) there higher y ≡ Some t) × Asks s t
      stream_there None y alike s its = absurd (none-some s its)
      stream_there (Some x) None alike s its = absurd alike
      stream_there (Some x) (Some y) alike s its = elim (cases_Bool (is_of_queue_group (leasts_of all) own level x || nat_lt x.least_ident level)) [
        | inr none ↦ absurd (none-some s (subst (λ b. (if b then Some x.stream else None) ≡ Some s) none its))
        | inl goes ↦
            let same : x.stream ≡ s = same_Some x.stream s (subst (λ b. (if b then Some x.stream else None) ≡ Some s) goes its) in
            let after : (is_of_queue_group (leasts_of others) there higher y || nat_lt y.least_ident higher) ≡ true =
            elim (or_cases (is_of_queue_group (leasts_of all) own level x) (nat_lt x.least_ident level) goes) [
              | inl group ↦ or_left (is_of_queue_group (leasts_of others) there higher y) (nat_lt y.least_ident higher) (group_there x y alike.0 group)
              | inr low ↦
                  let less = ltb-true x.least_ident level low in
                  let least = alike.0.least in
                  or_right (is_of_queue_group (leasts_of others) there higher y) (nat_lt y.least_ident higher)
                  (lt-ltb y.least_ident higher (omega (arith, less, least, up)))
            ] in (
              y.stream,
              ap (λ b. if b then Some y.stream else None) after,
              subst (λ z. Asks z y.stream) same
                  (asks_no_more unit Twins one_twin Always all others place are x y alike.0 (alike.1 tt)),
            )
      ]

      streams_there : IsSub Asks (streams_with timing (leasts_of all) all own level) (streams_with busy (leasts_of others) others there higher)
      streams_there = sub_append Asks (damage_streams timing) (damage_streams busy) (filter_map (stream_with (leasts_of all) own level) all)
          (filter_map (stream_with (leasts_of others) there higher) others)
          (damage_asks unit Twins one_twin timing unplanned range (demands_of all) (demands_of others))
          (sub_filter (AreFramesWhere unit Twins Always) Asks (stream_with (leasts_of all) own level) (stream_with (leasts_of others) there higher)
          stream_there all others (sub_of_some place (AreFramesWhere unit Twins Always) all others are))

      waits_there : WaitNoLonger (demands_of all) (demands_of others) (blocking_with timing own) (blocking_with busy there)
          (streams_with timing (leasts_of all) all own level) (streams_with busy (leasts_of others) others there higher)
      waits_there = are_bounded (demands_of all) (demands_of others) (blocking_with timing own) (blocking_with busy there)
          (streams_with timing (leasts_of all) all own level) (streams_with busy (leasts_of others) others there higher)
          (let same = are_own.bits in omega (arith, same, busier)) streams_there

    -- ---- levels

    at_most_here : (own there : FlowFrames) → AreFrames unit Twins own there → (level : ℕ) (x y : Option FlowFrames) → AreFramesWhere unit Twins Always x y
        → AreAtMost (leasts_of others) there level level y → AreAtMost (leasts_of all) own level level x
    at_most_here own there are_own level None y alike most = tt
    at_most_here own there are_own level (Some x) None alike most = absurd alike
    at_most_here own there are_own level (Some x) (Some y) alike most = λ group.
        let last = alike.0.last in
        let below = most (group_there own there are_own level level (omega arith) x y alike.0 group) in
        omega (arith, last, below)

    level_here : (own there : FlowFrames) → AreFrames unit Twins own there → (level : ℕ) → IsLevel (leasts_of others) others there level
        → IsLevel (leasts_of all) all own level
    level_here own there are_own level is = record {
      own_frames = let last = are_own.last in let below = is.own_frames in omega (arith, last, below);
      queue_group = λ k d below.
          let its = are.each k (get_or all k d) (slice_get-get_or all k d below) in
          at_most_here own there are_own level (get_or all k d) its.value its.meets
          (all_at (AreAtMost (leasts_of others) there level level) others is.queue_group (place k) its.value its.value_is);
    }

    -- ---- waits

    group_wait : (ends : ℕ) (own there : FlowFrames) → AreFrames unit Twins own there → (wait : Option ℕ) (b : ℕ)
        → IsQueueGroupWait timing ends (leasts_of all) all own wait → IsQueueGroupWait busy ends (leasts_of others) others there (Some b)
        → (a : ℕ) × (wait ≡ Some a) × (a ≤ b)
    group_wait ends own there are_own wait b here whole =
        let alike = unplanned_alike ends timing unplanned range busier own there are_own in
        let up = here.of_queue_group.least whole.level
        (level_here (with_unplanned timing ends own) (with_unplanned busy ends there) alike whole.level whole.of_queue_group.is) in
        let bound = waits_there (with_unplanned timing ends own) (with_unplanned busy ends there) alike here.level whole.level up in
        let fits = whole.least_wait in
        go wait here.least_wait bound fits
      where
        go : (w : Option ℕ)
            → IsWaitWith timing (demands_of all) (streams_with timing (leasts_of all) all (with_unplanned timing ends own) here.level)
            (blocking_with timing own) w
            → WaitNoLonger (demands_of all) (demands_of others) (blocking_with timing own) (blocking_with busy there)
            (streams_with timing (leasts_of all) all (with_unplanned timing ends own) here.level)
            (streams_with busy (leasts_of others) others (with_unplanned busy ends there) whole.level)
            → IsWaitWith busy (demands_of others) (streams_with busy (leasts_of others) others (with_unplanned busy ends there) whole.level)
            (blocking_with busy there) (Some b)
            → (a : ℕ) × (w ≡ Some a) × (a ≤ b)
        go None none bound fits =
            let above = bound.least (longest_wait timing + 1) b none fits.1 in
            let short = fits.0 in
            absurd (omega (arith, above, short))
        go (Some a) is_a bound fits = (a, refl, bound.least a b is_a.2 fits.1)

    pub buffered_no_longer : (ends : ℕ) (x y : Option FlowFrames) → AreFramesWhere unit Twins Always x y → (wait : Option ℕ) (b : ℕ)
        → IsBufferedFor timing ends all x wait
        → IsBufferedFor busy ends others y (Some b) → (a : ℕ) × (wait ≡ Some a) × (a ≤ b)
    buffered_no_longer ends None y alike wait b here whole = (0, here, omega arith)
    buffered_no_longer ends (Some x) None alike wait b here whole = absurd alike
    buffered_no_longer ends (Some x) (Some y) alike wait b here whole = elim (cases_Bool (keep_order x)) [
      | inl ordered ↦
          (0, subst (λ t. MatchBool t (wait ≡ Some 0) (IsQueueGroupWait timing ends (leasts_of all) all x wait)) ordered here, omega arith)
      | inr unordered ↦
          group_wait ends x y alike.0 wait b
          (subst (λ t. MatchBool t (wait ≡ Some 0) (IsQueueGroupWait timing ends (leasts_of all) all x wait)) unordered here)
          (subst (λ t. MatchBool t (Some b ≡ Some 0) (IsQueueGroupWait busy ends (leasts_of others) others y (Some b)))
          (same_order unit Twins one_twin x y alike.0 ∙ unordered) whole)
    ]
