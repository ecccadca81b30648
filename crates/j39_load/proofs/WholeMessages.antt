-- The times that are reported of long messages to all bound when they are whole.
use Rattle.std.proofs.Common.{◌≡◌, ℕ, zero, suc, ◌+◌, ◌*◌, ◌<◌, ◌≤◌, Bool, true, false, not, leb, if◌then◌else◌, List, [], ◌∷◌, ◌++◌, length, get_or, map}
use Rattle.std.proofs.Common.{sum_by}
use Rattle.std.proofs.Common.{Option, Some, None}
use Rattle.std.proofs.Common.{refl, sym, ap, ◌∙◌, subst, inl, inr, arith}
use Rattle.std.proofs.Math.Nat.{mul-le-mul_left}
use Rattle.std.proofs.lemmas.Bool.{cases_Bool, false≢true, leb-true}
use Rattle.std.proofs.lemmas.List.{get_or-append-add, get_or_append_left, length-map}
use Rattle.std.proofs.lemmas.List.FromFn.{get_or-map-range_with_len, length-map-range_with_len}
use Rattle.std.proofs.lemmas.List.Sorted.{sum_by-IsPermutation}
use Rattle.std.proofs.lemmas.List.Sums.{sum_by-cons}
use Rattle.std.proofs.lemmas.Option.{cond_some, none-some, same_Some, slice_get-get_or, slice_get_within}
use Rattle.std.specs.List.{filter_map, range_with_len, slice_get}
use Rattle.j39_network.specs.declared.plan.Plan.{Plan}
use Rattle.j39_network.specs.declared.plan.timing.Timing.{Timing}
use Rattle.j39_network.specs.declared.plan.unit_plan.UnitPlan.{UnitPlan}
use Rattle.j39_load.specs.declared.frames.broadcast.Broadcast.{Broadcast}
use Rattle.j39_load.specs.declared.waits.delay.Delay.{Delay}
use Rattle.j39_load.specs.declared.waits.delay.Delay.TheVariants.{Within, Beyond, Late, Long, Whole}
use Rattle.j39_load.specs.declared.frames.flow_frames.FlowFrames.{FlowFrames}
use Rattle.j39_load.specs.declared.loads.flow_load.FlowLoad.{FlowLoad}
use Rattle.j39_load.specs.declared.findings.load_finding.LoadFinding.TheVariants.{LateFlow}
use Rattle.j39_load.specs.declared.frames.messages.Messages.{Messages}
use Rattle.j39_load.specs.declared.frames.messages.Messages.TheVariants.{Short, ToAll, ToOne}
use Rattle.j39_load.specs.declared.loads.request_load.RequestLoad.{RequestLoad}
use Rattle.j39_load.specs.declared.loads.unit_load.UnitLoad.{UnitLoad}
use Rattle.j39_load.specs.declared.waits.turn.Turn.{Turn}
use Rattle.j39_load.specs.declared.waits.whole_time.WholeTime.{WholeTime}
use Rattle.j39_load.specs.Ages.{is_in_limit}
use Rattle.j39_load.specs.AnyQueues.{IsBuffering, Buffering}
use Rattle.j39_load.specs.Asked.{Asked, announcements_of_unit, asked_of, frames_asked, frames_of_flow, frames_of_request, packets_of_unit, singles_of_flow}
use Rattle.j39_load.specs.Asked.{total_load}
use Rattle.j39_load.specs.Broadcasts.{broadcasts_by, known_unit_load, unit_loads_of}
use Rattle.j39_load.specs.Delays.{IsDelayOf, IsTurnBy, IsWaitIn, IsWholeTime, announcements_place, known_turn, longest_pause, packet_time}
use Rattle.j39_load.specs.Delays.{packets_place, flow_turn, turn_time, whole_time}
use Rattle.j39_load.specs.LoadFindings.{AreLoadFindings, AsksOfBus, further_findings, is_whole_late, lateness, load_findings, time_of_each, without_period}
use Rattle.j39_load.specs.Loads.{bits_at_most}
use Rattle.j39_load.specs.LineLists.{lines_of_each}
use Rattle.j39_load.specs.PlannedFrames.{AreAllOrdered, AreDeadlinesKept, AreMessagesOf, ArePlannedFramesInTime, AreTimesBounds, AreWholeInAnyOrder}
use Rattle.j39_load.specs.PlannedFrames.{AreWholeOnEveryBus, AreWholeWithin, ComeInAnyOrder, ComeInTurn, IsOneTurn}
use Rattle.j39_timing.specs.Waits.{IsSpaced, askers_want}
use Rattle.j39_load.proofs.BoundedFlows.{all_in_order, delay_at, known_in_order, legal_in_order, never_whole, nothing_found, sent_in_any_order, short_bounded}
use Rattle.j39_load.proofs.BoundedFlows.{stated_of}
use Rattle.j39_load.proofs.PositivePeriods.{all_paced}
use Rattle.j39_load.proofs.Sending.{all_sent}
use Rattle.j39_load.proofs.StreamsBefore.{get_or_inside, none_of_two, stated_nothing}
use Rattle.j39_timing.specs.Messages.{LongMessage, time_of_message, time_of_messages}
use Rattle.j39_timing.proofs.Messages.{messages_whole}

-- ---- one message of each flow

module _ (announcement gap packet : ℕ) where
  abbrev time : LongMessage → ℕ
  time m = time_of_message announcement gap packet (length m.packets)

  -- no more than the longest of each together
  most_time : (broadcasts : List Broadcast) (each : List (Option LongMessage)) → AreMessagesOf broadcasts each
      → sum_by time (filter_map (λ m. m) each)
      ≤ length broadcasts * announcement + sum_by (λ (b : Broadcast). b.packets) broadcasts * (gap + packet)
  most_time [] [] fit = omega arith
  most_time [] (m ∷ ms) fit = absurd fit
  most_time (b ∷ bs) [] fit = absurd fit
  most_time (b ∷ bs) (None ∷ ms) fit =
      let rest = most_time bs ms fit.1 in
      let all = sum_by-cons (λ (x : Broadcast). x.packets) b bs in
      rw (all) (omega (arith, rest))
  most_time (b ∷ bs) (Some m ∷ ms) fit =
      let rest = most_time bs ms fit.1 in
      let all = sum_by-cons (λ (x : Broadcast). x.packets) b bs in
      let one = sum_by-cons time m (filter_map (λ x. x) ms) in
      let few : (gap + packet) * length m.packets ≤ (gap + packet) * b.packets = mul-le-mul_left (gap + packet) fit.0 in
      rw (all, one) (omega (arith, rest, few))

  pub turn_most : (broadcasts : List Broadcast) (messages : List LongMessage) → IsOneTurn broadcasts messages
      → time_of_messages announcement gap packet messages
      ≤ length broadcasts * announcement + sum_by (λ (b : Broadcast). b.packets) broadcasts * (gap + packet)
  turn_most broadcasts messages turn =
      let same = sum_by-IsPermutation time messages (filter_map (λ m. m) turn.each) turn.order in
      let most = most_time broadcasts turn.each turn.fit in
      omega (arith, same, most)

-- ---- what a unit asks

by_broadcasts : (timing : Timing) (units : List UnitPlan) (stays : UnitPlan → Bool) (u : ℕ) (broadcasts : List Broadcast) (load : UnitLoad)
    → known_unit_load timing units stays u broadcasts ≡ Some load
    → (load.flows ≡ length broadcasts) × (load.all_packets ≡ sum_by (λ (b : Broadcast). b.packets) broadcasts)
    × ((load.announcements.twin_ident ≡ None) × IsSpaced load.announcements.stream)
    × ((load.packets.twin_ident ≡ None) × IsSpaced load.packets.stream)
by_broadcasts timing units stays u [] load is = absurd (none-some load is)
by_broadcasts timing units stays u (b ∷ bs) load is =
    let same = same_Some _ load is in (
      sym (ap (λ (l : UnitLoad). l.flows) same),
      sym (ap (λ (l : UnitLoad). l.all_packets) same),
      (sym (ap (λ (l : UnitLoad). l.announcements.twin_ident) same), sym (ap (λ (l : UnitLoad). askers_want l.announcements.stream) same)),
      (sym (ap (λ (l : UnitLoad). l.packets.twin_ident) same), sym (ap (λ (l : UnitLoad). askers_want l.packets.stream) same)),
    )

of_unit_load : (timing : Timing) (units : List UnitPlan) (stays : UnitPlan → Bool) (flows : List (Option FlowLoad)) (u : ℕ) (load : UnitLoad)
    → get_or (unit_loads_of timing units stays flows) u None ≡ Some load
    → (load.flows ≡ length (broadcasts_by u flows)) × (load.all_packets ≡ sum_by (λ (b : Broadcast). b.packets) (broadcasts_by u flows))
    × ((load.announcements.twin_ident ≡ None) × IsSpaced load.announcements.stream)
    × ((load.packets.twin_ident ≡ None) × IsSpaced load.packets.stream)
of_unit_load timing units stays [] u load is = absurd (none-some load is)
of_unit_load timing units stays (flow ∷ flows) u load is =
    let report : ℕ → Option UnitLoad = λ v. known_unit_load timing units stays v (broadcasts_by v (flow ∷ flows)) in
    let inside : u < length (map report (range_with_len 0 (length units))) = get_or_inside (map report (range_with_len 0 (length units))) u load is in
    let below : u < length units = omega (arith, inside, length-map-range_with_len report 0 (length units)) in
    by_broadcasts timing units stays u (broadcasts_by u (flow ∷ flows)) load
    (sym (get_or-map-range_with_len report 0 (length units) u u None below (omega arith)) ∙ is)

-- ---- where its frames stand

module _ (asked : Asked) (u : ℕ) (load : UnitLoad) (its : get_or asked.units u None ≡ Some load) where
  abbrev flows : List (Option FlowLoad)
  flows = asked.flows

  abbrev units : List (Option UnitLoad)
  units = asked.units

  abbrev requests : List (Option RequestLoad)
  requests = asked.requests

  inside : u < length units
  inside = get_or_inside units u load its

  -- what is read of a unit's load
  read_of : (read : Option UnitLoad → Option FlowFrames) → get_or (map read units) u None ≡ read (Some load)
  read_of read = read_map read units u None inside ∙ ap read its
    where
      read_map : {X Y : Type 0} (f : Option X → Option Y) (xs : List (Option X)) (k : ℕ) (d : Option Y) → k < length xs
          → get_or (map f xs) k d ≡ f (get_or xs k None)
      read_map f [] k d below = absurd (omega arith)
      read_map f (x ∷ xs) zero d below = refl
      read_map f (x ∷ xs) (suc k) d below = read_map f xs k d (omega (arith, below))

  -- behind both lists of the flows
  behind_flows : (n : ℕ) → get_or (frames_asked asked) (2 * length flows + n) None
      ≡ get_or (map packets_of_unit units ++ (map announcements_of_unit units ++ map frames_of_request requests)) n None
  behind_flows n =
      let rest : List (Option FlowFrames) =
      map packets_of_unit units ++ (map announcements_of_unit units ++ map frames_of_request requests) in
      let first : length (map frames_of_flow flows) + (length (map singles_of_flow flows) + n) ≡ 2 * length flows + n =
      omega (arith, length-map flows frames_of_flow, length-map flows singles_of_flow) in
      ap (λ (k : ℕ). get_or (frames_asked asked) k None) (sym first)
      ∙ get_or-append-add (map frames_of_flow flows) (map singles_of_flow flows ++ rest) (length (map singles_of_flow flows) + n) None
      ∙ get_or-append-add (map singles_of_flow flows) rest n None

  pub packets_read : get_or (frames_asked asked) (packets_place asked u) None ≡ Some load.packets
  packets_read = behind_flows u
      ∙ get_or_append_left (map packets_of_unit units) (map announcements_of_unit units ++ map frames_of_request requests) None u
      (let here = inside in omega (arith, here, length-map units packets_of_unit))
      ∙ read_of packets_of_unit

  pub announcements_read : get_or (frames_asked asked) (announcements_place asked u) None ≡ Some load.announcements
  announcements_read = behind_flows (length units + u)
      ∙ ap (λ (k : ℕ). get_or (map packets_of_unit units ++ (map announcements_of_unit units ++ map frames_of_request requests)) (k + u) None)
      (sym (length-map units packets_of_unit))
      ∙ get_or-append-add (map packets_of_unit units) (map announcements_of_unit units ++ map frames_of_request requests) u None
      ∙ get_or_append_left (map announcements_of_unit units) (map frames_of_request requests) None u
      (let here = inside in omega (arith, here, length-map units announcements_of_unit))
      ∙ read_of announcements_of_unit

-- ---- bounds

module _ (plan : Plan) (timing : Timing) (stays : UnitPlan → Bool) where
  abbrev asked : Asked
  asked = asked_of timing plan stays

  module _ (buffering : Buffering) (is_buffering : IsBuffering timing asked.unplanned_end (frames_asked asked) buffering) where
    module _ (u late : ℕ) (load : UnitLoad) (its : get_or asked.units u None ≡ Some load) (announced sent : ℕ)
        (first : IsWaitIn timing buffering (announcements_place asked u) load.announcements (Some announced))
        (rest : IsWaitIn timing buffering (packets_place asked u) load.packets (Some sent)) where
      pub in_any_order : AreWholeInAnyOrder timing asked u late (late + turn_time timing load announced sent)
      in_any_order s controllers planned of legal of_announcements of_packets messages release turn known in_turn seen =
          let a = announcements_place asked u in
          let p = packets_place asked u in
          let gap = bits_at_most timing timing.broadcast_gap_most in
          let counts = of_unit_load timing plan.units.items stays asked.flows u load its in
          let announcements = sent_in_any_order timing asked.unplanned_end (frames_asked asked) (all_paced timing plan stays)
          (all_sent timing plan stays) buffering is_buffering
          a load.announcements (announcements_read asked u load its) announced s controllers planned of legal of_announcements counts.2 first in
          let packets = sent_in_any_order timing asked.unplanned_end (frames_asked asked) (all_paced timing plan stays)
          (all_sent timing plan stays) buffering is_buffering
          p load.packets (packets_read asked u load its) sent s controllers planned of legal of_packets counts.3 rest in
          let most : time_of_messages (announced + load.announcements.stream.bits) gap (sent + load.packets.stream.bits) messages
          ≤ turn_time timing load announced sent =
          subst (λ (n : ℕ). time_of_messages (announced + load.announcements.stream.bits) gap (sent + load.packets.stream.bits) messages
          ≤ n * (announced + load.announcements.stream.bits) + load.all_packets * packet_time timing load sent) (sym counts.0)
          (subst (λ (n : ℕ). time_of_messages (announced + load.announcements.stream.bits) gap (sent + load.packets.stream.bits) messages
          ≤ length (broadcasts_by u asked.flows) * (announced + load.announcements.stream.bits) + n * packet_time timing load sent) (sym counts.1)
          (turn_most (announced + load.announcements.stream.bits) gap (sent + load.packets.stream.bits) (broadcasts_by u asked.flows) messages turn)) in
          let whole = messages_whole s planned of a p gap announced sent load.announcements.stream load.packets.stream announcements packets messages
          (release + late)
          in_turn known (omega (arith, most, seen)) in
          omega (arith, whole, most)

    -- where the time of a unit is known both waits are
    by_load : (u late : ℕ) (turn : Turn) (load : Option UnitLoad) → get_or asked.units u None ≡ load → IsTurnBy timing asked buffering u load (Some turn)
        → AreWholeInAnyOrder timing asked u late (late + turn.time)
    by_load u late turn None its is = absurd (none-some turn (sym is))
    by_load u late turn (Some load) its (announced, sent, first, rest, stated) = by_waits announced sent first rest stated
      where
        by_waits : (announced sent : Option ℕ) → IsWaitIn timing buffering (announcements_place asked u) load.announcements announced
            → IsWaitIn timing buffering (packets_place asked u) load.packets sent → Some turn ≡ known_turn timing load announced sent
            → AreWholeInAnyOrder timing asked u late (late + turn.time)
        by_waits None sent first rest stated = absurd (none-some turn (sym stated))
        by_waits (Some a) None first rest stated = absurd (none-some turn (sym stated))
        by_waits (Some a) (Some p) first rest stated =
            let same : turn_time timing load a p ≡ turn.time =
            ap (λ (t : Turn). t.time) (cond_some (leb (packet_time timing load p) (longest_pause timing)) (flow_turn timing load a p) turn (sym stated)).1 in
            subst (λ (n : ℕ). AreWholeInAnyOrder timing asked u late (late + n)) same (in_any_order u late load its a p first rest)

    by_time : (broadcast : Broadcast) (whole : WholeTime) (bits : ℕ) (turn : Option Turn)
        → IsTurnBy timing asked buffering broadcast.sender (get_or asked.units broadcast.sender None) turn → whole ≡ whole_time broadcast turn
        → whole.bits ≡ Some bits → AreWholeInAnyOrder timing asked broadcast.sender broadcast.jitter bits
    by_time broadcast whole bits None is same stated = absurd (none-some bits (sym (ap (λ (w : WholeTime). w.bits) same) ∙ stated))
    by_time broadcast whole bits (Some turn) is same stated =
        let sum : broadcast.jitter + turn.time ≡ bits = same_Some (broadcast.jitter + turn.time) bits (sym (ap (λ (w : WholeTime). w.bits) same) ∙ stated) in
        subst (λ (n : ℕ). AreWholeInAnyOrder timing asked broadcast.sender broadcast.jitter n) sum
        (by_load broadcast.sender broadcast.jitter turn (get_or asked.units broadcast.sender None) refl is)

    -- where every unit keeps order
    in_order : (u late bits : ℕ) → AreWholeInAnyOrder timing asked u late bits → AreAllOrdered (frames_asked asked)
        → AreWholeOnEveryBus timing asked u late bits
    in_order u late bits whole ordered s planned of legal of_announcements of_packets =
        whole s all_in_order planned of (legal_in_order s legal) (come (announcements_place asked u) of_announcements) (come (packets_place asked u) of_packets)
      where
        come : (i : ℕ) → ComeInTurn timing (frames_asked asked) s planned of i
            → ComeInAnyOrder timing asked.unplanned_end (frames_asked asked) s all_in_order planned of i
        come i turn = record {
          known = known_in_order timing asked.unplanned_end (frames_asked asked) ordered s planned of i turn.known;
          behind = λ keeps. turn.behind;
          steady = λ keeps. turn.steady;
        }

    of_broadcast : (flow bits : ℕ) (load : FlowLoad) (broadcast : Broadcast) (whole : WholeTime) → slice_get asked.flows flow ≡ Some (Some load)
        → load.messages ≡ ToAll broadcast → IsWholeTime timing asked buffering broadcast whole → whole.bits ≡ Some bits
        → AreWholeWithin timing asked flow whole bits
    of_broadcast flow bits load broadcast whole its long is stated =
        let bounds = by_time broadcast whole bits is.0 is.1 is.2 stated in
        record {
          load = load;
          its = its;
          broadcast = broadcast;
          long = long;
          buffering = buffering;
          is = is_buffering;
          time = is;
          stated = stated;
          in_any_order = bounds;
          bounds = in_order broadcast.sender broadcast.jitter bits bounds;
        }

    of_messages : (flow bits : ℕ) (load : FlowLoad) (messages : Messages) (whole : WholeTime) → slice_get asked.flows flow ≡ Some (Some load)
        → load.messages ≡ messages → IsDelayOf timing asked buffering flow messages load.limit (Whole whole) → whole.bits ≡ Some bits
        → AreWholeWithin timing asked flow whole bits
    of_messages flow bits load (Short frames) whole its long is stated = absurd (never_whole timing buffering flow frames load.limit whole is)
    of_messages flow bits load (ToOne frames) whole its long is stated = absurd is
    of_messages flow bits load (ToAll broadcast) whole its long is stated = of_broadcast flow bits load broadcast whole its long is stated

  module _ (delays : List (Option Delay)) (asks : AsksOfBus plan timing stays delays) where
    pub times_bound : AreTimesBounds timing asked delays
    times_bound flow bits whole at stated =
        let has = delay_at plan timing stays delays asks flow (Some (Whole whole)) at in
        let (buffering, buffering_delays, (load, its, is)) = has in
        of_messages buffering buffering_delays flow bits load load.messages whole its refl is stated

    -- where it isn't late it is known, and within its deadline
    not_late : (limit : ℕ) (each : Bool) (bits : Option ℕ) → is_in_limit limit (if each then bits else None) ≡ true
        → (each ≡ true) × ((n : ℕ) × (bits ≡ Some n) × (n ≤ limit))
    not_late limit false bits is = absurd (false≢true is)
    not_late limit true None is = absurd (false≢true is)
    not_late limit true (Some n) is = (refl, (n, refl, leb-true n limit is))

    in_time : (flow : ℕ) (whole : WholeTime) (limit : ℕ) → whole.limit ≡ Some limit → lateness flow (Some (Whole whole)) ≡ []
        → is_in_limit limit (time_of_each whole) ≡ true
    in_time flow whole limit is none = elim (cases_Bool (is_in_limit limit (time_of_each whole))) [
      | inl in_it ↦ in_it
      | inr out ↦
          let late : is_whole_late whole ≡ true = rw (is) (ap not out) in
          let stated : LateFlow flow ∷ [] ≡ [] = sym (ap (λ (b : Bool). if b then LateFlow flow ∷ [] else []) late) ∙ none in
          absurd (let some : 1 ≡ 0 = ap length stated in omega arith)
    ]

    pub deadlines_kept : load_findings timing (total_load timing asked) delays ≡ [] → AreDeadlinesKept timing asked delays
    deadlines_kept none flow limit load broadcast its long deadline =
        let (paced, on_time) = nothing_found timing (total_load timing asked) delays none in
        let count = asks.waits.count in
        let below = slice_get_within asked.flows flow (Some load) its in
        go paced on_time (get_or delays flow None) (slice_get-get_or delays flow None (omega (arith, count, below)))
      where
        go : lines_of_each without_period 0 delays ≡ [] → lines_of_each lateness 0 delays ≡ [] → (delay : Option Delay) → slice_get delays flow ≡ Some delay
            → (whole : WholeTime) × (bits : ℕ) × (slice_get delays flow ≡ Some (Some (Whole whole))) × (whole.each ≡ true) × (bits ≤ limit)
            × AreWholeWithin timing asked flow whole bits
        go paced on_time None at = absurd (let stated = stated_nothing without_period 0 delays paced flow None at in
            let some : 1 ≡ 0 = ap length stated in omega arith)
        go paced on_time (Some (Within bits)) at = absurd ((stated_of plan timing stays delays asks flow load (ToAll broadcast) (Within bits) its long at).2)
        go paced on_time (Some (Beyond bits)) at = absurd ((stated_of plan timing stays delays asks flow load (ToAll broadcast) (Beyond bits) its long at).2)
        go paced on_time (Some Late) at = absurd ((stated_of plan timing stays delays asks flow load (ToAll broadcast) Late its long at).2)
        go paced on_time (Some (Long count)) at = absurd ((stated_of plan timing stays delays asks flow load (ToAll broadcast) (Long count) its long at).2)
        go paced on_time (Some (Whole whole)) at =
            let by_buffering = stated_of plan timing stays delays asks flow load (ToAll broadcast) (Whole whole) its long at in
            let is : IsWholeTime timing asked by_buffering.0 broadcast whole = by_buffering.2 in
            let written : whole.limit ≡ Some limit = ap (λ (w : WholeTime). w.limit) is.2 ∙ deadline in
            let same : 0 + flow ≡ flow = omega arith in
            let none_stated : lateness flow (Some (Whole whole)) ≡ [] =
            subst (λ (n : ℕ). lateness n (Some (Whole whole)) ≡ []) same (stated_nothing lateness 0 delays on_time flow (Some (Whole whole)) at) in
            let (each, (bits, known, within)) = not_late limit whole.each whole.bits (in_time flow whole limit written none_stated) in
            (whole, bits, at, each, within, of_broadcast by_buffering.0 by_buffering.1 flow bits load broadcast whole its long is known)

pub in_time_where_checked : (plan : Plan) (timing : Timing) → AreLoadFindings plan (Some timing) [] → ArePlannedFramesInTime plan timing
in_time_where_checked plan timing (stays, delays, asks, none) =
    let both = none_of_two (load_findings timing (total_load timing (asked_of timing plan stays)) delays) (further_findings plan timing delays) (sym none) in
    (stays, delays, asks, short_bounded plan timing stays delays asks both.0, deadlines_kept plan timing stays delays asks both.0)
