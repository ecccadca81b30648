-- What is queued of a unit's long messages to all in a long time.
use Rattle.std.proofs.Common.{◌≡◌, ◌≢◌, ℕ, ◌+◌, ◌*◌, ◌<◌, ◌≤◌, ◌⊎◌, Bool, true, false, not, cond, ◌&&◌, eqb, leb, ltb, if◌then◌else◌}
use Rattle.std.proofs.Common.{List, get_or, map, max, All, Option, Some, None}
use Rattle.std.proofs.Common.{refl, sym, ap, ◌∙◌, subst, inl, inr, arith}
use Rattle.std.proofs.Math.Nat.{mul-le-mul_right}
use Rattle.std.proofs.lemmas.Nat.{mul-le}
use Rattle.std.proofs.lemmas.Bool.{and_from, and_parts, cases_Bool, cases_eq, cases_lt, eq-eqb}
use Rattle.std.proofs.lemmas.Grind.{div_ceil_times}
use Rattle.std.specs.Int.{div_ceil}
use Rattle.std.specs.List.{slice_get, sum_by}
use Rattle.std.specs.Option.{option_and_then, option_map_or}
use Rattle.j39_findings.specs.Findings.{Clean}
use Rattle.j39_findings.specs.Standing.{DecidesWhoStays}
use Rattle.j39_id.specs.Limits.{unit_limit}
use Rattle.j39_network.specs.declared.plan.Plan.{Plan}
use Rattle.j39_network.specs.declared.plan.flow_plan.FlowPlan.{FlowPlan}
use Rattle.j39_network.specs.declared.plan.group_plan.GroupPlan.{GroupPlan}
use Rattle.j39_network.specs.declared.plan.timing.Timing.{Timing}
use Rattle.j39_network.specs.declared.plan.unit_plan.UnitPlan.{UnitPlan}
use Rattle.j39_load.specs.declared.frames.broadcast.Broadcast.{Broadcast}
use Rattle.j39_load.specs.declared.loads.unit_load.UnitLoad.{UnitLoad}
use Rattle.j39_load.specs.Broadcasts.{announced_packets, bits_each, bits_of_announcements, bits_of_firsts, broadcasts_by, least_announced, least_packets}
use Rattle.j39_load.specs.Broadcasts.{load_of_announcements, load_of_firsts, load_of_packets, spaced_stream}
use Rattle.j39_load.specs.declared.frames.broadcast.BroadcastPart.TheVariants.{Announcements, Packets}
use Rattle.j39_load.specs.Demands.{announcements_demand, demand_by, demands_of, most_packets, packets_demand, want_of, wants_of}
use Rattle.j39_load.specs.KeepsBroadcasts.{IsMessageToAll}
use Rattle.j39_load.specs.KeepsPlan.{KeepsToPlan, origins_of, source_place}
use Rattle.j39_load.specs.Loads.{bits_at_least, bits_of_ms, has_short}
use Rattle.j39_load.specs.LongRuns.{seconds}
use Rattle.j39_load.specs.SentFrames.{Broadcasts, FrameSources, Held, Source, Single, First, InSession, Asking, Announcing, Carrying}
use Rattle.j39_load.proofs.KeepingBroadcasts.{IsAnnouncement, IsCopy, IsTimed, announced_most, each_timed, message_of}
use Rattle.j39_load.proofs.KnownFrames.{IsPaced}
use Rattle.j39_load.proofs.KeepingPlan.{stated_stream}
use Rattle.j39_load.proofs.LongRuns.Rates.{IsRate, announcement_rate, beside_rate, both, lesser_rate, each_is_rate, first_rate, gaps_are_rate, more_of}
use Rattle.j39_load.proofs.LongRuns.Rates.{stream_rate, sum_by-two, wants_rate}
use Rattle.j39_load.proofs.LongRuns.Streams.{more_bits}
use Rattle.j39_load.proofs.Milliseconds.{gaps_bits, some_bits}
use Rattle.j39_load.proofs.PlacedFrames.{asked, is_by, its_broadcast, load}
use Rattle.j39_load.proofs.PlacedFrames.{traffic, unit_asks, unit_planned, unit_read}
use Rattle.j39_load.proofs.PositivePeriods.{HasPackets, broadcasts_paced, every_flow, some_announced}
use Rattle.j39_load.proofs.WantedFlows.{wanted_are_broadcasts}
use Rattle.j39_load.proofs.WantedPlaces.{announcements_wanted, least_announced_at, packets_wanted}
use Rattle.j39_timing.specs.FrameStreams.{Origins}
use Rattle.j39_timing.specs.Messages.{IsOf}
use Rattle.j39_timing.specs.Sums.{total}
use Rattle.j39_timing.specs.TimedFrames.{Schedule}
use Rattle.j39_timing.specs.Traffic.{releases_in}
use Rattle.j39_timing.specs.Waits.{Demand, demand_of, frames_of_want, frames_wanted, lesser, lesser_share, of_askers, of_sender, share, wanted_share}
use Rattle.j39_timing.specs.declared.stream.WantedBy.TheVariants.{Sender}
use Rattle.j39_timing.specs.declared.stream.Stream.{Stream}
use Rattle.j39_timing.specs.declared.wants.Want.{Want}
use Rattle.j39_timing.proofs.StreamSums.{inside, inside_from, inside_parts, windows_sum}
use Rattle.j39_timing.proofs.Sums.{total-le, total-times, total-two}
use Rattle.j39_load.proofs.LongRuns.Frames.{Counts, at_lesser, bits_at, frame_of, index, isnt, kind, of_index, parts, some_counts, whole}

-- where some messages of the flow go in one frame its announcements are wanted
abbrev first_want : Broadcast → Want
first_want b = record { frames = cond b.has_short 1 0; period = b.apart; jitter = b.late; more = max 1 b.askers }

module _ (plan : Plan) (timing : Timing) (stays : UnitPlan → Bool) where
  abbrev pub its_broadcasts : ℕ → List Broadcast
  its_broadcasts u = broadcasts_by u (asked plan timing stays).flows

  abbrev pub rate_of_unit : Option UnitLoad → ℕ
  rate_of_unit load = option_map_or (λ (l : UnitLoad). l.bits_per_second) load 0

  -- single frames so many gaps apart
  abbrev spaced : ℕ → Stream
  spaced gaps = spaced_stream timing gaps 0

  abbrev more_spaced : ℕ → ℕ
  more_spaced gaps = more_bits 160 0 (gaps * bits_at_least timing timing.broadcast_gap)

  -- of the packets of a unit, and of its announcements
  abbrev pub more_packets : ℕ → ℕ
  more_packets u = more_spaced 1 + (sum_by (more_of (want_of Packets)) (its_broadcasts u) + most_packets (its_broadcasts u) * 160)

  abbrev pub more_announcements : ℕ → ℕ
  more_announcements u = sum_by (more_of (want_of Announcements)) (its_broadcasts u)
      + (sum_by (more_of first_want) (its_broadcasts u) + more_spaced (least_announced (its_broadcasts u)))

  -- the flow has messages that go in one frame
  abbrev has_firsts : ℕ → Bool
  has_firsts f = option_map_or (λ (flow : FlowPlan). option_map_or has_short (slice_get plan.groups.items flow.group) false)
      (slice_get plan.flows.items f) false

module _ (plan : Plan) (timing : Timing) (stays : UnitPlan → Bool) (states : DecidesWhoStays plan stays) (clean : Clean plan) (s : Schedule)
    (queued_first : (p : ℕ) → p < s.count → s.queued p ≤ s.start p) (planned : ℕ → Bool) (sent : FrameSources) (held : Held)
    (keeps : KeepsToPlan plan timing s planned sent held) (from wait n : ℕ) (span : wait + 1 ≡ bits_of_ms timing (seconds n)) (agree : timing.drift ≡ 0) where
  abbrev b : Broadcasts
  b = sent.broadcasts

  abbrev streams : ℕ → Stream
  streams = (traffic plan timing stays).stream

  abbrev demands : List Demand
  demands = demands_of (whole plan timing stays)

  abbrev bits : ℕ → ℕ → ℕ
  bits = bits_at plan timing stays states clean s queued_first planned sent held keeps from wait n span agree

  abbrev IsCounted : ℕ → ℕ → ℕ → Type 0
  IsCounted = Counts plan timing stays states clean s queued_first planned sent held keeps from wait n span agree

  -- ---- a unit's long messages to all

  abbrev gap : ℕ
  gap = bits_at_least timing timing.broadcast_gap

  -- of single frames so many gaps apart
  spaced_bits : (gaps : ℕ) → 1 ≤ gaps
      → share (wait + 1) (spaced plan timing stays gaps) ≤ n * bits_each timing 1 (gaps * timing.broadcast_gap) + more_spaced plan timing stays gaps
  spaced_bits gaps some =
      let least = timing.broadcast_gap_least in
      let positive_gaps : 1 * 1 ≤ gaps * timing.broadcast_gap = mul-le 1 1 gaps timing.broadcast_gap some (omega (arith, least)) in
      let one_gap = some_bits timing timing.broadcast_gap (omega (arith, least)) in
      let positive_bits : 1 * 1 ≤ gaps * gap = mul-le 1 1 gaps gap some one_gap in
      subst (λ (x : ℕ). share x (spaced plan timing stays gaps) ≤ n * bits_each timing 1 (gaps * timing.broadcast_gap) + more_spaced plan timing stays gaps)
      (sym span)
      (stream_rate timing (spaced plan timing stays gaps) n (bits_each timing 1 (gaps * timing.broadcast_gap)) (omega (arith, positive_bits))
      (gaps_are_rate timing agree gaps timing.broadcast_gap (omega (arith, positive_gaps))))

  module _ (u : ℕ) where
    abbrev bs : List Broadcast
    bs = its_broadcasts plan timing stays u

    wanted_bs : wants_of (whole plan timing stays) u ≡ bs
    wanted_bs = wanted_are_broadcasts u plan timing stays

    timed : All (IsTimed timing) bs
    timed = subst (All (IsTimed timing)) wanted_bs (each_timed timing plan stays u)

    packed : All HasPackets bs
    packed = broadcasts_paced u (asked plan timing stays).flows (every_flow timing plan stays)

    -- what is wanted in this time
    wanted_bits : (want : Broadcast → Want) (rate : Broadcast → ℕ) → ((x : Broadcast) → (want x).period ≡ x.apart)
        → ((x : Broadcast) → IsTimed timing x → IsRate timing ((want x).frames * 160) x.apart (rate x)) → (under_way jitter : ℕ) → jitter ≡ 0
        → frames_wanted (wait + 1 + jitter) (record { under_way = under_way; wants = map want (wants_of (whole plan timing stays) u) }) * 160
        ≤ n * sum_by rate bs + (sum_by (more_of want) bs + under_way * 160)
    wanted_bits want rate period rated under_way jitter none =
        let rates = wants_rate timing want rate n period rated bs timed in
        let long : bits_of_ms timing (seconds n) ≡ wait + 1 + jitter = omega (arith, span, none) in
        let here : sum_by (frames_of_want (wait + 1 + jitter)) (map want bs) * 160 ≤ n * sum_by rate bs + sum_by (more_of want) bs =
        subst (λ (x : ℕ). sum_by (frames_of_want x) (map want bs) * 160 ≤ n * sum_by rate bs + sum_by (more_of want) bs) long rates in
        let there : sum_by (frames_of_want (wait + 1 + jitter)) (map want (wants_of (whole plan timing stays) u)) * 160
        ≤ n * sum_by rate bs + sum_by (more_of want) bs =
        subst (λ (xs : List Broadcast). sum_by (frames_of_want (wait + 1 + jitter)) (map want xs) * 160 ≤ n * sum_by rate bs + sum_by (more_of want) bs)
        (sym wanted_bs) here in
        omega (arith, there)

    few_units : (m : ℕ) → m < b.count u → u < unit_limit
    few_units m below =
        let inside = unit_planned plan timing stays b u m (keeps.broadcasts.messages u m below) in
        let few = plan.unit_count in
        omega (arith, inside, few)

    -- where this is wanted of it
    of_demand : (j at : ℕ) (demand : Demand) → (streams j).wanted ≡ Some (Sender at) → slice_get demands at ≡ Some demand
        → lesser_share demands (wait + 1) (streams j) ≡ lesser (wait + 1) (streams j) (Some demand)
    of_demand j at demand wanted its =
        ap (λ (a : Option Want). wanted_share (wait + 1) (streams j) a (demand_of demands (streams j))) (ap (option_and_then of_askers) wanted)
        ∙ ap (lesser (wait + 1) (streams j)) (ap (option_and_then (of_sender demands)) wanted ∙ its)

    -- packets
    packet_bits : bits 3 u ≤ n * load_of_packets timing bs + more_packets plan timing stays u
    packet_bits = elim (cases_lt 0 (bits 3 u)) [
      | inr none ↦ omega (arith, none)
      | inl some ↦
          let (p, in_p, x) = some_counts plan timing stays states clean s queued_first planned sent held keeps from wait n span agree 3 u some in
          rated p in_p x.is (sent.source p) refl x.its_kind x.its_index
    ]
      where
        its_place : (m k : ℕ) (x : Source) → kind x ≡ 3 → index x ≡ u → source_place plan x ≡ source_place plan (Carrying u m k)
        its_place m k (Single f) is at = absurd (omega (arith, is))
        its_place m k (First f) is at = absurd (omega (arith, is))
        its_place m k (InSession f part) is at = absurd (omega (arith, is))
        its_place m k (Asking r) is at = absurd (omega (arith, is))
        its_place m k (Announcing v l) is at = absurd (omega (arith, is))
        its_place m k (Carrying v l i) is at = ap (λ (w : ℕ). source_place plan (Carrying w m k)) at

        rated : (p : ℕ) → p < s.count → planned p ≡ true → (x : Source) → sent.source p ≡ x → kind x ≡ 3 → index x ≡ u
            → bits 3 u ≤ n * load_of_packets timing bs + more_packets plan timing stays u
        rated p in_p is (Single f) at of_kind place = absurd (omega (arith, of_kind))
        rated p in_p is (First f) at of_kind place = absurd (omega (arith, of_kind))
        rated p in_p is (InSession f part) at of_kind place = absurd (omega (arith, of_kind))
        rated p in_p is (Asking r) at of_kind place = absurd (omega (arith, of_kind))
        rated p in_p is (Announcing v m) at of_kind place = absurd (omega (arith, of_kind))
        rated p in_p is (Carrying v m k) at of_kind place =
            let source : sent.source p ≡ Carrying u m k = at ∙ ap (λ (w : ℕ). Carrying w m k) place in
            let frame = frame_of plan timing stays states clean s queued_first planned sent held keeps from wait n span agree p in_p is
            (Carrying u m k) source in
            let j = source_place plan (Carrying u m k) in
            let stated : streams (source_place plan (Carrying u m k)) ≡ spaced_stream timing 1 (packets_demand u) =
            subst (λ (x : Source). IsPaced plan timing stays x (streams (source_place plan x))) source
            (stated_stream plan timing stays states clean s queued_first planned sent held keeps p in_p is) in
            let most : bits 3 u ≤ lesser_share demands (wait + 1) (streams (source_place plan (Carrying u m k))) =
            at_lesser plan timing stays states clean s queued_first planned sent held keeps from wait n span agree 3 u (source_place plan (Carrying u m k))
            (λ q in_q y. its_place m k (sent.source q) y.its_kind y.its_index) in
            let demand = of_demand (source_place plan (Carrying u m k)) (packets_demand u) (demand_by Packets (wants_of (whole plan timing stays) u))
            (ap (λ (x : Stream). x.wanted) stated) (packets_wanted u (whole plan timing stays) (few_units m frame.0.known)) in
            let same : lesser (wait + 1) (streams (source_place plan (Carrying u m k))) (Some (demand_by Packets (wants_of (whole plan timing stays) u)))
            ≡ lesser (wait + 1) (spaced_stream timing 1 (packets_demand u)) (Some (demand_by Packets (wants_of (whole plan timing stays) u))) =
            ap (λ (x : Stream). lesser (wait + 1) x (Some (demand_by Packets (wants_of (whole plan timing stays) u)))) stated in
            let paced : share (wait + 1) (spaced plan timing stays 1) ≤ n * bits_each timing 1 timing.broadcast_gap + more_spaced plan timing stays 1 =
            subst (λ (x : ℕ). share (wait + 1) (spaced plan timing stays 1) ≤ n * bits_each timing 1 x + more_spaced plan timing stays 1) (omega arith)
            (spaced_bits 1 (omega arith)) in
            let wanted = wanted_bits (want_of Packets) (λ x. bits_each timing x.packets x.period) (λ x. refl)
            (λ x is_timed. subst (λ (y : ℕ). IsRate timing (x.packets * 160) y (bits_each timing x.packets x.period)) (sym is_timed.apart)
            (each_is_rate timing agree x.packets x.period is_timed.period)) (most_packets (wants_of (whole plan timing stays) u)) 0 refl in
            let packets : most_packets (wants_of (whole plan timing stays) u) ≡ most_packets bs = ap most_packets wanted_bs in
            let both = lesser_rate n (share (wait + 1) (spaced plan timing stays 1))
            (frames_wanted (wait + 1 + 0) (demand_by Packets (wants_of (whole plan timing stays) u)) * 160)
            (sum_by (λ (x : Broadcast). bits_each timing x.packets x.period) bs) (bits_each timing 1 timing.broadcast_gap) (more_spaced plan timing stays 1)
            (sum_by (more_of (want_of Packets)) bs + most_packets bs * 160) paced (omega (arith, wanted, packets)) in
            omega (arith, most, demand, same, both)

    -- the announcements of flows some of whose messages go in one frame
    abbrev is_first : ℕ → Bool
    is_first p = has_firsts plan timing stays (b.flow u (message_of (sent.source p)))

    abbrev is_planned_first : ℕ → Bool
    is_planned_first p = planned p && is_first p

    abbrev first_bits_at : ℕ
    first_bits_at = total s.count (λ p. cond (of_index plan timing stays states clean s queued_first planned sent held keeps from wait n span agree 2 u p
        && is_first p) (s.bits p) 0)

    abbrev other_bits_at : ℕ
    other_bits_at = total s.count (λ p. cond (of_index plan timing stays states clean s queued_first planned sent held keeps from wait n span agree 2 u p && not
        (is_first p)) (s.bits p) 0)

    of_both : bits 2 u ≤ first_bits_at + other_bits_at
    of_both = total-two s.count (λ p. cond (of_index plan timing stays states clean s queued_first planned sent held keeps from wait n span agree 2 u p)
        (s.bits p) 0) (λ p. cond (of_index plan timing stays states clean s queued_first planned sent held keeps from wait n span agree 2 u p && is_first p)
        (s.bits p) 0)
        (λ p. cond (of_index plan timing stays states clean s queued_first planned sent held keeps from wait n span agree 2 u p && not (is_first p))
        (s.bits p) 0)
        (λ p in_p.
        elim (of_index plan timing stays states clean s queued_first planned sent held keeps from wait n span agree 2 u p) as
        (λ e. cond e (s.bits p) 0 ≤ cond (e && is_first p) (s.bits p) 0 + cond (e && not (is_first p)) (s.bits p) 0) [
          | false ↦ omega arith
          | true ↦ elim (is_first p) as (λ e. s.bits p ≤ cond e (s.bits p) 0 + cond (not e) (s.bits p) 0) [
            | true ↦ omega arith
            | false ↦ omega arith
          ]
        ])

    record Announces (p : ℕ) : Type 0 where
      pub message : ℕ
      pub source : sent.source p ≡ Announcing u message
      pub known : message < b.count u
      pub queued : s.queued p ≡ b.announced u message
      pub at_once : s.queued p ≡ sent.release p
      pub short : s.bits p ≤ 160

    announces : (p : ℕ) → p < s.count → planned p ≡ true → (x : Source) → sent.source p ≡ x → kind x ≡ 2 → index x ≡ u → Announces p
    announces p in_p is (Single f) at of_kind place = absurd (omega (arith, of_kind))
    announces p in_p is (First f) at of_kind place = absurd (omega (arith, of_kind))
    announces p in_p is (InSession f part) at of_kind place = absurd (omega (arith, of_kind))
    announces p in_p is (Asking r) at of_kind place = absurd (omega (arith, of_kind))
    announces p in_p is (Announcing v m) at of_kind place =
        let source : sent.source p ≡ Announcing u m = at ∙ ap (λ (w : ℕ). Announcing w m) place in
        let frame = frame_of plan timing stays states clean s queued_first planned sent held keeps from wait n span agree p in_p is (Announcing u m) source in
        record {
          message = m;
          source = source;
          known = frame.known;
          queued = keeps.broadcasts.announced p u m in_p is source;
          at_once = frame.at_once;
          short = frame.length;
        }
    announces p in_p is (Carrying v m k) at of_kind place = absurd (omega (arith, of_kind))

    counted : (p : ℕ) → p < s.count → IsCounted 2 u p → Announces p
    counted p in_p x = announces p in_p x.is (sent.source p) refl x.its_kind x.its_index

    abbrev message_at : (m : ℕ) → m < b.count u → IsMessageToAll plan timing b u m
    message_at m below = keeps.broadcasts.messages u m below

    -- which its group reports
    firsts_stated : (m : ℕ) (below : m < b.count u) → has_firsts plan timing stays (b.flow u m) ≡ has_short (message_at m below).group
    firsts_stated m below =
        let one = message_at m below in
        ap (λ (flow : Option FlowPlan). option_map_or (λ (f : FlowPlan). option_map_or has_short
        (slice_get plan.groups.items f.group) false) flow false) one.its
        ∙ ap (λ (group : Option GroupPlan). option_map_or has_short group false) one.of

    few_announced : (m : ℕ) (below : m < b.count u) → has_short (message_at m below).group ≡ false → least_announced bs ≤ b.packets u m
    few_announced m below none =
        let one = message_at m below in
        let least = least_announced_at u (asked plan timing stays).flows (b.flow u m) (its_broadcast plan timing stays b u m one)
        (is_by plan timing stays b u m one) in
        let same : announced_packets (its_broadcast plan timing stays b u m one) ≡ (its_broadcast plan timing stays b u m one).least_packets =
        ap (λ (has : Bool). if has then 255 else (its_broadcast plan timing stays b u m one).least_packets) none in
        let two = one.two in
        let shortest = one.shortest in
        omega (arith, least, same, two, shortest)

    behind : (m l : ℕ) (below : m < b.count u) → l < b.count u → m < l → not (has_firsts plan timing stays (b.flow u m)) ≡ true
        → b.announced u m + least_announced bs * gap ≤ b.announced u l
    behind m l below last less others =
        let far = gaps_bits timing (b.packets u m) timing.broadcast_gap (b.announced u m) (b.announced u l)
        (keeps.broadcasts.in_turn u m l less last) in
        let few = few_announced m below (sym (firsts_stated m below) ∙ isnt (has_firsts plan timing stays (b.flow u m)) others) in
        let times : least_announced bs * gap ≤ b.packets u m * gap = mul-le-mul_right gap few in
        omega (arith, far, times)

    -- the other ones are as many gaps apart as their messages have packets
    other_apart : (p q : ℕ) (in_p : p < s.count) (in_q : q < s.count) → p ≢ q
        → of_index plan timing stays states clean s queued_first planned sent held keeps from wait n span agree 2 u p && not (is_first p) ≡ true
        → of_index plan timing stays states clean s queued_first planned sent held keeps from wait n span agree 2 u q && not (is_first q) ≡ true
        → (s.queued p + least_announced bs * gap ≤ s.queued q) ⊎ (s.queued q + least_announced bs * gap ≤ s.queued p)
    other_apart p q in_p in_q other is_p is_q =
        let two_p = and_parts (of_index plan timing stays states clean s queued_first planned sent held keeps from wait n span agree 2 u p)
        (not (is_first p)) is_p in
        let two_q = and_parts (of_index plan timing stays states clean s queued_first planned sent held keeps from wait n span agree 2 u q)
        (not (is_first q)) is_q in
        let x = parts plan timing stays states clean s queued_first planned sent held keeps from wait n span agree 2 u p two_p.0 in
        let y = parts plan timing stays states clean s queued_first planned sent held keeps from wait n span agree 2 u q two_q.0 in
        let a = counted p in_p x in
        let c = counted q in_q y in
        let at_p = a.queued in
        let at_q = c.queued in
        elim (cases_eq a.message c.message) [
          | inl same ↦ absurd (other (keeps.broadcasts.once p q u a.message in_p in_q x.is y.is a.source
              (c.source ∙ ap (λ (m : ℕ). Announcing u m) (sym same))))
          | inr differ ↦ elim (cases_lt a.message c.message) [
            | inl less ↦
                let far = behind a.message c.message a.known c.known less
                (subst (λ (z : Source). not (has_firsts plan timing stays (b.flow u (message_of z))) ≡ true) a.source two_p.1) in
                inl (omega (arith, far, at_p, at_q))
            | inr more ↦
                let far = behind c.message a.message c.known a.known (omega (arith, more, differ))
                (subst (λ (z : Source). not (has_firsts plan timing stays (b.flow u (message_of z))) ≡ true) c.source two_q.1) in
                inr (omega (arith, far, at_p, at_q))
          ]
        ]

    other_most : other_bits_at ≤ n * bits_each timing 1 (least_announced bs * timing.broadcast_gap) + more_spaced plan timing stays (least_announced bs)
    other_most =
        let some = some_announced bs packed in
        let one_gap = some_bits timing timing.broadcast_gap (let least = timing.broadcast_gap_least in omega (arith, least)) in
        let positive_bits = mul-le 1 1 (least_announced bs) gap some one_gap in
        let slots = div_ceil (wait + 1 + 0) (least_announced bs * gap) in
        let cover = (div_ceil_times (wait + 1 + 0) (least_announced bs * gap) (omega (arith, positive_bits))).0 in
        let sum = windows_sum s.count (λ p. of_index plan timing stays states clean s queued_first planned sent held keeps from wait n span agree 2 u p && not
        (is_first p)) s.queued s.bits (least_announced bs * gap) 160
        (λ p in_p is. (counted p in_p (parts plan timing stays states clean s queued_first planned sent held keeps from wait n span agree 2 u p
        (and_parts (of_index plan timing stays states clean s queued_first planned sent held keeps from wait n span agree 2 u p)
        (not (is_first p)) is).0)).short) other_apart
        (div_ceil (wait + 1 + 0) (least_announced bs * gap)) from (wait + 1) (omega (arith, cover)) in
        let all : other_bits_at ≤ total s.count
        (λ p. cond (of_index plan timing stays states clean s queued_first planned sent held keeps from wait n span agree 2 u p && not (is_first p)
        && inside from (wait + 1) (s.queued p)) (s.bits p) 0) =
        total-le s.count (λ p. cond (of_index plan timing stays states clean s queued_first planned sent held keeps from wait n span agree 2 u p && not
        (is_first p)) (s.bits p) 0)
        (λ p. cond (of_index plan timing stays states clean s queued_first planned sent held keeps from wait n span agree 2 u p && not (is_first p)
        && inside from
        (wait + 1) (s.queued p)) (s.bits p) 0) (λ p in_p.
        elim (cases_Bool (of_index plan timing stays states clean s queued_first planned sent held keeps from wait n span agree 2 u p && not (is_first p))) [
          | inr fails ↦ rw (fails) (omega arith)
          | inl is ↦
              let within = (parts plan timing stays states clean s queued_first planned sent held keeps from wait n span agree 2 u p
              (and_parts (of_index plan timing stays states clean s queued_first planned sent held keeps from wait n span agree 2 u p)
              (not (is_first p)) is).0).inside in
              rw (is, within) (omega arith)
        ]) in
        let rate = spaced_bits (least_announced bs) some in
        omega (arith, sum, all, rate)

    -- ---- all announcements

    module _ (m : ℕ) (below : m < b.count u) (stated : streams (source_place plan (Announcing u m))
        ≡ spaced_stream timing (least_packets (broadcasts_by u (asked plan timing stays).flows)) (announcements_demand u)) where
      abbrev j : ℕ
      j = source_place plan (Announcing u m)

      abbrev of : Origins
      of = origins_of plan sent

      copies : (p : ℕ) → p < s.count → is_planned_first p ≡ true → (streams (of.source p)).wanted ≡ None ⊎ IsCopy plan s planned sent s of p
      copies p in_p is = inr (record { below = in_p; is = (and_parts (planned p) (is_first p) is).0; place = refl; since = refl; queued = refl })

      abbrev IsOne : ℕ → Type 0
      IsOne p = IsAnnouncement plan timing stays s planned sent held keeps.frames keeps.broadcasts keeps.answers s is_planned_first of copies u p

      one_wanted : (p : ℕ) (x : IsOne p) → IsOf s is_planned_first of j p
          → 1 ≤ (first_want (its_broadcast plan timing stays b u x.message (message_at x.message x.known))).frames
      one_wanted p x its =
          let first = (and_parts (planned p) (is_first p) its.1).1 in
          let here : has_firsts plan timing stays (b.flow u x.message) ≡ true =
          subst (λ (z : Source). has_firsts plan timing stays (b.flow u (message_of z)) ≡ true) x.source first in
          let has : has_short (message_at x.message x.known).group ≡ true = sym (firsts_stated x.message x.known) ∙ here in
          subst (λ (e : Bool). 1 ≤ cond e 1 0) (sym has) (omega arith)

      first_most : first_bits_at ≤ n * load_of_firsts timing bs + sum_by (more_of first_want) bs
      first_most =
          let few = announced_most plan timing stays s planned sent held keeps.frames keeps.broadcasts keeps.answers s is_planned_first of copies u m first_want
          (λ x. refl) (λ x. refl) (λ x. omega arith) below (ap (λ (x : Stream). x.wanted) stated) one_wanted from (wait + 1) in
          let each : first_bits_at ≤ 160 * releases_in s is_planned_first of j from (wait + 1) =
          total-times s.count (λ p. of_index plan timing stays states clean s queued_first planned sent held keeps from wait n span agree 2 u p && is_first p)
          (λ p. is_planned_first p && (eqb (of.source p) j && (leb from (of.since p) && ltb (of.since p) (from + (wait + 1))))) s.bits 160 (λ p in_p is.
          let two = and_parts (of_index plan timing stays states clean s queued_first planned sent held keeps from wait n span agree 2 u p) (is_first p) is in
          let x = parts plan timing stays states clean s queued_first planned sent held keeps from wait n span agree 2 u p two.0 in
          let a = counted p in_p x in
          let there : of.source p ≡ j = ap (source_place plan) a.source in
          let (low, high) = inside_parts from (wait + 1) (s.queued p) x.inside in
          let at_once = a.at_once in (
            and_from (is_planned_first p) (eqb (of.source p) j && (leb from (of.since p) && ltb (of.since p) (from + (wait + 1))))
                (and_from (planned p) (is_first p) x.is two.1)
                (and_from (eqb (of.source p) j) (leb from (of.since p) && ltb (of.since p) (from + (wait + 1))) (eq-eqb (of.source p) j there)
                (inside_from from (wait + 1) (of.since p) (omega (arith, low, at_once)) (omega (arith, high, at_once)))),
            a.short,
          )) in
          let wanted = wanted_bits first_want (bits_of_firsts timing) (λ x. refl) (λ x is_timed. first_rate timing agree x is_timed) 0 0 refl in
          let same : frames_wanted (wait + 1 + 0) (record { under_way = 0; wants = map first_want (wants_of (whole plan timing stays) u) })
          ≡ frames_wanted (wait + 1) (record { under_way = 0; wants = map first_want (wants_of (whole plan timing stays) u) }) =
          ap (λ (x : ℕ). frames_wanted x (record { under_way = 0; wants = map first_want (wants_of (whole plan timing stays) u) })) (omega arith) in
          omega (arith, few, each, wanted, same)

      all_wanted : lesser_share demands (wait + 1) (streams j)
          ≤ n * (load_of_firsts timing bs + sum_by (bits_of_announcements timing) bs) + sum_by (more_of (want_of Announcements)) bs
      all_wanted =
          let demand = of_demand j (announcements_demand u) (demand_by Announcements (wants_of (whole plan timing stays) u))
          (ap (λ (x : Stream). x.wanted) stated)
          (announcements_wanted u (whole plan timing stays) (few_units m below)) in
          let same : lesser (wait + 1) (streams j) (Some (demand_by Announcements (wants_of (whole plan timing stays) u)))
          ≡ lesser (wait + 1) (spaced_stream timing (least_packets (broadcasts_by u (asked plan timing stays).flows)) (announcements_demand u))
          (Some (demand_by Announcements (wants_of (whole plan timing stays) u))) =
          ap (λ (x : Stream). lesser (wait + 1) x (Some (demand_by Announcements (wants_of (whole plan timing stays) u)))) stated in
          let wanted = wanted_bits (want_of Announcements) (λ x. bits_of_firsts timing x + bits_of_announcements timing x) (λ x. refl)
          (λ x is_timed. announcement_rate timing agree x is_timed) 0 0 refl in
          let both : n * sum_by (λ x. bits_of_firsts timing x + bits_of_announcements timing x) bs
          ≡ n * (load_of_firsts timing bs + sum_by (bits_of_announcements timing) bs) =
          ap (λ (x : ℕ). n * x) (sum_by-two (bits_of_firsts timing) (bits_of_announcements timing) bs) in
          omega (arith, demand, same, wanted, both)

      all_announced : bits 2 u ≤ lesser_share demands (wait + 1) (streams j) → bits 2 u
          ≤ n * (load_of_firsts timing bs + load_of_announcements timing bs) + more_announcements plan timing stays u
      all_announced most =
          let wanted = all_wanted in
          let both = of_both in
          let firsts = first_most in
          let others = other_most in
          let whole_rate = beside_rate n (bits 2 u) (load_of_firsts timing bs) (sum_by (bits_of_announcements timing) bs)
          (bits_each timing 1 (least_announced bs * timing.broadcast_gap))
          (sum_by (more_of (want_of Announcements)) bs) (sum_by (more_of first_want) bs + more_spaced plan timing stays (least_announced bs))
          (omega (arith, most, wanted)) (omega (arith, both, firsts, others)) in
          omega (arith, whole_rate)

    announcement_bits : bits 2 u ≤ n * (load_of_firsts timing bs + load_of_announcements timing bs) + more_announcements plan timing stays u
    announcement_bits = elim (cases_lt 0 (bits 2 u)) [
      | inr none ↦ omega (arith, none)
      | inl some ↦
          let (p, in_p, x) = some_counts plan timing stays states clean s queued_first planned sent held keeps from wait n span agree 2 u some in
          let a = counted p in_p x in
          let stated : streams (source_place plan (Announcing u a.message))
          ≡ spaced_stream timing (least_packets (broadcasts_by u (asked plan timing stays).flows)) (announcements_demand u) =
          subst (λ (z : Source). IsPaced plan timing stays z (streams (source_place plan z))) a.source
          (stated_stream plan timing stays states clean s queued_first planned sent held keeps p in_p x.is) in
          all_announced a.message a.known stated (at_lesser plan timing stays states clean s queued_first planned sent held keeps from wait n span agree 2 u
          (source_place plan (Announcing u a.message)) (λ q in_q y.
          ap (source_place plan) (counted q in_q y).source))
    ]

    -- all of them, where the unit sends any
    pub unit_bits : bits 2 u + bits 3 u ≤ n * rate_of_unit plan timing stays (get_or (asked plan timing stays).units u None)
        + (more_announcements plan timing stays u + more_packets plan timing stays u)
    unit_bits = elim (cases_lt 0 (bits 2 u + bits 3 u)) [
      | inr none ↦ omega (arith, none)
      | inl some ↦
          let (m, below) = a_message some in
          let its : get_or (asked plan timing stays).units u None ≡ Some (unit_asks plan timing stays b u m (message_at m below)) =
          unit_read plan timing stays b u m (message_at m below) in
          let rate : rate_of_unit plan timing stays (get_or (asked plan timing stays).units u None)
          ≡ load_of_packets timing bs + (load_of_firsts timing bs + load_of_announcements timing bs) = ap (rate_of_unit plan timing stays) its in
          let packets = packet_bits in
          let announcements = announcement_bits in
          let parts : n * rate_of_unit plan timing stays (get_or (asked plan timing stays).units u None)
          ≡ n * load_of_packets timing bs + n * (load_of_firsts timing bs + load_of_announcements timing bs) =
          ap (λ (x : ℕ). n * x) rate ∙ both n (load_of_packets timing bs) (load_of_firsts timing bs + load_of_announcements timing bs) in
          omega (arith, packets, announcements, parts)
    ]
      where
        carried : (p : ℕ) → p < s.count → planned p ≡ true → (x : Source) → sent.source p ≡ x → kind x ≡ 3 → index x ≡ u → (m : ℕ) × (m < b.count u)
        carried p in_p is (Single f) at of_kind place = absurd (omega (arith, of_kind))
        carried p in_p is (First f) at of_kind place = absurd (omega (arith, of_kind))
        carried p in_p is (InSession f part) at of_kind place = absurd (omega (arith, of_kind))
        carried p in_p is (Asking r) at of_kind place = absurd (omega (arith, of_kind))
        carried p in_p is (Announcing v m) at of_kind place = absurd (omega (arith, of_kind))
        carried p in_p is (Carrying v m k) at of_kind place =
            let source : sent.source p ≡ Carrying u m k = at ∙ ap (λ (w : ℕ). Carrying w m k) place in (
              m,
              (frame_of plan timing stays states clean s queued_first planned sent held keeps from wait n span agree p in_p is
                  (Carrying u m k) source).0.known,
            )

        a_message : 0 < bits 2 u + bits 3 u → (m : ℕ) × (m < b.count u)
        a_message some = elim (cases_lt 0 (bits 2 u)) [
          | inl first ↦ let (p, in_p, x) = some_counts plan timing stays states clean s queued_first planned sent held keeps from wait n span agree 2 u first
              in let a = counted p in_p x in (a.message, a.known)
          | inr none ↦
              let (p, in_p, x) = some_counts plan timing stays states clean s queued_first planned sent held keeps from wait n span agree 3 u
              (omega (arith, some, none)) in
              carried p in_p x.is (sent.source p) refl x.its_kind x.its_index
        ]
