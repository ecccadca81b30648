-- What is reported of a frame by its source: it is one of the frames that stand at its place among all that a plan asks for.
use Rattle.std.proofs.Common.{◌≡◌, ℕ, zero, suc, ◌+◌, ◌-◌, ◌*◌, ◌^◌, ◌<◌, ◌≤◌, Bool, true, false, eqb, List, length, None, Some}
use Rattle.std.proofs.Common.{refl, sym, ap, ◌∙◌, subst, inl, inr, arith}
use Rattle.std.proofs.lemmas.Bool.{eq-eqb, le-leb, lt-leb, or_cases, or_right}
use Rattle.std.proofs.lemmas.Option.{none-some, same_Some, slice_get_within}
use Rattle.std.specs.Int.{div_ceil}
use Rattle.std.specs.List.{slice_get}
use Rattle.std.specs.Option.{option_map_or}
use Rattle.j39_id.specs.Ident.{identifier_of}
use Rattle.j39_findings.specs.Standing.{DecidesWhoStays}
use Rattle.j39_network.specs.declared.plan.Plan.{Plan}
use Rattle.j39_network.specs.declared.plan.flow_plan.FlowPlan.{FlowPlan}
use Rattle.j39_network.specs.declared.plan.group_plan.GroupPlan.{GroupPlan}
use Rattle.j39_network.specs.declared.plan.pace.Pace.{Pace}
use Rattle.j39_network.specs.declared.plan.request_plan.RequestPlan.{RequestPlan}
use Rattle.j39_network.specs.declared.plan.timing.Timing.{Timing}
use Rattle.j39_network.specs.declared.plan.to.To.{To}
use Rattle.j39_network.specs.declared.plan.to.To.TheVariants.{One}
use Rattle.j39_network.specs.declared.plan.unit_plan.UnitPlan.{UnitPlan}
use Rattle.j39_search.proofs.Members.{all_at}
use Rattle.j39_load.specs.declared.frames.flow_frames.FlowFrames.{FlowFrames}
use Rattle.j39_load.specs.AnyQueues.{are_of_unit}
use Rattle.j39_load.specs.AnswerStreams.{answered_within, answers_want, askers_of, frames_for}
use Rattle.j39_load.specs.KeepsAnswers.{IsOfFlow, answered_in}
use Rattle.j39_load.specs.KeepsPlan.{packets_at, source_turn, turn_of_part}
use Rattle.j39_load.specs.Loads.{any_unit, bits_at_least, bits_at_most, destination_at, greatest_address, group_ident, least_address, of_unit}
use Rattle.j39_load.specs.Loads.{packet_frames, single_frames}
use Rattle.j39_load.specs.Ranks.{AreHeldApart, AreHeldByPlan, AreUnitsPlanned}
use Rattle.j39_load.specs.SentFrames.{Held, IsFrameOf, IsRequestFrame, IsSessionFrame, IsSingleFrame, Part, SendsPart}
use Rattle.j39_load.specs.SentFrames.{HasPeriodMs, IsFirstFrame, IsSentEvery, IsWithinUnitMs, Source, part_identifier}
use Rattle.j39_load.specs.SentFrames.{Single, First, InSession, Asking, RequestToSend, Packet, ClearToSend, EndAcknowledged}
use Rattle.j39_load.proofs.PlacedFrames.{announcing_read, carrying_read, first_read, in_request, in_session, own, read, request_frames_read, session_read}
use Rattle.j39_load.proofs.PlacedFrames.{unit_asks, unit_planned}
use Rattle.j39_load.proofs.Milliseconds.{within_bits, within_both}
use Rattle.j39_load.proofs.Ranks as ranks
use Rattle.j39_load.specs.declared.loads.unit_load.UnitLoad.{UnitLoad}
use Rattle.j39_load.specs.KeepsBroadcasts.{IsMessageToAll}
use Rattle.j39_load.specs.Loads.{broadcast_ident}
use Rattle.j39_load.specs.SentFrames.{Announcing, Broadcasts, Carrying, IsBroadcastFrame}
use Rattle.j39_load.proofs.SessionParts.{turn_below}
use Rattle.j39_timing.specs.TimedFrames.{Schedule}
use Rattle.j39_timing.specs.Traffic.{IsQueuedAt}
use Rattle.j39_tp.specs.Chunks.{packets_of}
use Rattle.j39_load.proofs.KnownFrames.{IsAskedBy, IsBetween, IsKnown, IsPacedBy, any_stated, asking_ident, first_ident, of_one_unit, one_to}
use Rattle.j39_load.proofs.KnownFrames.{single_ident}
use Rattle.j39_load.proofs.KeepingAnswers.{asked_where_some, some_askers, unasked_where_none}
use Rattle.j39_timing.specs.declared.wants.Want.{Want}
use Rattle.j39_timing.proofs.Demands.{no_demand, spaced_unwanted}

module _ (plan : Plan) (timing : Timing) (stays : UnitPlan → Bool) where
  abbrev units : List UnitPlan
  units = plan.units.items

  -- the frames at the place of its source, and that it is one of them
  abbrev IsKnownHere : Schedule → Source → ℕ → ℕ → Type 0
  IsKnownHere s source release p = IsKnown plan timing stays s source release p

  -- ---- a frame of each source

  module _ (states : DecidesWhoStays plan stays) (s : Schedule) (held : Held) (by_plan : (t : ℕ) → AreHeldByPlan plan (held.address t))
      (apart : (t : ℕ) → AreHeldApart (held.named t) (held.address t)) (b : Broadcasts)
      (messages : (u m : ℕ) → m < b.count u → IsMessageToAll plan timing b u m) where
    abbrev low : ℕ → ℕ
    low = of_unit units (least_address stays)

    abbrev high : ℕ → ℕ
    high = of_unit units (greatest_address stays)

    flow_units : (f : ℕ) (flow : FlowPlan) → slice_get plan.flows.items f ≡ Some flow → AreUnitsPlanned plan flow
    flow_units f flow its = record {
      sender = all_at (λ (g : FlowPlan). g.sender < length plan.units.items) plan.flows.items plan.flow_senders f flow its;
      receiver = all_at (λ (g : FlowPlan). (v : ℕ) → g.to ≡ One v → v < length plan.units.items) plan.flows.items plan.flow_receivers f flow its;
    }

    -- how far messages of a flow are apart, of such frames, or how many are asked for
    module _ (f : ℕ) (flow : FlowPlan) (pace : Pace) (its : slice_get plan.flows.items f ≡ Some flow) (paced : flow.pace ≡ Some pace) (source : Source)
        (frames : FlowFrames) (none : frames.stream.wanted ≡ None) (period : frames.stream.period ≡ bits_at_least timing pace.period)
        (of_flow : IsOfFlow f source)
        (every : HasPeriodMs plan f pace.period → IsSentEvery plan source pace.period) (turn : source_turn plan source < frames.stream.frames)
        (late : (moment at : ℕ) → IsWithinUnitMs timing (answered_in pace source) moment at
        → at ≤ moment + (frames.stream.jitter + (bits_at_most timing (answered_within pace) - bits_at_most timing pace.jitter))) where
      by_askers : (k : ℕ) → askers_of plan.requests.items flow ≡ k → IsPacedBy plan timing stays source (frames_for timing pace k frames).stream
      by_askers zero is = record {
        ms = pace.period;
        every = λ spaced. every (record {
          flow = flow;
          its = its;
          pace = pace;
          paced = paced;
          is = refl;
          unasked = unasked_where_none plan.requests.items flow is;
        });
        period = period;
        unwanted = λ demands. no_demand demands (frames_for timing pace 0 frames).stream none;
        asked = λ want some. absurd (none-some want (sym (spaced_unwanted (frames_for timing pace 0 frames).stream none) ∙ some));
      }
      by_askers (suc more) is = record {
        ms = pace.period;
        every = λ spaced. absurd (none-some (answers_want timing pace frames.stream.frames more) (sym spaced));
        period = period;
        unwanted = λ demands. refl;
        asked = λ want some.
            subst (λ (x : Want). IsAskedBy plan timing stays source (frames_for timing pace (suc more) frames).stream x)
            (same_Some (answers_want timing pace frames.stream.frames more) want some) (record {
              place = f;
              answering = record {
                flow = flow;
                its = its;
                pace = pace;
                paced = paced;
                answers = asked_where_some plan.requests.items flow pace more paced is;
              };
              of_flow = of_flow;
              turn = turn;
              period = refl;
              askers = (let size = some_askers plan.requests.items flow (asked_where_some plan.requests.items flow pace more paced is)
                  in omega (arith, size, is));
              late = late;
            });
      }

      pub paced_for : IsPacedBy plan timing stays source (frames_for timing pace (askers_of plan.requests.items flow) frames).stream
      paced_for = by_askers (askers_of plan.requests.items flow) refl

    late_of_one : (pace : Pace) (moment at : ℕ) → IsWithinUnitMs timing (answered_within pace) moment at
        → at ≤ moment + (bits_at_most timing pace.jitter + (bits_at_most timing (answered_within pace) - bits_at_most timing pace.jitter))
    late_of_one pace moment at within = let bits = within_bits timing (answered_within pace) moment at within in omega (arith, bits)

    -- the identifier of a flow lies between those that are reported
    lies_between : (f : ℕ) (flow : FlowPlan) (its : slice_get plan.flows.items f ≡ Some flow) (group : GroupPlan) (ident t : ℕ)
        → ident ≡ group_ident (held.address t) group flow → (group_ident low group flow ≤ ident) × (ident ≤ group_ident high group flow)
    lies_between f flow its group ident t is =
        let lies = ranks.lie_between plan stays states (held.address t) (by_plan t) flow (flow_units f flow its) timing group in
        let least = lies.least in
        let greatest = lies.greatest in
        (omega (arith, least, is), omega (arith, greatest, is))

    module _ (f release p : ℕ) (ready : s.queued p ≤ s.start p) (one : IsSingleFrame plan timing s held f release p) where
      between : (group_ident low one.group one.flow ≤ s.ident p) × (s.ident p ≤ group_ident high one.group one.flow)
      between = lies_between f one.flow one.its one.group (s.ident p) (s.queued p)
          (single_ident plan timing s held f release p (s.queued p) one (omega arith, ready))

      single_known : IsKnownHere s (Single f) release p
      single_known = record {
        frames = own plan timing stays f one.flow one.pace one.group one.its one.paced one.of;
        read = read plan timing stays f one.flow one.pace one.group one.its one.paced one.of one.short;
        bits_at_most = rw (le-leb one.group.most 8 one.short) (let few = one.length in omega (arith, few));
        turns = omega arith;
        release_first = one.release_first;
        jitter_at_most = within_bits timing one.pace.jitter release (s.queued p) one.jitter_at_most;
        paced = paced_for f one.flow one.pace one.its one.paced (Single f) (single_frames timing units stays one.flow one.pace one.group) refl refl refl
            (λ every. every) (omega arith) (late_of_one one.pace);
        between = between;
        greatest = between.1;
        of_units = of_one_unit plan timing stays (Single f) (own plan timing stays f one.flow one.pace one.group one.its one.paced one.of) one.flow.sender
            (one.flow, one.its, refl) (one.flow, one.its, refl) (flow_units f one.flow one.its).sender refl refl;
      }

    module _ (f release p : ℕ) (ready : s.queued p ≤ s.start p) (one : IsFirstFrame plan timing s held f release p) where
      first_between : (group_ident low one.group one.flow ≤ s.ident p) × (s.ident p ≤ group_ident high one.group one.flow)
      first_between =
          lies_between f one.flow one.its one.group (s.ident p) (s.queued p) (first_ident plan timing s held f release p (s.queued p) one (omega arith, ready))

      first_known : IsKnownHere s (First f) release p
      first_known = record {
        frames = own plan timing stays f one.flow one.pace one.group one.its one.paced one.of;
        read = first_read plan timing stays f one.flow one.pace one.group one.its one.paced one.of one.short one.long;
        bits_at_most = rw (lt-leb one.group.most 8 one.long) (let few = one.length in omega (arith, few));
        turns = omega arith;
        release_first = one.release_first;
        jitter_at_most = within_bits timing one.pace.jitter release (s.queued p) one.jitter_at_most;
        paced = paced_for f one.flow one.pace one.its one.paced (First f) (single_frames timing units stays one.flow one.pace one.group) refl refl refl
            (λ every. every) (omega arith) (late_of_one one.pace);
        between = first_between;
        greatest = tt;
        of_units = of_one_unit plan timing stays (First f) (own plan timing stays f one.flow one.pace one.group one.its one.paced one.of) one.flow.sender
            (one.flow, one.its, refl) (one.flow, one.its, refl) (flow_units f one.flow one.its).sender refl refl;
      }

    module _ (r release p : ℕ) (ready : s.queued p ≤ s.start p) (one : IsRequestFrame plan s held r release p) where
      request_known : IsKnownHere s (Asking r) release p
      request_known =
          let t = s.queued p in
          let is_ident = asking_ident plan s held r release p t one (omega arith, ready) in
          let lies = ranks.request_between plan stays states (held.address t) (by_plan t) r one.asked one.its in
          let least = lies.least in
          let greatest = lies.greatest in
          let few = one.length in
          let at_once = one.at_once in
          record {
            frames = in_request plan timing stays r one.asked one.ms one.its one.paced;
            read = request_frames_read plan timing stays r one.asked one.ms one.its one.paced;
            bits_at_most = omega (arith, few);
            turns = omega arith;
            release_first = omega (arith, at_once);
            jitter_at_most = omega (arith, at_once);
            paced = record {
              ms = one.ms;
              every = λ spaced. (one.asked, one.its, one.paced);
              period = refl;
              unwanted = λ demands. refl;
              asked = λ want some. absurd (none-some want some);
            };
            between = (omega (arith, least, is_ident), omega (arith, greatest, is_ident));
            greatest = tt;
            of_units = of_one_unit plan timing stays (Asking r) (in_request plan timing stays r one.asked one.ms one.its one.paced) one.asked.sender
                (one.asked, one.its, refl) (one.asked, one.its, refl)
                (all_at (λ (d : RequestPlan). d.sender < length plan.units.items) plan.requests.items plan.request_senders r one.asked one.its) refl refl;
          }

    -- the unit of a long message's part
    pub record IsPartSent (flow : FlowPlan) (part : Part) (v : ℕ) (frames : FlowFrames) : Type 0 where
      pub place : ℕ
      pub sends : SendsPart flow part place
      pub planned : place < length units
      pub stated : any_unit units place ≡ Some place → are_of_unit frames place ≡ true

    module _ (f : ℕ) (part : Part) (release p : ℕ) (ready : s.queued p ≤ s.start p) (one : IsSessionFrame plan timing s held f part release p) where
      abbrev v : ℕ
      v = one.receiver

      abbrev u : ℕ
      u = one.flow.sender

      abbrev frames : FlowFrames
      frames = in_session plan timing stays f one.flow one.pace one.group one.its one.paced one.of v

      abbrev address : ℕ → ℕ
      address = held.address (s.queued p)

      abbrev prio : ℕ
      prio = timing.transport_priority

      now : IsQueuedAt s p (s.queued p)
      now = (omega arith, ready)

      u_planned : u < length units
      u_planned = (flow_units f one.flow one.its).sender

      v_planned : v < length units
      v_planned = slice_get_within units v one.unit one.receiver_is

      only : (k w : ℕ) → k < length units → One k ≡ One w → w < length units
      only k w below same = let is = one_to k w same in omega (arith, below, is)

      -- all addresses are below 255
      addresses_few : (address u < 255) × (address v < 255)
      addresses_few = (
        (apart (s.queued p)).range u (one.sender_named (s.queued p) now),
        (apart (s.queued p)).range v (one.receiver_named (s.queued p) now),
      )

      there : (number : ℕ) → (identifier_of prio number (low v) (low u) ≤ identifier_of prio number (address v) (address u))
          × (identifier_of prio number (address v) (address u) ≤ identifier_of prio number (high v) (high u))
      there number = ranks.between plan stays states address (by_plan (s.queued p)) u (One v) u_planned (λ w. only v w v_planned) prio number

      back : (number : ℕ) → (identifier_of prio number (low u) (low v) ≤ identifier_of prio number (address u) (address v))
          × (identifier_of prio number (address u) (address v) ≤ identifier_of prio number (high u) (high v))
      back number = ranks.between plan stays states address (by_plan (s.queued p)) v (One u) v_planned (λ w. only u w u_planned) prio number

      -- packets have the smallest identifiers of all parts, in bits
      least_is : frames.least_ident ≡ prio * 2 ^ 26 + 60160 * 2 ^ 8 + low v * 2 ^ 8 + low u
      least_is = ap (λ (to : To). identifier_of prio 60160 (destination_at low to) (low u)) one.to_one

      data_there : (prio * 2 ^ 26 + 60160 * 2 ^ 8 + low v * 2 ^ 8 + low u ≤ prio * 2 ^ 26 + 60160 * 2 ^ 8 + address v * 2 ^ 8 + address u)
          × (prio * 2 ^ 26 + 60160 * 2 ^ 8 + address v * 2 ^ 8 + address u ≤ prio * 2 ^ 26 + 60160 * 2 ^ 8 + high v * 2 ^ 8 + high u)
      data_there = there 60160

      request_there : prio * 2 ^ 26 + 60416 * 2 ^ 8 + address v * 2 ^ 8 + address u ≤ prio * 2 ^ 26 + 60416 * 2 ^ 8 + high v * 2 ^ 8 + high u
      request_there = (there 60416).1

      answer_back : prio * 2 ^ 26 + 60416 * 2 ^ 8 + address u * 2 ^ 8 + address v ≤ prio * 2 ^ 26 + 60416 * 2 ^ 8 + high u * 2 ^ 8 + high v
      answer_back = (back 60416).1

      asks_between : s.ident p ≡ prio * 2 ^ 26 + 60416 * 2 ^ 8 + address v * 2 ^ 8 + address u → IsBetween plan timing stays frames (s.ident p)
      asks_between is =
          let first = least_is in
          let packets = data_there.0 in
          let most = request_there in
          (omega (arith, is, first, packets), omega (arith, is, most))

      answers_between : s.ident p ≡ prio * 2 ^ 26 + 60416 * 2 ^ 8 + address u * 2 ^ 8 + address v → IsBetween plan timing stays frames (s.ident p)
      answers_between is =
          let first = least_is in
          let packets = data_there.0 in
          let (a, b) = addresses_few in
          let most = answer_back in
          (omega (arith, is, first, packets, a, b), omega (arith, is, most))

      packet_between : s.ident p ≡ prio * 2 ^ 26 + 60160 * 2 ^ 8 + address v * 2 ^ 8 + address u → IsBetween plan timing stays frames (s.ident p)
      packet_between is =
          let first = least_is in
          let packets = data_there.0 in
          let most = request_there in
          (omega (arith, is, first, packets), omega (arith, is, most))

      part_between : (part : Part) → s.ident p ≡ part_identifier timing part (address u) (address v) → IsBetween plan timing stays frames (s.ident p)
      part_between RequestToSend is = asks_between is
      part_between (Packet k) is = packet_between is
      part_between (ClearToSend k) is = answers_between is
      part_between EndAcknowledged is = answers_between is

      by_sender : (part : Part) → SendsPart one.flow part u → IsPartSent one.flow part v frames
      by_sender part sends = record { place = u; sends = sends; planned = u_planned; stated = λ any. rw (any, eq-eqb u u refl) refl }

      by_receiver : (part : Part) → SendsPart one.flow part v → IsPartSent one.flow part v frames
      by_receiver part sends = record {
        place = v;
        sends = sends;
        planned = v_planned;
        stated = λ any. or_right (option_map_or (λ (x : ℕ). eqb x v) (any_unit units u) false) (option_map_or (λ (x : ℕ). eqb x v) (any_unit units v) false)
            (rw (any, eq-eqb v v refl) refl);
      }

      part_sent : (part : Part) → IsPartSent one.flow part v frames
      part_sent RequestToSend = by_sender RequestToSend refl
      part_sent (Packet k) = by_sender (Packet k) refl
      part_sent (ClearToSend k) = by_receiver (ClearToSend k) one.to_one
      part_sent EndAcknowledged = by_receiver EndAcknowledged one.to_one

      turns_below : source_turn plan (InSession f part) < frames.stream.frames
      turns_below =
          let packets : packets_at plan f ≡ packets_of one.group.most = rw (one.its, one.of) refl in
          let window : of_unit units (λ (unit : UnitPlan). unit.window) v ≡ one.unit.window = rw (one.receiver_is) refl in
          subst (λ (n : ℕ). turn_of_part n part < frames.stream.frames) (sym packets)
          (subst (λ (w : ℕ). turn_of_part (packets_of one.group.most) part < 2 + packets_of one.group.most + div_ceil (packets_of one.group.most) w)
          (sym window)
          (turn_below one.group.most one.unit.window one.unit.window_positive part one.is_part))

      session_known : IsKnownHere s (InSession f part) release p
      session_known =
          let sent = part_sent part in
          let few = one.length in
          record {
            frames = frames;
            read = session_read plan timing stays f one.flow one.pace one.group one.its one.paced one.of v one.long one.to_one;
            bits_at_most = omega (arith, few);
            turns = turns_below;
            release_first = one.release_first;
            jitter_at_most = within_both timing one.pace.period one.pace.jitter release (s.queued p) one.jitter_at_most;
            paced = paced_for f one.flow one.pace one.its one.paced (InSession f part)
                (packet_frames timing units stays one.flow v one.pace (packets_of one.group.most)) refl refl refl (λ every. every) turns_below
                (λ moment at within.
                let bits = within_both timing one.pace.period (answered_within one.pace) moment at within in omega (arith, bits));
            between = part_between part (one.identifier (s.queued p) now);
            greatest = tt;
            of_units = record {
              sender = sent.place;
              sends = (one.flow, one.its, sent.sends);
              planned = sent.planned;
              of_sender = sent.stated;
              of_any = λ m stated. elim (or_cases (option_map_or m (any_unit units u) false) (option_map_or m (any_unit units v) false) stated) [
                | inl is ↦
                    let (unit, at, any) = any_stated units u m is in
                    record { place = u; takes = (one.flow, one.its, inl refl); unit = unit; at = at; any = any }
                | inr is ↦
                    let (unit, at, any) = any_stated units v m is in
                    record { place = v; takes = (one.flow, one.its, inr one.to_one); unit = unit; at = at; any = any }
              ];
            };
          }

    -- a frame of a unit's long message to all
    module _ (number u m release p : ℕ) (ready : s.queued p ≤ s.start p) (one : IsBroadcastFrame timing s held b number u m release p) where
      abbrev message : IsMessageToAll plan timing b u m
      message = messages u m one.known

      abbrev asks : UnitLoad
      asks = unit_asks plan timing stays b u m message

      broadcast_between : (broadcast_ident timing number low u ≤ s.ident p) × (s.ident p ≤ broadcast_ident timing number high u)
      broadcast_between =
          let t = s.queued p in
          let is : s.ident p ≡ broadcast_ident timing number (held.address t) u = one.identifier t (omega arith, ready) in
          let lies = ranks.lie_between plan stays states (held.address t) (by_plan t) message.flow
          (flow_units (b.flow u m) message.flow message.its) timing message.group in
          let least : broadcast_ident timing number low u ≤ broadcast_ident timing number (held.address t) u =
          subst (λ (x : ℕ). broadcast_ident timing number low x ≤ broadcast_ident timing number (held.address t) x) message.from
          (lies.least_broadcast number) in
          let greatest : broadcast_ident timing number (held.address t) u ≤ broadcast_ident timing number high u =
          subst (λ (x : ℕ). broadcast_ident timing number (held.address t) x ≤ broadcast_ident timing number high x) message.from
          (lies.greatest_broadcast number) in (
            subst (λ (n : ℕ). broadcast_ident timing number low u ≤ n) (sym is) least,
            subst (λ (n : ℕ). n ≤ broadcast_ident timing number high u)
                (sym is) greatest,
          )

    announcing_known : (u m release p : ℕ) (ready : s.queued p ≤ s.start p) (one : IsBroadcastFrame timing s held b 60416 u m release p)
        → IsKnownHere s (Announcing u m) release p
    announcing_known u m release p ready one =
        let between = broadcast_between 60416 u m release p ready one in
        let few = one.length in
        let at_once = one.at_once in
        record {
          frames = (asks 60416 u m release p ready one).announcements;
          read = announcing_read plan timing stays b u m (message 60416 u m release p ready one);
          bits_at_most = omega (arith, few);
          turns = omega arith;
          release_first = omega (arith, at_once);
          jitter_at_most = omega (arith, at_once);
          paced = refl;
          between = between;
          greatest = between.1;
          of_units = of_one_unit plan timing stays (Announcing u m) (asks 60416 u m release p ready one).announcements u refl refl
              (unit_planned plan timing stays b u m (message 60416 u m release p ready one)) refl refl;
        }

    carrying_known : (u m k release p : ℕ) (ready : s.queued p ≤ s.start p) (one : IsBroadcastFrame timing s held b 60160 u m release p)
        → IsKnownHere s (Carrying u m k) release p
    carrying_known u m k release p ready one =
        let between = broadcast_between 60160 u m release p ready one in
        let few = one.length in
        let at_once = one.at_once in
        record {
          frames = (asks 60160 u m release p ready one).packets;
          read = carrying_read plan timing stays b u m (message 60160 u m release p ready one) k;
          bits_at_most = omega (arith, few);
          turns = omega arith;
          release_first = omega (arith, at_once);
          jitter_at_most = omega (arith, at_once);
          paced = refl;
          between = between;
          greatest = between.1;
          of_units = of_one_unit plan timing stays (Carrying u m k) (asks 60160 u m release p ready one).packets u refl refl
              (unit_planned plan timing stays b u m (message 60160 u m release p ready one)) refl refl;
        }

    pub known : (source : Source) (release p : ℕ) → s.queued p ≤ s.start p → IsFrameOf plan timing s held b source release p → IsKnownHere s source release p
    known (Single f) release p ready one = single_known f release p ready one
    known (First f) release p ready one = first_known f release p ready one
    known (InSession f part) release p ready one = session_known f part release p ready one
    known (Asking r) release p ready one = request_known r release p ready one
    known (Announcing u m) release p ready one = announcing_known u m release p ready one
    known (Carrying u m k) release p ready one = carrying_known u m k release p ready one.0
