-- Where a time is reported of long messages to all no receiver gives one of them up.
use Rattle.std.proofs.Common.{◌≡◌, ℕ, ◌<◌, ◌≤◌, Bool, leb, if◌then◌else◌, List, [], get_or, Option, Some, None}
use Rattle.std.proofs.Common.{refl, sym, ap, ◌∙◌, subst, arith, option_map}
use Rattle.std.proofs.lemmas.Bool.{leb-true, lt-leb}
use Rattle.std.proofs.lemmas.List.{length-map}
use Rattle.std.proofs.lemmas.Option.{cond_some, none-some, same_Some}
use Rattle.std.specs.List.{slice_get}
use Rattle.j39_findings.specs.Findings.{Clean}
use Rattle.j39_network.specs.declared.plan.Plan.{Plan}
use Rattle.j39_network.specs.declared.plan.flow_plan.FlowPlan.{FlowPlan}
use Rattle.j39_network.specs.declared.plan.group_plan.GroupPlan.{GroupPlan}
use Rattle.j39_network.specs.declared.plan.pace.Pace.{Pace}
use Rattle.j39_network.specs.declared.plan.timing.Timing.{Timing}
use Rattle.j39_network.specs.declared.plan.to.To.TheVariants.{All as ToAllUnits}
use Rattle.j39_network.specs.declared.plan.unit_plan.UnitPlan.{UnitPlan}
use Rattle.j39_load.specs.declared.frames.broadcast.Broadcast.{Broadcast}
use Rattle.j39_load.specs.declared.waits.delay.Delay.{Delay}
use Rattle.j39_load.specs.declared.frames.flow_frames.FlowFrames.{FlowFrames}
use Rattle.j39_load.specs.declared.loads.flow_load.FlowLoad.{FlowLoad}
use Rattle.j39_load.specs.declared.frames.messages.Messages.{Messages}
use Rattle.j39_load.specs.declared.frames.messages.Messages.TheVariants.{Short, ToAll, ToOne}
use Rattle.j39_load.specs.declared.loads.unit_load.UnitLoad.{UnitLoad}
use Rattle.j39_load.specs.declared.waits.turn.Turn.{Turn}
use Rattle.j39_load.specs.declared.waits.whole_time.WholeTime.{WholeTime}
use Rattle.j39_load.specs.AnyQueues.{IsBuffering, Buffering}
use Rattle.j39_load.specs.Asked.{Asked, asked_of, frames_asked, total_load}
use Rattle.j39_load.specs.Delays.{IsTurn, IsTurnBy, IsWaitIn, known_turn, longest_pause, packet_time, packets_place, flow_turn, whole_time}
use Rattle.j39_load.specs.KeepsPlan.{origins_of, source_place}
use Rattle.j39_load.specs.KeptReceivers.{AreNotGivenUp}
use Rattle.j39_load.specs.LoadFindings.{AreLoadFindings, AsksOfBus, further_findings, load_findings}
use Rattle.j39_load.specs.Loads.{bits_inside, broadcast_of, long_messages, single_frames}
use Rattle.j39_load.specs.AnswerStreams.{askers_of, broadcast_for, messages_for}
use Rattle.j39_load.specs.FlowLoads.{load_of_flow}
use Rattle.j39_load.specs.SentFrames.{Carrying, IsFrameOf, Source}
use Rattle.j39_timing.specs.Waits.{IsSpaced, askers_want}
use Rattle.j39_load.proofs.BoundedFlows.{sent_in_any_order}
use Rattle.j39_load.proofs.KeepingTurns.{broadcasts_in_any_order}
use Rattle.j39_load.proofs.Milliseconds.{before_bits, in_each_ms, least_inside, within_bits}
use Rattle.j39_load.proofs.PlacedFrames.{at_place, carrying_read, load, unit_asks}
use Rattle.j39_load.proofs.PositivePeriods.{all_paced}
use Rattle.j39_load.proofs.Sending.{all_sent}
use Rattle.j39_load.proofs.StreamsBefore.{none_of_two}
use Rattle.j39_load.proofs.WholeMessages.{deadlines_kept, packets_read}
use Rattle.j39_timing.specs.Messages.{frame_end}

-- ---- where a time is reported

-- how long packets of the unit wait: with the longest gap and their own length no longer than a receiver does
record HasPause (timing : Timing) (asked : Asked) (buffering : Buffering) (u : ℕ) : Type 0 where
  pub load : UnitLoad
  pub at : get_or asked.units u None ≡ Some load
  pub wait : ℕ
  pub is : IsWaitIn timing buffering (packets_place asked u) load.packets (Some wait)
  pub short : packet_time timing load wait ≤ longest_pause timing

module _ (timing : Timing) (asked : Asked) (buffering : Buffering) (u : ℕ) where
  by_load : (turn : Turn) (load : Option UnitLoad) → get_or asked.units u None ≡ load → IsTurnBy timing asked buffering u load (Some turn)
      → HasPause timing asked buffering u
  by_load turn None at is = absurd (none-some turn (sym is))
  by_load turn (Some load) at (announced, sent, first, rest, stated) = by_waits announced sent rest stated
    where
      by_waits : (announced sent : Option ℕ) → IsWaitIn timing buffering (packets_place asked u) load.packets sent
          → Some turn ≡ known_turn timing load announced sent → HasPause timing asked buffering u
      by_waits None sent rest stated = absurd (none-some turn (sym stated))
      by_waits (Some a) None rest stated = absurd (none-some turn (sym stated))
      by_waits (Some a) (Some wait) rest stated =
          let short = (cond_some (leb (packet_time timing load wait) (longest_pause timing)) (flow_turn timing load a wait) turn (sym stated)).0 in
          record { load = load; at = at; wait = wait; is = rest; short = leb-true (packet_time timing load wait) (longest_pause timing) short }

  by_time : (broadcast : Broadcast) (whole : WholeTime) (bits : ℕ) (time : Option Turn) → IsTurn timing asked buffering u time
      → whole ≡ whole_time broadcast time → whole.bits ≡ Some bits → HasPause timing asked buffering u
  by_time broadcast whole bits None is same stated = absurd (none-some bits (sym (ap (λ (w : WholeTime). w.bits) same) ∙ stated))
  by_time broadcast whole bits (Some turn) is same stated = by_load turn (get_or asked.units u None) refl is

abbrev sender_of : Messages → ℕ
sender_of (Short frames) = 0
sender_of (ToOne frames) = 0
sender_of (ToAll broadcast) = broadcast.sender

-- ---- plans

module _ (plan : Plan) (timing : Timing) (clean : Clean plan) (stays : UnitPlan → Bool) (delays : List (Option Delay))
    (asks : AsksOfBus plan timing stays delays)
    (none : load_findings timing (total_load timing (asked_of timing plan stays)) delays ≡ []) where
  abbrev asked : Asked
  asked = asked_of timing plan stays

  -- the pause of a flow's unit, whose long messages to all have a deadline
  pause_of : (f : ℕ) (flow : FlowPlan) (pace : Pace) (group : GroupPlan) (limit : ℕ) → slice_get plan.flows.items f ≡ Some flow → flow.pace ≡ Some pace
      → slice_get plan.groups.items flow.group ≡ Some group → 8 < group.most → flow.to ≡ ToAllUnits → pace.deadline ≡ Some limit
      → (buffering : Buffering) × IsBuffering timing asked.unplanned_end (frames_asked asked) buffering × HasPause timing asked buffering flow.sender
  pause_of f flow pace group limit its paced of long goes written =
      let its_load : FlowLoad = load plan timing stays f flow pace group its paced of in
      let at = at_place plan timing stays f flow pace group its paced of in
      let messages : its_load.messages ≡ ToAll (broadcast_for timing pace (askers_of plan.requests.items flow) (broadcast_of timing flow pace group)) =
      ap (messages_for timing pace (askers_of plan.requests.items flow))
      (ap (λ (x : Bool). if x then Short (single_frames timing plan.units.items stays flow pace group)
      else long_messages timing plan.units.items stays flow pace group flow.to) (lt-leb group.most 8 long)
      ∙ ap (long_messages timing plan.units.items stays flow pace group) goes) in
      let deadline : (broadcast_of timing flow pace group).deadline ≡ Some (bits_inside timing limit) = ap (option_map (bits_inside timing)) written in
      let (whole, bits, stated, each, within, is) = deadlines_kept plan timing stays delays asks none f (bits_inside timing limit) its_load
      (broadcast_for timing pace (askers_of plan.requests.items flow) (broadcast_of timing flow pace group)) at messages deadline in
      let same : is.load ≡ its_load = same_Some _ _ (same_Some _ _ (sym is.its ∙ at)) in
      let sender : is.broadcast.sender ≡ flow.sender = ap sender_of (sym is.long ∙ (ap (λ (l : FlowLoad). l.messages) same ∙ messages)) in
      let (time, turn, total) = is.time in (
        is.buffering,
        is.is,
        subst (HasPause timing asked is.buffering) sender
            (by_time timing asked is.buffering is.broadcast.sender is.broadcast whole bits time turn total is.stated),
      )

  not_given_up : AreNotGivenUp plan timing
  not_given_up s controllers planned sent held legal keeps queues turns f flow pace group limit its paced of long goes written p q m k in_q is source gap seen =
      let (buffering, is_buffering, pause) = pause_of f flow pace group limit its paced of long goes written in
      let u = flow.sender in
      let frame = subst (λ (x : Source). IsFrameOf plan timing s held sent.broadcasts x (sent.release q) q) source (keeps.frames q in_q is) in
      let known = frame.0.known in
      let message = keeps.broadcasts.messages u m known in
      let come = (broadcasts_in_any_order plan timing stays clean asks.standing s controllers planned sent held u m known legal keeps queues turns).1 in
      let flows = length-map plan.flows.items (load_of_flow timing plan stays) in
      let place : source_place plan (Carrying u m k) ≡ packets_place asked u = omega (arith, flows) in
      let first = packets_read asked u pause.load pause.at in
      let second = carrying_read plan timing stays sent.broadcasts u m message k in
      let there : get_or (frames_asked asked) (packets_place asked u) None ≡ Some (unit_asks plan timing stays sent.broadcasts u m message).packets =
      ap (λ (n : ℕ). get_or (frames_asked asked) n None) (sym place) ∙ second in
      let frames : pause.load.packets ≡ (unit_asks plan timing stays sent.broadcasts u m message).packets = same_Some _ _ (sym first ∙ there) in
      let single : (pause.load.packets.twin_ident ≡ None) × IsSpaced pause.load.packets.stream =
      (ap (λ (x : FlowFrames). x.twin_ident) frames, ap (λ (x : FlowFrames). askers_want x.stream) frames) in
      let within = sent_in_any_order timing asked.unplanned_end (frames_asked asked) (all_paced timing plan stays)
      (all_sent timing plan stays) buffering is_buffering (packets_place asked u)
      pause.load.packets first pause.wait s controllers planned (origins_of plan sent) legal come single pause.is in
      let queued = within_bits timing timing.broadcast_gap_most (frame_end s p) (s.queued q) gap in
      let fewer = least_inside timing 750 in
      let shown = before_bits timing 750 (frame_end s p) s.now seen in
      let short = pause.short in
      let ended = within q in_q is (ap (source_place plan) source ∙ place) (omega (arith, queued, shown, short, fewer)) in
      in_each_ms timing 750 (frame_end s p) (frame_end s q) (omega (arith, ended, queued, short))

pub kept_receivers : (plan : Plan) (timing : Timing) → Clean plan → AreLoadFindings plan (Some timing) [] → AreNotGivenUp plan timing
kept_receivers plan timing clean (stays, delays, asks, none) = not_given_up plan timing clean stays delays asks
    (none_of_two (load_findings timing (total_load timing (asked_of timing plan stays)) delays)
    (further_findings plan timing delays) (sym none)).0
