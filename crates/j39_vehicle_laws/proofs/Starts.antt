-- Frames of a flow of which a delay is reported begin within its wait from when they are queued, as far as their bus is seen.
use Rattle.std.proofs.Common.{◌≡◌, ℕ, ◌≤◌, Bool, true, false, List, ◌++◌, get_or, All, IfSome, Option, Some, None, refl, sym, subst}
use Rattle.std.proofs.Common.{inl, arith}
use Rattle.std.specs.Bool.{MatchBool}
use Rattle.std.specs.List.{slice_get}
use Rattle.j39_network.specs.declared.plan.Plan.{Plan}
use Rattle.j39_network.specs.declared.plan.timing.Timing.{Timing}
use Rattle.j39_network.specs.declared.plan.unit_plan.UnitPlan.{UnitPlan}
use Rattle.j39_load.specs.declared.waits.delay.Delay.{Delay}
use Rattle.j39_load.specs.declared.waits.delay.Delay.TheVariants.{Within, Late}
use Rattle.j39_load.specs.declared.frames.flow_frames.FlowFrames.{FlowFrames}
use Rattle.j39_load.specs.declared.frames.messages.Messages.TheVariants.{Short}
use Rattle.j39_load.specs.Ages.{least}
use Rattle.j39_load.specs.AnyQueues.{IsBuffering, Buffering, buffered_for, keep_order, may_be_passed}
use Rattle.j39_load.specs.Asked.{Asked, asked_of, frames_asked}
use Rattle.j39_load.specs.Damage.{damage_frames}
use Rattle.j39_load.specs.Delays.{IsShortDelay, any_delay, need_of}
use Rattle.j39_load.specs.LoadFindings.{AsksOfBus}
use Rattle.j39_load.specs.PlannedFrames.{AreFramesInAnyOrder, IsBounded, others_of, planned_at, traffic_of}
use Rattle.j39_load.proofs.AnyTraffic.{have, own_ordered, placed, demand_fits}
use Rattle.j39_load.proofs.QueueGroupFrames.{begun, positive, wait_of_queue_group}
use Rattle.j39_load.proofs.BoundedFlows.{bounded, judged_within, within_late}
use Rattle.j39_load.proofs.PositivePeriods.{ArePaced, HasPeriod, all_paced, of_loads}
use Rattle.j39_load.proofs.Sending.{IsSent, all_sent}
use Rattle.j39_load.proofs.StreamsBefore.{own_read}
use Rattle.j39_timing.specs.AnyOrder.{AreBegunWithin, Controllers, IsLegalInAnyOrder}
use Rattle.j39_timing.specs.FrameBits.{longest_frame}
use Rattle.j39_timing.specs.FrameStreams.{Origins}
use Rattle.j39_timing.specs.TimedFrames.{Schedule}
use Rattle.j39_timing.specs.Traffic.{IsSingle, delay_of}
use Rattle.j39_timing.specs.Waits.{IsSpaced}
use Rattle.j39_timing.proofs.Buffering.{ordered_begun}

-- ---- frames of units that keep order

module _ (timing : Timing) (ends : ℕ) (asked : List (Option FlowFrames)) (paced : All HasPeriod (asked ++ damage_frames timing))
    (sent : All (λ (f : Option FlowFrames). IfSome f IsSent) asked) (buffering : Buffering) (buffering_delays : IsBuffering timing ends asked buffering) (i : ℕ)
    (frames : FlowFrames)
    (at : get_or asked i None ≡ Some frames) (ordered : keep_order frames ≡ true) (bounded : may_be_passed buffering frames.greatest_ident ≡ false) (wait : ℕ)
    (enough : need_of timing buffering.frames i frames wait ≤ wait) (s : Schedule) (controllers : Controllers) (planned : ℕ → Bool) (of : Origins)
    (legal : IsLegalInAnyOrder s controllers) (known : AreFramesInAnyOrder timing ends asked s controllers planned of i) where
  abbrev is_placed : planned_at (asked ++ damage_frames timing) i ≡ frames
  is_placed = placed timing ends asked paced sent buffering buffering_delays i frames at ordered bounded wait enough

  ordered_starts : IsSingle frames.stream → delay_of frames.stream wait ≤ frames.stream.period → AreBegunWithin s planned of i wait
  ordered_starts single fits =
      ordered_begun s controllers legal (traffic_of (asked ++ damage_frames timing)) (others_of timing) (longest_frame 8) planned of i wait known.known
      (positive timing ends asked paced sent)
      (own_ordered timing ends asked paced sent buffering buffering_delays i frames at ordered bounded wait enough s controllers planned of legal known)
      (buffered_for buffering.waits)
      (have timing ends asked paced sent buffering buffering_delays i frames at ordered bounded wait enough s controllers planned of legal known)
      (demand_fits timing ends asked paced sent buffering buffering_delays i frames at ordered bounded wait enough single.1)
      (subst (λ (own : FlowFrames). IsSingle own.stream) (sym is_placed) single)
      (subst (λ (own : FlowFrames). delay_of own.stream wait ≤ own.stream.period) (sym is_placed) fits)

-- ---- flows of which a delay is reported

stated_wait : (frames : FlowFrames) (limit bits : ℕ) (wait : Option ℕ) → Within bits ≡ any_delay frames limit wait
    → (w : ℕ) × (wait ≡ Some w) × (bits ≡ delay_of frames.stream w)
stated_wait frames limit bits None stated = absurd (within_late bits stated)
stated_wait frames limit bits (Some w) stated = (w, refl, (judged_within frames limit (delay_of frames.stream w) bits stated).0)

module _ (plan : Plan) (timing : Timing) (stays : UnitPlan → Bool) (delays : List (Option Delay)) (asks : AsksOfBus plan timing stays delays)
    (flow bits : ℕ) (at : slice_get delays flow ≡ Some (Some (Within bits))) where
  abbrev asked : Asked
  asked = asked_of timing plan stays

  abbrev bound : IsBounded timing (asked_of timing plan stays) flow bits
  bound = bounded plan timing stays delays asks flow bits at

  here : get_or (frames_asked asked) flow None ≡ Some bound.frames
  here = own_read asked.flows asked.units asked.requests flow bound.load bound.frames bound.its bound.short

  paces : ArePaced bound.load.limit (Short bound.frames)
  paces = subst (ArePaced bound.load.limit) bound.short (of_loads timing plan stays flow bound.load bound.its).messages

  module _ (s : Schedule) (controllers : Controllers) (planned : ℕ → Bool) (of : Origins) (legal : IsLegalInAnyOrder s controllers)
      (known : AreFramesInAnyOrder timing asked.unplanned_end (frames_asked asked) s controllers planned of flow) (spaced : IsSpaced bound.frames.stream) where
    by_order : keep_order bound.frames ≡ true → (passed : Bool) → may_be_passed bound.buffering bound.frames.greatest_ident ≡ passed
        → MatchBool passed (Within bits ≡ Late) (IsShortDelay timing bound.buffering.frames flow bound.frames bound.load.limit (Within bits))
        → AreBegunWithin s planned of flow bound.wait
    by_order ordered true passed stated = absurd (within_late bits stated)
    by_order ordered false passed (wait, inside, least, sum) =
        let total = bound.sum in
        let fits = inside.within in
        let limited = paces.2 in
        let same : wait ≡ bound.wait = omega (arith, sum, total) in
        subst (AreBegunWithin s planned of flow) same
        (ordered_starts timing asked.unplanned_end (frames_asked asked) (all_paced timing plan stays)
        (all_sent timing plan stays) bound.buffering bound.is flow bound.frames here ordered passed
        wait inside.demand_fits s controllers planned of legal known (paces.1, spaced) (omega (arith, fits, limited)))

    by_queue_group : keep_order bound.frames ≡ false → Within bits ≡ any_delay bound.frames bound.load.limit (get_or bound.buffering.waits flow None)
        → AreBegunWithin s planned of flow bound.wait
    by_queue_group kept stated =
        let (wait, known_wait, sum) = stated_wait bound.frames bound.load.limit bits (get_or bound.buffering.waits flow None) stated in
        let total = bound.sum in
        let same : wait ≡ bound.wait = omega (arith, sum, total) in
        let is_wait = wait_of_queue_group timing asked.unplanned_end (frames_asked asked) (all_paced timing plan stays)
        (all_sent timing plan stays) bound.buffering.waits bound.is.bounded flow
        bound.frames here kept wait known_wait in
        subst (AreBegunWithin s planned of flow) same
        (begun timing asked.unplanned_end (frames_asked asked) (all_paced timing plan stays)
        (all_sent timing plan stays) s controllers planned of legal flow known flow bound.frames here kept
        (inl refl) wait is_wait)

    pub starts_within : AreBegunWithin s planned of flow bound.wait
    starts_within = go (keep_order bound.frames) refl bound.delayed
      where
        go : (keeps : Bool) → keep_order bound.frames ≡ keeps
            → MatchBool keeps
            (MatchBool (may_be_passed bound.buffering bound.frames.greatest_ident) (Within bits ≡ Late)
            (IsShortDelay timing bound.buffering.frames flow bound.frames bound.load.limit (Within bits)))
            (Within bits ≡ any_delay bound.frames bound.load.limit (get_or bound.buffering.waits flow None)) → AreBegunWithin s planned of flow bound.wait
        go true keeps stated = by_order keeps (may_be_passed bound.buffering bound.frames.greatest_ident) refl stated
        go false keeps stated = by_queue_group keeps stated
