-- What is seen of a bus up to a bit keeps to its plan, where the frames that are queued before it keep to their streams.
use Rattle.std.proofs.Common.{◌≡◌, ℕ, ◌+◌, ◌<◌, ◌≤◌, Bool, true, cond, ◌&&◌, eqb, ltb, leb, List, Option, sym, ◌∙◌, arith, inl, inr}
use Rattle.std.proofs.lemmas.Bool.{cases_Bool, true≢false}
use Rattle.j39_network.specs.declared.plan.timing.Timing.{Timing}
use Rattle.j39_load.specs.declared.frames.flow_frames.FlowFrames.{FlowFrames}
use Rattle.j39_load.specs.PlannedFrames.{AreFramesInAnyOrder, KeepToQueueGroup, queue_group_of, others_of, planned_at}
use Rattle.j39_timing.specs.AnyOrder.{Controllers}
use Rattle.j39_timing.specs.QueueGroups.{QueueGroup}
use Rattle.j39_timing.specs.FrameBits.{longest_frame}
use Rattle.j39_timing.specs.FrameStreams.{AreOfStreams, Origins}
use Rattle.j39_timing.specs.Prefixes.{IsPlannedUntil, planned_until, seen_until}
use Rattle.j39_timing.specs.TimedFrames.{Schedule}
use Rattle.j39_timing.specs.Traffic.{AreAsWanted, queuings_in, releases_in}
use Rattle.j39_timing.proofs.AnyPrefixes.{queue_group_before, fewer_unplanned}
use Rattle.j39_timing.proofs.Prefixes.{is_planned_then, its_own, then_is_planned, then_known}
use Rattle.j39_timing.specs.Sums.{total}
use Rattle.j39_timing.proofs.Sums.{total-le}
use Rattle.j39_vehicle_laws.specs.ForwardedStreams.{KeepsOtherwise, streams_of}

module _ (timing : Timing) (ends : ℕ) (all : List (Option FlowFrames)) (s : Schedule) (controllers : Controllers) (planned : ℕ → Bool) (of : Origins) (i : ℕ)
    (keeps : KeepsOtherwise timing ends all s controllers planned of i) where
  -- with the streams it is all that is asked
  pub with_streams : AreOfStreams s (λ p. planned p ≡ true) (streams_of timing all).count (streams_of timing all).stream of
      → AreFramesInAnyOrder timing ends all s controllers planned of i
  with_streams streams = record {
    known = record {
      longest_at_most = keeps.longest_at_most;
      of_streams = streams;
      as_wanted = keeps.as_wanted;
      from_least = keeps.from_least;
      to_greatest = keeps.to_greatest;
      own_identifier = keeps.own_identifier;
      urgency_of_others = keeps.urgency_of_others;
      few_others = keeps.few_others;
    };
    of_unit = keeps.of_unit;
    to_last = keeps.to_last;
    queue_groups = keeps.queue_groups;
  }

  module _ (by : ℕ) (seen : by ≤ s.now)
      (streams : AreOfStreams s (λ p. planned_until s planned by p ≡ true) (streams_of timing all).count (streams_of timing all).stream of) where
    abbrev pub least : ℕ
    least = (others_of timing).least

    abbrev pub then_seen : Schedule
    then_seen = seen_until s by (others_of timing).least

    abbrev pub then_planned : ℕ → Bool
    then_planned = planned_until s planned by

    own : (p : ℕ) → s.queued p < by → then_seen.ident p ≡ s.ident p
    own p early = its_own s by (others_of timing).least p early

    fewer : (counts : ℕ → Bool) → total s.count (λ p. cond (then_planned p && counts p) 1 0) ≤ total s.count (λ p. cond (planned p && counts p) 1 0)
    fewer counts = total-le s.count (λ p. cond (then_planned p && counts p) 1 0) (λ p. cond (planned p && counts p) 1 0)
        (λ p in_p. one (planned p) (ltb (s.queued p) by) (counts p))
      where
        one : (a b c : Bool) → cond ((a && b) && c) 1 0 ≤ cond (a && c) 1 0
        one Rattle.std.proofs.Common.true Rattle.std.proofs.Common.true c = omega arith
        one Rattle.std.proofs.Common.true Rattle.std.proofs.Common.false c = omega arith
        one Rattle.std.proofs.Common.false b c = omega arith

    fewer_releases : (j t span : ℕ) → releases_in s then_planned of j t span ≤ releases_in s planned of j t span
    fewer_releases j t span = fewer (λ p. eqb (of.source p) j && (leb t (of.since p) && ltb (of.since p) (t + span)))

    fewer_queuings : (j t span : ℕ) → queuings_in s then_planned of j t span ≤ queuings_in s planned of j t span
    fewer_queuings j t span = fewer (λ p. eqb (of.source p) j && (leb t (s.queued p) && ltb (s.queued p) (t + span)))

    wanted_then : AreAsWanted s then_planned of (streams_of timing all).demands (streams_of timing all).stream
    wanted_then = record {
      by_sender = λ j t span demand has.
          let fewer = fewer_releases j t span in
          let most = keeps.as_wanted.by_sender j t span demand has in
          omega (arith, fewer, most);
      by_askers = λ j t span want has.
          let fewer = fewer_queuings j t span in
          let most = keeps.as_wanted.by_askers j t span want has in
          omega (arith, fewer, most);
    }

    planned_then : IsPlannedUntil s (streams_of timing all) (others_of timing) (longest_frame 8) planned of i by
    planned_then = record {
      longest_at_most = keeps.longest_at_most;
      of_streams = streams;
      as_wanted = wanted_then;
      from_least = keeps.from_least;
      to_greatest = keeps.to_greatest;
      own_identifier = keeps.own_identifier;
      urgency_of_others = keeps.urgency_of_others;
      few_others = keeps.few_others;
    }

    -- ---- a queue group

    module _ (queue_group : QueueGroup) (kept : KeepToQueueGroup timing ends s planned of queue_group) where
      queue_group_then : KeepToQueueGroup timing ends then_seen then_planned of queue_group
      queue_group_then = record {
        identifiers = λ p in_p isnt early.
            let same = own p early in
            let few = kept.identifiers p in_p (elim (cases_Bool (planned p)) [
              | inl is ↦ absurd (true≢false (sym (then_is_planned s planned by p is early) ∙ isnt))
              | inr not_planned ↦ not_planned
            ]) (omega (arith, seen, early)) in
            omega (arith, few, same);
        own_identifiers = λ p q t in_p in_q before is has at_p at_q same.
            let (plain, early) = is_planned_then s planned by p is in
            let ready : s.queued q < by = let at = at_q.0 in omega arith in
            let of_p : then_seen.ident p ≡ s.ident p = own p early in
            let of_q : then_seen.ident q ≡ s.ident q = own q ready in
            let both = kept.own_identifiers p q t in_p in_q (omega arith) plain has at_p at_q (sym of_p ∙ (same ∙ of_q)) in
            (then_is_planned s planned by q both.0 ready, both.1);
        few_unplanned = λ p from to in_p is has before waits stretch.
            let (plain, early) = is_planned_then s planned by p is in
            let most = kept.few_unplanned p from to in_p plain has (omega arith) waits
            (queue_group_before s planned of queue_group by (others_of timing).least from to stretch) in
            let less = fewer_unplanned s planned of queue_group by (others_of timing).least from to before in
            omega (arith, most, less);
      }

    pub frames_then : AreFramesInAnyOrder timing ends all then_seen controllers then_planned of i
    frames_then = record {
      known = then_known s (streams_of timing all) (others_of timing) (longest_frame 8) planned of i by seen planned_then;
      of_unit = λ p in_p is un. keeps.of_unit p in_p (is_planned_then s planned by p is).0 un;
      to_last = λ p in_p is kept.
          let (plain, early) = is_planned_then s planned by p is in
          let most = keeps.to_last p in_p plain kept in
          let same = own p early in
          omega (arith, most, same);
      queue_groups =
          λ j level goes kept is_level. queue_group_then (queue_group_of timing ends all (planned_at all j) level)
          (keeps.queue_groups j level goes kept is_level);
    }
