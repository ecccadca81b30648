-- In a log of a bus that keeps to its plan no flow is reported by load as too near.
use Rattle.std.proofs.Common.{◌≡◌, ℕ, ◌+◌, ◌-◌, ◌*◌, ◌<◌, List, Bool, false, map}
use Rattle.std.proofs.Common.{inl, inr, refl, sym, ap, ◌∙◌, subst, arith, Option, Some, None}
use Rattle.std.specs.Prelude.{slice_index_or}
use Rattle.std.specs.List.{slice_get}
use Rattle.std.specs.Option.{option_and_then, option_map}
use Rattle.std.proofs.lemmas.Bool.{cases_Bool, cond-false, cond-true}
use Rattle.std.proofs.lemmas.Option.{get_or_from_slice_get, none-some, option_and_then_some, same_Some, slice_get-map}
use Rattle.j39_id.specs.Ident.{pgn_of}
use Rattle.j39_id.specs.Lines.{Line}
use Rattle.j39_id.specs.declared.frame.Frame.{Frame}
use Rattle.j39_findings.specs.Findings.{Clean}
use Rattle.j39_network.specs.declared.plan.flow_plan.FlowPlan.{FlowPlan}
use Rattle.j39_network.specs.declared.plan.group_plan.GroupPlan.{GroupPlan}
use Rattle.j39_network.specs.declared.plan.pace.Pace.{Pace}
use Rattle.j39_network.specs.declared.plan.timing.Timing.{Timing}
use Rattle.j39_network.specs.declared.plan.unit_plan.UnitPlan.{UnitPlan}
use Rattle.j39_timing.specs.TimedFrames.{Schedule}
use Rattle.j39_load.specs.BusTimes.{timing_of, with_claims}
use Rattle.j39_load.specs.Clocks.{bit_time}
use Rattle.j39_load.specs.KeptTimes.{IsReportedBound}
use Rattle.j39_load.specs.LoadFindings.{AsksOfBus}
use Rattle.j39_load.specs.Loads.{us_of_bits}
use Rattle.j39_load.specs.SentFrames.{FrameSources, HasPeriodMs}
use Rattle.j39_load.specs.declared.waits.delay.Delay.{Delay}
use Rattle.j39_audit.specs.AuditPasts.{AuditPast, AuditsLines, log_ended, moments_with_frame, nothing_read}
use Rattle.j39_audit.specs.AuditText.{look_at, mark_at}
use Rattle.j39_audit.specs.Breaks.{line_time}
use Rattle.j39_audit.specs.Counting.{Noted, reported_at, occurrences_of}
use Rattle.j39_audit.specs.Looking.{is_single}
use Rattle.j39_audit.specs.MessageStreams.{flow_pace, flow_stream, group_in_flow, is_in_stream, paced_stream, sent_within, stream_pause}
use Rattle.j39_audit.specs.QueueTimes.{queue_time_of}
use Rattle.j39_audit.specs.UnitTimes.{shortest_us}
use Rattle.j39_audit.specs.Moments.{Moments, all_pauses_ended, behind_gap, earliest_end, long_before, lower_bound, moment_window, moments_behind}
use Rattle.j39_audit.specs.Near.{is_too_near}
use Rattle.j39_audit.specs.Responses.{response, us_at_logger}
use Rattle.j39_audit.specs.Settings.{Settings, by_load as judged_by_load, logger_error, response_of}
use Rattle.j39_audit.specs.declared.mark.Word.TheVariants.{NearOrLate}
use Rattle.j39_audit.specs.declared.streams.MessageStream.{MessageStream}
use Rattle.j39_audit.specs.declared.window.Window.{Window}
use Rattle.j39_audit_laws.specs.ByLoad.{AreOfFlow, IsNoneNear}
use Rattle.j39_audit_laws.specs.KeptLogs.{AreLogsNotNear, AreSeenAs, IsLogOfBus}
use Rattle.j39_audit_laws.specs.LogBounds.{IsEndBound, IsTimedBound, Lines}
use Rattle.j39_audit_laws.specs.MarkRecords.{KeepsTime}
use Rattle.j39_audit_laws.specs.PauseLines.{FrameLine, time_there}
use Rattle.j39_audit_laws.proofs.NearFrames as frames
use Rattle.j39_audit_laws.proofs.NearWalk.{AreItsMessages, IsSoFar, as_lines, by_message, by_other, first_so_far, same_so_far}
use Rattle.j39_audit_laws.proofs.PlanTiming.{planned_timing}
use Rattle.j39_audit_laws.proofs.ReportedTimes.{none_near_by_load}
use Rattle.j39_audit_laws.proofs.Walk.{IsFrameNext, IsNext, at_end, load_with}
use Rattle.j39_audit.specs.Again.{moments_again}
use Rattle.j39_audit_laws.proofs.QueueTimes.{queued_in_jitter, sent_in_jitter}

-- ---- a log

module _ (s : Settings) (log : List Line) (t : Timing) (timed : s.plan.timing ≡ Some t) (delays : List (Option Delay))
    (responses : s.responses ≡ map (response (with_claims s.plan t)) delays) (bus : Schedule) (planned : ℕ → Bool) (sent : FrameSources)
    (none_near : IsNoneNear s.plan (with_claims s.plan t) delays bus planned sent) (clock place : ℕ → ℕ) (n bits ms : ℕ) (is_message : ℕ → Bool)
    (keeps : KeepsTime (bit_time t.bitrate) clock) (is_log : IsLogOfBus s log bus clock place) (stated : IsReportedBound delays n bits)
    (period : HasPeriodMs s.plan n ms) (of_flow : AreOfFlow planned sent n is_message) (seen : AreSeenAs s log place n is_message) where
  abbrev timing : Timing
  timing = with_claims s.plan t

  abbrev b : Settings
  b = judged_by_load s

  abbrev slack : ℕ
  slack = us_at_logger (us_of_bits timing bits)

  abbrev step : ℕ
  step = shortest_us timing ms

  -- the clock counts from a moment long before the zero of the log
  abbrev logs : Lines
  logs = record { us = bit_time timing.bitrate; few = 0; within = logger_error s; clock = λ t. clock t + 1000 * long_before }

  keeps_from : KeepsTime (bit_time timing.bitrate) logs.clock
  keeps_from x y order = (let is = keeps x y order in let least = is.0 in let most = is.1 in (omega (arith, least), omega (arith, most)))

  -- ---- its stream

  its_response : response_of b n ≡ Some slack
  its_response =
      let at : slice_get (map (response timing) delays) n ≡ Some (Some slack) = slice_get-map (response timing) delays n ∙ (elim stated [
        | inl is ↦ ap (option_map (response timing)) is
        | inr is ↦ ap (option_map (response timing)) is
      ]) in
      let all : List (Option ℕ) = map (response timing) delays in
      ap (λ (l : List (Option ℕ)). slice_index_or l n None) responses
      ∙ get_or_from_slice_get all n (Some slack) None at

  its_stream : (f : Frame) (x : MessageStream) → flow_stream b t f n ≡ Some x → (x.step ≡ step) × (x.slack ≡ Some slack)
  unfolding flow_stream
  its_stream f x e =
      option_and_then_some _ (flow_pace b n) x e (λ pace paced e1. option_and_then_some _ (group_in_flow b n) x e1 (λ group _ e2.
      option_and_then_some _ (queue_time_of b.plan n) x e2 (λ time queued e3.
      let of_pace : pace ≡ period.pace = same_Some pace period.pace
      (sym paced ∙ ap (λ (o : Option FlowPlan). option_and_then (λ (y : FlowPlan). y.pace) o) period.its ∙ period.paced) in
      let of_time : time ≡ pace.jitter = same_Some time pace.jitter
      (sym queued ∙ queued_in_jitter b.plan period.flow n period.pace period.its period.paced period.unasked
      ∙ ap (λ (p : Pace). Some p.jitter) (sym of_pace)) in
      let is = of_group group pace time e3 in (
        is.0 ∙ ap (λ (p : Pace). shortest_us timing p.period) of_pace ∙ ap (shortest_us timing) period.is,
        is.1 ∙ ap (sent_within b t n pace) of_time ∙ sent_in_jitter b t n pace ∙ its_response,
      ))))
    where
      of_group : (group : GroupPlan) (pace : Pace) (time : ℕ) → paced_stream b t f n group pace time (stream_pause b t n) ≡ Some x
          → (x.step ≡ shortest_us timing pace.period) × (x.slack ≡ sent_within b t n pace time)
      of_group group pace time is = elim (cases_Bool (is_in_stream group (is_single (pgn_of f.ident)))) [
        | inl inside ↦
            let same = same_Some _ x (sym (cond-true (is_in_stream group (is_single (pgn_of f.ident))) _ None inside) ∙ is) in
            (sym (ap (λ (y : MessageStream). y.step) same), sym (ap (λ (y : MessageStream). y.slack) same))
        | inr other ↦ absurd (none-some x (sym (cond-false (is_in_stream group (is_single (pgn_of f.ident))) _ None other) ∙ is))
      ]

  -- ---- what holds behind each line

  abbrev IsUpper : ℕ → ℕ → Type 0
  IsUpper p x = IsTimedBound bus logs p x

  abbrev IsLower : ℕ → ℕ → Type 0
  IsLower p x = IsEndBound bus logs slack p x

  none_of_these : (number count : ℕ) (line : ℕ → ℕ) (windows : ℕ → Window) → AreItsMessages s log place is_message IsUpper IsLower number count line windows
      → (j : ℕ) → j < count → is_too_near step windows j ≡ false
  none_of_these number count line windows are =
      none_near n bits ms count is_message (λ k. place (line k)) logs windows stated period of_flow refl keeps_from
      (as_lines s log place is_message IsUpper IsLower bus clock is_log number count line windows are) (record { upper = are.upper; lower = are.lower })

  abbrev IsKept : ℕ → Moments → Type 0
  IsKept number m = IsSoFar s log place is_message IsUpper IsLower b t timed n step none_of_these number m

  kept_on : (number : ℕ) (m new : Moments) → frames.IsAsNear b t timed n m new → IsKept number m → IsKept (number + 1) new
  kept_on number m new same is = same_so_far s log place is_message IsUpper IsLower b t timed n step none_of_these number m new same.earliest same.noted is

  -- ---- a line

  module _ (number : ℕ) (past next : AuditPast) (one : IsFrameNext s log (number + 1) past next) (so_far : IsKept number past.by_load) where
    abbrev l : FrameLine s log (number + 1)
    l = record { claims = one.claims; f = one.f; packet = one.packet; at = one.at }

    abbrev there : frames.FrameThere
    there = frames.frame_there l

    abbrev with_frame : Option ℕ → Moments
    with_frame time = moments_behind b there.gap there.anew time one.f one.at.past.number there.notes there.ending past.by_load

    by_other_frame : (new : Moments) → frames.IsOtherFrame b t timed n there past.by_load new
        → IsKept (number + 1) new
    by_other_frame new other =
        by_other s log place is_message IsUpper IsLower b t timed n step none_of_these number past.by_load so_far there
        new other

    by_time : (time : ℕ) → time_there l ≡ Some time → IsKept (number + 1) (with_frame (Some time))
    by_time time at =
        let new : Moments = with_frame (Some time) in
        let (since, kind) = frames.timed_frame b t timed n there time past.by_load in
        elim kind [
          | inl other ↦ by_other_frame new other
          | inr near ↦
              let (step_is, slack_is) = its_stream one.f near.stream near.stream_is in
              let lower : (moment_window b near.stream.slack time new.since).lower ≡ Some (earliest_end b time - slack) =
              ap (λ (o : Option ℕ). lower_bound o new.since) slack_is ∙ ap (lower_bound (Some slack)) since.0 in
              by_message s log place is_message IsUpper IsLower b t timed n step none_of_these number past.by_load so_far there time new near step_is l
              (seen (number + 1) l near.seen) (time_shifted time at)
              (λ x is. end_shifted time at x (same_Some x (earliest_end b time - slack) (sym is ∙ lower)))
        ]
      where
        time_shifted : (time : ℕ) → time_there l ≡ Some time → IsTimedBound bus logs (place (number + 1)) (time + long_before + logger_error s)
        time_shifted time at =
            let timed_at = is_log.times (number + 1) time l at in
            let from = timed_at.0 in
            let to = timed_at.1 in
            record { time = time + long_before; at = (omega (arith, from), omega (arith, to)); is = refl }

        end_shifted : (time : ℕ) → time_there l ≡ Some time → (x : ℕ) → x ≡ earliest_end b time - slack → IsEndBound bus logs slack (place (number + 1)) x
        end_shifted time at x is =
            let timed_at = is_log.times (number + 1) time l at in
            let from = timed_at.0 in
            let to = timed_at.1 in
            record { ended = is_log.ended (number + 1) l; time = time + long_before; at = (omega (arith, from), omega (arith, to)); is = is }

    by_frame : IsKept (number + 1) next.by_load
    by_frame =
        let load : next.by_load ≡ with_frame (time_there l) =
        ap (λ (p : AuditPast). p.by_load) one.next_is ∙ load_with s one.at.past (line_time s.plan one.at.time) one.at.named one.f one.packet
        ∙ ap (λ (p : AuditPast). moments_with_frame b s one.at.past (line_time s.plan one.at.time) one.f one.packet p.by_load) one.past_is in
        subst (IsKept (number + 1)) (sym load) (elim (time_there l) as (λ o. time_there l ≡ o → IsKept (number + 1) (with_frame o)) [
          | None ↦ λ _. by_other_frame (with_frame None)
              (frames.timeless_frame b t timed n there past.by_load)
          | Some time ↦ λ at. by_time time at
        ] refl)

  abbrev Holds : ℕ → AuditPast → Type 0
  Holds number past = IsKept number past.by_load

  -- a gap of frames changes nothing of it
  with_gap : (number : ℕ) (m : Moments) → IsKept number m → IsKept number (behind_gap m)
  with_gap number m is =
      record { none = is.none; count = is.count; line = is.line; windows = is.windows; is = is.is; messages = is.messages }

  more : (number : ℕ) (past next : AuditPast) → Holds number past → IsNext s log (number + 1) past next → Holds (number + 1) next
  more number past next is (count, inl passed) =
      subst (IsKept (number + 1)) (sym passed.load_is) (kept_on number past.by_load past.by_load
      (record { earliest = refl; noted = refl; since = refl; before = refl }) is)
  more number past next is (count, inr (inl gap)) =
      subst (IsKept (number + 1)) (sym gap.load_is)
      (with_gap (number + 1) past.by_load (kept_on number past.by_load past.by_load (record { earliest = refl; noted = refl; since = refl; before = refl }) is))
  more number past next is (count, inr (inr (inl bad))) =
      let all : Moments = all_pauses_ended b past.by_load in
      subst (IsKept (number + 1)) (sym (ap (λ (p : AuditPast). p.by_load) bad.next_is))
      (with_gap (number + 1) all (kept_on number past.by_load all (frames.all_near b t timed n past.by_load) is))
  more number past next is (count, inr (inr (inr (inl one)))) = by_frame number past next one is
  more number past next is (count, inr (inr (inr (inr again)))) =
      subst (IsKept (number + 1)) (sym again.load_is)
      (same_so_far s log place is_message IsUpper IsLower b t timed n step none_of_these number past.by_load
      (moments_again s again.taken.flow again.time past.by_load) refl refl is)

  pub never_stated : (end : AuditPast) → AuditsLines s nothing_read log end → (look_at (log_ended s end) (mark_at NearOrLate n 0)).times ≡ 0
  unfolding reported_at
  never_stated end read =
      let first = first_so_far s log place is_message IsUpper IsLower b t timed n step none_of_these nothing_read.by_load refl refl in
      let is = at_end s log Holds more end first read in
      ap (λ (l : List Noted). (occurrences_of l).times) ((frames.all_near b t timed n end.by_load).noted ∙ is.none)

logs_counted : (s : Settings) (t : Timing) (stays : UnitPlan → Bool) (delays : List (Option Delay)) → Clean s.plan → s.plan.timing ≡ Some t
    → AsksOfBus s.plan (with_claims s.plan t) stays delays → t.drift ≡ 0 → s.responses ≡ map (response (with_claims s.plan t)) delays
    → AreLogsNotNear s (with_claims s.plan t) delays
logs_counted s t stays delays clean timed asks none responses =
    let kept = none_near_by_load s.plan (with_claims s.plan t) stays delays clean asks none in
    record {
      in_order = λ order bus planned sent held legal keeps log clock place n bits ms is_message end ticks is_log stated period of_flow seen read.
          never_stated s log t timed delays responses bus planned sent (kept.in_order order bus planned sent held legal keeps)
          clock place n bits ms is_message ticks is_log stated period of_flow seen end read;
      in_any_order = λ bus controllers planned sent held legal keeps queues log clock place n bits ms is_message end ticks is_log stated period of_flow seen read.
          never_stated s log t timed delays responses bus planned sent (kept.in_any_order bus controllers planned sent held legal keeps queues)
          clock place n bits ms is_message ticks is_log stated period of_flow seen end read;
    }

pub logs_not_near : (s : Settings) (timing : Timing) (stays : UnitPlan → Bool) (delays : List (Option Delay)) → Clean s.plan
    → AsksOfBus s.plan timing stays delays → timing_of s.plan ≡ Some timing → timing.drift ≡ 0 → s.responses ≡ map (response timing) delays
    → AreLogsNotNear s timing delays
logs_not_near s timing stays delays clean asks timed none responses =
    let (t, at, same) = planned_timing s.plan timing timed in
    subst (λ (x : Timing). AsksOfBus s.plan x stays delays → x.drift ≡ 0 → s.responses ≡ map (response x) delays → AreLogsNotNear s x delays) same
    (λ asked still counted. logs_counted s t stays delays clean at asked still counted) asks none responses
