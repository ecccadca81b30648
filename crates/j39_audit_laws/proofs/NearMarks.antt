-- In a whole log of a bus no flow that keeps its period is reported as too near by the bus, whatever others do.
use Rattle.std.proofs.Common.{◌≡◌, ℕ, ◌+◌, ◌-◌, ◌*◌, ◌<◌, ◌≤◌, List, Bool, true, false, length}
use Rattle.std.proofs.Common.{inl, inr, refl, sym, ap, ◌∙◌, subst, arith, Option, Some, None}
use Rattle.std.specs.Prelude.{nat_le, ◌≢◌, ◌&&◌, not}
use Rattle.std.specs.List.{slice_get}
use Rattle.std.specs.Option.{option_and_then}
use Rattle.std.proofs.lemmas.Bool.{le-leb, lt-leb, and_parts, ltb-true, cases_Bool, cases_eq, cond-false, cond-true, true≢false}
use Rattle.std.proofs.lemmas.Option.{none-some, option_and_then_some, same_Some}
use Rattle.j39_id.specs.Ident.{pgn_of}
use Rattle.j39_id.specs.Lines.{Line}
use Rattle.j39_id.specs.declared.frame.Frame.{Frame}
use Rattle.j39_network.specs.declared.plan.flow_plan.FlowPlan.{FlowPlan}
use Rattle.j39_network.specs.declared.plan.group_plan.GroupPlan.{GroupPlan}
use Rattle.j39_network.specs.declared.plan.pace.Pace.{Pace}
use Rattle.j39_network.specs.declared.plan.timing.Timing.{Timing}
use Rattle.j39_timing.specs.Messages.{frame_end}
use Rattle.j39_timing.specs.TimedFrames.{Schedule}
use Rattle.j39_load.specs.BusTimes.{with_claims}
use Rattle.j39_load.specs.Clocks.{bit_time}
use Rattle.j39_audit.specs.AuditPasts.{AuditPast, AuditsLines, log_ended, broadcasts_there, counted_for, moments_with_frame, nothing_read}
use Rattle.j39_audit.specs.AuditText.{look_at, mark_at}
use Rattle.j39_audit.specs.AuditPasts.{noted_newly}
use Rattle.j39_audit.specs.Counting.{Noted, key_of, reported_at, occurrences_of}
use Rattle.j39_audit.specs.Looking.{is_single}
use Rattle.j39_audit.specs.MessageStreams.{flow_pace, flow_stream, group_in_flow, is_in_stream, paced_stream, stream_pause, nothing_sighted, sighted_behind}
use Rattle.j39_audit.specs.UnitTimes.{shortest_us}
use Rattle.j39_audit.specs.Moments.{Moments, all_pauses_ended, begins_anew, behind_gap, earliest_end, long_before, lower_bound, moment_window, moments_behind}
use Rattle.j39_audit.specs.Near.{is_too_near}
use Rattle.j39_audit.specs.Settings.{Settings, logger_error, response_of}
use Rattle.j39_audit.specs.declared.mark.Mark.{Mark}
use Rattle.j39_audit.specs.declared.mark.Word.TheVariants.{NearFlow}
use Rattle.j39_audit.specs.declared.streams.MessageStream.{MessageStream}
use Rattle.j39_audit.specs.declared.window.Window.{Window}
use Rattle.j39_audit_laws.specs.KeptLogs.{AreSeenAs, IsLogOfBus, ShowsFrameAt, ShowsNone, ShowNone}
use Rattle.j39_audit_laws.specs.LogBounds.{IsTimedBound, Lines}
use Rattle.j39_audit_laws.specs.MarkRecords.{KeepsTime}
use Rattle.j39_audit_laws.specs.PauseLines.{FrameLine, time_there, IsAgainAt}
use Rattle.j39_audit_laws.proofs.NearFrames as frames
use Rattle.j39_audit_laws.proofs.NearWalk.{AreItsMessages, IsSoFar, as_lines, by_message, by_other, first_so_far, same_so_far}
use Rattle.j39_audit_laws.proofs.Walk.{IsFrameNext, IsNext, at_end, moments_with, taken_with}
use Rattle.j39_timing.specs.Errors.{Damaged, IsBusWithErrors}
use Rattle.j39_load.specs.SentFrames.{Held}
use Rattle.j39_audit.specs.BegunBroadcasts.{packet_with}
use Rattle.j39_audit.specs.MessageStreams.{queued_within_ms, sent_within, slack_by, stream_mark}
use Rattle.j39_audit.specs.QueueTimes.{queue_time_of}
use Rattle.j39_audit.specs.UnitTimes.{longest_us}
use Rattle.j39_audit.specs.Moments.{begun_anew, damaged_at_once, idle_behind, idle_mark, is_apart, leaves_idle, reach_back, shows_idle, since_behind, since_by}
use Rattle.j39_audit.specs.Moments.{with_packet_stream}
use Rattle.j39_audit.specs.declared.by_load.Bound.{Bound}
use Rattle.j39_audit.specs.declared.by_load.Bound.TheVariants.{Bus}
use Rattle.j39_audit.specs.declared.mark.Word.TheVariants.{NearPackets}
use Rattle.j39_audit_laws.specs.KeptLogs.{IsWholeLog, KeepsItsPeriod, PeriodsAreNotNear}
use Rattle.j39_audit_laws.specs.LogBounds.{IsMarkedBound}
use Rattle.j39_audit_laws.specs.MarkRecords.{AreFew, IsTimeOf, ShowsIdle, longest_reach}
use Rattle.j39_audit_laws.proofs.ExactClocks.{exact_clocks}
use Rattle.j39_audit_laws.proofs.OnLogs.{not_near}
use Rattle.j39_audit_laws.proofs.PlanTiming.{planned_timing}
use Rattle.j39_audit_laws.proofs.ReportedTimes.{behind}
use Rattle.j39_audit_laws.proofs.NearClocks.{fast, packet_mark, same_bit, within_ms}
use Rattle.j39_audit.specs.Breaks.{line_time}
use Rattle.j39_audit.specs.Again.{moments_again, taken_frame}
use Rattle.j39_audit.specs.declared.again.TakenFrame.{TakenFrame}
use Rattle.j39_audit_laws.proofs.QueueTimes.{queued_in_jitter}

-- ---- a log

module _ (s : Settings) (log : List Line) (t : Timing) (timed : s.plan.timing ≡ Some t) (by_bus : s.bound ≡ Bus) (none : t.drift ≡ 0)
    (bus : Schedule) (damaged : Damaged) (held : Held) (release clock place : ℕ → ℕ) (n ms : ℕ) (is_message : ℕ → Bool)
    (keeps : KeepsTime (bit_time t.bitrate) clock) (errors : IsBusWithErrors bus damaged) (short : (p : ℕ) → p < bus.count → bus.bits p ≤ 160)
    (few : AreFew damaged (damaged_at_once t)) (part : KeepsItsPeriod s.plan (with_claims s.plan t) bus held n ms release is_message)
    (is_log : IsLogOfBus s log bus clock place) (whole : IsWholeLog s log bus clock place) (seen : AreSeenAs s log place n is_message) where
  abbrev timing : Timing
  timing = with_claims s.plan t

  abbrev us : ℕ
  us = bit_time timing.bitrate

  abbrev step : ℕ
  step = shortest_us timing ms

  abbrev jitter : ℕ
  jitter = queued_within_ms part.period.pace part.period.pace.jitter (nat_le part.group.most 8)

  -- the clock counts from a moment long before the zero of the log
  abbrev logs : Lines
  logs = record { us = us; few = damaged_at_once t; within = logger_error s; clock = λ t. clock t + 1000 * long_before }

  keeps_from : KeepsTime us logs.clock
  keeps_from x y order = (let is = keeps x y order in let least = is.0 in let most = is.1 in (omega (arith, least), omega (arith, most)))

  -- ---- its part

  abbrev IsInTime : ℕ → ℕ → Type 0
  IsInTime latest p = (release p ≤ bus.queued p) × (bus.queued p * us ≤ release p * us + 1000 * latest)

  same_pace : (flow : FlowPlan) (pace : Pace) → slice_get s.plan.flows.items n ≡ Some flow → flow.pace ≡ Some pace → pace ≡ part.period.pace
  same_pace flow pace at paced =
      let same : flow ≡ part.period.flow = same_Some flow part.period.flow (sym at ∙ part.period.its) in
      same_Some pace part.period.pace (sym paced ∙ ap (λ (x : FlowPlan). x.pace) same ∙ part.period.paced)

  its_frame : (p : ℕ) → p < bus.count → is_message p ≡ true → IsInTime jitter p
  its_frame p inside message = elim (part.frames p inside message) [
    | inl (least, is) ↦
        let sort : nat_le part.group.most 8 ≡ true = le-leb part.group.most 8 least in
        subst (λ (b : Bool). IsInTime (queued_within_ms part.period.pace part.period.pace.jitter b) p) (sym sort)
        (subst (λ (x : Pace). IsInTime x.jitter p) (same_pace is.flow is.pace is.its is.paced)
        (is.release_first, within_ms timing.bitrate timing.drift is.pace.jitter (release p) (bus.queued p) none is.jitter_at_most))
    | inr (more, is) ↦
        let sort : nat_le part.group.most 8 ≡ false = lt-leb part.group.most 8 more in
        subst (λ (b : Bool). IsInTime (queued_within_ms part.period.pace part.period.pace.jitter b) p) (sym sort)
        (subst (λ (x : Pace). IsInTime (x.period + x.jitter) p) (same_pace is.flow is.pace is.its is.paced)
        (is.release_first, within_ms timing.bitrate timing.drift (is.pace.period + is.pace.jitter) (release p) (bus.queued p) none is.jitter_at_most))
  ]

  its_stream : (f : Frame) (x : MessageStream) → flow_stream s t f n ≡ Some x → (x.step ≡ step) × (x.slack ≡ Some (1001 * jitter))
  unfolding flow_stream
  its_stream f x e =
      option_and_then_some _ (flow_pace s n) x e (λ pace paced e1. option_and_then_some _ (group_in_flow s n) x e1 (λ group grouped e2.
      option_and_then_some _ (queue_time_of s.plan n) x e2 (λ time queued e3.
      let of_pace : pace ≡ part.period.pace = same_Some pace part.period.pace
      (sym paced ∙ ap (λ (o : Option FlowPlan). option_and_then (λ (y : FlowPlan). y.pace) o) part.period.its ∙ part.period.paced) in
      let of_group : group ≡ part.group = same_Some group part.group
      (sym grouped ∙ ap (λ (o : Option FlowPlan). option_and_then
      (λ (y : FlowPlan). slice_get s.plan.groups.items y.group) o) part.period.its ∙ part.group_is) in
      let of_time : time ≡ part.period.pace.jitter = same_Some time part.period.pace.jitter
      (sym queued ∙ queued_in_jitter s.plan part.period.flow n part.period.pace part.period.its part.period.paced part.period.unasked) in
      let is = of_stream group pace time e3 in (
        is.0 ∙ ap (λ (p : Pace). shortest_us timing p.period) of_pace ∙ ap (shortest_us timing) part.period.is,
        is.1 ∙ ap Some (ap (λ (p : Pace). longest_us timing (queued_within_ms p time (nat_le group.most 8))) of_pace
            ∙ ap (λ (ms : ℕ). longest_us timing (queued_within_ms part.period.pace ms (nat_le group.most 8))) of_time
            ∙ ap (λ (g : GroupPlan). longest_us timing (queued_within_ms part.period.pace part.period.pace.jitter (nat_le g.most 8))) of_group
            ∙ (exact_clocks t none).longest jitter),
      ))))
    where
      -- the stream has single frames where these are all
      of_sort : (group : GroupPlan) (one : Bool) → is_in_stream group one ≡ true → one ≡ nat_le group.most 8
      of_sort group true inside = sym inside
      of_sort group false inside = sym (lt-leb group.most 8 (ltb-true 8 group.most inside))

      of_stream : (group : GroupPlan) (pace : Pace) (time : ℕ) → paced_stream s t f n group pace time (stream_pause s t n) ≡ Some x
          → (x.step ≡ shortest_us timing pace.period) × (x.slack ≡ Some (longest_us timing (queued_within_ms pace time (nat_le group.most 8))))
      of_stream group pace time is =
          let one : Bool = is_single (pgn_of f.ident) in
          elim (cases_Bool (is_in_stream group one)) [
            | inl inside ↦
                let same = same_Some _ x (sym (cond-true (is_in_stream group one) _ None inside) ∙ is) in (
                  sym (ap (λ (y : MessageStream). y.step) same),
                  sym (ap (λ (y : MessageStream). y.slack) same)
                      ∙ ap (λ (b : Bound). slack_by b (sent_within s t n pace time) (longest_us timing (queued_within_ms pace time one))) by_bus
                      ∙ ap (λ (b : Bool). Some (longest_us timing (queued_within_ms pace time b))) (of_sort group one inside),
                )
            | inr other ↦ absurd (none-some x (sym (cond-false (is_in_stream group one) _ None other) ∙ is))
          ]

  abbrev IsUpper : ℕ → ℕ → Type 0
  IsUpper p x = IsTimedBound bus logs p x

  abbrev IsLower : ℕ → ℕ → Type 0
  IsLower p x = IsMarkedBound bus logs jitter p x

  none_of_these : (number count : ℕ) (line : ℕ → ℕ) (windows : ℕ → Window) → AreItsMessages s log place is_message IsUpper IsLower number count line windows
      → (j : ℕ) → j < count → is_too_near step windows j ≡ false
  none_of_these number count line windows are j inside =
      subst (λ (k : ℕ). is_too_near k windows j ≡ false) (sym ((exact_clocks t none).shortest ms))
      (not_near bus damaged logs ms jitter count is_message release (λ k. place (line k)) windows (fast timing.bitrate) keeps_from errors short few
      (λ p in_p message. (its_frame p in_p message).0) (λ p in_p message. (its_frame p in_p message).1)
      (λ p q in_p in_q differ one other. elim (part.apart p q in_p in_q differ one other) [
        | inl less ↦ inl (behind timing.bitrate timing.drift ms (release p) (release q) none less)
        | inr less ↦ inr (behind timing.bitrate timing.drift ms (release q) (release p) none less)
      ])
      (as_lines s log place is_message IsUpper IsLower bus clock is_log number count line windows are)
      (record { upper = are.upper; lower = are.lower }) j inside)

  -- ---- what holds behind each line

  abbrev IsKept : ℕ → Moments → Type 0
  IsKept number m = IsSoFar s log place is_message IsUpper IsLower s t timed n step none_of_these number m

  -- the last line that shows a frame has this time, or an earlier one
  abbrev IsLastAt : ℕ → ℕ → Type 0
  IsLastAt number τ =
      (a : ℕ) × (σ : ℕ) × ShowsFrameAt s log whole.repeats a σ × (σ ≤ τ) × (a ≤ number) × ShowNone s log whole.repeats a (number + 1)

  -- it is a time of its end
  time_shown : (a σ : ℕ) → ShowsFrameAt s log whole.repeats a σ → IsTimeOf clock (logger_error s) σ (frame_end bus (place a))
  time_shown a σ (inl (l, at)) = is_log.times a σ l at
  time_shown a σ (inr (l, once, at)) = whole.more a σ l once at

  -- an idle mark that a line up to this one shows
  record IsShownMark (number q : ℕ) : Type 0 where
    line : ℕ
    there : FrameLine s log line
    below : line ≤ number
    bytes : ℕ
    one : ℕ
    before : ℕ
    time : ℕ
    shows : ShowsIdle bus us (damaged_at_once t) (logger_error s) bytes logs.clock one (place line) before time
    is : q ≡ time - (longest_reach us bytes (damaged_at_once t) + logger_error s)

  record IsHeld (number : ℕ) (m : Moments) : Type 0 where
    kept : IsKept number m
    last : (τ : ℕ) → m.before ≡ Some τ → IsLastAt number τ
    mark : (q : ℕ) → m.since ≡ Some q → IsShownMark number q

  later_mark : (number q : ℕ) → IsShownMark number q → IsShownMark (number + 1) q
  later_mark number q is = record {
    line = is.line;
    there = is.there;
    below = (let least = is.below in omega (arith, least));
    bytes = is.bytes;
    one = is.one;
    before = is.before;
    time = is.time;
    shows = is.shows;
    is = is.is;
  }

  -- with one line more that shows none
  none_more : (a number : ℕ) → ShowNone s log whole.repeats a (number + 1) → ShowsNone s log whole.repeats (number + 1)
      → ShowNone s log whole.repeats a (number + 1 + 1)
  none_more a number over none k after until = elim (cases_eq k (number + 1)) [
    | inl here ↦ subst (ShowsNone s log whole.repeats) (sym here) none
    | inr apart ↦ over k after (omega (arith, until, apart))
  ]

  -- a frame that stands there again shows one more of the bus, or repeats the last one
  last_again : (number : ℕ) (l : IsAgainAt s log (number + 1)) (time : ℕ) → line_time s.plan l.time ≡ Some time → ((τ : ℕ) × IsLastAt number τ)
      → IsLastAt (number + 1) time
  last_again number l time at (τ, (a, σ, shown, early, below, over)) = elim (cases_Bool (whole.repeats (number + 1))) [
    | inl repeats ↦ (
      a,
      σ,
      shown,
      whole.repeated a (number + 1) σ time l shown (omega (arith, below)) over repeats at,
      omega (arith, below),
      none_more a number over (inr (l, repeats)),
    )
    | inr once ↦ (number + 1, time, inr (l, once, at), omega arith, omega arith, λ k after until. absurd (omega (arith, after, until)))
  ]

  kept_on : (number : ℕ) (m new : Moments) → frames.IsAsNear s t timed n m new → IsKept number m → IsKept (number + 1) new
  kept_on number m new same is = same_so_far s log place is_message IsUpper IsLower s t timed n step none_of_these number m new same.earliest same.noted is

  with_gap : (number : ℕ) (m : Moments) → IsKept number m → IsKept number (behind_gap m)
  with_gap number m is =
      record { none = is.none; count = is.count; line = is.line; windows = is.windows; is = is.is; messages = is.messages }

  gap_held : (number : ℕ) (m : Moments) → IsKept number m → IsHeld number (behind_gap m)
  gap_held number m is = record { kept = with_gap number m is; last = λ τ e. absurd (none-some τ e); mark = λ q e. absurd (none-some q e) }

  -- ---- a frame

  -- what an idle mark reports of the moments of messages
  bound_by : (number x : ℕ) (since : Option ℕ) → FrameLine s log number → ((q : ℕ) → since ≡ Some q → IsShownMark number q)
      → lower_bound (Some (1001 * jitter)) since ≡ Some x → IsMarkedBound bus logs jitter (place number) x
  bound_by number x None l mark e = absurd (none-some x e)
  bound_by number x (Some q) l mark e =
      let is = mark q refl in
      let at : q - 1001 * jitter ≡ x = same_Some (q - 1001 * jitter) x e in
      let from = is.is in
      record {
        bytes = is.bytes;
        one = is.one;
        next = place is.line;
        before = is.before;
        time = is.time;
        shows = is.shows;
        by = elim (cases_eq is.line number) [
          | inl here ↦ (let same : frame_end bus (place is.line) ≡ frame_end bus (place number) = ap (λ (k : ℕ). frame_end bus (place k)) here
              in omega (arith, same))
          | inr apart ↦
              let below = is.below in
              let less = is_log.in_turn is.line number is.there l (omega (arith, below, apart)) in
              omega (arith, less)
        ];
        is = sym at ∙ ap (λ (k : ℕ). k - 1001 * jitter) from;
      }

  module _ (number : ℕ) (past next : AuditPast) (one : IsFrameNext s log (number + 1) past next) (far : IsHeld number past.moments) where
    abbrev l : FrameLine s log (number + 1)
    l = record { claims = one.claims; f = one.f; packet = one.packet; at = one.at }

    abbrev there : frames.FrameThere
    there = frames.frame_there l

    abbrev m : Moments
    m = past.moments

    abbrev bytes : ℕ
    bytes = length one.f.payload.items

    abbrev with_frame : Option ℕ → Moments
    with_frame time = moments_behind s there.gap there.anew time one.f one.at.past.number there.notes there.ending m

    abbrev start : Moments
    start = begun_anew s there.anew there.gap m

    -- what was known before it was so before the frame, if times go on
    start_last : (τ : ℕ) → start.before ≡ Some τ → IsLastAt number τ
    start_last τ e = elim (cases_Bool there.anew) [
      | inl begins ↦ absurd (none-some τ (sym (frames.begun_marks s t timed n there m begins).0 ∙ e))
      | inr on ↦ far.last τ (sym (frames.goes_on s t timed n there m on).0 ∙ e)
    ]

    start_mark : (q : ℕ) → start.since ≡ Some q → IsShownMark number q
    start_mark q e = elim (cases_Bool there.anew) [
      | inl begins ↦ absurd (none-some q (sym (frames.begun_marks s t timed n there m begins).1 ∙ e))
      | inr on ↦ far.mark q (sym (frames.goes_on s t timed n there m on).1 ∙ e)
    ]

    reach : reach_back t bytes ≡ longest_reach us bytes (damaged_at_once t)
    reach = (exact_clocks t none).reach bytes ∙ ap (λ (k : ℕ). longest_reach k bytes (damaged_at_once t)) (same_bit timing.bitrate)

    -- the frame and the one before it don't touch
    shown : (time : ℕ) → time_there l ≡ Some time → is_apart (logger_error s) t bytes time start.before ≡ true
        → IsShownMark (number + 1) (idle_mark s t bytes time)
    shown time at is = by_last start.before refl is
      where
        by_last : (o : Option ℕ) → start.before ≡ o → is_apart (logger_error s) t bytes time o ≡ true
            → IsShownMark (number + 1) (idle_mark s t bytes time)
        by_last None e test = absurd (true≢false (sym test))
        by_last (Some τ) e test =
            let (a, σ, k, early, below, over) = start_last τ e in
            let from = time_shown a σ k in
            let to = is_log.times (number + 1) time l at in
            let from_low = from.0 in
            let from_high = from.1 in
            let to_low = to.0 in
            let to_high = to.1 in
            let same = reach in
            let less = ltb-true (τ + (reach_back t bytes + 2 * logger_error s)) time test in
            record {
              line = number + 1;
              there = l;
              below = omega arith;
              bytes = bytes;
              one = place a;
              before = σ + long_before;
              time = time + long_before;
              shows = record {
                next = whole.next a (number + 1) σ k l (omega (arith, below)) over;
                short = whole.bytes (number + 1) l;
                bits = whole.bits (number + 1) l;
                time_before = (omega (arith, from_low), omega (arith, from_high));
                time_of = (omega (arith, to_low), omega (arith, to_high));
                apart = omega (arith, less, same, early);
              };
              is = omega (arith, same);
            }

    -- the idle mark behind the frame
    mark_there : (time q : ℕ) → time_there l ≡ Some time → since_behind s t there.gap bytes time start.before start.since ≡ Some q → IsShownMark (number + 1) q
    mark_there time q at e =
        let idle : idle_behind s t there.gap bytes time start.before start.since ≡ Some q =
        sym (ap (λ (x : Bound). since_by x (idle_behind s t there.gap bytes time start.before start.since) (earliest_end s time)) by_bus) ∙ e in
        let test : Bool = shows_idle s t there.gap bytes time start.before in
        elim (cases_Bool test) [
          | inl shows ↦
              let rest = (and_parts (not s.part) (not there.gap && (leaves_idle t && is_apart (logger_error s) t bytes time start.before)) shows).1 in
              let more = (and_parts (not there.gap) (leaves_idle t && is_apart (logger_error s) t bytes time start.before) rest).1 in
              let apart = (and_parts (leaves_idle t) (is_apart (logger_error s) t bytes time start.before) more).1 in
              let same : idle_mark s t bytes time ≡ q =
              same_Some (idle_mark s t bytes time) q (sym (cond-true test (Some (idle_mark s t bytes time)) start.since shows) ∙ idle) in
              subst (IsShownMark (number + 1)) same (shown time at apart)
          | inr not ↦ later_mark number q (start_mark q (sym (cond-false test (Some (idle_mark s t bytes time)) start.since not) ∙ idle))
        ]

    by_other_frame : (new : Moments) → frames.IsOtherFrame s t timed n there m new → IsKept (number + 1) new
    by_other_frame new other =
        by_other s log place is_message IsUpper IsLower s t timed n step none_of_these number m far.kept there
        new other

    by_time : (time : ℕ) → time_there l ≡ Some time → IsHeld (number + 1) (with_frame (Some time))
    by_time time at =
        let new : Moments = with_frame (Some time) in
        let (marks, kind) = frames.timed_frame s t timed n there time m in
        let mark : (q : ℕ) → new.since ≡ Some q → IsShownMark (number + 1) q = λ q e. mark_there time q at (sym marks.0 ∙ e) in
        record {
          kept = elim kind [
            | inl other ↦ by_other_frame new other
            | inr near ↦
                let (step_is, slack_is) = its_stream one.f near.stream near.stream_is in
                by_message s log place is_message IsUpper IsLower s t timed n step none_of_these number m far.kept there time new near step_is l
                (seen (number + 1) l near.seen) (time_shifted time at)
                (λ x is. bound_by (number + 1) x new.since l mark (sym (ap (λ (o : Option ℕ). lower_bound o new.since) slack_is) ∙ is))
          ];
          last = λ τ e.
              let same : time ≡ τ = same_Some time τ (sym marks.1 ∙ e) in
              (number + 1, time, inl (l, at), omega (arith, same), omega arith, λ k after until. absurd (omega (arith, after, until)));
          mark = mark;
        }
      where
        time_shifted : (time : ℕ) → time_there l ≡ Some time → IsTimedBound bus logs (place (number + 1)) (time + long_before + logger_error s)
        time_shifted time at =
            let timed_at = is_log.times (number + 1) time l at in
            let from = timed_at.0 in
            let to = timed_at.1 in
            record { time = time + long_before; at = (omega (arith, from), omega (arith, to)); is = refl }

    by_no_time : time_there l ≡ None → IsHeld (number + 1) (with_frame None)
    by_no_time none_there =
        let marks = frames.timeless_marks s t timed n there m
        (ap (λ (o : Option ℕ). begins_anew s.stamps one.at.past.newest o) none_there) in
        record {
          kept = by_other_frame (with_frame None) (frames.timeless_frame s t timed n there m);
          last = λ τ e. absurd (none-some τ (sym marks.0 ∙ e));
          mark = λ q e. absurd (none-some q (sym marks.1 ∙ e));
        }

    -- and with a packet of a broadcast
    with_stream_of : (time : Option ℕ) (line : ℕ) (o : Option MessageStream) (new : Moments)
        → ((x : MessageStream) → o ≡ Some x → x.mark ≢ frames.mark s t timed n)
        → IsHeld (number + 1) new → IsHeld (number + 1) (with_packet_stream s time line o new)
    with_stream_of None line o new other is = is
    with_stream_of (Some time) line None new other is = is
    with_stream_of (Some time) line (Some x) new other is =
        let same = frames.other_message s t timed n x (moment_window s x.slack time new.since) line new (other x refl) in
        record {
          kept = record {
            none = same.noted ∙ is.kept.none;
            count = is.kept.count;
            line = is.kept.line;
            windows = is.kept.windows;
            is = same.earliest ∙ is.kept.is;
            messages = is.kept.messages;
          };
          last = is.last;
          mark = is.mark;
        }

    packet_apart : (u : ℕ) → stream_mark NearPackets u ≢ frames.mark s t timed n
    packet_apart u e = (let never : 19 ≡ 15 = ap (λ (k : Mark). (key_of k).0) e in absurd (omega (arith, never)))

    by_frame : IsHeld (number + 1) next.moments
    by_frame =
        let time : Option ℕ = time_there l in
        let packet : Option MessageStream = packet_with s.plan.timing (counted_for s one.at.past time one.f one.packet) one.f
        (broadcasts_there s one.at.past time one.f) in
        let held_there : IsHeld (number + 1) (with_frame time) = elim (time_there l) as (λ o. time_there l ≡ o → IsHeld (number + 1) (with_frame o)) [
          | None ↦ λ at. by_no_time at
          | Some τ ↦ λ at. by_time τ at
        ] refl in
        let load : next.moments ≡ with_packet_stream s time one.at.past.number packet (with_frame time) =
        ap (λ (p : AuditPast). p.moments) one.next_is ∙ moments_with s one.at.past time one.at.named one.f one.packet
        ∙ ap (λ (p : AuditPast). with_packet_stream s time one.at.past.number packet
        (moments_with_frame s s one.at.past time one.f one.packet p.moments)) one.past_is in
        subst (IsHeld (number + 1)) (sym load)
        (with_stream_of time one.at.past.number packet (with_frame time)
        (λ x is same. (let (u, at) = packet_mark s.plan.timing (counted_for s one.at.past time one.f one.packet) one.f
        (broadcasts_there s one.at.past time one.f) x is in packet_apart u (sym at ∙ same))) held_there)

  -- where a frame came that may stand there again, the line before has a time
  abbrev IsTimed : AuditPast → Type 0
  IsTimed past = (one : TakenFrame) → past.taken ≡ Some one → (τ : ℕ) × (past.moments.before ≡ Some τ)

  timed_frame : (number : ℕ) (past next : AuditPast) → IsFrameNext s log (number + 1) past next → IsTimed next
  timed_frame number past next one =
      let l : FrameLine s log (number + 1) = record { claims = one.claims; f = one.f; packet = one.packet; at = one.at } in
      let q : AuditPast = one.at.past in
      let there : frames.FrameThere = frames.frame_there l in
      let with_frame : Option ℕ → Moments = λ time.
      moments_behind s there.gap there.anew time one.f q.number there.notes there.ending past.moments in
      let stream : Option ℕ → Option MessageStream = λ time.
      packet_with s.plan.timing (counted_for s q time one.f one.packet) one.f (broadcasts_there s q time one.f) in
      let time : Option ℕ = time_there l in
      let taken_is : next.taken ≡ taken_frame time one.f q.number (sighted_behind nothing_sighted (noted_newly s q time one.f one.packet)) =
      ap (λ (p : AuditPast). p.taken) one.next_is ∙ taken_with s q time one.at.named one.f one.packet in
      let before : next.moments.before ≡ (with_frame time).before = ap (λ (p : AuditPast). p.moments.before) one.next_is
      ∙ ap (λ (m : Moments). m.before) (moments_with s q time one.at.named one.f one.packet)
      ∙ packet_before time q.number (stream time) (moments_with_frame s s q time one.f one.packet q.moments)
      ∙ ap (λ (p : AuditPast). (moments_with_frame s s q time one.f one.packet p.moments).before) one.past_is in
      λ taken is. by_time l past.moments there time refl taken (sym taken_is ∙ is) before
    where
      packet_before : (time : Option ℕ) (line : ℕ) (o : Option MessageStream) (m : Moments) → (with_packet_stream s time line o m).before ≡ m.before
      packet_before None line o m = refl
      packet_before (Some τ) line None m = refl
      packet_before (Some τ) line (Some x) m = refl

      by_time : {at : ℕ} (l : FrameLine s log at) (m : Moments) (seen_there : frames.FrameThere) (time : Option ℕ) → time_there l ≡ time → (taken : TakenFrame)
          → taken_frame time l.f l.at.past.number (sighted_behind nothing_sighted (noted_newly s l.at.past (time_there l) l.f l.packet)) ≡ Some taken
          → next.moments.before
          ≡ (moments_behind s seen_there.gap seen_there.anew time seen_there.f seen_there.line seen_there.notes seen_there.ending m).before
          → (τ : ℕ) × (next.moments.before ≡ Some τ)
      by_time l m seen_there None at taken is before = absurd (none-some taken is)
      by_time l m seen_there (Some τ) at taken is before = (τ, before ∙ (frames.timed_frame s t timed n seen_there τ m).0.1)

  abbrev Holds : ℕ → AuditPast → Type 0
  Holds number past = IsHeld number past.moments × IsTimed past

  more : (number : ℕ) (past next : AuditPast) → Holds number past → IsNext s log (number + 1) past next → Holds (number + 1) next
  more number past next (is, is_timed) (count, inl passed) =
      let same : frames.IsAsNear s t timed n past.moments past.moments = record { earliest = refl; noted = refl; since = refl; before = refl } in (
        subst (IsHeld (number + 1)) (sym passed.moments_are) (record {
          kept = kept_on number past.moments past.moments same is.kept;
          last = λ τ e.
              let (a, σ, l, early, below, over) = is.last τ e in (
                a,
                σ,
                l,
                early,
                omega (arith, below),
                none_more a number over (inl passed.over),
              );
          mark = λ q e. later_mark number q (is.mark q e);
        }),
        λ one taken.
            let (τ, before) = is_timed one (sym passed.taken_is ∙ taken) in
            (τ, ap (λ (m : Moments). m.before) passed.moments_are ∙ before),
      )
  more number past next (is, is_timed) (count, inr (inl gap)) =
      let same : frames.IsAsNear s t timed n past.moments past.moments = record { earliest = refl; noted = refl; since = refl; before = refl } in (
        subst (IsHeld (number + 1)) (sym gap.moments_are) (gap_held (number + 1) past.moments (kept_on number past.moments past.moments same is.kept)),
        λ one taken. absurd (none-some one (sym gap.taken_is ∙ taken)),
      )
  more number past next (is, is_timed) (count, inr (inr (inl bad))) =
      let all : Moments = all_pauses_ended s past.moments in (
        subst (IsHeld (number + 1)) (sym (ap (λ (p : AuditPast). p.moments) bad.next_is))
            (gap_held (number + 1) all (kept_on number past.moments all (frames.all_near s t timed n past.moments) is.kept)),
        λ one taken. absurd (none-some one (sym (ap (λ (p : AuditPast). p.taken) bad.next_is) ∙ taken)),
      )
  more number past next (is, is_timed) (count, inr (inr (inr (inl one)))) = (by_frame number past next one is, timed_frame number past next one)
  more number past next (is, is_timed) (count, inr (inr (inr (inr again)))) =
      let new : Moments = moments_again s again.taken.flow again.time past.moments in
      let (last_time, before) = is_timed again.taken again.taken_is in (
        subst (IsHeld (number + 1)) (sym again.moments_are) (record {
          kept = same_so_far s log place is_message IsUpper IsLower s t timed n step none_of_these number past.moments new refl refl is.kept;
          last = λ τ e. subst (IsLastAt (number + 1)) (same_Some again.time τ e)
              (last_again number again.at again.time again.time_is (last_time, is.last last_time before));
          mark = λ q e. later_mark number q (is.mark q e);
        }),
        λ one taken. (again.time, ap (λ (m : Moments). m.before) again.moments_are),
      )

  pub never_near : (end : AuditPast) → AuditsLines s nothing_read log end → (look_at (log_ended s end) (mark_at NearFlow n 0)).times ≡ 0
  unfolding reported_at
  never_near end read =
      let first : Holds 0 nothing_read = (
        record {
          kept = first_so_far s log place is_message IsUpper IsLower s t timed n step none_of_these nothing_read.moments refl refl;
          last = λ τ e. absurd (none-some τ e);
          mark = λ q e. absurd (none-some q e);
        },
        λ one taken. absurd (none-some one taken),
      ) in
      let is = (at_end s log Holds more end first read).0 in
      ap (λ (l : List Noted). (occurrences_of l).times) ((frames.all_near s t timed n end.moments).noted ∙ is.kept.none)

pub periods_not_near : PeriodsAreNotNear
periods_not_near s log timing bus damaged held release clock place n ms is_message end timed by_bus none keeps errors short few part is_log whole seen read =
    let (t, at, same) = planned_timing s.plan timing timed in
    subst (λ (x : Timing). x.drift ≡ 0 → KeepsTime (bit_time x.bitrate) clock → AreFew damaged (damaged_at_once x)
    → KeepsItsPeriod s.plan x bus held n ms release is_message → (look_at (log_ended s end) (mark_at NearFlow n 0)).times ≡ 0) same
    (λ still ticks rare its.
    never_near s log t at by_bus still bus damaged held release clock place n ms is_message ticks errors short rare its is_log whole seen end read)
    none keeps few part
