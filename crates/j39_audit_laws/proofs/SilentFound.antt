-- A flow of which no message comes for long, while its ends are there, is reported as silent.
use Rattle.std.proofs.Common.{◌≡◌, ◌≢◌, ◌⊎◌, ℕ, ◌+◌, ◌-◌, ◌*◌, ◌^◌, ◌<◌, ◌≤◌, ◌||◌, List, [], Bool, true, false, length}
use Rattle.std.proofs.Common.{inl, inr, refl, sym, ap, ◌∙◌, subst, arith, Option, Some, None}
use Rattle.std.specs.Prelude.{Contains, ◌==◌}
use Rattle.std.specs.List.{slice_get}
use Rattle.std.proofs.lemmas.Bool.{cases_eq, cases_lt, false_from_ne_true, cond-false, ne_eqb}
use Rattle.std.proofs.lemmas.Option.{same_Some}
use Rattle.j39_id.specs.Ident.{pgn_of}
use Rattle.j39_id.specs.Lines.{Line, Short as ShortLine}
use Rattle.j39_id.specs.declared.frame.Frame.{Frame}
use Rattle.j39_network.specs.declared.plan.flow_plan.FlowPlan.{FlowPlan}
use Rattle.j39_network.specs.declared.plan.timing.Timing.{Timing}
use Rattle.j39_tp.specs.declared.packet.Packet.{Packet}
use Rattle.j39_timing.specs.Messages.{frame_end}
use Rattle.j39_timing.specs.TimedFrames.{Schedule}
use Rattle.j39_audit.specs.AuditPasts.{AuditPast, AuditsLines, claims_before, gap_before, moments_with_frame, nothing_read, noted_newly, with_next_number}
use Rattle.j39_audit.specs.Breaks.{line_time}
use Rattle.j39_audit.specs.Claiming.{HeardClaims, knowledge}
use Rattle.j39_audit.specs.Counting.{Noted}
use Rattle.j39_audit.specs.Looking.{is_single}
use Rattle.j39_audit.specs.MessageStreams.{flow_stream, is_in_stream, nothing_sighted, sighted_behind}
use Rattle.j39_audit.specs.Moments.{Moments, all_pauses_ended, begins_anew, earliest_end, long_before}
use Rattle.j39_audit.specs.Pauses.{ending_of, is_with_unit, stands_for, unclear_behind}
use Rattle.j39_audit.specs.Settings.{Settings, by_load as judged_by_load, logger_error}
use Rattle.j39_audit.specs.declared.pauses.Ending.{Ending}
use Rattle.j39_audit_laws.specs.FoundLines.{IsFrameAt}
use Rattle.j39_audit_laws.specs.MarkRecords.{KeepsTime}
use Rattle.j39_audit_laws.specs.PauseLines.{BeginsAnew, ClaimEndsPause, CountsFor, EndsPauseAt, FrameLine, IsBadAt, IsMessageAt, IsSeenOf, IsUnclearOf}
use Rattle.j39_audit_laws.specs.PauseLines.{time_there}
use Rattle.j39_audit_laws.specs.SilentFlows.{AreFramesOnBus, IsEndOfFlow, IsLongSilent}
use Rattle.j39_audit_laws.proofs.PauseFrames as frames
use Rattle.j39_audit_laws.proofs.PauseSteps.{AreShown, IsLate, IsOpen, IsStated, Watched, all_keep, all_stated, bound, reported_on}
use Rattle.j39_audit_laws.proofs.Walk.{IsFrameNext, IsNext, IsNoFrame, at_end, bad_no_frame, inside_log, load_with, one_frame_at}
use Rattle.j39_audit.specs.Again.{newest_again, newest_later, with_later_moment}
use Rattle.j39_audit.specs.declared.pauses.Newest.{Newest}

-- where a frame stands there again that was of another flow or of none, the newest message of this one stays
newest_of_others : (flow : Option ℕ) (moment : ℕ) (newest : ℕ → Option Newest) (n : ℕ) → flow ≢ Some n → newest_again flow moment newest n ≡ newest n
newest_of_others None moment newest n other = refl
newest_of_others (Some k) moment newest n other = elim (newest k) as (λ o. newest_later k moment o newest n ≡ newest n) [
  | None ↦ refl
  | Some one ↦ cond-false (k == n) (Some (with_later_moment moment one)) (newest n) (ne_eqb k n (λ same. other (ap Some same)))
]

cases_le : (m n : ℕ) → (m ≤ n) ⊎ (n < m)
cases_le m n = grind arith

module _ (plain : Settings) (log : List Line) (t : Timing) (timed : plain.plan.timing ≡ Some t) (us : ℕ) (clock : ℕ → ℕ) (bus : Schedule) (frame : ℕ → ℕ)
    (keeps : KeepsTime us clock) (on_bus : AreFramesOnBus plain log bus clock frame) (n : ℕ) (long : IsLongSilent plain t log us bus frame n) where
  abbrev s : Settings
  s = judged_by_load plain

  abbrev e : ℕ
  e = logger_error plain

  abbrev w : Watched s
  w = record {
    timing = t;
    timed = timed;
    place = n;
    flow = long.flow;
    flow_is = long.flow_is;
    pause = long.pause;
    pause_is = long.pause_is;
    slack = long.slack;
    slack_is = long.slack_is;
    upper = long.message.time + long_before + e;
    first = long.first;
  }

  -- ---- times

  error_small : e ≤ 1000000
  error_small = omega arith

  pub late_there : (u : ℕ) (end : IsEndOfFlow long.flow u) (number τ : ℕ) (l : FrameLine plain log number) → time_there l ≡ Some τ
      → (long.still u end).number ≤ number → bound s w < earliest_end s τ
  late_there u end number τ l at after =
      let there = long.still u end in
      let a : ℕ = frame_end bus (frame long.first) in
      let b : ℕ = frame_end bus (frame there.number) in
      let c : ℕ = frame_end bus (frame number) in
      let behind = there.behind in
      let first_b : a ≤ b = on_bus.in_turn long.first there.number long.message.line there.line (omega (arith, behind)) in
      let b_c : b ≤ c = on_bus.in_turn there.number number there.line l after in
      let began = on_bus.times long.first long.message.time long.message.line long.message.time_is in
      let ended = on_bus.times number τ l at in
      let one = (keeps a b first_b).0 in
      let two = (keeps b c b_c).0 in
      let span = there.long in
      let less = error_small in
      let from = began.0 in
      let to = ended.1 in
      let up : clock b ≤ clock c = omega (arith, two) in
      late long.message.time τ long.pause.pause long.slack e (clock a) (clock b) (clock c) (999 * (us * (b - a))) from to one up span less
    where
      late : (began ended pause slack e a b c passed : ℕ) → 1000 * began ≤ a + 1000 * e → c ≤ 1000 * ended + 1000 * e → a + passed ≤ b → b ≤ c
          → 1000 * (pause + slack + 4 * e) < passed → e ≤ 1000000 → began + 2 ^ 33 + e + pause + slack < ended + 2 ^ 33 - e
      late began ended pause slack e a b c passed from to one up long less = omega (arith, from, to, one, up, long, less)

  -- ---- what holds behind each line

  -- while the pause goes on: that message is the newest one, and of each end that came since a frame did so late
  pub record IsWatched (number : ℕ) (m : Moments) : Type 0 where
    pub opened : IsOpen s w m
    pub shown : (u : ℕ) (end : IsEndOfFlow long.flow u) → (long.still u end).number ≤ number → IsLate s w (m.last u)

  -- nothing has ended it, up to this line
  abbrev GoesOn : ℕ → Type 0
  GoesOn number = (length log ≤ long.until) ⊎ (number < long.until)

  abbrev pub Holds : ℕ → AuditPast → Type 0
  Holds number past = (past.number ≡ number)
      × ((number < long.first) ⊎ (IsStated s w past.by_load ⊎ ((long.first ≤ number) × GoesOn number × IsWatched number past.by_load)))

  all_shown : (number : ℕ) (m : Moments) → long.last ≤ number → IsWatched number m → AreShown s w m
  all_shown number m after is u end =
      let by = (long.still u end).by in
      is.shown u end (omega (arith, by, after))

  -- ---- a frame

  module _ (number : ℕ) (past : AuditPast) (claims : HeardClaims) (f : Frame) (packet : Option Packet) (at : IsFrameAt plain log number claims f packet)
      (past_is : at.past ≡ with_next_number past) (count : past.number + 1 ≡ number) where
    abbrev line : FrameLine plain log number
    line = record { claims = claims; f = f; packet = packet; at = at }

    abbrev time : Option ℕ
    time = line_time plain.plan at.time

    abbrev gap : Bool
    gap = gap_before plain at.past time

    abbrev anew : Bool
    anew = begins_anew plain.stamps at.past.newest time

    abbrev noted : List Noted
    noted = noted_newly plain at.past time f packet

    abbrev ending : Ending
    ending = ending_of plain (knowledge plain (claims_before plain at.past time)) f

    abbrev m : Moments
    m = past.by_load

    abbrev new : Moments
    new = moments_with_frame s plain at.past time f packet m

    -- another reading of the line is this one
    module _ (l : FrameLine plain log number) where
      same_claims : knowledge plain l.claims ≡ knowledge plain claims
      same_claims =
          let same = one_frame_at plain log number l.claims claims l.f f l.packet packet l.at at in
          ap (knowledge plain) (l.at.claims_are
          ∙ ap (λ (x : List ℕ). claims_before plain l.at.past (line_time plain.plan x)) same.time_is
          ∙ ap (λ (q : AuditPast). claims_before plain q time) same.past_is ∙ sym at.claims_are)

      same_notes : noted_newly plain l.at.past (time_there l) l.f l.packet ≡ noted
      same_notes =
          let same = one_frame_at plain log number l.claims claims l.f f l.packet packet l.at at in
          ap (λ (x : List ℕ). noted_newly plain l.at.past (line_time plain.plan x) l.f l.packet) same.time_is
          ∙ ap (λ (q : AuditPast). noted_newly plain q time l.f l.packet) same.past_is
          ∙ ap (λ (g : Frame). noted_newly plain at.past time g l.packet) same.frame_is
          ∙ ap (λ (p : Option Packet). noted_newly plain at.past time f p) same.packet_is

      seen_here : IsSeenOf l n → (sighted_behind nothing_sighted noted).flow ≡ Some n
      seen_here seen = subst (λ (x : List Noted). (sighted_behind nothing_sighted x).flow ≡ Some n) same_notes seen

      counts_here : (u : ℕ) → CountsFor l u → (sighted_behind nothing_sighted noted).unit ≡ Some u
      counts_here u is = subst (λ (x : List Noted). (sighted_behind nothing_sighted x).unit ≡ Some u) same_notes is

      ends_here : BeginsAnew l ⊎ (ClaimEndsPause l n ⊎ IsUnclearOf l n) → frames.EndsThere plain w gap anew time f at.past.number noted ending
      unfolding is_with_unit
      ends_here (inl begins) =
          let same = one_frame_at plain log number l.claims claims l.f f l.packet packet l.at at in
          inl (sym (ap (λ (x : List ℕ). begins_anew plain.stamps l.at.past.newest (line_time plain.plan x)
          || gap_before plain l.at.past (line_time plain.plan x)) same.time_is
          ∙ ap (λ (q : AuditPast). begins_anew plain.stamps q.newest time || gap_before plain q time) same.past_is) ∙ begins)
      ends_here (inr (inl claim)) =
          let same = one_frame_at plain log number l.claims claims l.f f l.packet packet l.at at in
          let is : ending_of plain (knowledge plain l.claims) l.f ≡ ending =
          ap (λ (g : Frame). ending_of plain (knowledge plain l.claims) g) same.frame_is
          ∙ ap (λ k. ending_of plain k f) (same_claims ∙ ap (knowledge plain) at.claims_are) in
          inr (inl (elim claim [
            | inl all ↦ inl (sym is ∙ all)
            | inr (u, unit, with_it) ↦ inr (u, sym is ∙ unit, with_it)
          ]))
      ends_here (inr (inr unclear)) = inr (inr (subst (λ (x : List Noted). Contains (unclear_behind [] x) n) same_notes unclear))

    -- an end of the pause there is one at the line
    ends_at : frames.EndsThere plain w gap anew time f at.past.number noted ending → EndsPauseAt plain log number n
    unfolding is_with_unit
    ends_at (inl begins) = inr (line, inl begins)
    ends_at (inr (inl claim)) =
        let is : ending_of plain (knowledge plain claims) f ≡ ending = ap (λ (c : HeardClaims). ending_of plain (knowledge plain c) f) at.claims_are in
        inr (
          line,
          inr (inl (elim claim [
            | inl all ↦ inl (is ∙ all)
            | inr (u, unit, with_it) ↦ inr (u, is ∙ unit, with_it)
          ])),
        )
    ends_at (inr (inr unclear)) = inr (line, inr (inr unclear))

    line_number : at.past.number ≡ number
    line_number = ap (λ (q : AuditPast). q.number) past_is ∙ count

    timeless : time ≡ None → anew ≡ true
    timeless none = ap (λ (o : Option ℕ). begins_anew plain.stamps at.past.newest o) none

    inside : number ≤ length log
    inside = inside_log plain log number at.past (ShortLine at.line) at.line_is

    -- what it does while the pause goes on
    module _ (before : ℕ) (before_is : number ≡ before + 1) (first : long.first ≤ before) (goes : GoesOn before) (is : IsWatched before m) where
      up_to : number ≤ long.until
      up_to = elim goes [
        | inl all ↦ (let least = inside in omega (arith, least, all))
        | inr less ↦ omega (arith, less, before_is)
      ]

      ends_behind : frames.EndsThere plain w gap anew time f at.past.number noted ending → AreShown s w m
      ends_behind ends = elim (cases_le number long.last) [
        | inl between ↦ absurd (long.unended number (omega (arith, first, before_is)) between (ends_at ends))
        | inr behind ↦ all_shown before m (omega (arith, behind, before_is)) is
      ]

      unstood : stands_for plain.plan (sighted_behind nothing_sighted noted).deviating (sighted_behind nothing_sighted noted).unit n ≡ false
      unstood = false_from_ne_true (stands_for plain.plan (sighted_behind nothing_sighted noted).deviating (sighted_behind nothing_sighted noted).unit n)
          (λ stands. long.none_stands number line (omega (arith, first, before_is)) up_to stands)

      late_message : (sighted_behind nothing_sighted noted).flow ≡ Some n → (τ : ℕ) → time ≡ Some τ → bound s w < earliest_end s τ
      late_message seen τ timed_at = elim (cases_lt number long.last) [
        | inl between ↦ absurd (long.none_between number line (omega (arith, first, before_is)) between seen)
        | inr behind ↦
            let end : IsEndOfFlow long.flow long.flow.sender = inl refl in
            let by = (long.still long.flow.sender end).by in
            late_there long.flow.sender end number τ line timed_at (omega (arith, by, behind))
      ]

      abbrev Still : Type 0
      Still = frames.IsStill plain w gap anew time f at.past.number noted ending m new

      goes_there : Still ⊎ IsStated s w new
      goes_there = frames.frame_goes plain w gap anew time f at.past.number noted ending m is.opened timeless ends_behind unstood late_message

      watched : Still → IsWatched number new
      watched still = record {
        opened = still.opened;
        shown = λ u end by. elim (still.last u end) [
          | inr is_new ↦ record {
            frame = record { line = at.past.number; since = Some (earliest_end s still.moment) };
            frame_is = is_new;
            behind = (let at_number = line_number in omega (arith, first, before_is, at_number));
            since = earliest_end s still.moment;
            since_is = refl;
            late = late_there u end number still.moment line still.moment_is by;
          }
          | inl (other, old) ↦ elim (cases_eq (long.still u end).number number) [
            | inl here ↦ absurd (other (counts_for u end here))
            | inr apart ↦ subst (IsLate s w) (sym old) (is.shown u end (omega (arith, by, apart, before_is)))
          ]
        ];
      }
        where
          counts_for : (u : ℕ) (end : IsEndOfFlow long.flow u) → (long.still u end).number ≡ number → (sighted_behind nothing_sighted noted).unit ≡ Some u
          counts_for u end here =
              let there = long.still u end in
              subst (λ (k : ℕ). (l : FrameLine plain log k) → CountsFor l u → (sighted_behind nothing_sighted noted).unit ≡ Some u) (sym here)
              (λ l counts. counts_here l u counts) there.line there.counts

    -- a message of it that is one of its stream
    module _ (message : IsMessageAt plain log number n) where
      seen_message : (sighted_behind nothing_sighted noted).flow ≡ Some n
      seen_message = seen_here message.line message.seen

      has_stream : flow_stream s t f n ≢ None
      has_stream =
          let same = one_frame_at plain log number message.line.claims claims message.line.f f message.line.packet packet message.line.at at in
          let flow : message.flow ≡ long.flow = same_Some message.flow long.flow (sym message.flow_is ∙ long.flow_is) in
          frames.has_stream plain w f message.group
          (subst (λ (x : FlowPlan). slice_get plain.plan.groups.items x.group ≡ Some message.group) flow message.group_is)
          (subst (λ (g : Frame). is_in_stream message.group (is_single (pgn_of g.ident)) ≡ true) same.frame_is message.sort)

      message_time : time ≡ Some message.time
      message_time =
          let same = one_frame_at plain log number message.line.claims claims message.line.f f message.line.packet packet message.line.at at in
          sym (ap (line_time plain.plan) same.time_is) ∙ message.time_is

    -- at the first message
    opens : (message : IsMessageAt plain log number n) → message.time ≡ long.message.time → number ≡ long.first → IsOpen s w new
    opens message same here =
        frames.opens plain w gap anew time f at.past.number noted ending message.time (message_time message) (seen_message message) (has_stream message)
        (omega (arith, same)) (line_number ∙ here) m

    -- what comes where the pause ends at last
    comes_not : (IsMessageAt plain log number n ⊎ EndsPauseAt plain log number n)
        → (frames.IsUnseen plain w f (sighted_behind nothing_sighted noted).flow)
        → (¬ frames.EndsThere plain w gap anew time f at.past.number noted ending) → ⊥
    comes_not (inl message) unseen unended = has_stream message (unseen (seen_message message))
    comes_not (inr (inl bad)) unseen unended = bad_no_frame plain log number bad claims f packet at
    comes_not (inr (inr (l, ends))) unseen unended = unended (ends_here l ends)

  -- ---- lines

  -- the pause goes on, or this is the line at which it doesn't
  goes_next : (number : ℕ) → GoesOn number
      → GoesOn (number + 1) ⊎ ((number + 1 ≡ long.until) × (IsMessageAt plain log long.until n ⊎ EndsPauseAt plain log long.until n))
  goes_next number (inl all) = inl (inl all)
  goes_next number (inr less) = elim (cases_eq (number + 1) long.until) [
    | inl here ↦ elim (long.comes) [ inl all ↦ inl (inl all) | inr comes ↦ inr (here, comes) ]
    | inr apart ↦ inl (inr (omega (arith, less, apart)))
  ]

  no_event : (number : ℕ) → IsNoFrame plain log number → ¬ IsBadAt plain log number → ¬ (IsMessageAt plain log number n ⊎ EndsPauseAt plain log number n)
  no_event number none fine (inl message) = none message.line.claims message.line.f message.line.packet message.line.at
  no_event number none fine (inr (inl bad)) = fine bad
  no_event number none fine (inr (inr (l, ends))) = none l.claims l.f l.packet l.at

  -- at a line that is no frame and not bad
  on_watch : (number : ℕ) (m new : Moments) → IsNoFrame plain log (number + 1) → new.newest n ≡ m.newest n → ((u : ℕ) → new.last u ≡ m.last u)
      → IsWatched number m → IsWatched (number + 1) new
  on_watch number m new none newest last is = record {
    opened = record { newest = is.opened.newest; newest_is = newest ∙ is.opened.newest_is; moment = is.opened.moment; line = is.opened.line };
    shown = λ u end by. elim (cases_eq (long.still u end).number (number + 1)) [
      | inl here ↦ (let l = (long.still u end).line in
          absurd (subst (IsNoFrame plain log) (sym here) none l.claims l.f l.packet l.at))
      | inr apart ↦ subst (IsLate s w) (sym (last u)) (is.shown u end (omega (arith, by, apart)))
    ];
  }

  abbrev Then : ℕ → AuditPast → Type 0
  Then number past = (number < long.first) ⊎ (IsStated s w past.by_load ⊎ ((long.first ≤ number) × GoesOn number × IsWatched number past.by_load))

  passes_on : (number : ℕ) (past next : AuditPast) → IsNoFrame plain log (number + 1) → ¬ IsBadAt plain log (number + 1)
      → next.by_load.newest n ≡ past.by_load.newest n → ((u : ℕ) → next.by_load.last u ≡ past.by_load.last u) → long.first ≤ number → GoesOn number
      → IsWatched number past.by_load → Then (number + 1) next
  passes_on number past next none fine newest last first goes is = elim (goes_next number goes) [
    | inl on ↦ inr (inr (omega (arith, first), on, on_watch number past.by_load next.by_load none newest last is))
    | inr (here, comes) ↦
        absurd (no_event (number + 1) none fine
        (subst (λ (k : ℕ). IsMessageAt plain log k n ⊎ EndsPauseAt plain log k n) (sym here) comes))
  ]

  pub load_next : (number : ℕ) (past next : AuditPast) (one : IsFrameNext plain log (number + 1) past next)
      → next.by_load ≡ moments_with_frame s plain one.at.past (line_time plain.plan one.at.time) one.f one.packet past.by_load
  load_next number past next one =
      ap (λ (p : AuditPast). p.by_load) one.next_is ∙ load_with plain one.at.past (line_time plain.plan one.at.time) one.at.named one.f one.packet
      ∙ ap (λ (p : AuditPast). moments_with_frame s plain one.at.past (line_time plain.plan one.at.time) one.f one.packet p.by_load) one.past_is

  -- reported is reported
  stays_reported : (number : ℕ) (past next : AuditPast) → IsNext plain log (number + 1) past next → IsStated s w past.by_load → IsStated s w next.by_load
  stays_reported number past next (count, inl passed) stated = subst (IsStated s w) (sym passed.load_is) stated
  stays_reported number past next (count, inr (inl gap)) stated =
      subst (IsStated s w) (sym gap.load_is) (record { note = stated.note; noted = stated.noted; mark_is = stated.mark_is })
  stays_reported number past next (count, inr (inr (inl bad))) stated =
      let all = reported_on s w past.by_load (all_pauses_ended s past.by_load) (all_keep s past.by_load) stated in
      subst (IsStated s w) (sym (ap (λ (p : AuditPast). p.by_load) bad.next_is)) (record { note = all.note; noted = all.noted; mark_is = all.mark_is })
  stays_reported number past next (count, inr (inr (inr (inr again)))) stated =
      subst (IsStated s w) (sym again.load_is) (record { note = stated.note; noted = stated.noted; mark_is = stated.mark_is })
  stays_reported number past next (count, inr (inr (inr (inl one)))) stated =
      subst (IsStated s w) (sym (load_next number past next one))
      (reported_on s w past.by_load _ (frames.frame_keeps plain w _ _ _ one.f one.at.past.number _ _ past.by_load) stated)

  -- while the pause goes on, at each line
  goes_more : (number : ℕ) (past next : AuditPast) → past.number ≡ number → IsNext plain log (number + 1) past next → long.first ≤ number → GoesOn number
      → IsWatched number past.by_load → Then (number + 1) next
  goes_more number past next at (count, inl passed) first goes is =
      passes_on number past next passed.no_frame passed.not_bad (ap (λ (m : Moments). m.newest n) passed.load_is)
      (λ u. ap (λ (m : Moments). m.last u) passed.load_is) first goes is
  goes_more number past next at (count, inr (inl gap)) first goes is =
      passes_on number past next gap.no_frame gap.not_bad (ap (λ (m : Moments). m.newest n) gap.load_is)
      (λ u. ap (λ (m : Moments). m.last u) gap.load_is) first goes is
  goes_more number past next at (count, inr (inr (inl bad))) first goes is =
      let after : long.last ≤ number = elim (cases_le (number + 1) long.last) [
        | inl between ↦ absurd (long.unended (number + 1) (omega (arith, first)) between (inl bad.bad))
        | inr behind ↦ omega (arith, behind)
      ] in
      let stated = all_stated s w past.by_load is.opened (all_shown number past.by_load after is) in
      inr (inl (subst (IsStated s w) (sym (ap (λ (p : AuditPast). p.by_load) bad.next_is))
      (record { note = stated.note; noted = stated.noted; mark_is = stated.mark_is })))
  goes_more number past next at (count, inr (inr (inr (inr again)))) first goes is =
      let inside : number + 1 ≤ length log = inside_log plain log (number + 1) again.at.past (ShortLine again.at.line) again.at.line_is in
      let up_to : number + 1 ≤ long.until = elim goes [ inl all ↦ omega (arith, inside, all) | inr less ↦ omega (arith, less) ] in
      let other : again.taken.flow ≢ Some n = λ its. long.none_again (number + 1) (omega (arith, first)) up_to
      (record { at = again.at; taken = again.taken; taken_is = ap (λ (q : AuditPast). q.taken) again.past_is ∙ again.taken_is; flow = its }) in
      passes_on number past next again.no_frame again.not_bad
      (ap (λ (m : Moments). m.newest n) again.load_is ∙ newest_of_others again.taken.flow (again.time + long_before + e) past.by_load.newest n other)
      (λ u. ap (λ (m : Moments). m.last u) again.load_is) first goes is
  goes_more number past next at (count, inr (inr (inr (inl one)))) first goes is =
      let q : ℕ = number + 1 in
      let counted : past.number + 1 ≡ q = ap (λ (k : ℕ). k + 1) at in
      let load = load_next number past next one in
      elim (goes_there q past one.claims one.f one.packet one.at one.past_is counted number refl first goes is) [
        | inr stated ↦ inr (inl (subst (IsStated s w) (sym load) stated))
        | inl still ↦ elim (goes_next number goes) [
          | inl on ↦
              let there = watched q past one.claims one.f one.packet one.at one.past_is counted number refl first goes is still in
              inr (inr (omega (arith, first), on, subst (IsWatched q) (sym load) there))
          | inr (here, comes) ↦
              absurd (comes_not q past one.claims one.f one.packet one.at one.past_is counted
              (subst (λ (k : ℕ). IsMessageAt plain log k n ⊎ EndsPauseAt plain log k n) (sym here) comes) still.unseen still.unended)
        ]
      ]

  -- at the first message
  begins : (number : ℕ) (past next : AuditPast) → past.number ≡ number → IsNext plain log (number + 1) past next → number + 1 ≡ long.first
      → Then (number + 1) next
  begins number past next at (count, kind) here =
      let frame_there : ¬ IsNoFrame plain log (number + 1) = λ none.
      (let l = long.message.line in subst (IsNoFrame plain log) here none l.claims l.f l.packet l.at) in
      elim kind [
        | inl passed ↦ absurd (frame_there passed.no_frame)
        | inr (inl gap) ↦ absurd (frame_there gap.no_frame)
        | inr (inr (inl bad)) ↦ absurd (frame_there (bad_no_frame plain log (number + 1) bad.bad))
        | inr (inr (inr (inr again))) ↦ absurd (frame_there again.no_frame)
        | inr (inr (inr (inl one))) ↦
            let q : ℕ = number + 1 in
            let counted : past.number + 1 ≡ q = ap (λ (k : ℕ). k + 1) at in
            let new : Moments = moments_with_frame s plain one.at.past (line_time plain.plan one.at.time) one.f one.packet past.by_load in
            let opened : IsOpen s w new =
            subst (λ (k : ℕ). (message : IsMessageAt plain log k n) → message.time ≡ long.message.time → IsOpen s w new) here
            (λ message same. opens q past one.claims one.f one.packet one.at one.past_is counted message same here) long.message refl in
            let there = long.still long.flow.sender (inl refl) in
            let behind = there.behind in
            let by = there.by in
            let after = long.from_last in
            inr (inr (
              omega (arith, here),
              inr (omega (arith, here, behind, by, after)),
              subst (IsWatched q) (sym (load_next number past next one)) (record {
                opened = opened;
                shown = λ u end up. (let later = (long.still u end).behind in absurd (omega (arith, later, up, here)));
              }),
            ))
      ]

  more : (number : ℕ) (past next : AuditPast) → Holds number past → IsNext plain log (number + 1) past next → Holds (number + 1) next
  more number past next (at, state) is = (
    is.0 ∙ ap (λ (k : ℕ). k + 1) at,
    elim (cases_eq (number + 1) long.first) [
      | inl here ↦ begins number past next at is here
      | inr apart ↦ elim state [
        | inl before ↦ inl (omega (arith, before, apart))
        | inr (inl stated) ↦ inr (inl (stays_reported number past next is stated))
        | inr (inr (first, goes, watches)) ↦ goes_more number past next at is first goes watches
      ]
    ],
  )

  inside_there : (number : ℕ) → FrameLine plain log number → number ≤ length log
  inside_there number l = inside_log plain log number l.at.past (ShortLine l.at.line) l.at.line_is

  -- behind the last line, once all pauses have ended
  pub yielded_at_end : (end : AuditPast) → AuditsLines plain nothing_read log end → IsStated s w (all_pauses_ended s end.by_load)
  yielded_at_end end read =
      let first = inside_there long.first long.message.line in
      let there = long.still long.flow.sender (inl refl) in
      let behind = there.behind in
      let begin : Holds 0 nothing_read = (refl, inl (starts behind)) in
      elim (at_end plain log Holds more end begin read).1 [
        | inl before ↦ absurd (omega (arith, first, before))
        | inr (inl stated) ↦ reported_on s w end.by_load (all_pauses_ended s end.by_load) (all_keep s end.by_load) stated
        | inr (inr (_, _, is)) ↦
            all_stated s w end.by_load is.opened (λ u its. is.shown u its (inside_there (long.still u its).number (long.still u its).line))
      ]
    where
      starts : long.first < (long.still long.flow.sender (inl refl)).number → 0 < long.first
      starts behind = (let at = long.message.line.at.line_is.number_is in omega (arith, at))
