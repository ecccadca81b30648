-- A whole log of a bus that keeps to its plan has no line of a flow that is too near.
use Rattle.std.proofs.Common.{◌≡◌, ℕ, ◌<◌, ◌≤◌, ◌==◌, List, [], Bool, false, map}
use Rattle.std.proofs.Common.{inl, inr, sym, ap, ◌∙◌, subst, arith, Option, Some}
use Rattle.std.specs.List.{slice_get}
use Rattle.std.proofs.lemmas.Bool.{cases_Bool, cond-true, eq-eqb}
use Rattle.std.proofs.lemmas.Option.{same_Some}
use Rattle.j39_findings.specs.Findings.{Clean}
use Rattle.j39_network.specs.declared.plan.Plan.{Plan}
use Rattle.j39_network.specs.declared.plan.flow_plan.FlowPlan.{FlowPlan}
use Rattle.j39_network.specs.declared.plan.timing.Timing.{Timing}
use Rattle.j39_network.specs.declared.plan.unit_plan.UnitPlan.{UnitPlan}
use Rattle.j39_timing.specs.Errors.{Damaged, IsBusWithErrors}
use Rattle.j39_timing.specs.Sums.{total}
use Rattle.j39_timing.specs.TimedFrames.{IsOnBusAt, Schedule, Waits}
use Rattle.j39_load.specs.BusTimes.{timing_of}
use Rattle.j39_load.specs.KeepsPlan.{IsSingleFlow, KeepsToPlan}
use Rattle.j39_load.specs.LoadFindings.{AsksOfBus}
use Rattle.j39_load.specs.SentFrames.{Announcing, Asking, Broadcasts, Carrying, First, FrameSources, HasPeriodMs, Held, InSession, IsFrameOf, IsSentEvery}
use Rattle.j39_load.specs.SentFrames.{Single, Source}
use Rattle.j39_load.specs.declared.waits.delay.Delay.{Delay}
use Rattle.j39_audit.specs.AuditPasts.{log_ended}
use Rattle.j39_audit.specs.AuditText.{Look, line_of_mark, line_reported, look_at, mark_at, subject_lines, reported_mark}
use Rattle.j39_audit.specs.Below.{each_below}
use Rattle.j39_audit.specs.Moments.{damaged_at_once}
use Rattle.j39_audit.specs.Responses.{response}
use Rattle.j39_audit.specs.Settings.{Settings}
use Rattle.j39_audit.specs.declared.by_load.Bound.TheVariants.{Bus}
use Rattle.j39_audit.specs.declared.mark.Mark.{Mark}
use Rattle.j39_audit.specs.declared.mark.Word.TheVariants.{NearFlow, NearOrLate}
use Rattle.j39_audit_laws.specs.ByLoad.{AreOfFlow}
use Rattle.j39_audit_laws.specs.KeptLogs.{IsNoneNearInLogs, KeepsItsPeriod}
use Rattle.j39_audit_laws.specs.MarkRecords.{AreFew}
use Rattle.j39_audit_laws.specs.WholeLogs.{AreWholeLogsNotNear, IsNearNowhere}
use Rattle.j39_audit_laws.proofs.NearLogs.{logs_not_near}
use Rattle.j39_audit_laws.proofs.NearMarks.{periods_not_near}

-- ---- a line that isn't there

no_line : (s : Settings) (look : Look) (n : ℕ) → (look (mark_at NearFlow n 0)).times ≡ 0 → (look (mark_at NearOrLate n 0)).times ≡ 0
    → subject_lines s look NearFlow n ≡ []
unfolding subject_lines line_reported line_of_mark each_below
no_line s look n by_bus late =
    let stated : reported_mark look NearFlow n 0 ≡ mark_at NearOrLate n 0 =
    cond-true ((look (mark_at NearFlow n 0)).times == 0) (mark_at NearOrLate n 0) (mark_at NearFlow n 0)
    (eq-eqb (look (mark_at NearFlow n 0)).times 0 by_bus) in
    ap (λ (m : Mark). line_of_mark s.plan m (look m)) stated
    ∙ cond-true ((look (mark_at NearOrLate n 0)).times == 0) [] _ (eq-eqb (look (mark_at NearOrLate n 0)).times 0 late)

-- ---- a bus without damage

abbrev no_damage : Damaged
no_damage = record { count = 0; frame = λ e. 0; begin = λ e. 0; sent = λ e. 0; error = λ e. 0; lost = λ e. false }

undamaged : (bus : Schedule) → ((p : ℕ) → p < bus.count → 1 ≤ bus.bits p) → ((p : ℕ) → p < bus.count → bus.queued p ≤ bus.start p)
    → ((p q t : ℕ) → p < bus.count → q < bus.count → t < bus.now → IsOnBusAt bus p t → IsOnBusAt bus q t → p ≡ q)
    → ((p t : ℕ) → p < bus.count → t < bus.now → Waits bus p t → (q : ℕ) × (q < bus.count) × IsOnBusAt bus q t) → IsBusWithErrors bus no_damage
undamaged bus positive first alone busy = record {
  positive = positive;
  queued_first = first;
  known = λ e inside lost. absurd (omega (arith, inside));
  ready = λ e inside lost. absurd (omega (arith, inside));
  some_sent = λ e inside. absurd (omega (arith, inside));
  sent_at_most = λ e inside lost. absurd (omega (arith, inside));
  lost_at_most = λ e inside lost. absurd (omega (arith, inside));
  some_error = λ e inside. absurd (omega (arith, inside));
  error_at_most = λ e inside. absurd (omega (arith, inside));
  again = λ e inside lost. absurd (omega (arith, inside));
  alone = alone;
  alone_damaged = λ e f t inside other now one two. absurd (omega (arith, inside));
  none_of_both = λ p e t in_p inside now one two. absurd (omega (arith, inside));
  never_idle = λ p t in_p now waits. inl (busy p t in_p now waits);
}

few_of_none : (few : ℕ) → AreFew no_damage few
unfolding total
few_of_none few from = omega arith

-- ---- frames of a plan

short_planned : (plan : Plan) (timing : Timing) (bus : Schedule) (held : Held) (b : Broadcasts) (from : Source) (release p : ℕ)
    → IsFrameOf plan timing bus held b from release p → bus.bits p ≤ 160
short_planned plan timing bus held b (Single k) release p is = (let long = is.length in let most = is.short in omega (arith, long, most))
short_planned plan timing bus held b (First k) release p is = is.length
short_planned plan timing bus held b (InSession k part) release p is = is.length
short_planned plan timing bus held b (Asking r) release p is = (let long = is.length in omega (arith, long))
short_planned plan timing bus held b (Announcing u m) release p is = is.length
short_planned plan timing bus held b (Carrying u m k) release p is = is.0.length

module _ (s : Settings) (timing : Timing) (timed : timing_of s.plan ≡ Some timing) (by_bus : s.bound ≡ Bus) (none : timing.drift ≡ 0)
    (delays : List (Option Delay))
    (bus : Schedule) (planned : ℕ → Bool) (sent : FrameSources) (held : Held) (legal : IsBusWithErrors bus no_damage)
    (keeps : KeepsToPlan s.plan timing bus planned sent held) (late : IsNoneNearInLogs s timing delays bus planned sent) where
  short : (p : ℕ) → p < bus.count → bus.bits p ≤ 160
  short p inside = elim (cases_Bool (planned p)) [
    | inl plans ↦ short_planned s.plan timing bus held sent.broadcasts (sent.source p) (sent.release p) p (keeps.frames p inside plans)
    | inr other ↦ keeps.others_length p inside other
  ]

  its_part : (n ms : ℕ) (is_message : ℕ → Bool) → IsSingleFlow s.plan n → HasPeriodMs s.plan n ms → AreOfFlow planned sent n is_message
      → KeepsItsPeriod s.plan timing bus held n ms sent.release is_message
  its_part n ms is_message single period of_flow = record {
    period = period;
    group = single.group;
    group_is = ap (λ (x : FlowPlan). slice_get s.plan.groups.items x.group) (same_Some period.flow single.flow (sym period.its ∙ single.its)) ∙ single.of;
    frames = λ p inside message.
        let (plans, source) = of_flow p message in
        inl (single.short, subst (λ (o : Source). IsFrameOf s.plan timing bus held sent.broadcasts o (sent.release p) p) source (keeps.frames p inside plans));
    apart = λ p q in_p in_q differ message other.
        let (plans, source) = of_flow p message in
        let (too, same) = of_flow q other in
        keeps.apart p q ms in_p in_q differ plans too (source ∙ sym same) (subst (λ (o : Source). IsSentEvery s.plan o ms) (sym source) period);
  }

  near_nowhere : IsNearNowhere s timing delays bus planned sent
  near_nowhere log clock place n bits ms is_message end ticks is_log whole stated single period of_flow seen read =
      no_line s (look_at (log_ended s end)) n
      (periods_not_near s log timing bus no_damage held sent.release clock place n ms is_message end timed by_bus none ticks legal short
      (few_of_none (damaged_at_once timing)) (its_part n ms is_message single period of_flow) is_log whole seen read)
      (late log clock place n bits ms is_message end ticks is_log stated period of_flow seen read)

pub whole_logs_not_near : (s : Settings) (timing : Timing) (stays : UnitPlan → Bool) (delays : List (Option Delay)) → Clean s.plan
    → AsksOfBus s.plan timing stays delays → timing_of s.plan ≡ Some timing → timing.drift ≡ 0 → s.responses ≡ map (response timing) delays → s.bound ≡ Bus
    → AreWholeLogsNotNear s timing delays
whole_logs_not_near s timing stays delays clean asks timed none responses by_bus =
    let late = logs_not_near s timing stays delays clean asks timed none responses in
    record {
      in_order = λ order bus planned sent held legal keeps.
          near_nowhere s timing timed by_bus none delays bus planned sent held
          (undamaged bus legal.positive legal.queued_first legal.alone legal.never_idle) keeps (late.in_order order bus planned sent held legal keeps);
      in_any_order = λ bus controllers planned sent held legal keeps queues.
          near_nowhere s timing timed by_bus none delays bus planned sent held
          (undamaged bus legal.positive legal.queued_first legal.alone legal.never_idle) keeps
          (late.in_any_order bus controllers planned sent held legal keeps queues);
    }
