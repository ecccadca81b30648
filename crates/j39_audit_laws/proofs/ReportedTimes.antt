-- Who keeps to the plan is not reported by the response times that the load command answers.
use Rattle.std.proofs.Common.{◌≡◌, ℕ, ◌+◌, ◌-◌, ◌*◌, ◌<◌, ◌≤◌, Bool, false, inl, inr, refl, sym, ap, subst, ◌∙◌, arith, List, Option, length}
use Rattle.std.specs.Int.{div_ceil}
use Rattle.std.specs.List.{slice_get}
use Rattle.std.proofs.lemmas.Option.{same_Some, slice_get_within}
use Rattle.j39_findings.specs.Findings.{Clean}
use Rattle.j39_network.specs.declared.plan.Plan.{Plan}
use Rattle.j39_network.specs.declared.plan.flow_plan.FlowPlan.{FlowPlan}
use Rattle.j39_network.specs.declared.plan.group_plan.GroupPlan.{GroupPlan}
use Rattle.j39_network.specs.declared.plan.timing.Bitrate.{Bitrate}
use Rattle.j39_network.specs.declared.plan.timing.Bitrate.TheVariants.{Kbit125, Kbit250, Kbit500, Mbit1}
use Rattle.j39_network.specs.declared.plan.timing.Timing.{Timing}
use Rattle.j39_network.specs.declared.plan.unit_plan.UnitPlan.{UnitPlan}
use Rattle.j39_timing.specs.TimedFrames.{Schedule}
use Rattle.j39_load.specs.Clocks.{bit_time, million}
use Rattle.j39_load.specs.KeepsPlan.{IsSingleFlow, KeepsToPlan, source_place}
use Rattle.j39_load.specs.KeptTimes.{AreSentAsReported, IsReportedBound}
use Rattle.j39_load.specs.LoadFindings.{AsksOfBus}
use Rattle.j39_load.specs.Loads.{us_of_bits}
use Rattle.j39_load.specs.SentFrames.{FrameSources, Held, IsFrameOf, IsSentEvery, Announcing, Asking, Carrying, First, InSession, Single, Source}
use Rattle.j39_load.specs.declared.waits.delay.Delay.{Delay}
use Rattle.j39_load.proofs.KeptTimes.{kept_times}
use Rattle.j39_audit.specs.Near.{is_too_near}
use Rattle.j39_audit.specs.Responses.{us_at_logger}
use Rattle.j39_audit.specs.Silence.{is_silent}
use Rattle.j39_audit_laws.specs.ByLoad.{IsNoneNear, IsNoneNearByLoad, IsNoneSilent, IsNoneSilentByLoad}
use Rattle.j39_audit_laws.specs.LogBounds.{AreOfLoad, IsEndBound}
use Rattle.j39_audit_laws.specs.StreamRecords.{AreMsApart, AreReleasedFirst, IsOneAtATime, KeepsMs}
use Rattle.j39_audit_laws.proofs.ExactClocks.{exact_clocks, whole_ceil}
use Rattle.j39_audit_laws.proofs.OnLoad.{in_time_not_near, in_time_not_silent}

-- ---- exact clocks

-- so many milliseconds are whole bits
whole_bits : (b : Bitrate) (ms x y : ℕ) → x * bit_time b * million + 1000 * ms * million < (y + 1) * bit_time b * million
    → x * bit_time b + 1000 * ms ≤ y * bit_time b
whole_bits Kbit125 ms x y less = omega (arith, less)
whole_bits Kbit250 ms x y less = omega (arith, less)
whole_bits Kbit500 ms x y less = omega (arith, less)
whole_bits Mbit1 ms x y less = omega (arith, less)

pub behind : (b : Bitrate) (drift ms x y : ℕ) → drift ≡ 0
    → x * bit_time b * (million + drift) + 1000 * ms * (million - drift) < (y + 1) * bit_time b * (million + drift)
    → x * bit_time b + 1000 * ms ≤ y * bit_time b
behind b drift ms x y none less =
    whole_bits b ms x y
    (subst (λ (d : ℕ). x * bit_time b * (million + d) + 1000 * ms * (million - d) < (y + 1) * bit_time b * (million + d)) none less)

-- ---- what is reported

module _ (plan : Plan) (timing : Timing) (delays : List (Option Delay)) (none : timing.drift ≡ 0) (s : Schedule) (planned : ℕ → Bool) (sent : FrameSources)
    (held : Held) (one : IsOneAtATime s) (keeps_plan : KeepsToPlan plan timing s planned sent held)
    (in_time : (f bits : ℕ) → IsReportedBound delays f bits → AreSentAsReported s planned sent f bits) where
  none_near : IsNoneNear plan timing delays s planned sent
  none_near f bits ms n is_message frame log windows stated period of us keeps lines bounds j inside =
      let exact = exact_clocks timing none in
      let first : AreReleasedFirst s is_message sent.release = λ p in_p message.
      let (plans, source) = of p message in
      (subst (λ (o : Source). IsFrameOf plan timing s held sent.broadcasts o (sent.release p) p) source (keeps_plan.frames p in_p plans)).release_first in
      let by_us : (x y : ℕ) → x * bit_time timing.bitrate + 1000 * ms ≤ y * bit_time timing.bitrate → x * log.us + 1000 * ms ≤ y * log.us = λ x y is.
      subst (λ (k : ℕ). x * k + 1000 * ms ≤ y * k) (sym us) is in
      let apart : AreMsApart s log.us ms is_message sent.release = λ p q in_p in_q differ message other.
      let (plans, source) = of p message in
      let (too, same) = of q other in
      elim (keeps_plan.apart p q ms in_p in_q differ plans too (source ∙ sym same) (subst (λ (o : Source). IsSentEvery plan o ms) (sym source) period)) [
        | inl less ↦ inl (by_us (sent.release p) (sent.release q) (behind timing.bitrate timing.drift ms (sent.release p) (sent.release q) none less))
        | inr less ↦ inr (by_us (sent.release q) (sent.release p) (behind timing.bitrate timing.drift ms (sent.release q) (sent.release p) none less))
      ] in
      let bit = timing.bitrate in
      let time : us_of_bits timing bits ≡ bits * log.us =
      ap (λ (d : ℕ). div_ceil (bits * bit_time bit * (million + d)) million) none ∙ whole_ceil (bits * bit_time bit) ∙ ap (λ (k : ℕ). bits * k) (sym us) in
      subst (λ (step : ℕ). is_too_near step windows j ≡ false) (sym (exact.shortest ms))
      (in_time_not_near s log ms bits n is_message sent.release frame windows keeps one first
      (λ p in_p message before. (let (plans, source) = of p message in in_time f bits stated p in_p plans source before)) apart lines
      (subst (λ (us : ℕ). AreOfLoad s log (us_at_logger us) n frame windows) time bounds) j inside)

pub none_near_by_load : (plan : Plan) (timing : Timing) (stays : UnitPlan → Bool) (delays : List (Option Delay)) → Clean plan
    → AsksOfBus plan timing stays delays → timing.drift ≡ 0 → IsNoneNearByLoad plan timing delays
none_near_by_load plan timing stays delays clean asks none =
    let kept = kept_times plan timing stays delays clean asks in
    record {
      in_order = λ order s planned sent held legal keeps.
          none_near plan timing delays none s planned sent held (record { positive = legal.positive; queued_first = legal.queued_first; alone = legal.alone })
          keeps (kept.in_order order s planned sent held legal keeps);
      in_any_order = λ s controllers planned sent held legal keeps queues.
          none_near plan timing delays none s planned sent held (record { positive = legal.positive; queued_first = legal.queued_first; alone = legal.alone })
          keeps (kept.in_any_order s controllers planned sent held legal keeps queues);
    }

-- ---- pauses

-- a time that is shorter than a pause by the clock of a unit is so in whole bits
shorter : (b : Bitrate) (pause x y early late : ℕ) → early ≤ late → x + (late - early) * bit_time b * million ≤ y → y < x + 1000 * pause * million
    → late * bit_time b < early * bit_time b + 1000 * pause
shorter Kbit125 pause x y early late order least less = omega (arith, order, least, less)
shorter Kbit250 pause x y early late order least less = omega (arith, order, least, less)
shorter Kbit500 pause x y early late order least less = omega (arith, order, least, less)
shorter Mbit1 pause x y early late order least less = omega (arith, order, least, less)

within : (b : Bitrate) (drift pause x y early late : ℕ) → drift ≡ 0 → early ≤ late → x + (late - early) * bit_time b * (million - drift) ≤ y
    → y < x + 1000 * pause * (million + drift) → late * bit_time b < early * bit_time b + 1000 * pause
within b drift pause x y early late none order least less =
    shorter b pause x y early late order (subst (λ (d : ℕ). x + (late - early) * bit_time b * (million - d) ≤ y) none least)
    (subst (λ (d : ℕ). y < x + 1000 * pause * (million + d)) none less)

bits_in_ms : (b : Bitrate) → (bits : ℕ) × (bit_time b * bits ≡ 1000)
bits_in_ms Kbit125 = (125, refl)
bits_in_ms Kbit250 = (250, refl)
bits_in_ms Kbit500 = (500, refl)
bits_in_ms Mbit1 = (1000, refl)

module _ (plan : Plan) (timing : Timing) (delays : List (Option Delay)) (none : timing.drift ≡ 0) (s : Schedule) (planned : ℕ → Bool) (sent : FrameSources)
    (held : Held) (one : IsOneAtATime s) (keeps_plan : KeepsToPlan plan timing s planned sent held)
    (in_time : (f bits : ℕ) → IsReportedBound delays f bits → AreSentAsReported s planned sent f bits) where
  -- what stands at the place of a flow with messages of one frame is one of them
  its_source : (f : ℕ) → IsSingleFlow plan f → (from : Source) (release p : ℕ) → IsFrameOf plan timing s held sent.broadcasts from release p
      → source_place plan from ≡ f → from ≡ Single f
  its_source f single (Single k) release p is at = ap Single at
  its_source f single (First k) release p is at = absurd (past f single k at)
    where
      past : (f : ℕ) → IsSingleFlow plan f → (k : ℕ) → length plan.flows.items + k ≡ f → ⊥
      past f single k at = (let inside = slice_get_within plan.flows.items f single.flow single.its in omega (arith, inside, at))
  its_source f single (InSession k part) release p is at =
      let flow : is.flow ≡ single.flow =
      same_Some is.flow single.flow (sym is.its ∙ ap (slice_get plan.flows.items) at ∙ single.its) in
      let group : is.group ≡ single.group =
      same_Some is.group single.group (sym is.of ∙ ap (λ (x : FlowPlan). slice_get plan.groups.items x.group) flow ∙ single.of) in
      let long = is.long in
      let short = single.short in
      let same : is.group.most ≡ single.group.most = ap (λ (x : GroupPlan). x.most) group in
      absurd (omega (arith, long, short, same))
  its_source f single (Asking r) release p is at =
      (let inside = slice_get_within plan.flows.items f single.flow single.its in absurd (omega (arith, inside, at)))
  its_source f single (Announcing u m) release p is at =
      (let inside = slice_get_within plan.flows.items f single.flow single.its in absurd (omega (arith, inside, at)))
  its_source f single (Carrying u m k) release p is at =
      (let inside = slice_get_within plan.flows.items f single.flow single.its in absurd (omega (arith, inside, at)))

  none_silent : IsNoneSilent plan timing delays s planned sent
  none_silent f bits pause from to n is_message frame log windows time stated single all of_us keeps true_time comes order lines bounds begun
      j inside lower of before bound =
      let b = timing.bitrate in
      let exact = exact_clocks timing none in
      let first : AreReleasedFirst s is_message sent.release = λ p in_p message.
      let (plans, source) = all.0 p message in
      (subst (λ (o : Source). IsFrameOf plan timing s held sent.broadcasts o (sent.release p) p) source (keeps_plan.frames p in_p plans)).release_first in
      let comes_in_us : KeepsMs s log.us pause is_message sent.release from to = λ t after until.
      let (p, of_flow, released, less) = comes t after until in
      let (in_p, plans, at) = of_flow in
      let source = its_source f single (sent.source p) (sent.release p) p (keeps_plan.frames p in_p plans) at in
      let least = true_time.at_least (sent.release p) t released in (
        p,
        in_p,
        all.1 p plans source,
        released,
        subst (λ (k : ℕ). t * k < sent.release p * k + 1000 * pause) (sym of_us)
            (within b timing.drift pause (time (sent.release p)) (time t) (sent.release p) t none released least less),
      ) in
      let parts = bits_in_ms b in
      let us_of : us_of_bits timing bits ≡ bits * log.us =
      ap (λ (d : ℕ). div_ceil (bits * bit_time b * (million + d)) million) none ∙ whole_ceil (bits * bit_time b) ∙ ap (λ (k : ℕ). bits * k) (sym of_us) in
      subst (λ (p : ℕ). is_silent p windows j lower ≡ false) (sym (exact.longest pause))
      (in_time_not_silent s log parts.0 pause bits from to n is_message sent.release frame windows (ap (λ (k : ℕ). k * parts.0) of_us ∙ parts.1) keeps one first
      (λ p in_p message ended. (let (plans, source) = all.0 p message in in_time f bits stated p in_p plans source ended)) comes_in_us order lines
      (subst (λ (us : ℕ). AreOfLoad s log (us_at_logger us) n frame windows) us_of bounds) begun j inside lower of before
      (λ x is. subst (λ (us : ℕ). IsEndBound s log (us_at_logger us) of x × (1000 * x ≤ log.clock to)) us_of (bound x is)))

pub none_silent_by_load : (plan : Plan) (timing : Timing) (stays : UnitPlan → Bool) (delays : List (Option Delay)) → Clean plan
    → AsksOfBus plan timing stays delays → timing.drift ≡ 0 → IsNoneSilentByLoad plan timing delays
none_silent_by_load plan timing stays delays clean asks none =
    let kept = kept_times plan timing stays delays clean asks in
    record {
      in_order = λ order s planned sent held legal keeps.
          none_silent plan timing delays none s planned sent held
          (record { positive = legal.positive; queued_first = legal.queued_first; alone = legal.alone })
          keeps (kept.in_order order s planned sent held legal keeps);
      in_any_order = λ s controllers planned sent held legal keeps queues.
          none_silent plan timing delays none s planned sent held
          (record { positive = legal.positive; queued_first = legal.queued_first; alone = legal.alone })
          keeps (kept.in_any_order s controllers planned sent held legal keeps queues);
    }
