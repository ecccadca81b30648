-- In the words of plans: what nothing found in times leaves of direct forwards.
use Rattle.std.proofs.Common.{◌≡◌, ℕ, zero, suc, ◌+◌, ◌-◌, ◌*◌, ◌⊎◌, [], length, false, if◌then◌else◌, Option, Some, None, refl, sym, ap, ◌∙◌, subst, inl, inr}
use Rattle.std.proofs.Common.{arith}
use Rattle.std.proofs.lemmas.Bool.{cases_Bool, cases_lt}
use Rattle.std.proofs.lemmas.Option.{none-some, same_Some}
use Rattle.std.specs.Int.{div_ceil}
use Rattle.std.specs.Option.{option_and_then, option_map_or}
use Rattle.j39_network.specs.declared.plan.flow_plan.FlowPlan.{FlowPlan}
use Rattle.j39_network.specs.declared.plan.pace.Pace.{Pace}
use Rattle.j39_network.specs.declared.plan.timing.Timing.{Timing}
use Rattle.j39_load.specs.Clocks.{bit_time, million}
use Rattle.j39_vehicle.specs.declared.vehicle.Vehicle.{Vehicle}
use Rattle.j39_vehicle.specs.declared.vehicle.forward.Forward.{Forward}
use Rattle.j39_vehicle_times.specs.TimeFindings.{AreTimeFindings, IsDirectBetween, IsKnownWithin, IsUnlimited, TimeHolds}
use Rattle.j39_vehicle_times.specs.Times.{askers_on, behind_at, direct_feeder, first_input_at, flow_at, interval, interval_by, interval_us, latest_ms, old}
use Rattle.j39_vehicle_times.specs.Times.{pause_on, queued_of, sum_known, timing_on}
use Rattle.j39_vehicle_times.specs.Times.{unasked_at, us_of_ms}
use Rattle.j39_vehicle_findings.specs.declared.point.FlowAt.{FlowAt}
use Rattle.j39_vehicle_times.specs.declared.bus_delays.Delays.{Delays}
use Rattle.j39_vehicle_times.specs.declared.ends.Ends.{Ends}
use Rattle.j39_vehicle_times.specs.declared.finding.TimeFinding.{TimeFinding}
use Rattle.j39_vehicle_times.specs.declared.finding.TimeFinding.TheVariants.{TooLate, TooOften}
use Rattle.j39_vehicle_times.proofs.DecidingTimes.{and_then_some, map_some}
use Rattle.j39_vehicle_laws.proofs.Parts.{sum_some}
use Rattle.j39_vehicle_laws.proofs.TrueTimes.{longest_is, shortest_is}
use Rattle.j39_vehicle_laws.specs.PlainTimes.{AgesAreUnasked, AnswersStayAnswers, ClocksAreOfBitrates, DeadlinesHaveRoom, GoesDirectly}

nothing_timed : (v : Vehicle) (delays : Delays) → AreTimeFindings v delays [] → (finding : TimeFinding) → ¬ TimeHolds v delays finding
nothing_timed v delays clean finding holds = let (n, less, is) = clean.complete finding holds in absurd (omega arith)

abbrev ends_of : (v : Vehicle) (place : ℕ) (n : Forward) (input output : FlowPlan) → GoesDirectly v place n input output → Ends
ends_of v place n input output goes = record { at = goes.at; input = input; output = output }

between : (v : Vehicle) (place : ℕ) (n : Forward) (input output : FlowPlan) (goes : GoesDirectly v place n input output) (R : Ends → Type 0)
    → R (ends_of v place n input output goes) → IsDirectBetween v n R
between v place n input output goes R related = record {
  direct = goes.mode;
  timing = λ none. none-some _ (sym none ∙ goes.timed);
  ends = ends_of v place n input output goes;
  at = goes.at_is;
  input = goes.input_is;
  output = goes.output_is;
  related = related;
}

pub answers_stay_answers : (v : Vehicle) (delays : Delays) → AreTimeFindings v delays [] → AnswersStayAnswers v
answers_stay_answers v delays clean place n input output goes asked = elim (cases_Bool input.on_request) [
  | inl also ↦ also
  | inr unasked ↦ absurd (nothing_timed v delays clean (TooOften place) (record {
    value = n;
    value_is = goes.its;
    meets = between v place n input output goes _ (inl (inr (asked, unasked)));
  }))
]

known_or_not : (most : ℕ) (o : Option ℕ) → IsKnownWithin most o ⊎ (¬ IsKnownWithin most o)
known_or_not most None = inr (λ known. none-some _ known.1)
known_or_not most (Some q) = elim (cases_lt most q) [
  | inl above ↦ inr (λ known. let (m, is, few) = known in let same = same_Some _ _ is in absurd (omega (arith, above, same, few)))
  | inr below ↦ inl (q, refl, omega (arith, below))
]

pub deadlines_have_room : (v : Vehicle) (delays : Delays) → AreTimeFindings v delays [] → DeadlinesHaveRoom v delays
deadlines_have_room v delays clean place n input output pace deadline goes paced due =
    let limited : ¬ IsUnlimited v n output =
    λ free. none-some _ (sym free.limit ∙ ap (option_and_then (λ (p : Pace). p.deadline)) paced ∙ due) in
    elim (known_or_not (us_of_ms (latest_ms (askers_on v.buses.items n.output.bus output) output)) (queued_of v delays n)) [
      | inl known ↦ known
      | inr unknown ↦ absurd (nothing_timed v delays clean (TooLate place) (record {
        value = n;
        value_is = goes.its;
        meets = between v place n input output goes _ (limited, unknown);
      }))
    ]

-- ---- ages

-- what comes again has a flow that isn't sent only where it is asked for
comes_again : (v : Vehicle) (steps : ℕ) (at : FlowAt) (pause : ℕ) → interval_by v steps at ≡ Some pause
    → (flow : FlowPlan) × (unasked_at v at ≡ Some flow)
unfolding interval_by
comes_again v zero at pause is =
    let (flow, its, more) = and_then_some (λ flow. option_map_or (λ n. None) (direct_feeder v at) (pause_on v at flow)) (unasked_at v at) pause is
    in (flow, its)
comes_again v (suc steps) at pause is =
    let (flow, its, more) =
    and_then_some (λ flow. option_map_or (λ n. option_and_then (interval_by v steps) (first_input_at v n)) (direct_feeder v at) (pause_on v at flow))
    (unasked_at v at) pause is in (flow, its)

abbrev unless_asked : FlowPlan → Option FlowPlan
unless_asked flow = if flow.on_request then None else Some flow

by_itself : (flow other : FlowPlan) → unless_asked flow ≡ Some other → flow.on_request ≡ false
by_itself flow other is = elim (cases_Bool flow.on_request) [
  | inl asked ↦ absurd (none-some other (sym (ap (λ b. if b then None else Some flow) asked) ∙ is))
  | inr unasked ↦ unasked
]

pub ages_are_unasked : (v : Vehicle) (delays : Delays) → AgesAreUnasked v delays
ages_are_unasked v delays p most flow is its =
    let (x, y, x_is, y_is, sum) = sum_some (old v delays p) (sum_known (interval_us v p.at) (behind_at v delays p.at)) most is in
    let (pause, time, pause_is, time_is, both) = sum_some (interval_us v p.at) (behind_at v delays p.at) y y_is in
    let (ns, ns_is, made) = map_some (λ (ns : ℕ). div_ceil ns 1000) (interval v p.at) pause pause_is in
    let (other, again) = comes_again v (length v.forwards.items) p.at ns ns_is in
    let (timing, timed, known) =
    and_then_some (λ (timing : Timing). option_and_then unless_asked (flow_at v.buses.items p.at)) (timing_on v.buses.items p.at.bus) other again in
    let (one, one_is, unasked) = and_then_some unless_asked (flow_at v.buses.items p.at) other known in
    subst (λ (f : FlowPlan). f.on_request ≡ false) (same_Some one flow (sym one_is ∙ its)) (by_itself one other unasked)

-- ---- clocks

pub clocks_are_of_bitrates : (v : Vehicle) → ClocksAreOfBitrates v
clocks_are_of_bitrates v b timing is agree = (
  shortest_is v b timing is ∙ ap (λ (d : ℕ). bit_time timing.bitrate * (million - d)) agree,
  longest_is v b timing is ∙ ap (λ (d : ℕ). bit_time timing.bitrate * (million + d)) agree,
)
