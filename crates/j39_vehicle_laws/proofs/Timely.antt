-- Where no finding says that a direct forward is too often or too late, each flow that it feeds has room for it.
use Rattle.std.proofs.Common.{◌≡◌, ℕ, zero, suc, ◌*◌, ◌<◌, ◌≤◌, Bool, true, false, cond, List, [], ◌∷◌, get_or, Option, Some, None, refl, sym, ap, ◌∙◌, subst}
use Rattle.std.proofs.Common.{inl}
use Rattle.std.proofs.Common.{inr, arith}
use Rattle.std.proofs.lemmas.Bool.{cases_lt, lt-ltb, true≢false}
use Rattle.std.proofs.lemmas.List.Quantifiers.{position-Some}
use Rattle.std.proofs.lemmas.List.Sums.{sum_by-cons}
use Rattle.std.proofs.lemmas.Option.{none-some, same_Some, get_or_from_slice_get, slice_get-get_or, slice_get_within}
use Rattle.std.specs.List.{count_by, position, slice_get}
use Rattle.std.specs.Option.{option_and_then, option_map, option_map_or}
use Rattle.j39_network.specs.declared.plan.flow_plan.FlowPlan.{FlowPlan}
use Rattle.j39_network.specs.declared.plan.group_plan.GroupPlan.{GroupPlan}
use Rattle.j39_network.specs.declared.plan.timing.Timing.{Timing}
use Rattle.j39_load.specs.BusTimes.{timing_of}
use Rattle.j39_vehicle_times.specs.BusDelays.{AreDelays, AreDelaysOn, delays_on}
use Rattle.j39_load.specs.declared.waits.delay.Delay.{Delay}
use Rattle.j39_vehicle.specs.declared.vehicle.Vehicle.{Vehicle}
use Rattle.j39_vehicle.specs.declared.vehicle.bus_plan.BusPlan.{BusPlan}
use Rattle.j39_vehicle.specs.declared.vehicle.forward.Forward.{Forward}
use Rattle.j39_vehicle_findings.specs.Buses.{flows_on, groups_on}
use Rattle.j39_vehicle_findings.specs.ForwardEnds.{input_flows, output_flows}
use Rattle.j39_vehicle_findings.specs.ForwardTests.{is_input, is_output}
use Rattle.j39_vehicle_findings.specs.Traces.{first_input}
use Rattle.j39_vehicle_findings.specs.VehicleFindings.{AreFindings, HasNoInput}
use Rattle.j39_vehicle_findings.specs.declared.finding.VehicleFinding.TheVariants.{ManyOutputs, NoInput}
use Rattle.j39_vehicle_findings.specs.declared.point.FlowAt.{FlowAt}
use Rattle.j39_vehicle_findings.proofs.Deciding.{Decides-has_many_outputs, Decides-is_direct, Decides-is_input}
use Rattle.j39_vehicle_times.specs.TimeFindings.{AreTimeFindings, IsDirectBetween, IsUnlimited, first_output, period_ms}
use Rattle.j39_vehicle_times.specs.Times.{askers_on, bits_within, delay_at, direct_feeder, flow_at, first_input_at, latest_ms, queued_of, interval, longest_on}
use Rattle.j39_vehicle_times.specs.Times.{shortest_on, timing_on, us_of_ms}
use Rattle.j39_vehicle_times.specs.declared.bus_delays.Delays.{Delays}
use Rattle.j39_vehicle_times.specs.declared.ends.Ends.{Ends}
use Rattle.j39_vehicle_times.specs.declared.finding.TimeFinding.TheVariants.{TooLate, TooOften, TooRare}
use Rattle.j39_vehicle_times.proofs.DecidingTimes.{and_then_some}
use Rattle.j39_vehicle_laws.specs.ForwardedStreams.{AreForwardsTimely, IsForwardTimely}
use Rattle.j39_vehicle_laws.proofs.Feeders.{IsFeederAt, IsOutputAt, feeder_is, feeds_parts, none_passes}
use Rattle.j39_vehicle_laws.proofs.OneFlow.{HasOwn, short_group, known_bus}
use Rattle.j39_vehicle_laws.proofs.Parts.{some_cases}

-- ---- two values that pass

abbrev mark : Bool → ℕ
mark passes = cond passes 1 0

some_pass : {A : Type 0} (test : A → Bool) (xs : List A) (k : ℕ) (x : A) → slice_get xs k ≡ Some x → test x ≡ true → 1 ≤ count_by test xs
some_pass test [] k x is holds = absurd (let below = slice_get_within [] k x is in omega (arith, below))
some_pass test (y ∷ ys) zero x is holds =
    let here : test y ≡ true = ap test (same_Some y x is) ∙ holds in
    let sum = sum_by-cons (λ z. mark (test z)) y ys in
    let one : mark (test y) ≡ mark true = ap mark here in
    omega (arith, sum, one)
some_pass test (y ∷ ys) (suc k) x is holds =
    let rest = some_pass test ys k x is holds in
    let sum = sum_by-cons (λ z. mark (test z)) y ys in
    omega (arith, sum, rest)

two_pass : {A : Type 0} (test : A → Bool) (xs : List A) (j k : ℕ) (x y : A) → j < k → slice_get xs j ≡ Some x → slice_get xs k ≡ Some y → test x ≡ true
    → test y ≡ true
    → 1 < count_by test xs
two_pass test [] j k x y below is also holds passes = absurd (let inside = slice_get_within [] j x is in omega (arith, inside))
two_pass test (z ∷ zs) j zero x y below is also holds passes = absurd (omega arith)
two_pass test (z ∷ zs) zero (suc k) x y below is also holds passes =
    let here : test z ≡ true = ap test (same_Some z x is) ∙ holds in
    let rest = some_pass test zs k y also passes in
    let sum = sum_by-cons (λ z. mark (test z)) z zs in
    let one : mark (test z) ≡ mark true = ap mark here in
    omega (arith, sum, one, rest)
two_pass test (z ∷ zs) (suc j) (suc k) x y below is also holds passes =
    let rest = two_pass test zs j k x y (omega arith) is also holds passes in
    let sum = sum_by-cons (λ z. mark (test z)) z zs in
    omega (arith, sum, rest)

-- the bus of a flow
bus_of : (buses : List BusPlan) (b k : ℕ) (f : FlowPlan) → slice_get (flows_on buses b) k ≡ Some f → (bus : BusPlan) × (slice_get buses b ≡ Some bus)
bus_of buses b k f is = go (slice_get buses b) refl is
  where
    go : (o : Option BusPlan) → slice_get buses b ≡ o → slice_get (option_map_or (λ (bus : BusPlan). bus.plan.flows.items) o []) k ≡ Some f
        → (bus : BusPlan) × (slice_get buses b ≡ Some bus)
    go None there is = absurd (let inside = slice_get_within [] k f is in omega (arith, inside))
    go (Some bus) there is = (bus, there)

module _ (v : Vehicle) (delays : Delays) (none : AreFindings v []) (stated : AreDelays v delays) (in_time : AreTimeFindings v delays [])
    (at : FlowAt) (bits : ℕ) (n : Forward) (delayed : delay_at delays at ≡ Some bits) (feeder : direct_feeder v at ≡ Some n) where
  place : ℕ
  place = (feeder_is v at n feeder).0

  feeding : IsFeederAt v at n place
  unfolding place
  feeding = (feeder_is v at n feeder).1

  sends : IsOutputAt v at n
  sends = feeds_parts v at n feeding.feeding

  its_output : slice_get (output_flows v n) at.flow ≡ Some sends.flow
  its_output = subst (λ (b : ℕ). slice_get (flows_on v.buses.items b) at.flow ≡ Some sends.flow) (sym sends.bus) sends.its

  -- ---- its ends

  record HasInput : Type 0 where
    flow : ℕ
    flow_is : first_input v n ≡ Some flow
    plan : FlowPlan
    plan_is : slice_get (input_flows v n) flow ≡ Some plan

  input : HasInput
  input = some_cases (first_input v n) HasInput
      (λ nowhere.
      let no_input : HasNoInput v n = λ some.
      true≢false (sym ((Decides-is_input v n some.1.value).1 some.1.meets) ∙ none_passes (is_input v n)
      (input_flows v n) some.0 some.1.value some.1.value_is nowhere) in
      let finding = none.complete (NoInput place) (record { value = n; value_is = feeding.its; meets = no_input }) in
      absurd (omega (arith, finding.1)))
      (λ i there.
      let inside = (position-Some (is_input v n) (input_flows v n) i sends.flow there).0 in
      record {
        flow = i;
        flow_is = there;
        plan = get_or (input_flows v n) i sends.flow;
        plan_is = slice_get-get_or (input_flows v n) i sends.flow inside;
      })

  source : FlowAt
  source = record { bus = n.input.bus; flow = input.flow }

  source_is : first_input_at v n ≡ Some source
  unfolding source
  source_is = ap (option_map (λ (f : ℕ). record { bus = n.input.bus; flow = f })) input.flow_is

  first_is : first_output v n ≡ Some sends.flow
  first_is = some_cases (position (is_output n) (output_flows v n)) (first_output v n ≡ Some sends.flow)
      (λ nowhere. absurd (true≢false (sym sends.passes ∙ none_passes (is_output n) (output_flows v n) at.flow sends.flow its_output nowhere)))
      (λ j there.
      let found = position-Some (is_output n) (output_flows v n) j sends.flow there in
      elim (cases_lt at.flow j) [
        | inl before ↦
            let here : get_or (output_flows v n) at.flow sends.flow ≡ sends.flow = get_or_from_slice_get
            (output_flows v n) at.flow sends.flow sends.flow its_output in
            absurd (true≢false (sym sends.passes ∙ subst (λ (f : FlowPlan). is_output n f ≡ false) here (found.2 at.flow before)))
        | inr not_before ↦ elim (cases_lt j at.flow) [
          | inl behind ↦
              let many = two_pass (is_output n) (output_flows v n) j at.flow (get_or (output_flows v n) j sends.flow) sends.flow behind
              (slice_get-get_or (output_flows v n) j sends.flow found.0) its_output found.1 sends.passes in
              let finding = none.complete (ManyOutputs place) (record {
                value = n;
                value_is = feeding.its;
                meets = (Decides-has_many_outputs v n).0 (lt-ltb 1 (count_by (is_output n) (output_flows v n)) many);
              }) in
              absurd (omega (arith, finding.1))
          | inr not_behind ↦
              let same : j ≡ at.flow = omega (arith, not_before, not_behind) in
              ap (option_and_then (slice_get (output_flows v n))) there ∙ (ap (slice_get (output_flows v n)) same ∙ its_output)
        ]
      ])

  -- ---- its bus has timing, and its messages go in one frame each

  bus : BusPlan
  bus = (bus_of v.buses.items at.bus at.flow sends.flow sends.its).0

  bus_is : slice_get v.buses.items at.bus ≡ Some bus
  unfolding bus
  bus_is = (bus_of v.buses.items at.bus at.flow sends.flow sends.its).1

  no_delays : timing_of bus.plan ≡ None → ⊥
  no_delays untimed =
      let empty : delays_on delays at.bus ≡ [] = subst (λ (o : Option Timing). AreDelaysOn bus.plan o (delays_on delays at.bus)) untimed
      (stated.each at.bus bus bus_is) in
      let (d, here, within) = and_then_some bits_within (slice_get (delays_on delays at.bus) at.flow) bits delayed in
      let inside = slice_get_within [] at.flow d (subst (λ (xs : List (Option Delay)). slice_get xs at.flow ≡ Some d) empty here) in
      omega (arith, inside)

  has_timing : ¬ (timing_on v.buses.items n.output.bus ≡ None)
  has_timing missing = no_delays (sym (ap (option_and_then (λ (x : BusPlan). timing_of x.plan)) bus_is)
      ∙ subst (λ (b : ℕ). timing_on v.buses.items b ≡ None) sends.bus missing)

  is_short : (group : GroupPlan) → slice_get (groups_on v.buses.items n.output.bus) sends.flow.group ≡ Some group → group.most ≤ 8
  is_short group its = some_cases (timing_of bus.plan) (group.most ≤ 8)
      (λ untimed. absurd (no_delays untimed))
      (λ timing timed.
      let time : timing_on v.buses.items at.bus ≡ Some timing = ap (option_and_then (λ (x : BusPlan). timing_of x.plan)) bus_is ∙ timed in
      let has : HasOwn v delays at (Rattle.j39_vehicle_times.specs.Times.own_of timing sends.flow bits) =
      record { timing = timing; timed = time; flow = sends.flow; its = sends.its; bits = bits; delayed = delayed; sum = refl } in
      let (short, of_flow, few) = short_group v delays stated at (Rattle.j39_vehicle_times.specs.Times.own_of timing sends.flow bits) has in
      let its_bus : (known_bus v delays stated at.bus timing time).bus ≡ bus = same_Some _ _
      (sym (known_bus v delays stated at.bus timing time).its ∙ bus_is) in
      let here : slice_get bus.plan.groups.items sends.flow.group ≡ Some group =
      subst (λ (o : Option BusPlan). slice_get (option_map_or (λ (x : BusPlan). x.plan.groups.items) o []) sends.flow.group ≡ Some group) bus_is
      (subst (λ (b : ℕ). slice_get (groups_on v.buses.items b) sends.flow.group ≡ Some group) sends.bus its) in
      let same : short ≡ group = same_Some _ _ (sym (subst (λ (x : BusPlan). slice_get x.plan.groups.items sends.flow.group ≡ Some short) its_bus of_flow)
      ∙ here) in
      subst (λ (g : GroupPlan). g.most ≤ 8) same few)

  is_limited : ¬ IsUnlimited v n sends.flow
  is_limited unlimited =
      let few = is_short unlimited.long.value unlimited.long.value_is in
      let long : 8 < unlimited.long.value.length = unlimited.long.meets in
      let least = unlimited.long.value.most_least in
      omega (arith, few, long, least)

  -- ---- what no finding says

  between : (R : Ends → Type 0) → R (record { at = source; input = input.plan; output = sends.flow }) → IsDirectBetween v n R
  unfolding source
  between R related = record {
    direct = (Decides-is_direct n).0 feeding.direct;
    timing = has_timing;
    ends = record { at = source; input = input.plan; output = sends.flow };
    at = source_is;
    input = input.plan_is;
    output = first_is;
    related = related;
  }

  -- in so many milliseconds it has to be queued
  abbrev latest : ℕ → ℕ
  latest b = latest_ms (askers_on v.buses.items b sends.flow) sends.flow

  record HasQueued : Type 0 where
    queued : ℕ
    queued_is : queued_of v delays n ≡ Some queued
    in_jitter : queued ≤ us_of_ms (latest n.output.bus)

  too_late : ¬ ((q : ℕ) × (queued_of v delays n ≡ Some q) × (q ≤ us_of_ms (latest n.output.bus))) → ⊥
  too_late late =
      let finding = in_time.complete (TooLate place) (record { value = n; value_is = feeding.its; meets = between _ (is_limited, late) }) in
      omega (arith, finding.1)

  queued : HasQueued
  queued = some_cases (queued_of v delays n) HasQueued
      (λ unknown. absurd (too_late (λ known. none-some known.0 (sym unknown ∙ known.1))))
      (λ q is. elim (cases_lt (us_of_ms (latest n.output.bus)) q) [
        | inl above ↦ absurd (too_late (λ known. let same : known.0 ≡ q = same_Some _ _ (sym known.1
            ∙ is) in let le = known.2 in omega (arith, above, same, le)))
        | inr within ↦ record { queued = q; queued_is = is; in_jitter = omega (arith, within) }
      ])

  -- the fastest and the slowest clocks of its bus, and the fastest ones of the bus of its input
  abbrev least : ℕ
  least = shortest_on v.buses.items n.output.bus

  abbrev least_there : ℕ
  least_there = shortest_on v.buses.items source.bus

  abbrev most : ℕ
  most = longest_on v.buses.items n.output.bus

  too_often : (p : ℕ) → period_ms sends.flow ≡ Some p → ¬ ((q : ℕ) × (period_ms input.plan ≡ Some q) × (p * least ≤ q * least_there)) → ⊥
  too_often p is nearer =
      let finding = in_time.complete (TooOften place) (record { value = n; value_is = feeding.its; meets = between _ (inl (inl (p, is, nearer))) }) in
      omega (arith, finding.1)

  periods : (p : ℕ) → period_ms sends.flow ≡ Some p → (q : ℕ) × (period_ms input.plan ≡ Some q) × (p * least ≤ q * least_there)
  periods p is = some_cases (period_ms input.plan) ((q : ℕ) × (period_ms input.plan ≡ Some q) × (p * least ≤ q * least_there))
      (λ unknown. absurd (too_often p is (λ known. none-some known.0 (sym unknown ∙ known.1))))
      (λ q its. elim (cases_lt (q * least_there) (p * least)) [
        | inl below ↦ absurd (too_often p is (λ known.
            let same : known.0 ≡ q = same_Some _ _ (sym known.1 ∙ its) in
            let le : p * least ≤ q * least_there = subst (λ (k : ℕ). p * least ≤ k * least_there) same known.2 in
            omega (arith, below, le)))
        | inr far ↦ (q, its, omega (arith, far))
      ])

  too_rare : (ms : ℕ) → sends.flow.pause ≡ Some ms → ¬ ((s : ℕ) × (interval v source ≡ Some s) × (s ≤ ms * most)) → ⊥
  too_rare ms is rarer =
      let finding = in_time.complete (TooRare place) (record { value = n; value_is = feeding.its; meets = between _ (ms, is, rarer) }) in
      omega (arith, finding.1)

  pauses : (ms : ℕ) → sends.flow.pause ≡ Some ms → (s : ℕ) × (interval v source ≡ Some s) × (s ≤ ms * most)
  pauses ms is = some_cases (interval v source) ((s : ℕ) × (interval v source ≡ Some s) × (s ≤ ms * most))
      (λ unknown. absurd (too_rare ms is (λ known. none-some known.0 (sym unknown ∙ known.1))))
      (λ s its. elim (cases_lt (ms * most) s) [
        | inl above ↦ absurd (too_rare ms is (λ known. let same : known.0 ≡ s = same_Some _ _ (sym known.1
            ∙ its) in let le = known.2 in omega (arith, above, same, le)))
        | inr within ↦ (s, its, omega (arith, within))
      ])

  -- what it comes from is silent no longer than its pause allows
  pub keeps_rarely : (flow : FlowPlan) → flow_at v.buses.items at ≡ Some flow → (from : FlowAt) → first_input_at v n ≡ Some from → (ms : ℕ)
      → flow.pause ≡ Some ms
      → (s : ℕ) × (interval v from ≡ Some s) × (s ≤ ms * longest_on v.buses.items at.bus)
  keeps_rarely flow its from input_is ms is =
      let same : flow ≡ sends.flow = same_Some _ _ (sym its ∙ sends.its) in
      let there : source ≡ from = same_Some _ _ (sym source_is ∙ input_is) in
      let (s, known, few) = pauses ms (ap (λ (f : FlowPlan). f.pause) (sym same) ∙ is) in
      (s, subst (λ (f : FlowAt). interval v f ≡ Some s) there known, subst (λ (b : ℕ). s ≤ ms * longest_on v.buses.items b) sends.bus few)

  pub is_timely : IsForwardTimely v delays at n
  unfolding source
  is_timely = record {
    input = source;
    input_is = source_is;
    flow = sends.flow;
    its = sends.its;
    queued = queued.queued;
    queued_is = queued.queued_is;
    in_jitter = subst (λ (b : ℕ). queued.queued ≤ us_of_ms (latest b)) sends.bus queued.in_jitter;
    other = input.plan;
    other_is = input.plan_is;
    no_nearer = λ p is.
        let (q, its, far) = periods p is in
        (q, its, subst (λ (b : ℕ). p * shortest_on v.buses.items b ≤ q * shortest_on v.buses.items source.bus) sends.bus far);
  }

pub are_timely : (v : Vehicle) (delays : Delays) → AreFindings v [] → AreDelays v delays → AreTimeFindings v delays [] → AreForwardsTimely v delays
are_timely v delays none stated in_time at bits n delayed feeder = is_timely v delays none stated in_time at bits n delayed feeder
