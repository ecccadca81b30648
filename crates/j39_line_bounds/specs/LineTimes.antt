-- Times of the flows, ages of what is needed, and the load of a line of vehicles: the greatest of some of its variants.
use Rattle.std.specs.Prelude.{◌≡◌, ◌≢◌, ◌⊎◌, ℕ, ◌<◌, ◌≤◌, ◌==◌, List, [], Bool, false, ◌&&◌, ◌||◌, if◌then◌else◌, is_some, length, nat_lt, slice_index_or, Option, Some, None}
use Rattle.std.specs.List.{AllZip, position, slice_get}
use Rattle.std.specs.Option.{option_and_then, option_map, option_map_or}
use Rattle.j39_load.specs.Ages.{has_several, least_age, youngest_flow}
use Rattle.j39_load.specs.Asked.{asked_of, total_load}
use Rattle.j39_load.specs.BusTimes.{timing_of}
use Rattle.j39_load.specs.LoadFindings.{AsksOfBus, time_of_each}
use Rattle.j39_load.specs.declared.waits.delay.Delay.{Delay}
use Rattle.j39_load.specs.declared.waits.delay.Delay.TheVariants.{Within, Beyond, Late, Long, Whole}
use Rattle.j39_load.specs.declared.waits.whole_time.WholeTime.{WholeTime}
use Rattle.j39_findings.specs.Found.{is_unmet}
use Rattle.j39_network.specs.declared.plan.Plan.{Plan}
use Rattle.j39_network.specs.declared.plan.need_plan.NeedPlan.{NeedPlan}
use Rattle.j39_network.specs.declared.plan.timing.Timing.{Timing}
use Rattle.j39_network.specs.declared.plan.unit_plan.UnitPlan.{UnitPlan}
use Rattle.j39_variants.specs.VariantPlans.{IsVariantPlan}
use Rattle.j39_variants.specs.declared.line.ProductLine.{ProductLine}
use Rattle.j39_line_findings.specs.AllVariants.{IsOneOf}
use Rattle.j39_line_findings.specs.MissedNeeds.{is_need_asked_for}
use Rattle.j39_line_findings.specs.There.{IsPresent, place_in_file}
use Rattle.j39_line_findings.specs.declared.there.Present.{Present}
use Rattle.j39_line_bounds.specs.declared.times.Badness.{Badness}
use Rattle.j39_line_bounds.specs.declared.times.FlowTime.{FlowTime}
use Rattle.j39_line_bounds.specs.declared.times.FlowTime.TheVariants as flow
use Rattle.j39_line_bounds.specs.declared.times.LineTimes.{LineTimes}
use Rattle.j39_line_bounds.specs.declared.times.NeedTime.{NeedTime}
use Rattle.j39_line_bounds.specs.declared.times.NeedTime.TheVariants as need

-- ---- which of two is worse

-- how bad a time is, and how long it is
abbrev pub of_degree : ℕ → ℕ → Badness
of_degree degree time = record { degree = degree; time = time }

abbrev pub is_less_bad : Badness → Badness → Bool
is_less_bad a b = nat_lt a.degree b.degree || ((a.degree == b.degree) && nat_lt a.time b.time)

-- one that isn't known is worse than each that is
abbrev pub badness_known : Option ℕ → Badness
badness_known None = of_degree 3 0
badness_known (Some time) = of_degree 1 time

-- the time that is reported of long messages to all: that of each of them, where a deadline is written
abbrev pub time_reported : WholeTime → Option ℕ
time_reported whole = if is_some whole.limit then time_of_each whole else whole.bits

-- one beyond its deadline is worse than each that is within, and one that isn't shown to be within the period is the worst
abbrev pub delay_badness : Delay → Badness
delay_badness (Within bits) = of_degree 1 bits
delay_badness (Beyond bits) = of_degree 2 bits
delay_badness Late = of_degree 3 0
delay_badness (Long frames) = of_degree 1 frames
delay_badness (Whole whole) = badness_known (time_reported whole)

abbrev pub flow_badness : FlowTime → Badness
flow_badness flow.NoVariant = of_degree 0 0
flow_badness (flow.Reported None) = of_degree 1 0
flow_badness (flow.Reported (Some delay)) = delay_badness delay

-- of ages alone: that a need is unmet is found of the line, and of no variant's times
abbrev pub need_badness : NeedTime → Badness
need_badness need.NoVariant = of_degree 0 0
need_badness (need.Age age youngest) = badness_known age
need_badness need.Unmet = of_degree 0 0

-- the worse of two, the first where none is
abbrev pub worse : {T : Type 0} → (T → Badness) → T → T → T
worse bad x y = if is_less_bad (bad x) (bad y) then y else x

-- ---- in one variant

-- the place in its plan of what stands at a place in the file
abbrev pub place_in_variant : List ℕ → ℕ → Option ℕ
place_in_variant places i = position (λ place. place == i) places

-- the delay of a flow of the file
abbrev pub flow_time : List ℕ → List (Option Delay) → ℕ → FlowTime
flow_time there delays f = option_map_or (λ i. flow.Reported (slice_index_or delays i None)) (place_in_variant there f) flow.NoVariant

-- by which flow of the file, by its place, what is needed is youngest, where several bring it
abbrev pub youngest_here : List ℕ → Plan → Timing → List (Option Delay) → NeedPlan → Option ℕ
youngest_here flows plan timing delays needed = if has_several plan.requests.items plan.flows.items needed
    then option_map (place_in_file flows) (youngest_flow timing plan.requests.items plan.flows.items delays needed) else None

-- the age of what a need of the variant's plan is for, where a flow meets it: how old it is at most
abbrev pub age_here : List ℕ → Plan → Timing → List (Option Delay) → NeedPlan → NeedTime
age_here flows plan timing delays needed =
    if is_unmet plan.requests.items plan.flows.items needed then need.NoVariant
    else need.Age (least_age timing plan.requests.items plan.flows.items delays needed) (youngest_here flows plan timing delays needed)

-- of a need of the file: this, where the variant asks for it and what it is for is there
abbrev pub need_time : ProductLine → List ℕ → Present → Plan → Timing → List (Option Delay) → ℕ → NeedTime
need_time line variant there plan timing delays d = if is_need_asked_for line variant d
    then option_map_or (age_here there.flows.items plan timing delays) (option_and_then (slice_get plan.needs.items) (place_in_variant there.needs.items d)) need.NoVariant
    else need.NoVariant

-- what is reported of a variant, of each flow and need of the file, in order
pub record AreVariantTimes (line : ProductLine) (variant : List ℕ) (times : LineTimes) : Type 0 where
  pub there : Present
  pub is_there : IsPresent line variant there
  pub plan : Plan
  pub is_plan : IsVariantPlan line variant plan
  pub timing : Timing
  pub timed : timing_of plan ≡ Some timing
  pub stays : UnitPlan → Bool
  pub delays : List (Option Delay)
  pub asks : AsksOfBus plan timing stays delays
  pub flow_count : length times.flows.items ≡ length line.plan.flows.items
  pub flows : (f : ℕ) → f < length line.plan.flows.items → slice_index_or times.flows.items f flow.NoVariant ≡ flow_time there.flows.items delays f
  pub need_count : length times.needs.items ≡ length line.plan.needs.items
  pub needs : (d : ℕ) → d < length line.plan.needs.items → slice_index_or times.needs.items d need.NoVariant ≡ need_time line variant there plan timing delays d
  pub load : times.load ≡ total_load timing (asked_of timing plan stays)

-- ---- in all of them

-- of a line with these times, what is reported of a flow and of a need of the file
abbrev pub time_of_flow : LineTimes → ℕ → FlowTime
time_of_flow times f = slice_index_or times.flows.items f flow.NoVariant

abbrev pub time_of_need : LineTimes → ℕ → NeedTime
time_of_need times d = slice_index_or times.needs.items d need.NoVariant

-- those of one of some variants
abbrev pub IsTimesAmong : List LineTimes → LineTimes → Type 0
IsTimesAmong = IsOneOf

-- the worst of what is reported of them: it is reported of one, or nothing is of any; and what is reported of none is worse
pub record IsWorst {T : Type 0} (bad : T → Badness) (nothing : T) (at : LineTimes → T) (each : List LineTimes) (worst : T) : Type 0 where
  pub one : (worst ≡ nothing) ⊎ ((times : LineTimes) × IsTimesAmong each times × (worst ≡ at times))
  pub none_worse : (times : LineTimes) → IsTimesAmong each times → is_less_bad (bad worst) (bad (at times)) ≡ false

-- the greatest load of them
pub record IsGreatestLoad (each : List LineTimes) (load : ℕ) : Type 0 where
  pub one : (load ≡ 0) ⊎ ((times : LineTimes) × IsTimesAmong each times × (load ≡ times.load))
  pub none_more : (times : LineTimes) → IsTimesAmong each times → times.load ≤ load

-- of each flow and each need of the file the worst, and the greatest load
pub record AreWorst (line : ProductLine) (each : List LineTimes) (reported : LineTimes) : Type 0 where
  pub flow_count : length reported.flows.items ≡ length line.plan.flows.items
  pub flows : (f : ℕ) → f < length line.plan.flows.items → IsWorst flow_badness flow.NoVariant (λ times. time_of_flow times f) each (time_of_flow reported f)
  pub need_count : length reported.needs.items ≡ length line.plan.needs.items
  pub needs : (d : ℕ) → d < length line.plan.needs.items → IsWorst need_badness need.NoVariant (λ times. time_of_need times d) each (time_of_need reported d)
  pub load : IsGreatestLoad each reported.load

-- what is reported of some variants: the worst of those of each
pub record AreTimesAmong (line : ProductLine) (variants : List (List ℕ)) (reported : LineTimes) : Type 0 where
  pub each : List LineTimes
  pub are_each : AllZip (AreVariantTimes line) variants each
  pub worst : AreWorst line each reported

-- ---- laws

-- what is reported of one variant is no worse than this
pub record AreNoWorse (line : ProductLine) (times reported : LineTimes) : Type 0 where
  pub flows : (f : ℕ) → f < length line.plan.flows.items → is_less_bad (flow_badness (time_of_flow reported f)) (flow_badness (time_of_flow times f)) ≡ false
  pub needs : (d : ℕ) → d < length line.plan.needs.items → is_less_bad (need_badness (time_of_need reported d)) (need_badness (time_of_need times d)) ≡ false
  pub load : times.load ≤ reported.load

-- this is reported of one of these variants
abbrev pub IsOfSomeVariant : {T : Type 0} → (List ℕ → Type 0) → ProductLine → (LineTimes → T) → T → Type 0
IsOfSomeVariant These line at reported = (variant : List ℕ) × These variant × ((times : LineTimes) × AreVariantTimes line variant times × (reported ≡ at times))

-- the times and the load of each of these variants are no worse than those that are reported; and each that is reported is that of one, where one has
-- it
pub record BoundEachOf (These : List ℕ → Type 0) (line : ProductLine) (reported : LineTimes) : Type 0 where
  pub each : (variant : List ℕ) → These variant → (times : LineTimes) × AreVariantTimes line variant times × AreNoWorse line times reported
  pub flows : (f : ℕ) → f < length line.plan.flows.items
      → (time_of_flow reported f ≡ flow.NoVariant) ⊎ IsOfSomeVariant These line (λ times. time_of_flow times f) (time_of_flow reported f)
  pub needs : (d : ℕ) → d < length line.plan.needs.items
      → (time_of_need reported d ≡ need.NoVariant) ⊎ IsOfSomeVariant These line (λ times. time_of_need times d) (time_of_need reported d)
  pub load : (reported.load ≡ 0) ⊎ IsOfSomeVariant These line (λ times. times.load) reported.load

abbrev pub TimesBoundThese : Type 0
TimesBoundThese = (line : ProductLine) (variants : List (List ℕ)) (reported : LineTimes) → AreTimesAmong line variants reported
    → BoundEachOf (IsOneOf variants) line reported

-- where a number is reported, that of one variant is no more: a flow within so many bits is never late, and waits for no more; one that is late
-- with so many isn't late with more, nor with none; long messages are whole in as many; what a need is for is no older
pub record BoundNumbers (line : ProductLine) (reported times : LineTimes) : Type 0 where
  pub never_late : (f : ℕ) → f < length line.plan.flows.items → (bits : ℕ) → time_of_flow reported f ≡ flow.Reported (Some (Within bits))
      → time_of_flow times f ≢ flow.Reported (Some Late)
  pub never_beyond : (f : ℕ) → f < length line.plan.flows.items → (bits more : ℕ) → time_of_flow reported f ≡ flow.Reported (Some (Within bits))
      → time_of_flow times f ≢ flow.Reported (Some (Beyond more))
  pub delays : (f : ℕ) → f < length line.plan.flows.items → (bits here : ℕ) → time_of_flow reported f ≡ flow.Reported (Some (Within bits))
      → time_of_flow times f ≡ flow.Reported (Some (Within here)) → here ≤ bits
  pub never_unknown : (f : ℕ) → f < length line.plan.flows.items → (bits : ℕ) → time_of_flow reported f ≡ flow.Reported (Some (Beyond bits))
      → time_of_flow times f ≢ flow.Reported (Some Late)
  pub late_delays : (f : ℕ) → f < length line.plan.flows.items → (bits here : ℕ) → time_of_flow reported f ≡ flow.Reported (Some (Beyond bits))
      → time_of_flow times f ≡ flow.Reported (Some (Beyond here)) → here ≤ bits
  pub whole : (f : ℕ) → f < length line.plan.flows.items → (of_reported here : WholeTime) (bits : ℕ) → time_of_flow reported f ≡ flow.Reported (Some (Whole of_reported))
      → time_reported of_reported ≡ Some bits → time_of_flow times f ≡ flow.Reported (Some (Whole here)) → (fewer : ℕ) × (time_reported here ≡ Some fewer) × (fewer ≤ bits)
  pub ages : (d : ℕ) → d < length line.plan.needs.items → (us : ℕ) (age youngest other : Option ℕ) → time_of_need reported d ≡ need.Age (Some us) youngest
      → time_of_need times d ≡ need.Age age other → (fewer : ℕ) × (age ≡ Some fewer) × (fewer ≤ us)

abbrev pub ReportedNumbersBoundTimes : Type 0
ReportedNumbersBoundTimes = (line : ProductLine) (reported times : LineTimes) → AreNoWorse line times reported → BoundNumbers line reported times
