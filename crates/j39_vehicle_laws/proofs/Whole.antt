-- A vehicle of which nothing is found keeps what is asked of ages and of pauses.
use Rattle.std.proofs.Common.{◌≡◌, ℕ, zero, suc, ◌*◌, ◌<◌, ◌⊎◌, true, length, Option, Some, None, sym, ap, ◌∙◌, subst, inl, inr, arith}
use Rattle.std.proofs.lemmas.Bool.{cases_Bool, cases_lt, true≢false}
use Rattle.std.proofs.lemmas.Option.{none-some, same_Some, slice_get_within}
use Rattle.std.specs.List.{slice_get}
use Rattle.std.specs.Option.{option_and_then, option_map_or}
use Rattle.j39_network.specs.Serving.{meets}
use Rattle.j39_search.specs.ListPlaces.{ValueAt}
use Rattle.j39_network.specs.declared.plan.flow_plan.FlowPlan.{FlowPlan}
use Rattle.j39_network.specs.declared.plan.timing.Timing.{Timing}
use Rattle.j39_network.proofs.Served.{Decides-meets}
use Rattle.j39_load.specs.Clocks.{longest_million}
use Rattle.j39_vehicle.specs.declared.vehicle.Vehicle.{Vehicle}
use Rattle.j39_vehicle.specs.declared.vehicle.vehicle_need.VehicleNeed.{VehicleNeed}
use Rattle.j39_vehicle_findings.specs.Buses.{requests_on}
use Rattle.j39_vehicle_findings.specs.Traces.{IsNeedFlow, flows_of_need, is_from_origin, is_sent_by, need_on_bus, origin, point_on}
use Rattle.j39_vehicle_findings.specs.declared.finding.VehicleFinding.TheVariants.{NeedUnmet}
use Rattle.j39_vehicle_findings.specs.declared.point.Point.{Point}
use Rattle.j39_vehicle_laws.proofs.Places.{passed_of}
use Rattle.j39_vehicle_times.specs.TimeFindings.{IsYoungFlow}
use Rattle.j39_vehicle_times.specs.Times.{age, delay_at, direct_feeder, first_input_at, longest_on, us_of_ms}
use Rattle.j39_vehicle_times.specs.declared.bus_delays.Delays.{Delays}
use Rattle.j39_vehicle_times.specs.declared.finding.TimeFinding.TheVariants.{NeedTooOld}
use Rattle.j39_vehicle_times.proofs.DecidingTimes.{and_then_some}
use Rattle.j39_vehicle_laws.specs.Seen.{SeenBuses}
use Rattle.j39_vehicle_laws.specs.VehicleAges.{AreAgesKept, AreForwardedPausesKept, AreVehicleNeedsKept, IsNeedKept, IsPromptVehicle, IsSoundVehicle}
use Rattle.j39_vehicle_laws.specs.YoungValues.{IsSeenVehicle, itself}
use Rattle.j39_vehicle_laws.proofs.Brought.{ends_there}
use Rattle.j39_vehicle_laws.proofs.Kept.{streams_are_kept}
use Rattle.j39_vehicle_laws.proofs.Parts.{some_cases}
use Rattle.j39_vehicle_laws.proofs.Interval.{KeepsOn, source_keeps_on}
use Rattle.j39_vehicle_laws.proofs.Timely.{are_timely, keeps_rarely}
use Rattle.j39_vehicle_laws.proofs.Young.{brought_young}

-- ---- what is seen of it

abbrev pub seen_vehicle : (v : Vehicle) (delays : Delays) → IsSoundVehicle v delays → (seen : SeenBuses) (by : ℕ) → IsPromptVehicle v delays seen by
    → IsSeenVehicle v delays seen by
seen_vehicle v delays sound seen by is = record {
  scope = is.scope;
  closed = is.closed;
  kept = streams_are_kept v delays (are_timely v delays sound.paths sound.stated sound.times) sound.stated is.scope is.closed seen is.kept is.prompt
      is.own_releases;
  until = is.until;
  prompt = is.prompt;
  own_releases = is.own_releases;
  origins = is.origins;
}

-- ---- ages

pub ages_kept : (v : Vehicle) (delays : Delays) → IsSoundVehicle v delays → AreAgesKept v delays
ages_kept v delays sound seen p most from t known room is has pauses =
    brought_young v delays sound.paths sound.stated seen p most from t known room (seen_vehicle v delays sound seen t is) has pauses

-- the first of so many numbers of which a statement holds that can be decided, or it holds of none
searched : (P : ℕ → Type 0) → ((k : ℕ) → P k ⊎ (¬ P k)) → (n : ℕ) → ((k : ℕ) × P k) ⊎ ((k : ℕ) → k < n → ¬ P k)
searched P decide zero = inr (λ k below. absurd (omega arith))
searched P decide (suc n) = elim (searched P decide n) [
  | inl found ↦ inl found
  | inr none ↦ elim (decide n) [
    | inl here ↦ inl (n, here)
    | inr not_here ↦ inr (λ k below. elim (cases_lt k n) [
      | inl before ↦ none k before
      | inr not_before ↦ let same : n ≡ k = omega (arith, below, not_before) in subst (λ m. ¬ P m) same not_here
    ])
  ]
]

module _ (v : Vehicle) (delays : Delays) (sound : IsSoundVehicle v delays) (d : ℕ) (need : VehicleNeed) (within : ℕ)
    (its : slice_get v.needs.items d ≡ Some need)
    (asks : need.within ≡ Some within) where
  abbrev IsFlowAt : ℕ → Type 0
  IsFlowAt f = ValueAt (IsNeedFlow v need f) (flows_of_need v need) f

  decide_flow : (f : ℕ) → IsFlowAt f ⊎ (¬ IsFlowAt f)
  decide_flow f = some_cases (slice_get (flows_of_need v need) f) (IsFlowAt f ⊎ (¬ IsFlowAt f))
      (λ missing. inr (λ flow. none-some flow.value (sym missing ∙ flow.value_is)))
      (λ flow there. elim (cases_Bool (meets (requests_on v.buses.items need.unit.bus) (need_on_bus need) flow)) [
        | inr fails ↦ inr (λ other.
            let same : other.value ≡ flow = same_Some _ _ (sym other.value_is ∙ there) in
            true≢false (sym ((Decides-meets (requests_on v.buses.items need.unit.bus) (need_on_bus need) flow).1
            (subst (λ (x : FlowPlan). Rattle.j39_network.specs.Serving.Meets (requests_on v.buses.items need.unit.bus)
            (need_on_bus need) x) same other.meets.meets)) ∙ fails))
        | inl brings ↦ elim (cases_Bool (is_from_origin v need f)) [
          | inr fails ↦ inr (λ other. true≢false (sym other.meets.from ∙ fails))
          | inl from ↦ inl (record {
            value = flow;
            value_is = there;
            meets = record { meets = (Decides-meets (requests_on v.buses.items need.unit.bus) (need_on_bus need) flow).0 brings; from = from };
          })
        ]
      ])

  met : (f : ℕ) × IsFlowAt f
  met = elim (searched IsFlowAt decide_flow (length (flows_of_need v need))) [
    | inl found ↦ found
    | inr none ↦
        let finding = sound.paths.complete (NeedUnmet d) (record {
          value = need;
          value_is = its;
          meets = λ some. none some.0 (slice_get_within (flows_of_need v need) some.0 some.1.value some.1.value_is) some.1;
        }) in
        absurd (omega (arith, finding.1))
  ]

  decide_young : (f : ℕ) → IsYoungFlow v delays need (us_of_ms within) f ⊎ (¬ IsYoungFlow v delays need (us_of_ms within) f)
  decide_young f = elim (decide_flow f) [
    | inr no_flow ↦ inr (λ young. no_flow young.flow)
    | inl flow ↦ some_cases (age v delays (point_on need.unit.bus f need.signal))
        (IsYoungFlow v delays need (us_of_ms within) f ⊎ (¬ IsYoungFlow v delays need (us_of_ms within) f))
        (λ unknown. inr (λ young. none-some young.age.0 (sym unknown ∙ young.age.1)))
        (λ most known. elim (cases_lt (us_of_ms within) most) [
          | inl above ↦ inr (λ young.
              let same : young.age.0 ≡ most = same_Some _ _ (sym young.age.1 ∙ known) in
              let le = young.age.2 in
              absurd (omega (arith, above, same, le)))
          | inr not_above ↦ inl (record { flow = flow; age = (most, known, omega (arith, not_above)) })
        ])
  ]

  young_flow : (f : ℕ) × IsYoungFlow v delays need (us_of_ms within) f
  young_flow = elim (searched (IsYoungFlow v delays need (us_of_ms within)) decide_young (length (flows_of_need v need))) [
    | inl found ↦ found
    | inr none ↦
        let finding = sound.times.complete (NeedTooOld d) (record {
          value = need;
          value_is = its;
          meets = record {
            within = within;
            within_is = asks;
            met = met;
            old = λ f young. none f (slice_get_within (flows_of_need v need) f young.flow.value young.flow.value_is) young;
          };
        }) in
        absurd (omega (arith, finding.1))
  ]

  pub need_kept : IsNeedKept v delays need within
  need_kept =
      let (f, young) = young_flow in
      let (most, known, few) = young.age in
      record {
        flow = f;
        its = young.flow;
        most = most;
        age_is = known;
        young = few;
        brought = λ seen from t room is has pauses.
            let brought = ages_kept v delays sound seen (point_on need.unit.bus f need.signal) most from t known room is has pauses in
            record {
              frame = brought.frame;
              begun = brought.begun;
              ended = brought.ended;
              newest = λ q begun later over.
                  let says = brought.newest q begun later over in
                  record {
                    born = says.born;
                    says = says.says;
                    past = says.past;
                    young = let near = says.young in omega (arith, near, few);
                    from = says.from;
                    unaltered = says.unaltered;
                  };
            };
        sender = λ seen frame born brought.
            let (end, end_is, sent) = passed_of (is_sent_by v need.from) (origin v (point_on need.unit.bus f need.signal)) young.flow.meets.from in
            let there = ends_there v seen brought.origin brought.first brought.brings (length v.forwards.items) end end_is in
            subst (λ (p : Point). is_sent_by v need.from p ≡ true) there sent;
      }

pub needs_kept : (v : Vehicle) (delays : Delays) → IsSoundVehicle v delays → AreVehicleNeedsKept v delays
needs_kept v delays sound d need within its asks = need_kept v delays sound d need within its asks

-- ---- pauses

pub pauses_kept : (v : Vehicle) (delays : Delays) → IsSoundVehicle v delays → AreForwardedPausesKept v delays
pauses_kept v delays sound seen by at timing flow ms time from to (source, sent) timed its paused known is has pauses room =
    let (bits, delayed, rest) = and_then_some (λ (bits : ℕ). option_and_then (first_input_at v) (direct_feeder v at)) (delay_at delays at) source sent in
    let (n, feeder, input) = and_then_some (first_input_at v) (direct_feeder v at) source rest in
    let whole = seen_vehicle v delays sound seen by is in
    let (interval, interval_is, few) = keeps_rarely v delays sound.paths sound.stated sound.times at bits n delayed feeder flow its source input ms paused in
    let keeps : KeepsOn v seen at interval time from by =
    source_keeps_on v delays sound.stated seen by whole (record { at = at; signal = None }) has from pauses
    (record { at = at; signal = None }) itself source interval n feeder input interval_is (length v.forwards.items) time known in
    let slowest : ms * longest_on v.buses.items at.bus ≡ ms * longest_million timing =
    ap (λ (o : Option Timing). ms * option_map_or longest_million o 1000000) timed in
    λ t low high.
    let (q, it, before, near) = keeps t low (omega (arith, high, room)) in
    (q, it, before, omega (arith, near, few, slowest))
