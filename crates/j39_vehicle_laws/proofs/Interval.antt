-- How often what comes directly has releases.
use Rattle.std.proofs.Common.{◌≡◌, ℕ, zero, suc, ◌+◌, ◌*◌, ◌<◌, ◌≤◌, true, length, Option, Some, None, sym, ◌∙◌, subst, arith}
use Rattle.std.proofs.lemmas.Option.{none-some, same_Some}
use Rattle.std.specs.Option.{option_and_then, option_map_or}
use Rattle.j39_network.specs.declared.plan.flow_plan.FlowPlan.{FlowPlan}
use Rattle.j39_vehicle.specs.declared.vehicle.Vehicle.{Vehicle}
use Rattle.j39_vehicle.specs.declared.vehicle.forward.Forward.{Forward}
use Rattle.j39_vehicle_findings.specs.declared.point.FlowAt.{FlowAt}
use Rattle.j39_vehicle_findings.specs.declared.point.Point.{Point}
use Rattle.j39_vehicle_laws.specs.Gateways.{IsIts}
use Rattle.j39_vehicle_times.specs.declared.bus_delays.Delays.{Delays}
use Rattle.j39_vehicle_times.specs.Times.{behind_by, direct_feeder, first_input_at, pause_on, interval, interval_by, unasked_at, within_of}
use Rattle.j39_vehicle_times.specs.BusDelays.{AreDelays}
use Rattle.j39_vehicle_times.proofs.DecidingTimes.{and_then_some}
use Rattle.j39_vehicle_laws.specs.Seen.{SeenBuses, frames_at, of_us}
use Rattle.j39_vehicle_laws.specs.YoungValues.{ComesDirectly, HasWay, IsOnTheWay, IsSeenVehicle, KeepPauses, pause_at, by_itself, sent_on}
use Rattle.j39_vehicle_laws.proofs.Behind.{IsBehind, fed_never, fed_parts, is_behind, sends_directly, source_among}
use Rattle.j39_vehicle_laws.proofs.Parts.{some_cases}

-- ---- the parts of what is known

unfed_pause : (v : Vehicle) (steps : ℕ) (at : FlowAt) (pause : ℕ) → direct_feeder v at ≡ None → interval_by v steps at ≡ Some pause → pause_at v at ≡ Some pause
unfolding interval_by
unfed_pause v zero at pause none is =
    subst (λ (o : Option Forward). option_and_then (λ flow. option_map_or (λ n. None) o (pause_on v at flow)) (unasked_at v at) ≡ Some pause) none is
unfed_pause v (suc steps) at pause none is =
    subst (λ (o : Option Forward). option_and_then (λ flow. option_map_or (λ n. option_and_then (interval_by v steps) (first_input_at v n)) o
    (pause_on v at flow))
    (unasked_at v at) ≡ Some pause)
    none is

fed_interval_never : (v : Vehicle) (at : FlowAt) (pause : ℕ) (n : Forward) → direct_feeder v at ≡ Some n → interval_by v zero at ≡ Some pause → ⊥
unfolding interval_by
fed_interval_never v at pause n feeder is =
    let (flow, its, none) = and_then_some (λ (flow : FlowPlan). None) (unasked_at v at) pause
    (subst (λ (o : Option Forward). option_and_then (λ flow. option_map_or (λ n. None) o (pause_on v at flow)) (unasked_at v at) ≡ Some pause) feeder is) in
    none-some pause none

fed_interval : (v : Vehicle) (steps : ℕ) (at : FlowAt) (pause : ℕ) (n : Forward) → direct_feeder v at ≡ Some n → interval_by v (suc steps) at ≡ Some pause
    → (x : FlowAt) × (first_input_at v n ≡ Some x) × (interval_by v steps x ≡ Some pause)
unfolding interval_by
fed_interval v steps at pause n feeder is =
    let (flow, its, known) = and_then_some (λ (flow : FlowPlan). option_and_then (interval_by v steps) (first_input_at v n)) (unasked_at v at) pause
    (subst (λ (o : Option Forward). option_and_then (λ flow. option_map_or (λ n. option_and_then (interval_by v steps) (first_input_at v n)) o
    (pause_on v at flow))
    (unasked_at v at) ≡ Some pause)
    feeder is) in
    and_then_some (interval_by v steps) (first_input_at v n) pause known

-- ---- releases

-- from one time to another a message has had its release less than `pause` nanoseconds ago, where there is time for it to end
abbrev pub KeepsOn : Vehicle → SeenBuses → FlowAt → ℕ → ℕ → ℕ → ℕ → Type 0
KeepsOn v seen at pause time from to = (t : ℕ) → from ≤ t → t + of_us time ≤ to
    → (p : ℕ) × IsIts (frames_at v seen at) p × ((seen at.bus).release p ≤ t) × (t < (seen at.bus).release p + 1000 * pause)

earlier : (p t before within own time to : ℕ) → time ≡ before + (within + own) → t + of_us time ≤ to → p ≤ t → p + of_us before ≤ to
earlier p t before within own time to sum high before_t = omega arith

shorter : (t before within own time to : ℕ) → time ≡ before + (within + own) → t + of_us time ≤ to → t + of_us before ≤ to
shorter t before within own time to sum high = omega arith

module _ (v : Vehicle) (delays : Delays) (stated : AreDelays v delays) (seen : SeenBuses) (by : ℕ) (is : IsSeenVehicle v delays seen by)
    (start : Point) (has : HasWay v is.scope start) (from : ℕ) (pauses : KeepPauses v seen start from by) where
  -- of what is sent on directly
  passed_on : (x y : FlowAt) → is.scope.flows y ≡ true → (pause : ℕ) (n : Forward) → direct_feeder v y ≡ Some n → first_input_at v n ≡ Some x
      → (steps time : ℕ) → behind_by v delays steps y ≡ Some time
      → (is.scope.flows x ≡ true → (k before : ℕ) → behind_by v delays k x ≡ Some before → KeepsOn v seen x pause before from by)
      → KeepsOn v seen y pause time from by
  passed_on x y among pause n feeder source zero time known keeps = absurd (fed_never v delays y time n feeder known)
  passed_on x y among pause n feeder source (suc steps) time known keeps =
      let fed = fed_parts v delays steps y time n feeder known in
      let same : fed.source ≡ x = same_Some _ _ (sym fed.source_is ∙ source) in
      let before : behind_by v delays steps x ≡ Some fed.before = subst (λ (f : FlowAt). behind_by v delays steps f ≡ Some fed.before) same fed.before_is in
      let too : is.scope.flows x ≡ true = source_among v delays stated seen by is y among n x fed.own_time feeder source fed.own_is in
      sends_releases x y among pause n feeder source fed.within fed.before fed.own_time time fed.promised fed.sum
      (is_behind v delays stated seen by is steps x too fed.before before) (is_behind v delays stated seen by is (suc steps) y among time known)
      (keeps too steps fed.before before)
    where
      sends_releases : (x y : FlowAt) → is.scope.flows y ≡ true → (pause : ℕ) (n : Forward) → direct_feeder v y ≡ Some n → first_input_at v n ≡ Some x
          → (within before own time : ℕ)
          → within_of n ≡ Some within → time ≡ before + (within + own) → IsBehind v delays seen by x before → IsBehind v delays seen by y time
          → KeepsOn v seen x pause before from by → KeepsOn v seen y pause time from by
      sends_releases x y among pause n feeder source within before own time promised sum input output keeps t low high =
          let (
            place,
            feeding,
            sent,
          ) = sends_directly v delays stated seen by is y among n x within before output.own_time feeder source promised output.one input in
          let (p, its, before_t, near) = keeps t low (shorter t before within own time by sum high) in
          let (q, it, what) = sent.each p (input.begun p its (earlier ((seen x.bus).release p) t before within own time by sum high before_t)) in
          let release : (seen y.bus).release q ≡ (seen x.bus).release p = subst (λ (r : ℕ). (seen y.bus).release q ≡ (seen x.bus).release r) what
          (sent.handed.releases q it) in
          (q, it, omega (arith, release, before_t), omega (arith, release, near))

  module _ (point : Point) (way : IsOnTheWay v start point) where
    own_pause : (at : FlowAt) (pause time : ℕ) → ComesDirectly v point.at at → direct_feeder v at ≡ None → pause_at v at ≡ Some pause
        → KeepsOn v seen at pause time from by
    own_pause at pause time direct none its t low high = pauses point way at direct none pause its t low (omega (arith, high))

    comes : (steps : ℕ) (at : FlowAt) → is.scope.flows at ≡ true → (pause : ℕ) → ComesDirectly v point.at at → interval_by v steps at ≡ Some pause
        → (k time : ℕ) → behind_by v delays k at ≡ Some time → KeepsOn v seen at pause time from by
    comes zero at among pause direct interval k time known = some_cases (direct_feeder v at) (KeepsOn v seen at pause time from by)
        (λ none. own_pause at pause time direct none (unfed_pause v zero at pause none interval))
        (λ n feeder. absurd (fed_interval_never v at pause n feeder interval))
    comes (suc steps) at among pause direct interval k time known = some_cases (direct_feeder v at) (KeepsOn v seen at pause time from by)
        (λ none. own_pause at pause time direct none (unfed_pause v (suc steps) at pause none interval))
        (λ n feeder.
        let (x, source, its) = fed_interval v steps at pause n feeder interval in
        passed_on x at among pause n feeder source k time known (λ too j before behind. comes steps x too pause
        (sent_on x at n direct feeder source) its j before behind))

    pub keeps_on : (steps : ℕ) (pause : ℕ) → interval_by v steps point.at ≡ Some pause → (k time : ℕ) → behind_by v delays k point.at ≡ Some time
        → KeepsOn v seen point.at pause time from by
    keeps_on steps pause interval k time known = comes steps point.at (has point way) pause by_itself interval k time known

    -- and of what it is sent on from
    pub source_keeps_on : (x : FlowAt) (pause : ℕ) (n : Forward) → direct_feeder v point.at ≡ Some n → first_input_at v n ≡ Some x → interval v x ≡ Some pause
        → (k time : ℕ) → behind_by v delays k point.at ≡ Some time → KeepsOn v seen point.at pause time from by
    source_keeps_on x pause n feeder source its k time known =
        passed_on x point.at (has point way) pause n feeder source k time known
        (λ too j before behind. comes (length v.forwards.items) x too pause (sent_on x point.at n by_itself feeder source) its j before behind)
