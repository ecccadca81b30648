-- Each test of times decides its statement.
use Rattle.std.proofs.Common.{◌≡◌, ℕ, ◌*◌, ◌<◌, ◌≤◌, ◌⊎◌, max, List, Bool, true, false, not, if◌then◌else◌, ◌&&◌, Option, Some, None, Contains, Decides}
use Rattle.std.proofs.Common.{refl, sym, ap, ◌∙◌, subst, inl, inr, arith}
use Rattle.std.specs.List.{slice_get}
use Rattle.std.specs.Option.{option_and_then, option_map, option_map_or}
use Rattle.std.proofs.lemmas.Bool.{false≢true}
use Rattle.std.proofs.lemmas.Bool.Decides.{Decides-and, Decides-like, Decides-ltb, Decides-not, Decides-or}
use Rattle.std.proofs.lemmas.Option.{none-some, same_Some}
use Rattle.j39_search.specs.ListPlaces.{ValueAt, in_each}
use Rattle.j39_network.specs.declared.plan.flow_plan.FlowPlan.{FlowPlan}
use Rattle.j39_network.specs.declared.plan.group_plan.GroupPlan.{GroupPlan}
use Rattle.j39_network.specs.declared.plan.to.To.{To}
use Rattle.j39_network.specs.declared.plan.to.To.TheVariants.{All, One}
use Rattle.j39_network.proofs.Served.{not_is}
use Rattle.j39_search.proofs.Members.{found_if_of, in_each_of, of_found_if, of_in_each}
use Rattle.j39_vehicle.specs.declared.vehicle.Vehicle.{Vehicle}
use Rattle.j39_vehicle.specs.declared.vehicle.forward.Forward.{Forward}
use Rattle.j39_vehicle.specs.declared.vehicle.vehicle_need.VehicleNeed.{VehicleNeed}
use Rattle.j39_vehicle_findings.specs.Buses.{groups_on}
use Rattle.j39_vehicle_findings.specs.FoundPaths.{is_need_flow}
use Rattle.j39_vehicle_findings.specs.ForwardEnds.{IsDirect}
use Rattle.j39_vehicle_findings.specs.ForwardTests.{is_direct}
use Rattle.j39_vehicle_findings.specs.Traces.{IsNeedFlow, flows_of_need, point_on}
use Rattle.j39_vehicle_findings.specs.declared.point.FlowAt.{FlowAt}
use Rattle.j39_vehicle_findings.proofs.Deciding.{Decides-is_direct, it_is, need_flow_decides}
use Rattle.j39_vehicle_times.specs.declared.bus_delays.Delays.{Delays}
use Rattle.j39_vehicle_times.specs.declared.ends.Ends.{Ends}
use Rattle.j39_vehicle_times.specs.declared.needs.NeedFlow.{NeedFlow}
use Rattle.j39_vehicle_times.specs.TimeFindings.{ComesTooOften, IsDirectBetween, IsNearer, MayBeMore, IsNeedTooOld, IsTooLate, IsTooOften, IsTooRare}
use Rattle.j39_vehicle_times.specs.TimeFindings.{IsUnlimited, IsKnownWithin, IsYoungFlow}
use Rattle.j39_vehicle_times.specs.TimeFindings.{written_deadline, first_output, period_ms}
use Rattle.j39_vehicle_times.specs.FoundTimes.{direct_ends, ends_of, flow_of_need, is_long, is_nearer, is_need_too_old, is_older, is_timed_bus, goes_to_all}
use Rattle.j39_vehicle_times.specs.FoundTimes.{is_too_late}
use Rattle.j39_vehicle_times.specs.FoundTimes.{is_too_often, is_too_rare, may_be_more, is_unlimited, is_known_within, need_flow_at, need_flows_at}
use Rattle.j39_vehicle_times.specs.Times.{age, askers_on, flow_at, first_input_at, latest_ms, queued_of, interval, longest_on, shortest_on, timing_on, us_of_ms}
use Rattle.j39_vehicle_times.proofs.Youngest.{IsLeast, youngest_among, youngest_least, youngest_some}
use Rattle.j39_search.proofs.Deciding.{Decides-leb}

-- some value is there and meets the statement
some_decides : {A : Type 0} {test : A → Bool} (P : A → Type 0) → ((x : A) → Decides (test x) (P x)) → (o : Option A)
    → Decides (option_map_or test o false) ((x : A) × (o ≡ Some x) × P x)
some_decides P by None = (λ e. absurd (false≢true e), λ h. absurd (none-some _ h.1))
some_decides P by (Some x) = Decides-like _ (λ h. (x, refl, h)) (λ h. subst P (same_Some _ _ (sym h.1)) h.2) (by x)

there_decides : {A : Type 0} (o : Option A) → Decides (option_map_or (λ x. true) o false) (¬ (o ≡ None))
there_decides None = (λ e. absurd (false≢true e), λ h. absurd (h refl))
there_decides (Some x) = (λ e is. absurd (none-some _ (sym is)), λ h. refl)

none_decides : {A : Type 0} (o : Option A) → Decides (not (option_map_or (λ x. true) o false)) (o ≡ None)
none_decides None = (λ e. refl, λ e. refl)
none_decides (Some x) = (λ e. absurd (false≢true e), λ e. absurd (none-some _ (sym e)))

within_decides : (most : ℕ) (o : Option ℕ) → Decides (is_known_within most o) (IsKnownWithin most o)
within_decides most o = some_decides (λ n. n ≤ most) (λ n. Decides-leb n most) o

-- ---- direct forwards

pub and_then_some : {A B : Type 0} (f : A → Option B) (o : Option A) (b : B) → option_and_then f o ≡ Some b → (a : A) × (o ≡ Some a) × (f a ≡ Some b)
and_then_some f None b is = absurd (none-some _ is)
and_then_some f (Some a) b is = (a, refl, is)

pub map_some : {A B : Type 0} (f : A → B) (o : Option A) (b : B) → option_map f o ≡ Some b → (a : A) × (o ≡ Some a) × (f a ≡ b)
map_some f None b is = absurd (none-some _ is)
map_some f (Some a) b is = (a, refl, same_Some _ _ is)

of_if : {A : Type 0} (test : Bool) (o : Option A) (a : A) → (if test then o else None) ≡ Some a → (test ≡ true) × (o ≡ Some a)
of_if true o a is = (refl, is)
of_if false o a is = absurd (none-some _ is)

-- the ends of a forward
record HasEnds (v : Vehicle) (n : Forward) (ends : Ends) : Type 0 where
  pub at : first_input_at v n ≡ Some ends.at
  pub input : flow_at v.buses.items ends.at ≡ Some ends.input
  pub output : first_output v n ≡ Some ends.output

abbrev with_output : Vehicle → Forward → FlowAt → FlowPlan → Option Ends
with_output v n at i = option_map (λ f. record { at = at; input = i; output = f }) (first_output v n)

abbrev with_input : Vehicle → Forward → FlowAt → Option Ends
with_input v n at = option_and_then (with_output v n at) (flow_at v.buses.items at)

ends_reported : (v : Vehicle) (n : Forward) (ends : Ends) → ends_of v n ≡ Some ends → HasEnds v n ends
ends_reported v n ends is =
    let a = and_then_some (with_input v n) (first_input_at v n) ends is in
    let i = and_then_some (with_output v n a.0) (flow_at v.buses.items a.0) ends a.2 in
    let f = map_some (λ (f : FlowPlan). record { at = a.0; input = i.0; output = f }) (first_output v n) ends i.2 in
    let same_at : a.0 ≡ ends.at = ap (λ (e : Ends). e.at) f.2 in
    let same_input : i.0 ≡ ends.input = ap (λ (e : Ends). e.input) f.2 in
    let same_output : f.0 ≡ ends.output = ap (λ (e : Ends). e.output) f.2 in
    record {
      at = a.1 ∙ ap Some same_at;
      input = ap (flow_at v.buses.items) (sym same_at) ∙ i.1 ∙ ap Some same_input;
      output = f.1 ∙ ap Some same_output;
    }

ends_from : (v : Vehicle) (n : Forward) (ends : Ends) → HasEnds v n ends → ends_of v n ≡ Some ends
ends_from v n ends h =
    ap (option_and_then (with_input v n)) h.at ∙ ap (option_and_then (with_output v n ends.at)) h.input
    ∙ ap (option_map (λ (f : FlowPlan). record { at = ends.at; input = ends.input; output = f })) h.output

direct_decides : (v : Vehicle) (n : Forward)
    → Decides (is_direct n && is_timed_bus v n.output.bus) (IsDirect n × (¬ (timing_on v.buses.items n.output.bus ≡ None)))
direct_decides v n = Decides-and _ _ (Decides-is_direct n) (there_decides (timing_on v.buses.items n.output.bus))

between_decides : {test : Ends → Bool} (v : Vehicle) (n : Forward) (P : Ends → Type 0) → ((ends : Ends) → Decides (test ends) (P ends))
    → Decides (option_map_or test (direct_ends v n) false) (IsDirectBetween v n P)
between_decides v n P by =
    Decides-like _
    (λ h.
    let stated = of_if (is_direct n && is_timed_bus v n.output.bus) (ends_of v n) h.0 h.1 in
    let direct = (direct_decides v n).0 stated.0 in
    let ends = ends_reported v n h.0 stated.1 in
    record {
      direct = direct.0;
      timing = direct.1;
      ends = h.0;
      at = ends.at;
      input = ends.input;
      output = ends.output;
      related = h.2;
    })
    (λ m. (
      m.ends,
      ap (λ (b : Bool). if b then ends_of v n else None) ((direct_decides v n).1 (m.direct, m.timing))
          ∙ ends_from v n m.ends (record { at = m.at; input = m.input; output = m.output }),
      m.related,
    ))
    (some_decides P by (direct_ends v n))

nearer_decides : (here : ℕ) (i : FlowPlan) (there : ℕ) (f : FlowPlan) → Decides (is_nearer here i there f) (IsNearer here i there f)
nearer_decides here i there f =
    some_decides (λ p. ¬ ((q : ℕ) × (period_ms i ≡ Some q) × (p * there ≤ q * here)))
    (λ p. Decides-not _ (some_decides (λ q. p * there ≤ q * here) (λ q. Decides-leb (p * there) (q * here)) (period_ms i))) (period_ms f)

more_decides : (here there : ℕ) (f : FlowPlan) → Decides (may_be_more here there f) (MayBeMore here there f)
more_decides here there f = some_decides (λ (p : ℕ). max 1 there < here) (λ p. Decides-ltb (max 1 there) here) (period_ms f)

pub Decides-is_too_often : (v : Vehicle) (n : Forward) → Decides (is_too_often v n) (IsTooOften v n)
Decides-is_too_often v n =
    between_decides v n (λ ends. ComesTooOften v.buses.items ends.at.bus n.output.bus ends.input ends.output)
    (λ ends. Decides-or _ _ (Decides-or _ _
    (nearer_decides (shortest_on v.buses.items ends.at.bus) ends.input (shortest_on v.buses.items n.output.bus) ends.output)
    (Decides-and _ _ (it_is ends.output.on_request) (not_is ends.input.on_request)))
    (more_decides (askers_on v.buses.items ends.at.bus ends.input) (askers_on v.buses.items n.output.bus ends.output) ends.output))

to_all_decides : (to : To) → Decides (goes_to_all to) (to ≡ All)
to_all_decides All = (λ e. refl, λ e. refl)
to_all_decides (One u) = (λ e. absurd (false≢true e), λ e. cc)

long_decides : (groups : List GroupPlan) (g : ℕ) → Decides (is_long groups g) (ValueAt (λ (group : GroupPlan). 8 < group.length) groups g)
long_decides groups g =
    Decides-like _ (λ h. record { value = h.0; value_is = h.1; meets = h.2 }) (λ m. (m.value, m.value_is, m.meets))
    (some_decides (λ (group : GroupPlan). 8 < group.length) (λ group. Decides-ltb 8 group.length) (slice_get groups g))

unlimited_decides : (v : Vehicle) (n : Forward) (f : FlowPlan) → Decides (is_unlimited v n f) (IsUnlimited v n f)
unlimited_decides v n f =
    Decides-like _ (λ h. record { to = h.0; limit = h.1.0; long = h.1.1 }) (λ m. (m.to, (m.limit, m.long)))
    (Decides-and _ _ (to_all_decides f.to)
    (Decides-and _ _ (none_decides (written_deadline f)) (long_decides (groups_on v.buses.items n.output.bus) f.group)))

pub Decides-is_too_late : (v : Vehicle) (delays : Delays) (n : Forward) → Decides (is_too_late v delays n) (IsTooLate v delays n)
Decides-is_too_late v delays n =
    between_decides v n (λ ends. (¬ IsUnlimited v n ends.output) × (¬ IsKnownWithin (us_of_ms (latest v n ends)) (queued_of v delays n)))
    (λ ends. Decides-and _ _ (Decides-not _ (unlimited_decides v n ends.output))
    (Decides-not _ (within_decides (us_of_ms (latest v n ends)) (queued_of v delays n))))
  where
    latest : Vehicle → Forward → Ends → ℕ
    latest w m ends = latest_ms (askers_on w.buses.items m.output.bus ends.output) ends.output

pub Decides-is_too_rare : (v : Vehicle) (n : Forward) → Decides (is_too_rare v n) (IsTooRare v n)
Decides-is_too_rare v n =
    between_decides v n (λ ends. (ms : ℕ) × (ends.output.pause ≡ Some ms) × (¬ IsKnownWithin (ms * longest_on v.buses.items n.output.bus) (interval v ends.at)))
    (λ ends. some_decides (λ ms. ¬ IsKnownWithin (ms * longest_on v.buses.items n.output.bus) (interval v ends.at))
    (λ ms. Decides-not _ (within_decides (ms * longest_on v.buses.items n.output.bus) (interval v ends.at))) ends.output.pause)

-- ---- needs

abbrev IsFlowOf : Vehicle → VehicleNeed → ℕ → Type 0
IsFlowOf v d f = ValueAt (IsNeedFlow v d f) (flows_of_need v d) f

abbrev flows_reported : Vehicle → Delays → VehicleNeed → List NeedFlow
flows_reported v delays d = in_each (need_flows_at v delays d) 0 (flows_of_need v d)

-- what is reported of a flow of the need
record IsStated (v : Vehicle) (delays : Delays) (d : VehicleNeed) (r : NeedFlow) : Type 0 where
  pub flow : IsFlowOf v d r.flow
  pub age : r.age ≡ age v delays (point_on d.unit.bus r.flow d.signal)

flow_stated : (v : Vehicle) (delays : Delays) (d : VehicleNeed) (r : NeedFlow) → Contains (flows_reported v delays d) r → IsStated v delays d r
flow_stated v delays d r h =
    let found = of_in_each (need_flows_at v delays d) 0 (flows_of_need v d) r h in
    let one = of_found_if (is_need_flow v d found.place found.value) (need_flow_at v delays d found.place) r found.among in
    let at : found.k ≡ found.place = omega arith in
    let there : IsStated v delays d (need_flow_at v delays d found.place) = record {
      flow = record {
        value = found.value;
        value_is = ap (slice_get (flows_of_need v d)) (sym at) ∙ found.value_is;
        meets = (need_flow_decides v d found.place found.value).0 one.0;
      };
      age = refl;
    } in
    subst (IsStated v delays d) (sym one.1) there

reported_flow : (v : Vehicle) (delays : Delays) (d : VehicleNeed) (f : ℕ) → IsFlowOf v d f → Contains (flows_reported v delays d) (need_flow_at v delays d f)
reported_flow v delays d f m =
    in_each_of (need_flows_at v delays d) 0 (flows_of_need v d) (need_flow_at v delays d f) f f m.value (omega arith) m.value_is
    (found_if_of (is_need_flow v d f m.value) (need_flow_at v delays d f) ((need_flow_decides v d f m.value).1 m.meets))

some_or_none : {A : Type 0} (o : Option A) → (o ≡ None) ⊎ ((a : A) × (o ≡ Some a))
some_or_none None = inl refl
some_or_none (Some a) = inr (a, refl)

-- flows meet the need, and none brings what is young enough
abbrev IsOlder : Vehicle → Delays → VehicleNeed → ℕ → Type 0
IsOlder v delays d ms = ((f : ℕ) × IsFlowOf v d f) × ((f : ℕ) → ¬ IsYoungFlow v delays d (us_of_ms ms) f)

least_within : (most : ℕ) (r : Option ℕ) (a : ℕ) → a ≤ most → IsLeast r a → IsKnownWithin most r
least_within most r a less least = let low = least.less in (least.age, least.age_is, omega arith)

none_younger : (v : Vehicle) (delays : Delays) (d : VehicleNeed) (most : ℕ) (r : NeedFlow) → flow_of_need v delays d ≡ Some r
    → ¬ IsKnownWithin most r.age → (f : ℕ) → ¬ IsYoungFlow v delays d most f
none_younger v delays d most r is older f young =
    let a = young.age in
    older (least_within most r.age a.0 a.2
    (youngest_least (flows_reported v delays d) r (need_flow_at v delays d f) a.0 is (reported_flow v delays d f young.flow) a.1))

older_from : (v : Vehicle) (delays : Delays) (d : VehicleNeed) (ms : ℕ) → IsOlder v delays d ms
    → (r : NeedFlow) × (flow_of_need v delays d ≡ Some r) × (¬ IsKnownWithin (us_of_ms ms) r.age)
older_from v delays d ms h = elim (some_or_none (flow_of_need v delays d)) [
  | inl none ↦ absurd (youngest_some (flows_reported v delays d) (need_flow_at v delays d h.0.0) (reported_flow v delays d h.0.0 h.0.1) none)
  | inr (r, is) ↦
      let stated = flow_stated v delays d r (youngest_among (flows_reported v delays d) r is) in
      (r, is, λ within. h.1 r.flow (record { flow = stated.flow; age = subst (IsKnownWithin (us_of_ms ms)) stated.age within }))
]

older_decides : (v : Vehicle) (delays : Delays) (d : VehicleNeed) (ms : ℕ) → Decides (is_older v delays d ms) (IsOlder v delays d ms)
older_decides v delays d ms =
    Decides-like _
    (λ h. (
      (h.0.flow, (flow_stated v delays d h.0 (youngest_among (flows_reported v delays d) h.0 h.1)).flow),
      none_younger v delays d (us_of_ms ms) h.0 h.1 h.2,
    ))
    (older_from v delays d ms)
    (some_decides (λ (stated : NeedFlow). ¬ IsKnownWithin (us_of_ms ms) stated.age) (λ stated. Decides-not _ (within_decides (us_of_ms ms) stated.age))
    (flow_of_need v delays d))

pub Decides-is_need_too_old : (v : Vehicle) (delays : Delays) (d : VehicleNeed) → Decides (is_need_too_old v delays d) (IsNeedTooOld v delays d)
Decides-is_need_too_old v delays d =
    Decides-like _ (λ h. record { within = h.0; within_is = h.1; met = h.2.0; old = h.2.1 }) (λ m. (m.within, m.within_is, (m.met, m.old)))
    (some_decides (IsOlder v delays d) (older_decides v delays d) d.within)
