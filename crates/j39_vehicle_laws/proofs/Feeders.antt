-- Which forward feeds a flow, and what it takes for its first input.
use Rattle.std.proofs.Common.{◌≡◌, ℕ, ◌<◌, ◌&&◌, ◌==◌, Bool, true, false, List, [], cond, length, get_or, Option, Some, None, refl, sym, ap, ◌∙◌, subst, inl}
use Rattle.std.proofs.Common.{inr, arith}
use Rattle.std.proofs.lemmas.Bool.{and_parts, and_from, cases_lt, eqb-true, false≢true, lt-ltb, true≢false}
use Rattle.std.proofs.lemmas.List.Quantifiers.{position-Some}
use Rattle.std.proofs.lemmas.List.Sums.{fails_before_first}
use Rattle.std.proofs.lemmas.Option.{none-some, same_Some, get_or_from_slice_get, slice_get-get_or, slice_get_within}
use Rattle.std.specs.List.{position, position_or_len, slice_get}
use Rattle.std.specs.Option.{option_and_then, option_map, option_map_or}
use Rattle.j39_network.specs.declared.plan.flow_plan.FlowPlan.{FlowPlan}
use Rattle.j39_vehicle.specs.declared.vehicle.Vehicle.{Vehicle}
use Rattle.j39_vehicle.specs.declared.vehicle.forward.Forward.{Forward}
use Rattle.j39_vehicle_findings.specs.Buses.{flows_on}
use Rattle.j39_vehicle_findings.specs.ForwardEnds.{output_flows}
use Rattle.j39_vehicle_findings.specs.ForwardTests.{feeds, is_direct, is_output}
use Rattle.j39_vehicle_findings.specs.Traces.{behind_forward, carries, first_input, goes_into, goes_on, next_forward, point_on}
use Rattle.j39_vehicle_findings.specs.VehicleFindings.{AreFindings, AreTwoForwards}
use Rattle.j39_vehicle_findings.specs.declared.finding.VehicleFinding.TheVariants.{TwoForwards}
use Rattle.j39_vehicle_findings.specs.declared.point.FlowAt.{FlowAt}
use Rattle.j39_vehicle_findings.specs.declared.point.Point.{Point}
use Rattle.j39_vehicle_findings.proofs.Deciding.{Decides-is_direct, Decides-is_output}
use Rattle.j39_vehicle_times.specs.Times.{direct_feeder, forward_at, first_input_at}
use Rattle.j39_vehicle_times.proofs.DecidingTimes.{and_then_some, map_some}
use Rattle.j39_vehicle_laws.proofs.Parts.{some_cases}

-- ---- the direct forward of a flow

abbrev is_direct_feeder : Vehicle → FlowAt → Forward → Bool
is_direct_feeder v at n = feeds v at n && is_direct n

pub record IsFeederAt (v : Vehicle) (at : FlowAt) (forward : Forward) (place : ℕ) : Type 0 where
  pub its : forward_at v place ≡ Some forward
  pub feeding : feeds v at forward ≡ true
  pub direct : is_direct forward ≡ true
  pub first : (k : ℕ) → k < place → is_direct_feeder v at (get_or v.forwards.items k forward) ≡ false

pub feeder_is : (v : Vehicle) (at : FlowAt) (forward : Forward) → direct_feeder v at ≡ Some forward → (place : ℕ) × IsFeederAt v at forward place
feeder_is v at forward is =
    let (n, at_place, there) = and_then_some (forward_at v) (position (is_direct_feeder v at) v.forwards.items) forward is in
    let found = position-Some (is_direct_feeder v at) v.forwards.items n forward at_place in
    let here : get_or v.forwards.items n forward ≡ forward = get_or_from_slice_get v.forwards.items n forward forward there in
    let both : is_direct_feeder v at forward ≡ true = subst (λ (m : Forward). is_direct_feeder v at m ≡ true) here found.1 in
    let parts = and_parts (feeds v at forward) (is_direct forward) both in
    (n, record { its = there; feeding = parts.0; direct = parts.1; first = found.2 })

pub next_feeds : (v : Vehicle) (p : Point) (n : ℕ) (forward : Forward) → next_forward v p ≡ Some n → forward_at v n ≡ Some forward → feeds v p.at forward ≡ true
next_feeds v p n forward is there =
    let found = position-Some (λ m. feeds v p.at m && carries p.signal m) v.forwards.items n forward is in
    let here : get_or v.forwards.items n forward ≡ forward = get_or_from_slice_get v.forwards.items n forward forward there in
    let both : (feeds v p.at forward && carries p.signal forward) ≡ true =
    subst (λ (m : Forward). (feeds v p.at m && carries p.signal m) ≡ true) here found.1 in
    (and_parts (feeds v p.at forward) (carries p.signal forward) both).0

-- ---- two of them

pub record IsOutputAt (v : Vehicle) (at : FlowAt) (forward : Forward) : Type 0 where
  pub bus : forward.output.bus ≡ at.bus
  pub flow : FlowPlan
  pub its : slice_get (flows_on v.buses.items at.bus) at.flow ≡ Some flow
  pub passes : is_output forward flow ≡ true

passes_some : (forward : Forward) (o : Option FlowPlan) → option_map_or (is_output forward) o false ≡ true → (f : FlowPlan) × (o ≡ Some f)
    × (is_output forward f ≡ true)
passes_some forward None is = absurd (false≢true is)
passes_some forward (Some f) is = (f, refl, is)

pub feeds_parts : (v : Vehicle) (at : FlowAt) (forward : Forward) → feeds v at forward ≡ true → IsOutputAt v at forward
feeds_parts v at forward is =
    let parts = and_parts (forward.output.bus == at.bus) (option_map_or (is_output forward) (slice_get (output_flows v forward) at.flow) false) is in
    let bus : forward.output.bus ≡ at.bus = eqb-true forward.output.bus at.bus parts.0 in
    let (flow, its, passes) = passes_some forward (slice_get (output_flows v forward) at.flow) parts.1 in
    record {
      bus = bus;
      flow = flow;
      its = subst (λ (b : ℕ). slice_get (flows_on v.buses.items b) at.flow ≡ Some flow) bus its;
      passes = passes;
    }

two_feed : (v : Vehicle) (at : FlowAt) (m n : Forward) → feeds v at m ≡ true → is_direct m ≡ true → feeds v at n ≡ true → AreTwoForwards v m n
two_feed v at m n of_m direct of_n =
    let a = feeds_parts v at m of_m in
    let b = feeds_parts v at n of_n in
    let same : b.flow ≡ a.flow = same_Some _ _ (sym b.its ∙ a.its) in (
      record {
        bus = a.bus ∙ sym b.bus;
        flow = (
          at.flow,
          record {
            value = a.flow;
            value_is = subst (λ (c : ℕ). slice_get (flows_on v.buses.items c) at.flow ≡ Some a.flow) (sym a.bus) a.its;
            meets = (
              (Decides-is_output m a.flow).0 a.passes,
              (Decides-is_output n a.flow).0 (subst (λ (f : FlowPlan). is_output n f ≡ true) same b.passes),
            );
          },
        );
      },
      inl (inl ((Decides-is_direct m).0 direct)),
    )

-- where no two forwards feed a flow one of which is direct, a trace goes on by the direct one
pub one_feeder : (v : Vehicle) → AreFindings v [] → (p : Point) (n m : ℕ) (forward feeder : Forward) → next_forward v p ≡ Some n → forward_at v n ≡ Some forward
    → is_direct forward ≡ true → IsFeederAt v p.at feeder m → n ≡ m
one_feeder v none p n m forward feeder next there direct found =
    let feeding : feeds v p.at forward ≡ true = next_feeds v p n forward next there in
    elim (cases_lt n m) [
      | inl below ↦
          let at_place : get_or v.forwards.items n feeder ≡ forward = get_or_from_slice_get v.forwards.items n forward feeder there in
          let fails : is_direct_feeder v p.at forward ≡ false = subst (λ (x : Forward). is_direct_feeder v p.at x ≡ false) at_place (found.first n below) in
          absurd (true≢false (sym (and_from (feeds v p.at forward) (is_direct forward) feeding direct) ∙ fails))
      | inr not_below ↦ elim (cases_lt m n) [
        | inr not_above ↦ omega arith
        | inl below ↦
            let finding = none.complete (TwoForwards m n) (record {
              first = feeder;
              second = forward;
              below = below;
              first_is = found.its;
              second_is = there;
              related = two_feed v p.at feeder forward found.feeding found.direct feeding;
            }) in
            absurd (omega (arith, finding.1))
      ]
    ]

-- where the list has no value that passes, none passes at any place
pub none_passes : {A : Type 0} (test : A → Bool) (xs : List A) (n : ℕ) (x : A) → slice_get xs n ≡ Some x → position test xs ≡ None → test x ≡ false
none_passes test xs n x is none = elim (cases_lt (position_or_len test xs) (length xs)) [
  | inl inside ↦
      absurd (none-some (position_or_len test xs) (sym (subst (λ (b : Bool). cond b (Some (position_or_len test xs)) None ≡ None)
      (lt-ltb (position_or_len test xs) (length xs) inside) none)))
  | inr past ↦
      let below = slice_get_within xs n x is in
      subst (λ y. test y ≡ false) (get_or_from_slice_get xs n x x is) (fails_before_first test xs n x (omega (arith, past, below)))
]

-- a direct forward that feeds a flow is among those that do
pub fed_by : (v : Vehicle) (at : FlowAt) (n : ℕ) (forward : Forward) → feeds v at forward ≡ true → is_direct forward ≡ true → forward_at v n ≡ Some forward
    → direct_feeder v at ≡ None → ⊥
fed_by v at n forward feeding direct there none =
    let passes : is_direct_feeder v at forward ≡ true = and_from (feeds v at forward) (is_direct forward) feeding direct in
    some_cases (position (is_direct_feeder v at) v.forwards.items) ⊥
    (λ nowhere. true≢false (sym passes ∙ none_passes (is_direct_feeder v at) v.forwards.items n forward there nowhere))
    (λ m found.
    let inside = (position-Some (is_direct_feeder v at) v.forwards.items m forward found).0 in
    let its = slice_get-get_or v.forwards.items m forward inside in
    none-some (get_or v.forwards.items m forward) (sym none ∙ (ap (option_and_then (forward_at v)) found ∙ its)))

pub some_feeder : (v : Vehicle) (p : Point) (n : ℕ) (forward : Forward) → next_forward v p ≡ Some n → forward_at v n ≡ Some forward → is_direct forward ≡ true
    → direct_feeder v p.at ≡ None → ⊥
some_feeder v p n forward next there direct none = fed_by v p.at n forward (next_feeds v p n forward next there) direct there none

-- ---- the first input

put_on : (v : Vehicle) (forward : Forward) (t : Option ℕ) (q : Point) → behind_forward v t forward ≡ Some q → first_input_at v forward ≡ Some q.at
put_on v forward None q is =
    let (i, first, made) = map_some (λ (f : ℕ). point_on forward.input.bus f None) (first_input v forward) q is in
    ap (option_map (λ (f : ℕ). record { bus = forward.input.bus; flow = f })) first ∙ ap (λ (p : Point). Some p.at) made
put_on v forward (Some t) q is =
    let (i, first, rest) = and_then_some (λ (f : ℕ). option_map (λ (s : ℕ). point_on forward.input.bus f (Some s)) (goes_into v forward t))
    (first_input v forward) q is in
    let (s, into, made) = map_some (λ (s : ℕ). point_on forward.input.bus i (Some s)) (goes_into v forward t) q rest in
    ap (option_map (λ (f : ℕ). record { bus = forward.input.bus; flow = f })) first ∙ ap (λ (p : Point). Some p.at) made

pub goes_on_input : (v : Vehicle) (p q : Point) (n : ℕ) (forward : Forward) → forward_at v n ≡ Some forward → goes_on v p n ≡ Some q
    → first_input_at v forward ≡ Some q.at
goes_on_input v p q n forward there is =
    let (one, its, behind) = and_then_some (behind_forward v p.signal) (slice_get v.forwards.items n) q is in
    let same : one ≡ forward = same_Some _ _ (sym its ∙ there) in
    put_on v forward p.signal q (subst (λ (x : Forward). behind_forward v p.signal x ≡ Some q) same behind)
