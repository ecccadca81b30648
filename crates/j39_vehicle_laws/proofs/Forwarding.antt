-- What the tests of forwards and traces report: outputs, inputs, and signals that go into others.
use Rattle.std.proofs.Common.{◌≡◌, ℕ, ◌<◌, ◌==◌, ◌&&◌, [], true, false, if◌then◌else◌, Some, inl, inr, sym, refl, ap, ◌∙◌, subst, arith}
use Rattle.std.specs.List.{count_by, position, slice_get}
use Rattle.std.specs.Option.{option_and_then}
use Rattle.std.proofs.lemmas.Bool.{and_parts, cases_Bool, false≢true}
use Rattle.std.proofs.lemmas.Bool.Decides.{Decides-eqb}
use Rattle.std.proofs.lemmas.Option.{same_Some}
use Rattle.j39_signal.specs.declared.signal_parts.SignalParts.{SignalParts}
use Rattle.j39_search.specs.ListPlaces.{SomeMeets}
use Rattle.j39_network.specs.declared.plan.flow_plan.FlowPlan.{FlowPlan}
use Rattle.j39_network.specs.declared.plan.group_plan.GroupPlan.{GroupPlan}
use Rattle.j39_search.proofs.Deciding.{passing_meet}
use Rattle.j39_vehicle.specs.declared.vehicle.Vehicle.{Vehicle}
use Rattle.j39_vehicle.specs.declared.vehicle.forward.Forward.{Forward}
use Rattle.j39_vehicle.specs.declared.vehicle.forward.ForwardedSignal.{ForwardedSignal}
use Rattle.j39_vehicle_findings.specs.Buses.{group_at}
use Rattle.j39_vehicle_findings.specs.ForwardEnds.{Feeds, IsInput, input_flows, listed, output_flows}
use Rattle.j39_vehicle_findings.specs.ForwardTests.{copies, feeds, is_input, is_output}
use Rattle.j39_vehicle_findings.specs.Matching.{Agree, CanStandFor}
use Rattle.j39_vehicle_findings.specs.MatchTests.{agree, has}
use Rattle.j39_vehicle_findings.specs.Traces.{agreeing_in, carries, copied_into, first_agreeing, first_input, goes_into, next_forward, put_into}
use Rattle.j39_vehicle_findings.specs.VehicleFindings.{AreFindings, DiffersFrom, Holds}
use Rattle.j39_vehicle_findings.specs.declared.finding.VehicleFinding.{VehicleFinding}
use Rattle.j39_vehicle_findings.specs.declared.finding.VehicleFinding.TheVariants.{ManyInputs, SignalDiffers}
use Rattle.j39_vehicle_findings.specs.declared.point.FlowAt.{FlowAt}
use Rattle.j39_vehicle_findings.specs.declared.point.Point.{Point}
use Rattle.j39_vehicle_findings.proofs.Deciding.{Decides-agree, Decides-has, Decides-is_input, Decides-is_output}
use Rattle.j39_vehicle_laws.specs.Carrying.{listed_for}
use Rattle.j39_vehicle_laws.specs.Faithful.{signal_of}
use Rattle.j39_vehicle_laws.proofs.Places.{mapped_of, one_passes, parts_of, passed_of, position_at}

-- of a vehicle without findings nothing of a finding holds
pub nothing_holds : (v : Vehicle) → AreFindings v [] → (finding : VehicleFinding) → ¬ Holds v finding
nothing_holds v clean finding holds = let (n, less, is) = clean.complete finding holds in absurd (omega arith)

-- ---- outputs

pub feeding : (v : Vehicle) (at : FlowAt) (n : Forward) → feeds v at n ≡ true → Feeds v n at
feeding v at n is =
    let parts = and_parts _ _ is in
    let (flow, flow_is, passes) = passed_of (is_output n) (slice_get (output_flows v n) at.flow) parts.1 in
    ((Decides-eqb n.output.bus at.bus).0 parts.0, record { value = flow; value_is = flow_is; meets = (Decides-is_output n flow).0 passes })

-- the forward by which a trace goes on feeds its flow
pub next_feeds : (v : Vehicle) (p : Point) (place : ℕ) → next_forward v p ≡ Some place
    → (n : Forward) × (slice_get v.forwards.items place ≡ Some n) × Feeds v n p.at
next_feeds v p place is =
    let (n, its, passes) = position_at (λ n. feeds v p.at n && carries p.signal n) v.forwards.items place is in
    (n, its, feeding v p.at n (and_parts _ _ passes).0)

-- ---- inputs

pub first_is_input : (v : Vehicle) (n : Forward) (i : ℕ) → first_input v n ≡ Some i
    → (flow : FlowPlan) × (slice_get (input_flows v n) i ≡ Some flow) × IsInput v n flow
first_is_input v n i is =
    let (flow, its, passes) = position_at (is_input v n) (input_flows v n) i is in
    (flow, its, (Decides-is_input v n flow).0 passes)

-- a forward has one input
pub one_input : (v : Vehicle) → AreFindings v [] → (place : ℕ) (n : Forward) → slice_get v.forwards.items place ≡ Some n
    → (i j : ℕ) (x y : FlowPlan) → slice_get (input_flows v n) i ≡ Some x → slice_get (input_flows v n) j ≡ Some y
    → IsInput v n x → IsInput v n y → i ≡ j
one_input v clean place n its i j x y x_is y_is first second =
    let test = is_input v n in
    let few : ¬ (1 < count_by test (input_flows v n)) =
    λ more. nothing_holds v clean (ManyInputs place) (record {
      value = n;
      value_is = its;
      meets = (count_by test (input_flows v n), passing_meet (Decides-is_input v n) (input_flows v n), more);
    }) in
    one_passes test (input_flows v n) i j x y (omega (arith, few)) x_is y_is ((Decides-is_input v n x).1 first) ((Decides-is_input v n y).1 second)

-- ---- what goes into what

-- of what is put where it has to be exact, the one signal has the other
pub exact_has : (v : Vehicle) → AreFindings v [] → (place : ℕ) (n : Forward) → slice_get v.forwards.items place ≡ Some n
    → (k : ℕ) (f : ForwardedSignal) (s t : SignalParts) → slice_get (listed n) k ≡ Some f → f.exact ≡ true
    → signal_of v n.input f.read ≡ Some s → signal_of v n.output f.written ≡ Some t → CanStandFor s t
exact_has v clean place n its k f s t f_is exact s_is t_is =
    let (g, g_is, s_at) = parts_of (λ (group : GroupPlan). slice_get group.signals.items f.read) (group_at v.buses.items n.input) s s_is in
    let (h, h_is, t_at) = parts_of (λ (group : GroupPlan). slice_get group.signals.items f.written) (group_at v.buses.items n.output) t t_is in
    elim (cases_Bool (has s t)) [
      | inl holds ↦ (Decides-has s t).0 holds
      | inr fails ↦
          let hasnt : ¬ CanStandFor s t = λ h. false≢true (sym fails ∙ (Decides-has s t).1 h) in
          let differs : DiffersFrom g h f.written t f = inl (record { value = s; value_is = s_at; meets = inr (exact, hasnt) }) in
          let written : SomeMeets (λ e. (e.written ≡ f.written) × DiffersFrom g h f.written t e) (listed n) =
          (k, record { value = f; value_is = f_is; meets = (refl, differs) }) in
          absurd (nothing_holds v clean (SignalDiffers place f.written) (record {
            value = n;
            value_is = its;
            meets = record { g = g; g_is = g_is; h = h; h_is = h_is; related = record { value = t; value_is = t_at; meets = inr written } };
          }))
    ]

-- what goes into a signal of a copy agrees with it
pub copied_agrees : (v : Vehicle) (n : Forward) (j i : ℕ) (t : SignalParts) → copies n ≡ true → goes_into v n j ≡ Some i
    → signal_of v n.output j ≡ Some t → (s : SignalParts) × (signal_of v n.input i ≡ Some s) × Agree s t
copied_agrees v n j i t copy is t_is =
    let copied : copied_into v n j ≡ Some i = sym (ap (λ b. if b then copied_into v n j else put_into n j) copy) ∙ is in
    let (g, g_is, rest) =
    parts_of (λ g. option_and_then (λ h. agreeing_in g (slice_get h.signals.items j)) (group_at v.buses.items n.output))
    (group_at v.buses.items n.input) i copied in
    let (h, h_is, agreeing) = parts_of (λ (h : GroupPlan). agreeing_in g (slice_get h.signals.items j)) (group_at v.buses.items n.output) i rest in
    let (u, u_is, found) = parts_of (first_agreeing g) (slice_get h.signals.items j) i agreeing in
    let there : slice_get h.signals.items j ≡ Some t =
    sym (ap (option_and_then (λ (group : GroupPlan). slice_get group.signals.items j)) h_is) ∙ t_is in
    let same : u ≡ t = same_Some _ _ (sym u_is ∙ there) in
    let (s, s_at, agrees) = position_at (λ s. agree s u) g.signals.items i found in
    (s, ap (option_and_then (λ (group : GroupPlan). slice_get group.signals.items i)) g_is ∙ s_at, subst (Agree s) same ((Decides-agree s u).0 agrees))

-- what goes into a signal of another one is listed for it
pub put_is_listed : (v : Vehicle) (n : Forward) (j i : ℕ) → copies n ≡ false → goes_into v n j ≡ Some i
    → (k : ℕ) × (f : ForwardedSignal) × (slice_get (listed n) k ≡ Some f) × (f.written ≡ j) × (f.read ≡ i) × (listed_for n j ≡ Some f)
put_is_listed v n j i other is =
    let put : put_into n j ≡ Some i = sym (ap (λ b. if b then copied_into v n j else put_into n j) other) ∙ is in
    let (f, found, read) = mapped_of (λ (s : ForwardedSignal). s.read) (listed_for n j) i put in
    let (k, at, here) = parts_of (λ k. slice_get (listed n) k) (position (λ s. s.written == j) (listed n)) f found in
    let (e, e_is, passes) = position_at (λ (s : ForwardedSignal). s.written == j) (listed n) k at in
    let same : e ≡ f = same_Some _ _ (sym e_is ∙ here) in
    (k, f, here, ap (λ x. x.written) (sym same) ∙ (Decides-eqb e.written j).0 passes, read, found)
