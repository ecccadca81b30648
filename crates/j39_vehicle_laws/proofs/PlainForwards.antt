-- In the words of a vehicle file: what the tests of a vehicle without findings leave of its forwards.
use Rattle.std.proofs.Common.{◌≡◌, ◌≢◌, ℕ, ◌<◌, ◌≤◌, ◌==◌, ◌⊎◌, List, [], ◌∷◌, Bool, true, false, if◌then◌else◌, Option, Some, None, Decides}
use Rattle.std.proofs.Common.{inl, inr, refl, sym, ap, ◌∙◌, subst, arith}
use Rattle.std.specs.List.{count_by, position, slice_get}
use Rattle.std.specs.Option.{MatchOption, option_and_then, option_map_or}
use Rattle.std.proofs.lemmas.Bool.{cases_Bool, cases_lt, false≢true}
use Rattle.std.proofs.lemmas.Bool.Decides.{Decides-eqb}
use Rattle.std.proofs.lemmas.Option.{none-some, same_Some}
use Rattle.j39_signal.specs.declared.signal_parts.SignalParts.{SignalParts}
use Rattle.j39_search.specs.ListPlaces.{SomeMeets, ValueAt}
use Rattle.j39_search.proofs.Deciding.{passing_meet}
use Rattle.j39_network.specs.declared.plan.flow_plan.FlowPlan.{FlowPlan}
use Rattle.j39_network.specs.declared.plan.group_plan.GroupPlan.{GroupPlan}
use Rattle.j39_network.specs.declared.plan.queue.Queue.{Queue}
use Rattle.j39_network.specs.declared.plan.queue.Queue.TheVariants.{Any, Priority}
use Rattle.j39_vehicle.specs.declared.vehicle.Vehicle.{Vehicle}
use Rattle.j39_vehicle.specs.declared.vehicle.forward.Forward.{Forward}
use Rattle.j39_vehicle.specs.declared.vehicle.forward.ForwardedSignal.{ForwardedSignal}
use Rattle.j39_vehicle.specs.declared.vehicle.places.UnitAt.{UnitAt}
use Rattle.j39_vehicle_findings.specs.Buses.{flows_on, group_at, spn_at}
use Rattle.j39_vehicle_findings.specs.ForwardEnds.{Feeds, IsAmong, IsOutput, WriteOneSignal, Writes, listed, units_of_gateway}
use Rattle.j39_vehicle_findings.specs.ForwardTests.{copies}
use Rattle.j39_vehicle_findings.specs.Matching.{AreAlike, AreSameNumbers, AreSameUnits}
use Rattle.j39_vehicle_findings.specs.MatchTests.{are_alike}
use Rattle.j39_vehicle_findings.specs.Traces.{agreeing_in, copied_into, first_agreeing, goes_into, put_into}
use Rattle.j39_vehicle_findings.specs.VehicleFindings.{AreAtOdds, AreFindings, AreUnlike, DiffersFrom, HasAnyQueue, HasTwoUnits, IsOtherSignal}
use Rattle.j39_vehicle_findings.specs.declared.finding.VehicleFinding.TheVariants.{LayoutDiffers, SharedQueue, SignalDiffers, TwoForwards}
use Rattle.j39_vehicle_findings.specs.declared.point.FlowAt.{FlowAt}
use Rattle.j39_vehicle_findings.proofs.Deciding.{Decides-are_alike, Decides-copies}
use Rattle.j39_vehicle_laws.specs.PlainForwards.{CopiesHaveRecords, InputsAreNamed, MeansTheSame, PutsInto, SharedQueuesKeepOrder, SignalsMeanTheSame}
use Rattle.j39_vehicle_laws.specs.PlainForwards.{SourcesAreOne}
use Rattle.j39_vehicle_laws.proofs.Forwarding.{first_is_input, nothing_holds, put_is_listed}
use Rattle.j39_vehicle_laws.proofs.Places.{one_passes, parts_of}

-- what can't fail holds, where it can be tested
decided : {P : Type 0} (test : Bool) → Decides test P → ¬ (¬ P) → P
decided test decides fails_not = elim (cases_Bool test) [
  | inl passes ↦ decides.0 passes
  | inr fails ↦ absurd (fails_not (λ p. false≢true (sym fails ∙ decides.1 p)))
]

-- ---- what is heard

pub inputs_are_named : (v : Vehicle) → InputsAreNamed v
inputs_are_named v n i is =
    let (flow, its, input) = first_is_input v n i is in (
      flow,
      its,
      record {
        group = input.meets.group;
        sender = input.meets.from;
        other = λ gateway k own gateway_is own_is here same.
            let units : units_of_gateway v n.gateway ≡ gateway.units.items =
            ap (λ o. option_map_or (λ g. g.units.items) o []) gateway_is in
            let among : IsAmong gateway.units.items (record { bus = n.input.bus; unit = flow.sender }) =
            (k, record { value = own; value_is = own_is; meets = (here, same) }) in
            input.other (subst (λ us. IsAmong us (record { bus = n.input.bus; unit = flow.sender })) (sym units) among);
      },
    )

-- ---- what goes into what

same_every : (a b : Option ℕ) → (a ≡ b) ⊎ (¬ (a ≡ b))
same_every None None = inl refl
same_every None (Some b) = inr (λ e. none-some _ e)
same_every (Some a) None = inr (λ e. none-some _ (sym e))
same_every (Some a) (Some b) = elim (cases_Bool (a == b)) [
  | inl same ↦ inl (ap Some ((Decides-eqb a b).0 same))
  | inr other ↦ inr (λ e. false≢true (sym other ∙ (Decides-eqb a b).1 (same_Some _ _ e)))
]

pub copies_have_records : (v : Vehicle) → AreFindings v [] → CopiesHaveRecords v
copies_have_records v clean place n g h j t its copies g_is h_is t_is repeated = elim (same_every h.every g.every) [
  | inl same ↦ same
  | inr other ↦
      let some : SomeMeets (λ (u : SignalParts). u.repeated ≡ true) h.signals.items = (j, record { value = t; value_is = t_is; meets = repeated }) in
      absurd (nothing_holds v clean (LayoutDiffers place) (record {
        value = n;
        value_is = its;
        meets = (copies, record { g = g; g_is = g_is; h = h; h_is = h_is; related = inr (inr (inr (some, other))) });
      }))
]

-- signals that are alike mean the same
alike_means : (g : GroupPlan) (i : ℕ) (s : SignalParts) (h : GroupPlan) (j : ℕ) (t : SignalParts)
    → AreAlike s (spn_at g i) t (spn_at h j) → MeansTheSame g i s h j t
alike_means g i s h j t alike = record {
  unit = λ stated also. elim alike.units [
    | inl none ↦ absurd (stated none)
    | inr (inl none) ↦ absurd (also none)
    | inr (inr same) ↦ same
  ];
  number = λ a b a_is b_is. elim alike.numbers [
    | inl none ↦ absurd (none-some _ (sym none ∙ a_is))
    | inr (inl none) ↦ absurd (none-some _ (sym none ∙ b_is))
    | inr (inr same) ↦ same_Some _ _ (sym a_is ∙ same ∙ b_is)
  ];
}

-- nothing is said of the signal that is sent: it differs in nothing
nothing_differs : (v : Vehicle) → AreFindings v [] → (place : ℕ) (n : Forward) (g h : GroupPlan) (j : ℕ) (t : SignalParts)
    → slice_get v.forwards.items place ≡ Some n → group_at v.buses.items n.input ≡ Some g → group_at v.buses.items n.output ≡ Some h
    → slice_get h.signals.items j ≡ Some t → ¬ IsOtherSignal n g h j t
nothing_differs v clean place n g h j t its g_is h_is t_is other =
    nothing_holds v clean (SignalDiffers place j) (record {
      value = n;
      value_is = its;
      meets = record { g = g; g_is = g_is; h = h; h_is = h_is; related = record { value = t; value_is = t_is; meets = other } };
    })

-- of a copy the first signal that agrees goes into it
copied_from : (v : Vehicle) (n : Forward) (g h : GroupPlan) (i j : ℕ) (t : SignalParts) → copies n ≡ true → group_at v.buses.items n.input ≡ Some g
    → group_at v.buses.items n.output ≡ Some h → slice_get h.signals.items j ≡ Some t → goes_into v n j ≡ Some i → first_agreeing g t ≡ Some i
copied_from v n g h i j t copy g_is h_is t_is is =
    let copied : copied_into v n j ≡ Some i = sym (ap (λ b. if b then copied_into v n j else put_into n j) copy) ∙ is in
    let (x, x_is, rest) = parts_of (λ g. option_and_then (λ h. agreeing_in g (slice_get h.signals.items j)) (group_at v.buses.items n.output))
    (group_at v.buses.items n.input) i copied in
    let (y, y_is, agreeing) = parts_of (λ (h : GroupPlan). agreeing_in x (slice_get h.signals.items j)) (group_at v.buses.items n.output) i rest in
    let (u, u_is, found) = parts_of (first_agreeing x) (slice_get y.signals.items j) i agreeing in
    let same_g : x ≡ g = same_Some _ _ (sym x_is ∙ g_is) in
    let same_h : y ≡ h = same_Some _ _ (sym y_is ∙ h_is) in
    let same_t : u ≡ t = same_Some _ _ (sym u_is ∙ ap (λ (k : GroupPlan). slice_get k.signals.items j) same_h ∙ t_is) in
    sym (ap (λ (k : GroupPlan). first_agreeing k u) same_g ∙ ap (first_agreeing g) same_t) ∙ found

pub signals_mean_the_same : (v : Vehicle) → AreFindings v [] → SignalsMeanTheSame v
signals_mean_the_same v clean place n g h i j s t its g_is h_is s_is t_is is =
    let nothing = nothing_differs v clean place n g h j t its g_is h_is t_is in
    alike_means g i s h j t (decided (are_alike s (spn_at g i) t (spn_at h j)) (Decides-are_alike s (spn_at g i) t (spn_at h j)) (λ unlike.
    elim (cases_Bool (copies n)) [
      | inl copy ↦
          let first : first_agreeing g t ≡ Some i = copied_from v n g h i j t copy g_is h_is t_is is in
          nothing (inl (
            (Decides-copies n).0 copy,
            subst (λ o. MatchOption o (Unit {0}) (λ i. ValueAt (λ s. AreUnlike g i s h j t) g.signals.items i))
                (sym first) (record { value = s; value_is = s_is; meets = unlike }),
          ))
      | inr other ↦
          let (k, f, f_is, written, read, listed_is) = put_is_listed v n j i other is in
          let differs : DiffersFrom g h j t f = inl (record {
            value = s;
            value_is = ap (slice_get g.signals.items) read ∙ s_is;
            meets = inl (subst (λ r. AreUnlike g r s h j t) (sym read) unlike);
          }) in
          nothing (inr (k, record { value = f; value_is = f_is; meets = (written, differs) }))
    ]))

-- ---- several forwards

both_write : (first second : Forward) (t : ℕ) → Writes first t → Writes second t → WriteOneSignal first second
both_write first second t (k, at) writes =
    (k, record { value = at.value; value_is = at.value_is; meets = subst (Writes second) (sym at.meets) writes })

at_odds : (first second : Forward) (t : ℕ) → PutsInto first t → PutsInto second t → AreAtOdds first second
at_odds first second t (inl copies) puts = inr (inl (inl copies))
at_odds first second t (inr writes) (inl copies) = inr (inl (inr copies))
at_odds first second t (inr writes) (inr also) = inr (inr (both_write first second t writes also))

-- of two forwards, the first of which stands before the second
ordered_sources : (v : Vehicle) → AreFindings v [] → (m n : ℕ) (first second : Forward) (at : FlowAt) (t : ℕ) → m < n
    → slice_get v.forwards.items m ≡ Some first → slice_get v.forwards.items n ≡ Some second → Feeds v first at → Feeds v second at
    → PutsInto first t → ¬ PutsInto second t
ordered_sources v clean m n first second at t below first_is second_is (bus, one) (same_bus, other) puts also =
    let flows : flows_on v.buses.items second.output.bus ≡ flows_on v.buses.items first.output.bus = ap (flows_on v.buses.items) (same_bus ∙ sym bus) in
    let same : other.value ≡ one.value =
    same_Some _ _ (sym other.value_is ∙ ap (λ fs. slice_get fs at.flow) flows ∙ one.value_is) in
    nothing_holds v clean (TwoForwards m n) (record {
      first = first;
      second = second;
      below = below;
      first_is = first_is;
      second_is = second_is;
      related = (
        record {
          bus = bus ∙ sym same_bus;
          flow = (at.flow, record { value = one.value; value_is = one.value_is; meets = (one.meets, subst (IsOutput second) same other.meets) });
        },
        at_odds first second t puts also,
      );
    })

pub sources_are_one : (v : Vehicle) → AreFindings v [] → SourcesAreOne v
sources_are_one v clean m n first second at t first_is second_is apart one other puts also = elim (cases_lt m n) [
  | inl below ↦ ordered_sources v clean m n first second at t below first_is second_is one other puts also
  | inr above ↦ ordered_sources v clean n m second first at t (omega (arith, above, apart)) second_is first_is other one also puts
]

-- ---- queues

any_or_not : (q : Queue) → (q ≡ Priority) ⊎ (q ≡ Any)
any_or_not Priority = inl refl
any_or_not Any = inr refl

pub shared_queues_keep_order : (v : Vehicle) → AreFindings v [] → SharedQueuesKeepOrder v
shared_queues_keep_order v clean k gateway b bus timing i j u w unit gateway_is bus_is timed apart u_is w_is u_bus w_bus unit_is =
    elim (any_or_not unit.queue) [
      | inl keeps ↦ keeps
      | inr any ↦
          let here : UnitAt → Bool = λ x. x.bus == b in
          let many : ¬ (count_by here gateway.units.items ≤ 1) =
          λ few. apart (one_passes here gateway.units.items i j u w few u_is w_is ((Decides-eqb u.bus b).1 u_bus) ((Decides-eqb w.bus b).1 w_bus)) in
          let two : HasTwoUnits gateway b =
          (count_by here gateway.units.items, passing_meet (λ (x : UnitAt). Decides-eqb x.bus b) gateway.units.items, omega (arith, many)) in
          let queue : HasAnyQueue gateway b bus =
          (i, record { value = u; value_is = u_is; meets = (u_bus, record { value = unit; value_is = unit_is; meets = any }) }) in
          absurd (nothing_holds v clean (SharedQueue k b) (record {
            value = gateway;
            value_is = gateway_is;
            meets = record { value = bus; value_is = bus_is; meets = (λ none. none-some _ (sym none ∙ timed), two, queue) };
          }))
    ]
