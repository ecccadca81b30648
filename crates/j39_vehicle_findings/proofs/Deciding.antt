-- Each test of what forwards hear, send and carry decides its statement.
use Rattle.std.proofs.Common.{◌≡◌, ℕ, suc, zero, ◌+◌, ◌<◌, ◌==◌, ◌⊎◌, ◌↔◌, List, [], ◌∷◌, Bool, true, false, not, length}
use Rattle.std.proofs.Common.{nat_lt, Option, Some, None, Decides, refl, sym, ◌∙◌, ap, inl, inr, subst, arith}
use Rattle.std.specs.List.{count_by, slice_get}
use Rattle.std.specs.Option.{MatchOption, option_map_or}
use Rattle.std.proofs.lemmas.Bool.{false≢true, eqb-true}
use Rattle.std.proofs.lemmas.Bool.Decides.{Decides-eqb, Decides-and, Decides-or, Decides-not, Decides-like, Decides-ltb, Decides-int_eq}
use Rattle.std.proofs.lemmas.Option.{none-some, same_Some}
use Rattle.std.proofs.lemmas.Slice.Eq.{bytes_eq-Decides}
use Rattle.j39_signal.specs.declared.signal_parts.SignalParts.{SignalParts}
use Rattle.j39_signal.specs.Places.{SharesBit}
use Rattle.j39_signal.specs.declared.kind.Kind.{Kind}
use Rattle.j39_signal.specs.declared.kind.Kind.TheVariants.{Measured, Discrete, Raw, States, Signed, Dtc}
use Rattle.j39_signal.specs.declared.selector.Selector.{Selector}
use Rattle.j39_search.specs.ListPlaces.{SomeMeets, SoManyMeet, ValueAt}
use Rattle.j39_network.specs.declared.plan.flow_plan.FlowPlan.{FlowPlan}
use Rattle.j39_network.specs.declared.plan.group_plan.GroupPlan.{GroupPlan}
use Rattle.j39_network.specs.declared.plan.queue.Queue.{Queue}
use Rattle.j39_network.specs.declared.plan.queue.Queue.TheVariants.{Any, Priority}
use Rattle.j39_network.specs.declared.plan.timing.Timing.{Timing}
use Rattle.j39_network.specs.declared.plan.to.To.{To}
use Rattle.j39_network.specs.declared.plan.unit_plan.UnitPlan.{UnitPlan}
use Rattle.j39_network.proofs.Served.{Decides-meets, some_decides}
use Rattle.j39_signal.proofs.Sharing.{shared_by_test}
use Rattle.j39_search.proofs.Deciding.{meeting_pass}
use Rattle.j39_search.proofs.Deciding.{passing_meet}
use Rattle.j39_network.proofs.Served.{Decides-have_same_receiver}
use Rattle.j39_vehicle.specs.declared.vehicle.Vehicle.{Vehicle}
use Rattle.j39_vehicle.specs.declared.vehicle.bus_plan.BusPlan.{BusPlan}
use Rattle.j39_vehicle.specs.declared.vehicle.forward.Forward.{Forward}
use Rattle.j39_vehicle.specs.declared.vehicle.forward.ForwardedSignal.{ForwardedSignal}
use Rattle.j39_vehicle.specs.declared.vehicle.forward.Mode.{Mode}
use Rattle.j39_vehicle.specs.declared.vehicle.forward.Mode.TheVariants.{Direct, Periodic}
use Rattle.j39_vehicle.specs.declared.vehicle.gateway.Gateway.{Gateway}
use Rattle.j39_vehicle.specs.declared.vehicle.places.UnitAt.{UnitAt}
use Rattle.j39_vehicle.specs.declared.vehicle.vehicle_need.VehicleNeed.{VehicleNeed}
use Rattle.j39_vehicle_findings.specs.Buses.{group_at, requests_on, spn_at}
use Rattle.j39_vehicle_findings.specs.ForwardEnds.{Copies, IsAmong, IsDirect, IsFollowedBy, IsInput, IsOutput, WriteOneSignal, Writes, need_of_hearer}
use Rattle.j39_vehicle_findings.specs.ForwardEnds.{input_flows, listed}
use Rattle.j39_vehicle_findings.specs.ForwardEnds.{output_flows, units_of_gateway}
use Rattle.j39_vehicle_findings.specs.ForwardTests.{copies, goes_to_receiver, is_unit_among, is_direct, is_direct_mode, is_followed, is_input, is_output}
use Rattle.j39_vehicle_findings.specs.ForwardTests.{write_one_signal}
use Rattle.j39_vehicle_findings.specs.ForwardTests.{writes}
use Rattle.j39_vehicle_findings.specs.Matching.{Agree, AreAlike, AreSameNumbers, AreSameUnits, CanStandFor, IsAlwaysValue, has_values_of}
use Rattle.j39_vehicle_findings.specs.MatchTests.{agree, are_alike, are_same_numbers, are_same_units, has, is_always_value, is_trouble_code, kind_number}
use Rattle.j39_vehicle_findings.specs.MatchTests.{same_flag}
use Rattle.j39_vehicle_findings.specs.MatchTests.{signal_width_fits}
use Rattle.j39_vehicle_findings.specs.Traces.{IsNeedFlow, first_agreeing, flows_of_need, is_from_origin, need_on_bus}
use Rattle.j39_vehicle_findings.specs.VehicleFindings.{AreTwoForwards, AreUnlike, CopiesOtherLayout, DiffersFrom, GroupsMeet, HasAnyQueue, HasManyInputs}
use Rattle.j39_vehicle_findings.specs.VehicleFindings.{HasManyOutputs}
use Rattle.j39_vehicle_findings.specs.VehicleFindings.{HasNoInput, HasNoOutput, HaveOtherLayouts, IsCopiedOtherwise, IsNeedUnmet, IsOtherSignal, IsSelector}
use Rattle.j39_vehicle_findings.specs.VehicleFindings.{IsWrittenOtherwise, MayShareQueue}
use Rattle.j39_vehicle_findings.specs.FoundPaths.{are_two_forwards, are_unlike, copies_other_layout, differs_from, has_any_queue, has_many_inputs}
use Rattle.j39_vehicle_findings.specs.FoundPaths.{has_many_outputs}
use Rattle.j39_vehicle_findings.specs.FoundPaths.{has_no_input, has_no_output, have_other_layouts, is_any_queue, is_copied_otherwise, is_in_selector}
use Rattle.j39_vehicle_findings.specs.FoundPaths.{is_need_flow}
use Rattle.j39_vehicle_findings.specs.FoundPaths.{is_need_unmet, is_other_signal, is_selector, is_written_otherwise, may_share_queue, same_byte, some_at}

pub it_is : (b : Bool) → Decides b (b ≡ true)
it_is b = (λ e. e, λ e. e)

-- ---- lists

-- more than one value meets the statement
many_decides : {A : Type 0} {test : A → Bool} (P : A → Type 0) → ((x : A) → Decides (test x) (P x)) → (xs : List A)
    → Decides (nat_lt 1 (count_by test xs)) ((count : ℕ) × SoManyMeet P xs count × (1 < count))
many_decides {test = test} P by xs = (
  λ e. (count_by test xs, passing_meet by xs, (Decides-ltb 1 (count_by test xs)).0 e),
  λ h.
      let is : h.0 ≡ count_by test xs = meeting_pass by xs h.0 h.1 in
      let more : 1 < count_by test xs = subst (λ n. 1 < n) is h.2 in
      (Decides-ltb 1 (count_by test xs)).1 more,
)

value_decides : {A : Type 0} {test : A → Bool} (P : A → Type 0) → ((x : A) → Decides (test x) (P x)) → (xs : List A) (i : ℕ) (o : Option A)
    → slice_get xs i ≡ o → Decides (option_map_or test o false) (ValueAt P xs i)
value_decides P by xs i None is = (λ e. absurd (false≢true e), λ v. absurd (none-some _ (sym is ∙ v.value_is)))
value_decides P by xs i (Some x) is =
    Decides-like _ (λ h. record { value = x; value_is = is; meets = h })
    (λ v. subst P (same_Some _ _ (sym v.value_is ∙ is)) v.meets) (by x)

-- ---- inputs and outputs

among_decides : (units : List UnitAt) (bus unit : ℕ) → Decides (is_unit_among units bus unit) (IsAmong units (record { bus = bus; unit = unit }))
among_decides units bus unit =
    some_decides (λ w. (w.bus ≡ bus) × (w.unit ≡ unit)) (λ w. Decides-and _ _ (Decides-eqb w.bus bus) (Decides-eqb w.unit unit)) units

pub Decides-is_input : (v : Vehicle) (n : Forward) (f : FlowPlan) → Decides (is_input v n f) (IsInput v n f)
Decides-is_input v n f =
    Decides-like _ (λ h. record { meets = h.0; other = h.1 }) (λ m. (m.meets, m.other))
    (Decides-and _ _ (Decides-meets (requests_on v.buses.items n.input.bus) (need_of_hearer n) f)
    (Decides-not _ (among_decides (units_of_gateway v n.gateway) n.input.bus f.sender)))

goes_to_decides : (o : Option To) (to : To) → Decides (goes_to_receiver o to) ((receiver : To) → o ≡ Some receiver → to ≡ receiver)
goes_to_decides None to = (λ e u is. absurd (none-some _ is), λ h. refl)
goes_to_decides (Some receiver) to = Decides-like _ (λ e u is. e ∙ same_Some _ _ is) (λ h. h receiver refl) (Decides-have_same_receiver to receiver)

pub Decides-is_output : (n : Forward) (f : FlowPlan) → Decides (is_output n f) (IsOutput n f)
Decides-is_output n f =
    Decides-like _ (λ h. record { group = h.0; sender = h.1.0; to = h.1.1 }) (λ m. (m.group, (m.sender, m.to)))
    (Decides-and _ _ (Decides-eqb f.group n.output.group) (Decides-and _ _ (Decides-eqb f.sender n.sender) (goes_to_decides n.to f.to)))

none_decides : {A : Type 0} (o : Option A) → Decides (option_map_or (λ x. false) o true) (o ≡ None)
none_decides None = (λ e. refl, λ e. refl)
none_decides (Some x) = (λ e. absurd (false≢true e), λ e. absurd (none-some _ (sym e)))

pub Decides-copies : (n : Forward) → Decides (copies n) (Copies n)
Decides-copies n = none_decides n.signals

pub Decides-writes : (n : Forward) (t : ℕ) → Decides (writes n t) (Writes n t)
Decides-writes n t = some_decides (λ s. s.written ≡ t) (λ s. Decides-eqb s.written t) (listed n)

Decides-write_one_signal : (n m : Forward) → Decides (write_one_signal n m) (WriteOneSignal n m)
Decides-write_one_signal n m = some_decides (λ s. Writes m s.written) (λ s. Decides-writes m s.written) (listed n)

mode_decides : (mode : Mode) → Decides (is_direct_mode mode) (mode ≡ Direct)
mode_decides Direct = (λ e. refl, λ e. refl)
mode_decides Periodic = (λ e. absurd (false≢true e), λ e. cc)

pub Decides-is_direct : (n : Forward) → Decides (is_direct n) (IsDirect n)
Decides-is_direct n = mode_decides n.mode

pub Decides-is_followed : (v : Vehicle) (n m : Forward) → Decides (is_followed v n m) (IsFollowedBy v n m)
Decides-is_followed v n m =
    Decides-like _ (λ h. record { bus = h.0; flow = h.1.1 })
    (λ followed. (followed.bus, (sym followed.flow.1.meets.0.group ∙ followed.flow.1.meets.1.meets.group, followed.flow)))
    (Decides-and _ _ (Decides-eqb n.output.bus m.input.bus) (Decides-and _ _ (Decides-eqb n.output.group m.input.group)
    (some_decides (λ f. IsOutput n f × IsInput v m f) (λ f. Decides-and _ _ (Decides-is_output n f) (Decides-is_input v m f)) (output_flows v n))))

pub Decides-has_no_input : (v : Vehicle) (n : Forward) → Decides (has_no_input v n) (HasNoInput v n)
Decides-has_no_input v n = Decides-not _ (some_decides (IsInput v n) (Decides-is_input v n) (input_flows v n))

pub Decides-has_many_inputs : (v : Vehicle) (n : Forward) → Decides (has_many_inputs v n) (HasManyInputs v n)
Decides-has_many_inputs v n = many_decides (IsInput v n) (Decides-is_input v n) (input_flows v n)

pub Decides-has_no_output : (v : Vehicle) (n : Forward) → Decides (has_no_output v n) (HasNoOutput v n)
Decides-has_no_output v n = Decides-not _ (some_decides (IsOutput n) (Decides-is_output n) (output_flows v n))

pub Decides-has_many_outputs : (v : Vehicle) (n : Forward) → Decides (has_many_outputs v n) (HasManyOutputs v n)
Decides-has_many_outputs v n = many_decides (IsOutput n) (Decides-is_output n) (output_flows v n)

-- ---- layouts

is_selector_decides : (w : Selector) (o : Option Selector) → Decides (is_selector w o) (IsSelector w o)
is_selector_decides w None = (λ e. absurd (false≢true e), λ h. absurd h)
is_selector_decides w (Some u) =
    Decides-like _ (λ h. (h.0, h.1.0, h.1.1)) (λ h. (h.0, (h.1, h.2)))
    (Decides-and _ _ (Decides-eqb w.start u.start) (Decides-and _ _ (Decides-eqb w.bits u.bits) (Decides-eqb w.value u.value)))

other_selector_decides : (o p : Option Selector)
    → Decides (option_map_or (λ w. not (is_selector w p)) o false) ((w : Selector) × (o ≡ Some w) × (¬ IsSelector w p))
other_selector_decides None p = (λ e. absurd (false≢true e), λ h. absurd (none-some _ h.1))
other_selector_decides (Some u) p =
    Decides-like _ (λ no. (u, refl, no)) (λ h. subst (λ x. ¬ IsSelector x p) (sym (same_Some _ _ h.1)) h.2) (Decides-not _ (is_selector_decides u p))

same_byte_decides : (a b : Option ℕ) → Decides (same_byte a b) (a ≡ b)
same_byte_decides None None = (λ e. refl, λ e. refl)
same_byte_decides None (Some b) = (λ e. absurd (false≢true e), λ e. absurd (none-some _ e))
same_byte_decides (Some a) None = (λ e. absurd (false≢true e), λ e. absurd (none-some _ (sym e)))
same_byte_decides (Some a) (Some b) = Decides-like _ (λ e. ap Some e) (λ e. same_Some _ _ e) (Decides-eqb a b)

other_layouts_decide : (g h : GroupPlan) → Decides (have_other_layouts g h) (HaveOtherLayouts g h)
other_layouts_decide g h =
    Decides-or _ _ (Decides-ltb g.length h.length) (Decides-or _ _ (Decides-ltb h.most g.most)
    (Decides-or _ _ (other_selector_decides h.when g.when)
    (Decides-and _ _ (some_decides (λ t. t.repeated ≡ true) (λ t. it_is t.repeated) h.signals.items) (Decides-not _ (same_byte_decides h.every g.every)))))

groups_decide : (v : Vehicle) (n : Forward) {test : GroupPlan → GroupPlan → Bool} (R : GroupPlan → GroupPlan → Type 0)
    → ((g h : GroupPlan) → Decides (test g h) (R g h)) → (a b : Option GroupPlan)
    → group_at v.buses.items n.input ≡ a → group_at v.buses.items n.output ≡ b
    → Decides (option_map_or (λ g. option_map_or (test g) b false) a false) (GroupsMeet v n R)
groups_decide v n R by None b is_a is_b = (λ e. absurd (false≢true e), λ m. absurd (none-some _ (sym is_a ∙ m.g_is)))
groups_decide v n R by (Some g) None is_a is_b = (λ e. absurd (false≢true e), λ m. absurd (none-some _ (sym is_b ∙ m.h_is)))
groups_decide v n R by (Some g) (Some h) is_a is_b =
    Decides-like _ (λ r. record { g = g; g_is = is_a; h = h; h_is = is_b; related = r })
    (λ m.
    let same_g = same_Some _ _ (sym m.g_is ∙ is_a) in
    let same_h = same_Some _ _ (sym m.h_is ∙ is_b) in
    subst (λ x. R x h) same_g (subst (λ y. R m.g y) same_h m.related)) (by g h)

pub Decides-copies_other_layout : (v : Vehicle) (n : Forward) → Decides (copies_other_layout v n) (CopiesOtherLayout v n)
Decides-copies_other_layout v n =
    Decides-and _ _ (Decides-copies n)
    (groups_decide v n HaveOtherLayouts other_layouts_decide (group_at v.buses.items n.input) (group_at v.buses.items n.output) refl refl)

-- ---- signals

kind_of : ℕ → Kind
kind_of zero = Measured
kind_of (suc zero) = Discrete
kind_of (suc (suc zero)) = Raw
kind_of (suc (suc (suc zero))) = States
kind_of (suc (suc (suc (suc zero)))) = Signed
kind_of (suc (suc (suc (suc (suc n))))) = Dtc

kind_back : (k : Kind) → kind_of (kind_number k) ≡ k
unfolding kind_of
kind_back Measured = refl
kind_back Discrete = refl
kind_back Raw = refl
kind_back States = refl
kind_back Signed = refl
kind_back Dtc = refl

same_kind_decides : (a b : Kind) → Decides (kind_number a == kind_number b) (a ≡ b)
same_kind_decides a b =
    Decides-like _ (λ e. sym (kind_back a) ∙ ap kind_of e ∙ kind_back b) (λ e. ap kind_number e) (Decides-eqb (kind_number a) (kind_number b))

same_flag_decides : (a b : Bool) → Decides (same_flag a b) (a ≡ b)
same_flag_decides true b = (λ e. sym e, λ e. sym e)
same_flag_decides false true = (λ e. absurd (false≢true e), λ e. absurd (false≢true e))
same_flag_decides false false = (λ e. refl, λ e. refl)

pub Decides-agree : (s t : SignalParts) → Decides (agree s t) (Agree s t)
Decides-agree s t =
    Decides-like _
    (λ h. record {
      start = h.0;
      bits = h.1.0;
      kind = h.1.1.0;
      step = h.1.1.1.0.0;
      offset = h.1.1.1.0.1.0;
      per = h.1.1.1.0.1.1;
      repeated = h.1.1.1.1;
    })
    (λ m. (m.start, (m.bits, (m.kind, ((m.step, (m.offset, m.per)), m.repeated)))))
    (Decides-and _ _ (Decides-eqb s.start t.start) (Decides-and _ _ (Decides-eqb s.bits t.bits)
    (Decides-and _ _ (same_kind_decides s.kind t.kind)
    (Decides-and _ _
    (Decides-and _ _ (Decides-eqb s.step t.step) (Decides-and _ _ (Decides-int_eq s.offset t.offset) (Decides-eqb s.per t.per)))
    (same_flag_decides s.repeated t.repeated)))))

empty_decides : (xs : List ℕ) → Decides (length xs == 0) (xs ≡ [])
empty_decides [] = (λ e. refl, λ e. refl)
empty_decides (x ∷ xs) =
    (λ e. let none : length (x ∷ xs) ≡ 0 = eqb-true (length (x ∷ xs)) 0 e in absurd (omega (arith, none)), λ e. cc)

units_decide : (a b : List ℕ) → Decides (are_same_units a b) (AreSameUnits a b)
units_decide a b = Decides-or _ _ (empty_decides a) (Decides-or _ _ (empty_decides b) (bytes_eq-Decides a b))

numbers_decide : (a b : Option ℕ) → Decides (are_same_numbers a b) (AreSameNumbers a b)
numbers_decide None b = (λ e. inl refl, λ h. refl)
numbers_decide (Some a) None = (λ e. inr (inl refl), λ h. refl)
numbers_decide (Some a) (Some b) = (
  λ e. inr (inr (ap Some ((Decides-eqb a b).0 e))),
  λ h. elim h [
    | inl none ↦ absurd (none-some _ (sym none))
    | inr more ↦ elim more [ inl none ↦ absurd (none-some _ (sym none)) | inr same ↦ (Decides-eqb a b).1 (same_Some _ _ same) ]
  ],
)

code_decides : (k : Kind) → Decides (is_trouble_code k) (k ≡ Dtc)
code_decides Measured = (λ e. absurd (false≢true e), λ e. cc)
code_decides Discrete = (λ e. absurd (false≢true e), λ e. cc)
code_decides Raw = (λ e. absurd (false≢true e), λ e. cc)
code_decides States = (λ e. absurd (false≢true e), λ e. cc)
code_decides Signed = (λ e. absurd (false≢true e), λ e. cc)
code_decides Dtc = (λ e. refl, λ e. refl)

both_decide : {P Q : Type 0} (a b : Bool) → Decides a P → Decides b Q → Decides (same_flag a b) (P ↔ Q)
both_decide true b p q = (λ e. (λ u. q.0 e, λ u. p.0 refl), λ h. q.1 (h.0 (p.0 refl)))
both_decide false true p q = (λ e. absurd (false≢true e), λ h. absurd (false≢true (p.1 (h.1 (q.0 refl)))))
both_decide false false p q = (λ e. (λ u. absurd (false≢true (p.1 u)), λ u. absurd (false≢true (q.1 u))), λ h. refl)

pub Decides-are_alike : (s : SignalParts) (m : Option ℕ) (t : SignalParts) (n : Option ℕ) → Decides (are_alike s m t n) (AreAlike s m t n)
Decides-are_alike s m t n =
    Decides-like _ (λ h. record { units = h.0; numbers = h.1.0; codes = h.1.1 }) (λ a. (a.units, (a.numbers, a.codes)))
    (Decides-and _ _ (units_decide s.unit.bytes t.unit.bytes)
    (Decides-and _ _ (numbers_decide m n) (both_decide (is_trouble_code s.kind) (is_trouble_code t.kind) (code_decides s.kind) (code_decides t.kind))))

always_decides : (k : Kind) → Decides (is_always_value k) (IsAlwaysValue k)
always_decides Measured = (λ e. absurd (false≢true e), λ h. elim h [ inl e ↦ cc | inr e ↦ cc ])
always_decides Discrete = (λ e. absurd (false≢true e), λ h. elim h [ inl e ↦ cc | inr e ↦ cc ])
always_decides Raw = (λ e. inl refl, λ h. refl)
always_decides States = (λ e. absurd (false≢true e), λ h. elim h [ inl e ↦ cc | inr e ↦ cc ])
always_decides Signed = (λ e. inr refl, λ h. refl)
always_decides Dtc = (λ e. absurd (false≢true e), λ h. elim h [ inl e ↦ cc | inr e ↦ cc ])

pub Decides-has : (s t : SignalParts) → Decides (has s t) (CanStandFor s t)
Decides-has s t =
    Decides-like _ (λ h. record { s_width = h.0; t_width = h.1.0; unset = h.1.1.0; values = h.1.1.1 })
    (λ m. (m.s_width, (m.t_width, (m.unset, m.values))))
    (Decides-and _ _ (it_is (signal_width_fits s)) (Decides-and _ _ (it_is (signal_width_fits t))
    (Decides-and _ _
    (Decides-not _ (Decides-and _ _ (always_decides t.kind)
    (Decides-or _ _ (Decides-not _ (always_decides s.kind)) (it_is s.optional))))
    (it_is (has_values_of s t)))))

unlike_decides : (g : GroupPlan) (i : ℕ) (s : SignalParts) (h : GroupPlan) (j : ℕ) (t : SignalParts) → Decides (are_unlike g i s h j t) (AreUnlike g i s h j t)
unlike_decides g i s h j t = Decides-not _ (Decides-are_alike s (spn_at g i) t (spn_at h j))

match_decides : {A : Type 0} {test : A → Bool} (P : A → Type 0) → ((x : A) → Decides (test x) (P x)) → (o : Option A)
    → Decides (option_map_or test o true) (MatchOption o (Unit {0}) P)
match_decides P by None = (λ e. tt, λ h. refl)
match_decides P by (Some x) = by x

copied_decides : (g h : GroupPlan) (j : ℕ) (t : SignalParts) → Decides (is_copied_otherwise g h j t) (IsCopiedOtherwise g h j t)
copied_decides g h j t =
    match_decides (λ i. ValueAt (λ s. AreUnlike g i s h j t) g.signals.items i)
    (λ i. value_decides (λ s. AreUnlike g i s h j t) (λ s. unlike_decides g i s h j t) g.signals.items i (slice_get g.signals.items i) refl)
    (first_agreeing g t)

selector_shares : (t : SignalParts) (o : Option Selector)
    → Decides (option_map_or (λ w. is_in_selector t w) o false)
    ((w : Selector) × (o ≡ Some w) × SharesBit t (record t { start = w.start; bits = w.bits }))
selector_shares t None = (λ e. absurd (false≢true e), λ h. absurd (none-some _ h.1))
selector_shares t (Some w) =
    Decides-like _ (λ s. (w, refl, s))
    (λ h. subst (λ (x : Selector). SharesBit t (record t { start = x.start; bits = x.bits })) (sym (same_Some _ _ h.1)) h.2)
    (shared_by_test t (record t { start = w.start; bits = w.bits }))

source_decides : (g h : GroupPlan) (j : ℕ) (t : SignalParts) (f : ForwardedSignal) → Decides (differs_from g h j t f) (DiffersFrom g h j t f)
source_decides g h j t f =
    Decides-or _ _
    (value_decides (λ s. AreUnlike g f.read s h j t ⊎ ((f.exact ≡ true) × (¬ CanStandFor s t)))
    (λ s. Decides-or _ _ (unlike_decides g f.read s h j t) (Decides-and _ _ (it_is f.exact) (Decides-not _ (Decides-has s t))))
    g.signals.items f.read (slice_get g.signals.items f.read) refl) (selector_shares t h.when)

written_decides : (n : Forward) (g h : GroupPlan) (j : ℕ) (t : SignalParts) → Decides (is_written_otherwise n g h j t) (IsWrittenOtherwise n g h j t)
written_decides n g h j t =
    some_decides (λ f. (f.written ≡ j) × DiffersFrom g h j t f) (λ f. Decides-and _ _ (Decides-eqb f.written j) (source_decides g h j t f)) (listed n)

pub Decides-is_other_signal : (n : Forward) (g h : GroupPlan) (j : ℕ) (t : SignalParts) → Decides (is_other_signal n g h j t) (IsOtherSignal n g h j t)
Decides-is_other_signal n g h j t =
    Decides-or _ _ (Decides-and _ _ (Decides-copies n) (copied_decides g h j t)) (written_decides n g h j t)

-- ---- several forwards

one_group : {n m : Forward} {flows : List FlowPlan} → SomeMeets (λ f. IsOutput n f × IsOutput m f) flows → n.output.group ≡ m.output.group
one_group (i, at) = sym at.meets.0.group ∙ at.meets.1.group

one_sender : {n m : Forward} {flows : List FlowPlan} → SomeMeets (λ f. IsOutput n f × IsOutput m f) flows → n.sender ≡ m.sender
one_sender (i, at) = sym at.meets.0.sender ∙ at.meets.1.sender

pub Decides-are_two_forwards : (v : Vehicle) (n m : Forward) → Decides (are_two_forwards v n m) (AreTwoForwards v n m)
Decides-are_two_forwards v n m =
    Decides-and _ _
    (Decides-like _ (λ h. record { bus = h.0; flow = h.1.1.1 }) (λ o. (o.bus, (one_group o.flow, (one_sender o.flow, o.flow))))
    (Decides-and _ _ (Decides-eqb n.output.bus m.output.bus) (Decides-and _ _ (Decides-eqb n.output.group m.output.group)
    (Decides-and _ _ (Decides-eqb n.sender m.sender)
    (some_decides (λ f. IsOutput n f × IsOutput m f) (λ f. Decides-and _ _ (Decides-is_output n f) (Decides-is_output m f)) (output_flows v n))))))
    (Decides-or _ _ (Decides-or _ _ (Decides-is_direct n) (Decides-is_direct m))
    (Decides-or _ _ (Decides-or _ _ (Decides-copies n) (Decides-copies m)) (Decides-write_one_signal n m)))

-- ---- needs

-- some value from place i on, at its place, meets the statement
some_at_from : {A : Type 0} (P : ℕ → A → Type 0) (i : ℕ) (x : A) (xs : List A)
    → P i x ⊎ ((k : ℕ) × ValueAt (P (i + 1 + k)) xs k) → (k : ℕ) × ValueAt (P (i + k)) (x ∷ xs) k
some_at_from P i x xs (inl here) =
    let at : i ≡ i + 0 = omega arith in
    (0, record { value = x; value_is = refl; meets = subst (λ n. P n x) at here })
some_at_from P i x xs (inr (k, v)) =
    let at : i + 1 + k ≡ i + suc k = omega arith in
    (suc k, record { value = v.value; value_is = v.value_is; meets = subst (λ n. P n v.value) at v.meets })

some_at_parts : {A : Type 0} (P : ℕ → A → Type 0) (i : ℕ) (x : A) (xs : List A)
    → (k : ℕ) × ValueAt (P (i + k)) (x ∷ xs) k → P i x ⊎ ((k : ℕ) × ValueAt (P (i + 1 + k)) xs k)
some_at_parts P i x xs (zero, v) =
    let at : i + 0 ≡ i = omega arith in
    inl (subst (λ n. P n x) at (subst (P (i + 0)) (sym (same_Some _ _ v.value_is)) v.meets))
some_at_parts P i x xs (suc k, v) =
    let at : i + suc k ≡ i + 1 + k = omega arith in
    inr (k, record { value = v.value; value_is = v.value_is; meets = subst (λ n. P n v.value) at v.meets })

some_at_decides : {A : Type 0} {test : ℕ → A → Bool} (P : ℕ → A → Type 0) → ((k : ℕ) (x : A) → Decides (test k x) (P k x)) → (i : ℕ) (xs : List A)
    → Decides (some_at test i xs) ((k : ℕ) × ValueAt (P (i + k)) xs k)
unfolding some_at
some_at_decides P by i [] = (λ e. absurd (false≢true e), λ (k, v). absurd (none-some _ v.value_is))
some_at_decides P by i (x ∷ xs) =
    Decides-like _ (some_at_from P i x xs) (some_at_parts P i x xs) (Decides-or _ _ (by i x) (some_at_decides P by (i + 1) xs))

from_first : {A : Type 0} (P : ℕ → A → Type 0) (xs : List A) (k : ℕ) → ValueAt (P (0 + k)) xs k → ValueAt (P k) xs k
from_first P xs k v = let at : 0 + k ≡ k = omega arith in record { value = v.value; value_is = v.value_is; meets = subst (λ n. P n v.value) at v.meets }

to_first : {A : Type 0} (P : ℕ → A → Type 0) (xs : List A) (k : ℕ) → ValueAt (P k) xs k → ValueAt (P (0 + k)) xs k
to_first P xs k v = let at : k ≡ 0 + k = omega arith in record { value = v.value; value_is = v.value_is; meets = subst (λ n. P n v.value) at v.meets }

pub need_flow_decides : (v : Vehicle) (d : VehicleNeed) (f : ℕ) (flow : FlowPlan) → Decides (is_need_flow v d f flow) (IsNeedFlow v d f flow)
need_flow_decides v d f flow =
    Decides-like _ (λ h. record { meets = h.0; from = h.1 }) (λ m. (m.meets, m.from))
    (Decides-and _ _ (Decides-meets (requests_on v.buses.items d.unit.bus) (need_on_bus d) flow) (it_is (is_from_origin v d f)))

pub Decides-is_need_unmet : (v : Vehicle) (d : VehicleNeed) → Decides (is_need_unmet v d) (IsNeedUnmet v d)
Decides-is_need_unmet v d =
    Decides-not _ (Decides-like _ (λ h. (h.0, from_first (IsNeedFlow v d) (flows_of_need v d) h.0 h.1))
    (λ h. (h.0, to_first (IsNeedFlow v d) (flows_of_need v d) h.0 h.1))
    (some_at_decides (IsNeedFlow v d) (need_flow_decides v d) 0 (flows_of_need v d)))

-- ---- queues

queue_decides : (q : Queue) → Decides (is_any_queue q) (q ≡ Any)
queue_decides Any = (λ e. refl, λ e. refl)
queue_decides Priority = (λ e. absurd (false≢true e), λ e. cc)

timing_decides : (o : Option Timing) → Decides (option_map_or (λ t. true) o false) (¬ (o ≡ None))
timing_decides None = (λ e. absurd (false≢true e), λ h. absurd (h refl))
timing_decides (Some t) = (λ e is. absurd (none-some _ (sym is)), λ h. refl)

any_queue_decides : (gateway : Gateway) (b : ℕ) (bus : BusPlan) → Decides (has_any_queue gateway b bus) (HasAnyQueue gateway b bus)
any_queue_decides gateway b bus =
    some_decides (λ (u : UnitAt). (u.bus ≡ b) × ValueAt (λ (w : UnitPlan). w.queue ≡ Any) bus.plan.units.items u.unit)
    (λ u. Decides-and _ _ (Decides-eqb u.bus b)
    (value_decides (λ (w : UnitPlan). w.queue ≡ Any) (λ w. queue_decides w.queue) bus.plan.units.items u.unit (slice_get bus.plan.units.items u.unit) refl))
    gateway.units.items

pub Decides-may_share_queue : (gateway : Gateway) (b : ℕ) (bus : BusPlan) → Decides (may_share_queue gateway b bus) (MayShareQueue gateway b bus)
Decides-may_share_queue gateway b bus =
    Decides-like _ (λ h. (h.0, h.1.0, h.1.1)) (λ h. (h.0, (h.1, h.2)))
    (Decides-and _ _ (timing_decides bus.plan.timing)
    (Decides-and _ _ (many_decides (λ (u : UnitAt). u.bus ≡ b) (λ u. Decides-eqb u.bus b) gateway.units.items) (any_queue_decides gateway b bus)))
