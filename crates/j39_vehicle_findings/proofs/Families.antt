-- What each part of the list of findings has: what holds, in order.
use Rattle.std.proofs.Common.{◌≡◌, ℕ, List, [], Option, None}
use Rattle.std.proofs.Common.{Some, Contains, refl, sym, subst, arith}
use Rattle.std.specs.Option.{option_map_or}
use Rattle.j39_search.specs.ListPlaces.{in_each, ValueAt}
use Rattle.j39_network.specs.declared.plan.group_plan.GroupPlan.{GroupPlan}
use Rattle.j39_search.proofs.Families.{Covers as CoversPart, Covers-append, Order, each_family, inside_family, named_first, of_placed, pairs_family, placed}
use Rattle.j39_search.proofs.Families.{placed_of, placed_rise}
use Rattle.j39_search.proofs.Rising.{Rises}
use Rattle.j39_vehicle.specs.declared.vehicle.Vehicle.{Vehicle}
use Rattle.j39_vehicle.specs.declared.vehicle.forward.Forward.{Forward}
use Rattle.j39_vehicle.specs.declared.vehicle.gateway.Gateway.{Gateway}
use Rattle.j39_vehicle_findings.specs.Buses.{group_at}
use Rattle.j39_vehicle_findings.specs.VehicleFindings.{AreTwoForwards, CopiesOtherLayout, HasManyInputs, HasManyOutputs, HasNoInput, HasNoOutput, Holds}
use Rattle.j39_vehicle_findings.specs.VehicleFindings.{IsBefore}
use Rattle.j39_vehicle_findings.specs.VehicleFindings.{IsNeedUnmet, IsOtherSignal, MayShareQueue, SignalIsOther, finding_number, places_of}
use Rattle.j39_vehicle_findings.specs.FoundPaths.{content_findings, differences, end_findings, is_other_signal, may_share_queue, need_findings, queue_findings}
use Rattle.j39_vehicle_findings.specs.FoundPaths.{shared_queues, signals_that_differ}
use Rattle.j39_vehicle_findings.specs.declared.finding.VehicleFinding.{VehicleFinding}
use Rattle.j39_vehicle_findings.specs.declared.finding.VehicleFinding.TheVariants.{NoInput, ManyInputs, NoOutput, ManyOutputs, LayoutDiffers, SignalDiffers}
use Rattle.j39_vehicle_findings.specs.declared.finding.VehicleFinding.TheVariants.{TwoForwards}
use Rattle.j39_vehicle_findings.specs.declared.finding.VehicleFinding.TheVariants.{NeedUnmet, SharedQueue}
use Rattle.j39_vehicle_findings.proofs.Deciding.{Decides-are_two_forwards, Decides-copies_other_layout, Decides-has_many_inputs, Decides-has_many_outputs}
use Rattle.j39_vehicle_findings.proofs.Deciding.{Decides-has_no_input, Decides-has_no_output, Decides-is_need_unmet, Decides-is_other_signal}
use Rattle.j39_vehicle_findings.proofs.Deciding.{Decides-may_share_queue}

-- the order of findings
abbrev pub in_order : Order VehicleFinding
in_order = record { number = finding_number; places = places_of }

-- findings of numbers from low to high that hold of the vehicle, in order
abbrev pub Covers : Vehicle → ℕ → ℕ → List VehicleFinding → Type 0
Covers v = CoversPart in_order (Holds v)

-- ---- inputs and outputs

pub ends_covered : (v : Vehicle) → Covers v 1 4 (end_findings v)
unfolding end_findings
ends_covered v =
    let forwards = v.forwards.items in
    Covers-append in_order (Holds v) 1 1 2 4 _ _ (omega arith) (omega arith) (omega arith)
    (each_family in_order (Holds v) 1 (HasNoInput v) (Decides-has_no_input v) NoInput forwards (λ i h. h) (λ i. record { number = refl; places = refl }))
    (Covers-append in_order (Holds v) 2 2 3 4 _ _ (omega arith) (omega arith) (omega arith)
    (each_family in_order (Holds v) 2 (HasManyInputs v) (Decides-has_many_inputs v) ManyInputs forwards (λ i h. h)
    (λ i. record { number = refl; places = refl }))
    (Covers-append in_order (Holds v) 3 3 4 4 _ _ (omega arith) (omega arith) (omega arith)
    (each_family in_order (Holds v) 3 (HasNoOutput v) (Decides-has_no_output v) NoOutput forwards (λ i h. h) (λ i. record { number = refl; places = refl }))
    (each_family in_order (Holds v) 4 (HasManyOutputs v) (Decides-has_many_outputs v) ManyOutputs forwards (λ i h. h)
    (λ i. record { number = refl; places = refl }))))

-- ---- what goes into what

record OfDifferences (v : Vehicle) (n : ℕ) (forward : Forward) (f : VehicleFinding) : Type 0 where
  pub signal : ℕ
  pub is : f ≡ SignalDiffers n signal
  pub other : SignalIsOther v forward signal

of_differences : (v : Vehicle) (n : ℕ) (forward : Forward) (f : VehicleFinding) (a b : Option GroupPlan)
    → group_at v.buses.items forward.input ≡ a → group_at v.buses.items forward.output ≡ b
    → Contains (option_map_or (λ g. option_map_or (signals_that_differ forward n g) b []) a []) f → OfDifferences v n forward f
unfolding placed
of_differences v n forward f None b is_a is_b h = absurd (omega arith)
of_differences v n forward f (Some g) None is_a is_b h = absurd (omega arith)
of_differences v n forward f (Some g) (Some k) is_a is_b h =
    let r = of_placed (IsOtherSignal forward g k) (Decides-is_other_signal forward g k) (SignalDiffers n) k.signals.items f h in
    record { signal = r.place; is = r.is; other = record { g = g; g_is = is_a; h = k; h_is = is_b; related = r.at } }

pub differences_of : (v : Vehicle) (n : ℕ) (forward : Forward) (j : ℕ) (m : SignalIsOther v forward j) → Contains (differences v n forward) (SignalDiffers n j)
unfolding placed
differences_of v n forward j m =
    let among = placed_of (IsOtherSignal forward m.g m.h) (Decides-is_other_signal forward m.g m.h) (SignalDiffers n) m.h.signals.items j m.related in
    let P : Option GroupPlan → Type 0 =
    λ a. Contains (option_map_or (λ g. option_map_or (signals_that_differ forward n g) (group_at v.buses.items forward.output) []) a []) (SignalDiffers n j) in
    let Q : Option GroupPlan → Type 0 = λ b. Contains (option_map_or (signals_that_differ forward n m.g) b []) (SignalDiffers n j) in
    subst P (sym m.g_is) (subst Q (sym m.h_is) among)

differences_rise : (v : Vehicle) (n : ℕ) (forward : Forward) (a b : Option GroupPlan)
    → Rises IsBefore (option_map_or (λ g. option_map_or (signals_that_differ forward n g) b []) a [])
unfolding placed
differences_rise v n forward None b = tt
differences_rise v n forward (Some g) None = tt
differences_rise v n forward (Some g) (Some h) =
    placed_rise in_order (is_other_signal forward g h) (SignalDiffers n) 6 n (λ j. record { number = refl; places = refl }) h.signals.items

differences_covered : (v : Vehicle) → Covers v 6 6 (in_each (differences v) 0 v.forwards.items)
differences_covered v =
    let heard : Forward → Option GroupPlan = λ x. group_at v.buses.items x.input in
    let sent : Forward → Option GroupPlan = λ x. group_at v.buses.items x.output in
    inside_family in_order (Holds v) 6 (differences v) v.forwards.items
    (λ i x f is h.
    let r = of_differences v i x f (heard x) (sent x) refl refl h in
    subst (Holds v) (sym r.is) (record { value = x; value_is = is; meets = r.other }))
    (λ i x f h.
    let r = of_differences v i x f (heard x) (sent x) refl refl h in
    named_first in_order 6 i r.signal f (SignalDiffers i r.signal) r.is (record { number = refl; places = refl }))
    (λ i x. differences_rise v i x (heard x) (sent x))

pub contents_covered : (v : Vehicle) → Covers v 5 7 (content_findings v)
unfolding content_findings
contents_covered v =
    Covers-append in_order (Holds v) 5 5 6 7 _ _ (omega arith) (omega arith) (omega arith)
    (each_family in_order (Holds v) 5 (CopiesOtherLayout v) (Decides-copies_other_layout v) LayoutDiffers v.forwards.items (λ i h. h)
    (λ i. record { number = refl; places = refl }))
    (Covers-append in_order (Holds v) 6 6 7 7 _ _ (omega arith) (omega arith) (omega arith) (differences_covered v)
    (pairs_family in_order (Holds v) 7 (AreTwoForwards v) (Decides-are_two_forwards v) TwoForwards v.forwards.items (λ i j h. h)
    (λ i j. record { number = refl; places = refl })))

-- ---- needs

pub needs_covered : (v : Vehicle) → Covers v 9 9 (need_findings v)
unfolding need_findings
needs_covered v =
    each_family in_order (Holds v) 9 (IsNeedUnmet v) (Decides-is_need_unmet v) NeedUnmet v.needs.items (λ i h. h) (λ i. record { number = refl; places = refl })

-- ---- queues

pub queues_covered : (v : Vehicle) → Covers v 14 14 (queue_findings v)
unfolding queue_findings placed
queues_covered v =
    inside_family in_order (Holds v) 14 (shared_queues v.buses.items) v.gateways.items
    (λ k gateway f is h.
    let r = of_placed (MayShareQueue gateway) (Decides-may_share_queue gateway) (SharedQueue k) v.buses.items f h in
    subst (Holds v) (sym r.is) (record { value = gateway; value_is = is; meets = r.at }))
    (λ k gateway f h.
    let r = of_placed (MayShareQueue gateway) (Decides-may_share_queue gateway) (SharedQueue k) v.buses.items f h in
    named_first in_order 14 k r.place f (SharedQueue k r.place) r.is (record { number = refl; places = refl }))
    (λ k gateway. placed_rise in_order (may_share_queue gateway) (SharedQueue k) 14 k (λ b. record { number = refl; places = refl }) v.buses.items)

pub shared_of : (v : Vehicle) (k b : ℕ) (gateway : Gateway) → ValueAt (MayShareQueue gateway b) v.buses.items b
    → Contains (shared_queues v.buses.items k gateway) (SharedQueue k b)
unfolding placed
shared_of v k b gateway at = placed_of (MayShareQueue gateway) (Decides-may_share_queue gateway) (SharedQueue k) v.buses.items b at
