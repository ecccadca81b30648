-- What can be wrong with what a vehicle's gateways send on: each finding as a plain statement on its forwards, needs, gateways and buses, by
-- their places from 0.
use Rattle.std.specs.Prelude.{◌≡◌, ℕ, ◌<◌, ◌⊎◌, List, [], ◌∷◌, Option, Some, None, true, Contains, AllPairs}
use Rattle.std.specs.Option.{MatchOption}
use Rattle.j39_signal.specs.declared.signal_parts.SignalParts.{SignalParts}
use Rattle.j39_signal.specs.Places.{SharesBit}
use Rattle.j39_signal.specs.declared.selector.Selector.{Selector}
use Rattle.j39_search.specs.ListPlaces.{ValueAt, PairAt, SomeMeets, SoManyMeet}
use Rattle.j39_network.specs.declared.plan.group_plan.GroupPlan.{GroupPlan}
use Rattle.j39_network.specs.declared.plan.queue.Queue.TheVariants.{Any}
use Rattle.j39_network.specs.declared.plan.unit_plan.UnitPlan.{UnitPlan}
use Rattle.j39_search.specs.Order.{ComesBefore}
use Rattle.j39_vehicle.specs.declared.vehicle.Vehicle.{Vehicle}
use Rattle.j39_vehicle.specs.declared.vehicle.bus_plan.BusPlan.{BusPlan}
use Rattle.j39_vehicle.specs.declared.vehicle.forward.Forward.{Forward}
use Rattle.j39_vehicle.specs.declared.vehicle.forward.ForwardedSignal.{ForwardedSignal}
use Rattle.j39_vehicle.specs.declared.vehicle.gateway.Gateway.{Gateway}
use Rattle.j39_vehicle.specs.declared.vehicle.vehicle_need.VehicleNeed.{VehicleNeed}
use Rattle.j39_vehicle_findings.specs.Buses.{group_at, spn_at}
use Rattle.j39_vehicle_findings.specs.ForwardEnds.{ComesAfter, Copies, IsDirect, IsInput, IsOutput, WriteOneSignal, input_flows, listed, output_flows}
use Rattle.j39_vehicle_findings.specs.Matching.{AreAlike, CanStandFor}
use Rattle.j39_vehicle_findings.specs.Traces.{IsNeedFlow, first_agreeing, flows_of_need}
use Rattle.j39_vehicle_findings.specs.declared.finding.VehicleFinding.{VehicleFinding}
use Rattle.j39_vehicle_findings.specs.declared.finding.VehicleFinding.TheVariants.{NoInput, ManyInputs, NoOutput, ManyOutputs, LayoutDiffers, SignalDiffers, TwoForwards}
use Rattle.j39_vehicle_findings.specs.declared.finding.VehicleFinding.TheVariants.{ForwardLoop, NeedUnmet, SharedQueue}

-- ---- inputs and outputs

abbrev pub HasNoInput : Vehicle → Forward → Type 0
HasNoInput v n = ¬ SomeMeets (IsInput v n) (input_flows v n)

abbrev pub HasManyInputs : Vehicle → Forward → Type 0
HasManyInputs v n = (count : ℕ) × SoManyMeet (IsInput v n) (input_flows v n) count × (1 < count)

abbrev pub HasNoOutput : Vehicle → Forward → Type 0
HasNoOutput v n = ¬ SomeMeets (IsOutput n) (output_flows v n)

abbrev pub HasManyOutputs : Vehicle → Forward → Type 0
HasManyOutputs v n = (count : ℕ) × SoManyMeet (IsOutput n) (output_flows v n) count × (1 < count)

-- ---- layouts

-- the same bits, with the same number
abbrev pub IsSelector : Selector → Option Selector → Type 0
IsSelector w None = ⊥
IsSelector w (Some u) = (w.start ≡ u.start) × (w.bits ≡ u.bits) × (w.value ≡ u.value)

-- a message of the second group needn't be one of the first: it may be longer or shorter, it is reported by a selector that isn't the first
-- group's, or it has records that stand elsewhere
abbrev pub HaveOtherLayouts : GroupPlan → GroupPlan → Type 0
HaveOtherLayouts g h = (g.length < h.length) ⊎ ((h.most < g.most)
    ⊎ (((w : Selector) × (h.when ≡ Some w) × (¬ IsSelector w g.when))
    ⊎ (SomeMeets (λ t. t.repeated ≡ true) h.signals.items × (¬ (h.every ≡ g.every)))))

-- the groups of a forward: the one that is heard and the one that is sent
pub record GroupsMeet (v : Vehicle) (n : Forward) (R : GroupPlan → GroupPlan → Type 0) : Type 0 where
  pub g : GroupPlan
  pub g_is : group_at v.buses.items n.input ≡ Some g
  pub h : GroupPlan
  pub h_is : group_at v.buses.items n.output ≡ Some h
  pub related : R g h

abbrev pub CopiesOtherLayout : Vehicle → Forward → Type 0
CopiesOtherLayout v n = Copies n × GroupsMeet v n HaveOtherLayouts

-- ---- signals

-- s, at this place of the first group, and t, at that of the second, aren't alike
abbrev pub AreUnlike : GroupPlan → ℕ → SignalParts → GroupPlan → ℕ → SignalParts → Type 0
AreUnlike g i s h j t = ¬ AreAlike s (spn_at g i) t (spn_at h j)

-- what is copied differs in t: no signal of the first group agrees with it, or the first that does isn't alike
abbrev pub IsCopiedOtherwise : GroupPlan → GroupPlan → ℕ → SignalParts → Type 0
IsCopiedOtherwise g h j t = MatchOption (first_agreeing g t) (Unit {0}) (λ i. ValueAt (λ s. AreUnlike g i s h j t) g.signals.items i)

-- a bit of t belongs to the selector of its group
abbrev pub IsInSelector : GroupPlan → SignalParts → Type 0
IsInSelector h t = (w : Selector) × (h.when ≡ Some w) × SharesBit t (record t { start = w.start; bits = w.bits })

-- what goes into t differs: it isn't alike, or has to be exact and t hasn't what it says, or t has a bit of the selector
abbrev pub DiffersFrom : GroupPlan → GroupPlan → ℕ → SignalParts → ForwardedSignal → Type 0
DiffersFrom g h j t f = ValueAt (λ s. AreUnlike g f.read s h j t ⊎ ((f.exact ≡ true) × (¬ CanStandFor s t))) g.signals.items f.read ⊎ IsInSelector h t

-- some signal goes into t, and differs
abbrev pub IsWrittenOtherwise : Forward → GroupPlan → GroupPlan → ℕ → SignalParts → Type 0
IsWrittenOtherwise n g h j t = SomeMeets (λ f. (f.written ≡ j) × DiffersFrom g h j t f) (listed n)

abbrev pub IsOtherSignal : Forward → GroupPlan → GroupPlan → ℕ → SignalParts → Type 0
IsOtherSignal n g h j t = (Copies n × IsCopiedOtherwise g h j t) ⊎ IsWrittenOtherwise n g h j t

-- so it is with the signal at a place of the group that the forward sends
abbrev pub SignalIsOther : Vehicle → Forward → ℕ → Type 0
SignalIsOther v n j = GroupsMeet v n (λ g h. ValueAt (IsOtherSignal n g h j) h.signals.items j)

-- ---- several forwards

-- both feed one flow
pub record FeedOneFlow (v : Vehicle) (n m : Forward) : Type 0 where
  pub bus : n.output.bus ≡ m.output.bus
  pub flow : SomeMeets (λ f. IsOutput n f × IsOutput m f) (output_flows v n)

-- both may say when a message is sent, or what a signal is
abbrev pub AreAtOdds : Forward → Forward → Type 0
AreAtOdds n m = (IsDirect n ⊎ IsDirect m) ⊎ ((Copies n ⊎ Copies m) ⊎ WriteOneSignal n m)

abbrev pub AreTwoForwards : Vehicle → Forward → Forward → Type 0
AreTwoForwards v n m = FeedOneFlow v n m × AreAtOdds n m

-- ---- needs

abbrev pub IsNeedUnmet : Vehicle → VehicleNeed → Type 0
IsNeedUnmet v d = ¬ ((f : ℕ) × ValueAt (IsNeedFlow v d f) (flows_of_need v d) f)

-- ---- queues

-- the gateway has two units on the bus
abbrev pub HasTwoUnits : Gateway → ℕ → Type 0
HasTwoUnits gateway b = (count : ℕ) × SoManyMeet (λ u. u.bus ≡ b) gateway.units.items count × (1 < count)

-- one of its units there may put any of its frames on the bus first
abbrev pub HasAnyQueue : Gateway → ℕ → BusPlan → Type 0
HasAnyQueue gateway b bus = SomeMeets (λ u. (u.bus ≡ b) × ValueAt (λ (w : UnitPlan). w.queue ≡ Any) bus.plan.units.items u.unit) gateway.units.items

abbrev pub MayShareQueue : Gateway → ℕ → BusPlan → Type 0
MayShareQueue gateway b bus = (¬ (bus.plan.timing ≡ None)) × HasTwoUnits gateway b × HasAnyQueue gateway b bus

-- ---- the findings

-- what a finding says of a vehicle
abbrev pub Holds : Vehicle → VehicleFinding → Type 0
Holds v (NoInput n) = ValueAt (HasNoInput v) v.forwards.items n
Holds v (ManyInputs n) = ValueAt (HasManyInputs v) v.forwards.items n
Holds v (NoOutput n) = ValueAt (HasNoOutput v) v.forwards.items n
Holds v (ManyOutputs n) = ValueAt (HasManyOutputs v) v.forwards.items n
Holds v (LayoutDiffers n) = ValueAt (CopiesOtherLayout v) v.forwards.items n
Holds v (SignalDiffers n t) = ValueAt (λ forward. SignalIsOther v forward t) v.forwards.items n
Holds v (TwoForwards n m) = PairAt (AreTwoForwards v) v.forwards.items n m
Holds v (ForwardLoop n) = ComesAfter v n n
Holds v (NeedUnmet d) = ValueAt (IsNeedUnmet v) v.needs.items d
Holds v (SharedQueue k b) = ValueAt (λ gateway. ValueAt (MayShareQueue gateway b) v.buses.items b) v.gateways.items k

-- ---- their order

-- the number under which a finding is known
abbrev pub finding_number : VehicleFinding → ℕ
finding_number (NoInput n) = 1
finding_number (ManyInputs n) = 2
finding_number (NoOutput n) = 3
finding_number (ManyOutputs n) = 4
finding_number (LayoutDiffers n) = 5
finding_number (SignalDiffers n t) = 6
finding_number (TwoForwards n m) = 7
finding_number (ForwardLoop n) = 8
finding_number (NeedUnmet d) = 9
finding_number (SharedQueue k b) = 14

-- the places that it names
abbrev pub places_of : VehicleFinding → List ℕ
places_of (NoInput n) = n ∷ []
places_of (ManyInputs n) = n ∷ []
places_of (NoOutput n) = n ∷ []
places_of (ManyOutputs n) = n ∷ []
places_of (LayoutDiffers n) = n ∷ []
places_of (SignalDiffers n t) = n ∷ t ∷ []
places_of (TwoForwards n m) = n ∷ m ∷ []
places_of (ForwardLoop n) = n ∷ []
places_of (NeedUnmet d) = d ∷ []
places_of (SharedQueue k b) = k ∷ b ∷ []

-- by the number, then by the places
abbrev pub IsBefore : VehicleFinding → VehicleFinding → Type 0
IsBefore = ComesBefore finding_number places_of

-- all that is wrong with the vehicle and nothing else, in order
pub record AreFindings (v : Vehicle) (findings : List VehicleFinding) : Type 0 where
  pub sound : (finding : VehicleFinding) → Contains findings finding → Holds v finding
  pub complete : (finding : VehicleFinding) → Holds v finding → Contains findings finding
  pub in_order : AllPairs IsBefore findings
