-- From one message of a trace to the one that it carries: what its signal reads there.
use Rattle.std.proofs.Common.{◌≡◌, ℕ, ◌==◌, ◌<◌, ◌⊎◌, List, [], All, length, Bool, true, false, if◌then◌else◌, Option, Some, None, inl, inr, sym, refl, ap, ◌∙◌}
use Rattle.std.proofs.Common.{subst}
use Rattle.std.proofs.Common.{arith}
use Rattle.std.specs.Prelude.{ℤ, pos, ◌*ℤ◌}
use Rattle.std.specs.List.{position, slice_get}
use Rattle.std.specs.Option.{ForSome, option_and_then, option_map, option_map_or}
use Rattle.std.proofs.lemmas.Bool.{cases_Bool}
use Rattle.std.proofs.lemmas.Option.{none-some, same_Some}
use Rattle.j39_signal.specs.Bits.{raw_of}
use Rattle.j39_signal.specs.declared.signal_parts.SignalParts.{SignalParts}
use Rattle.j39_signal.specs.declared.state.State.{State}
use Rattle.j39_signal.specs.declared.state.State.TheVariants.{Value, Specific, Reserved, Fault, Absent}
use Rattle.j39_network.specs.NeedPlaces.{signal_count}
use Rattle.j39_network.specs.declared.plan.flow_plan.FlowPlan.{FlowPlan}
use Rattle.j39_network.specs.declared.plan.group_plan.GroupPlan.{GroupPlan}
use Rattle.j39_vehicle.specs.VehiclePlaces.{HasForward, signals_at}
use Rattle.j39_vehicle.specs.declared.vehicle.Vehicle.{Vehicle}
use Rattle.j39_vehicle.specs.declared.vehicle.bus_plan.BusPlan.{BusPlan}
use Rattle.j39_vehicle.specs.declared.vehicle.forward.Forward.{Forward}
use Rattle.j39_vehicle.specs.declared.vehicle.forward.ForwardedSignal.{ForwardedSignal}
use Rattle.j39_vehicle.specs.declared.vehicle.places.GroupAt.{GroupAt}
use Rattle.j39_vehicle_findings.specs.ForwardEnds.{Copies, Feeds, listed}
use Rattle.j39_vehicle_findings.specs.ForwardTests.{copies}
use Rattle.j39_vehicle_findings.specs.Matching.{Agree}
use Rattle.j39_vehicle_findings.specs.Traces.{behind_forward, first_input, goes_into, point_on}
use Rattle.j39_vehicle_findings.specs.VehicleFindings.{AreFindings}
use Rattle.j39_vehicle_findings.specs.declared.point.FlowAt.{FlowAt}
use Rattle.j39_vehicle_findings.specs.declared.point.Point.{Point}
use Rattle.j39_vehicle_findings.proofs.Deciding.{Decides-copies}
use Rattle.j39_vehicle_laws.specs.Carrying.{IsTakenOver, group_of_point, is_exact, listed_for, signal_at}
use Rattle.j39_vehicle_laws.specs.Faithful.{KeepsContents, PassesValues, signal_of}
use Rattle.j39_vehicle_laws.specs.HandedOn.{AreOneValue}
use Rattle.j39_vehicle_laws.specs.Reading.{HasNoValue, IsUnset, ReadsOver, ReadsValueOf, reading}
use Rattle.j39_vehicle_laws.specs.BusRuns.{BusMessage, flow_on_bus}
use Rattle.j39_vehicle_laws.proofs.Forwarding.{copied_agrees, exact_has, first_is_input, put_is_listed}
use Rattle.j39_vehicle_laws.proofs.Places.{mapped_of, one_of_all, parts_of, value_within}
use Rattle.j39_vehicle_laws.proofs.Values.{each_value}

-- ---- what is read

pub value_or_none : (state : State) → ((a : ℤ) × (state ≡ Value a)) ⊎ HasNoValue state
value_or_none (Value a) = inl (a, refl)
value_or_none (Specific raw) = inr (λ a is. absurd cc)
value_or_none (Reserved raw) = inr (λ a is. absurd cc)
value_or_none (Fault raw) = inr (λ a is. absurd cc)
value_or_none Absent = inr (λ a is. absurd cc)

-- a value is read where the signal is
read_there : (inside : Bool) (state : State) (a : ℤ) → (if inside then state else Absent) ≡ Value a → state ≡ Value a
read_there true state a is = is
read_there false state a is = absurd cc

-- signals that agree read the same
agreeing_read : (s t : SignalParts) (bytes : List ℕ) → Agree s t → reading s bytes ≡ reading t bytes
agreeing_read s t bytes same =
    ap (λ x. reading (record s { start = x }) bytes) same.start
    ∙ ap (λ x. reading (record s { start = t.start; bits = x }) bytes) same.bits
    ∙ ap (λ x. reading (record s { start = t.start; bits = t.bits; kind = x }) bytes) same.kind
    ∙ ap (λ x. reading (record s { start = t.start; bits = t.bits; kind = t.kind; step = x }) bytes) same.step
    ∙ ap (λ x. reading (record s { start = t.start; bits = t.bits; kind = t.kind; step = t.step; offset = x }) bytes) same.offset

-- ---- where signals stand

abbrev group_place : ℕ → ℕ → GroupAt
group_place bus group = record { bus = bus; group = group }

abbrev pub flow_place : ℕ → ℕ → FlowAt
flow_place bus flow = record { bus = bus; flow = flow }

same_group : (b c g h : ℕ) → b ≡ c → g ≡ h → group_place b g ≡ group_place c h
same_group b c g h same alike = ap (λ x. group_place x g) same ∙ ap (λ x. group_place c x) alike

-- the signal of a trace where a forward feeds its flow is one of the group that this sends
sent_signal : (v : Vehicle) (n : Forward) (p : Point) (t : SignalParts) → Feeds v n p.at → signal_at v p ≡ Some t
    → (j : ℕ) × (p.signal ≡ Some j) × (signal_of v n.output j ≡ Some t)
sent_signal v n p t feeds is =
    let (flow, flow_is, rest) = parts_of (λ (flow : FlowPlan). option_and_then (signal_of v (group_of_point p.at.bus flow)) p.signal)
    (flow_on_bus v p.at) t is in
    let (j, signal, there) = parts_of (signal_of v (group_of_point p.at.bus flow)) p.signal t rest in
    let output = feeds.1 in
    let its : flow_on_bus v p.at ≡ Some output.value = subst (λ b. flow_on_bus v (flow_place b p.at.flow) ≡ Some output.value) feeds.0 output.value_is in
    let same : flow ≡ output.value = same_Some _ _ (sym flow_is ∙ its) in
    let group : flow.group ≡ n.output.group = ap (λ f. f.group) same ∙ output.meets.group in
    let place : group_place p.at.bus flow.group ≡ n.output = same_group p.at.bus n.output.bus flow.group n.output.group (sym feeds.0) group in
    (j, signal, subst (λ g. signal_of v g j ≡ Some t) place there)

-- where a signal of the group that is heard goes on, it is that of the trace
heard_signal : (v : Vehicle) (n : Forward) (i j : ℕ) (s : SignalParts) → first_input v n ≡ Some i → signal_of v n.input j ≡ Some s
    → signal_at v (point_on n.input.bus i (Some j)) ≡ Some s
heard_signal v n i j s first is =
    let (flow, flow_is, input) = first_is_input v n i first in
    let place : group_place n.input.bus flow.group ≡ n.input = same_group n.input.bus n.input.bus flow.group n.input.group refl input.meets.group in
    ap (option_and_then (λ (f : FlowPlan). signal_of v (group_of_point n.input.bus f) j)) flow_is ∙ ap (λ g. signal_of v g j) place ∙ is

-- ---- where traces go on

-- with the first input
pub behind_at : (v : Vehicle) (n : Forward) (signal : Option ℕ) (q : Point) → behind_forward v signal n ≡ Some q
    → (i : ℕ) × (first_input v n ≡ Some i) × (flow_place n.input.bus i ≡ q.at)
behind_at v n None q is =
    let (i, first, at) = mapped_of (λ i. point_on n.input.bus i None) (first_input v n) q is in
    (i, first, ap (λ p. p.at) at)
behind_at v n (Some t) q is =
    let (i, first, rest) = parts_of (λ i. option_map (λ s. point_on n.input.bus i (Some s)) (goes_into v n t)) (first_input v n) q is in
    let (s, into, at) = mapped_of (λ s. point_on n.input.bus i (Some s)) (goes_into v n t) q rest in
    (i, first, ap (λ p. p.at) at)

-- and with what goes into the signal
behind_signal : (v : Vehicle) (n : Forward) (t : ℕ) (q : Point) → behind_forward v (Some t) n ≡ Some q
    → (i : ℕ) × (s : ℕ) × (first_input v n ≡ Some i) × (goes_into v n t ≡ Some s) × (point_on n.input.bus i (Some s) ≡ q)
behind_signal v n t q is =
    let (i, first, rest) = parts_of (λ i. option_map (λ s. point_on n.input.bus i (Some s)) (goes_into v n t)) (first_input v n) q is in
    let (s, into, at) = mapped_of (λ s. point_on n.input.bus i (Some s)) (goes_into v n t) q rest in
    (i, s, first, into, at)

-- ---- what is exact

copies_exactly : (n : Forward) (t : ℕ) → Copies n → is_exact n (Some t) ≡ true
copies_exactly n t copy =
    ap (λ o. option_map_or (λ (f : ForwardedSignal). f.exact)
    (option_and_then (λ i. slice_get (option_map_or (λ signals. signals.items) o []) i)
    (position (λ (s : ForwardedSignal). s.written == t) (option_map_or (λ signals. signals.items) o []))) true) copy

listed_exactly : (n : Forward) (t : ℕ) (f : ForwardedSignal) → listed_for n t ≡ Some f → is_exact n (Some t) ≡ f.exact
listed_exactly n t f is = ap (λ o. option_map_or (λ (f : ForwardedSignal). f.exact) o true) is

-- ---- messages that carry one

-- in a copy the signal reads what the one reads that agrees with it
copied_over : (v : Vehicle) (n : Forward) (i j jj : ℕ) (t : SignalParts) (before bytes : List ℕ) → copies n ≡ true → bytes ≡ before
    → first_input v n ≡ Some i → goes_into v n j ≡ Some jj → signal_of v n.output j ≡ Some t
    → IsUnset t true (reading t bytes)
    ⊎ ((s : SignalParts) × (signal_at v (point_on n.input.bus i (Some jj)) ≡ Some s) × ReadsOver s before t true (reading t bytes))
copied_over v n i j jj t before bytes copy same first into t_is =
    let (s, s_is, agree) = copied_agrees v n j jj t copy into t_is in
    let read : reading s before ≡ reading t bytes = agreeing_read s t before agree ∙ ap (reading t) (sym same) in
    elim (value_or_none (reading t bytes)) [
      | inl (a, is) ↦
          let one : a *ℤ pos t.per ≡ a *ℤ pos s.per = ap (λ p. a *ℤ pos p) (sym agree.per) in
          inr (s, heard_signal v n i jj s first s_is, (a, a, read ∙ is, is, inl one))
      | inr none ↦ inl (inl none)
    ]

-- what stands for another value does so where the forward needn't be exact
over : (v : Vehicle) → AreFindings v [] → (place : ℕ) (n : Forward) → slice_get v.forwards.items place ≡ Some n
    → (k : ℕ) (f : ForwardedSignal) (s t : SignalParts) (before : List ℕ) (to : State) → slice_get (listed n) k ≡ Some f
    → signal_of v n.input f.read ≡ Some s → signal_of v n.output f.written ≡ Some t → ReadsValueOf s before t to → ReadsOver s before t f.exact to
over v clean place n its k f s t before to f_is s_is t_is (a, b, from, is, inl same) = (a, b, from, is, inl same)
over v clean place n its k f s t before to f_is s_is t_is (a, b, from, is, inr stands) =
    elim (cases_Bool f.exact) [
      | inl exact ↦
          let has = exact_has v clean place n its k f s t f_is exact s_is t_is in
          absurd (stands.0 (each_value s t has (raw_of before s) a (read_there _ _ a from)))
      | inr near ↦ (a, b, from, is, inr (near, stands))
    ]

-- in another one it reads what is listed for it
listed_over : (v : Vehicle) → AreFindings v [] → (place : ℕ) (n : Forward) → slice_get v.forwards.items place ≡ Some n
    → (i j jj : ℕ) (t : SignalParts) (before bytes : List ℕ) → copies n ≡ false → KeepsContents v n (Some before) bytes
    → first_input v n ≡ Some i → goes_into v n j ≡ Some jj → signal_of v n.output j ≡ Some t
    → IsUnset t (is_exact n (Some j)) (reading t bytes)
    ⊎ ((s : SignalParts) × (signal_at v (point_on n.input.bus i (Some jj)) ≡ Some s) × ReadsOver s before t (is_exact n (Some j)) (reading t bytes))
listed_over v clean place n its i j jj t before bytes other faithful first into t_is =
    let (k, f, f_is, written, read, for) = put_is_listed v n j jj other into in
    let exact = listed_exactly n j f for in
    let t_there : signal_of v n.output f.written ≡ Some t = ap (signal_of v n.output) written ∙ t_is in
    elim (faithful.taken k f t f_is t_there) [
      | inl unset ↦ inl (subst (λ e. IsUnset t e (reading t bytes)) (sym exact) unset)
      | inr (s, s_is, reads) ↦
          let reads_over = over v clean place n its k f s t before (reading t bytes) f_is s_is t_there reads in
          let s_there : signal_of v n.input jj ≡ Some s = ap (signal_of v n.input) (sym read) ∙ s_is in
          inr (s, heard_signal v n i jj s first s_there, subst (λ e. ReadsOver s before t e (reading t bytes)) (sym exact) reads_over)
    ]

pub taken_over : (v : Vehicle) → AreFindings v [] → (place : ℕ) (n : Forward) → slice_get v.forwards.items place ≡ Some n → (m k : BusMessage)
    → Feeds v n m.point.at → behind_forward v m.point.signal n ≡ Some k.point → KeepsContents v n (Some k.bytes) m.bytes → IsTakenOver v n (Some k) m
taken_over v clean place n its m k feeds behind faithful t is =
    let (j, signal, t_is) = sent_signal v n m.point t feeds is in
    let (i, jj, first, into, at) = behind_signal v n j k.point (ap (λ o. behind_forward v o n) (sym signal) ∙ behind) in
    let Over : Option ℕ → Point → Type 0 = λ o p. IsUnset t (is_exact n o) (reading t m.bytes)
    ⊎ ((s : SignalParts) × (signal_at v p ≡ Some s) × ReadsOver s k.bytes t (is_exact n o) (reading t m.bytes)) in
    let there : Over (Some j) (point_on n.input.bus i (Some jj)) =
    elim (cases_Bool (copies n)) [
      | inl copy ↦
          let copied = (Decides-copies n).0 copy in
          subst (λ e. IsUnset t e (reading t m.bytes)
          ⊎ ((s : SignalParts) × (signal_at v (point_on n.input.bus i (Some jj)) ≡ Some s) × ReadsOver s k.bytes t e (reading t m.bytes)))
          (sym (copies_exactly n j copied)) (copied_over v n i j jj t k.bytes m.bytes copy (faithful.copied copied) first into t_is)
      | inr other ↦ listed_over v clean place n its i j jj t k.bytes m.bytes other faithful first into t_is
    ] in
    subst (λ p. Over m.point.signal p) at (subst (λ o. Over o (point_on n.input.bus i (Some jj))) (sym signal) there)

-- ---- messages that carry none

pub none_over : (v : Vehicle) (n : Forward) (m : BusMessage) (q : Point) → Feeds v n m.point.at → behind_forward v m.point.signal n ≡ Some q
    → KeepsContents v n None m.bytes → IsTakenOver v n None m
none_over v n m q feeds behind faithful t is =
    let (j, signal, t_is) = sent_signal v n m.point t feeds is in
    let (i, jj, first, into, at) = behind_signal v n j q (ap (λ o. behind_forward v o n) (sym signal) ∙ behind) in
    let there : IsUnset t (is_exact n (Some j)) (reading t m.bytes) =
    elim (cases_Bool (copies n)) [
      | inl copy ↦ inl (faithful.copied ((Decides-copies n).0 copy) j t t_is)
      | inr other ↦
          let (k, f, f_is, written, read, for) = put_is_listed v n j jj other into in
          let t_there : signal_of v n.output f.written ≡ Some t = ap (signal_of v n.output) written ∙ t_is in
          subst (λ e. IsUnset t e (reading t m.bytes)) (sym (listed_exactly n j f for)) (faithful.taken k f t f_is t_there)
    ] in
    subst (λ o. IsUnset t (is_exact n o) (reading t m.bytes)) (sym signal) there

-- ---- messages that pass values on

-- what a forward reads is a signal of the group that it hears
one_listed : {L A : Type 0} (P : A → Type 0) (items : L → List A) (o : Option L) → ForSome o (λ l. All P (items l)) → (k : ℕ) (f : A)
    → slice_get (option_map_or items o []) k ≡ Some f → P f
one_listed P items None all k f is = absurd (none-some _ is)
one_listed P items (Some l) all k f is = one_of_all P (items l) k f (all l refl) is

in_group : (groups : List GroupPlan) (g i : ℕ) → i < signal_count groups g
    → (s : SignalParts) × (option_and_then (λ (group : GroupPlan). slice_get group.signals.items i) (slice_get groups g) ≡ Some s)
in_group groups g i = go (slice_get groups g)
  where
    go : (o : Option GroupPlan) → i < option_map_or (λ (group : GroupPlan). length group.signals.items) o 0
        → (s : SignalParts) × (option_and_then (λ (group : GroupPlan). slice_get group.signals.items i) o ≡ Some s)
    go None below = absurd (omega arith)
    go (Some group) below = value_within group.signals.items i below

signal_there : (v : Vehicle) (g : GroupAt) (i : ℕ) → i < signals_at v.buses.items g → (s : SignalParts) × (signal_of v g i ≡ Some s)
signal_there v g i = go (slice_get v.buses.items g.bus)
  where
    go : (o : Option BusPlan) → i < option_map_or (λ (bus : BusPlan). signal_count bus.plan.groups.items g.group) o 0
        → (s : SignalParts) × (option_and_then (λ (group : GroupPlan). slice_get group.signals.items i)
        (slice_get (option_map_or (λ (bus : BusPlan). bus.plan.groups.items) o []) g.group) ≡ Some s)
    go None below = absurd (omega arith)
    go (Some bus) below = in_group bus.plan.groups.items g.group i below

listed_there : (v : Vehicle) (place : ℕ) (n : Forward) → slice_get v.forwards.items place ≡ Some n → (k : ℕ) (f : ForwardedSignal)
    → slice_get (listed n) k ≡ Some f → (s : SignalParts) × (signal_of v n.input f.read ≡ Some s)
listed_there v place n its k f f_is =
    let there = one_of_all (HasForward v.buses.items v.gateways.items) v.forwards.items place n v.forward_places its in
    signal_there v n.input f.read (one_listed (λ (s : ForwardedSignal). s.read < signals_at v.buses.items n.input)
    (λ signals. signals.items) n.signals there.read k f f_is)

-- the trace goes on with a signal, and where this reads a value in the message that is carried, the signal that it goes into reads it
abbrev pub IsPassedOver : Vehicle → Point → List ℕ → SignalParts → List ℕ → Type 0
IsPassedOver v x before t bytes = (s : SignalParts) × (signal_at v x ≡ Some s)
    × ((a : ℤ) → reading s before ≡ Value a → (b : ℤ) × (reading t bytes ≡ Value b) × AreOneValue s a t b)

pub passed_over : (v : Vehicle) → AreFindings v [] → (place : ℕ) (n : Forward) → slice_get v.forwards.items place ≡ Some n → (p x : Point)
    → Feeds v n p.at → behind_forward v p.signal n ≡ Some x → (before bytes : List ℕ) → KeepsContents v n (Some before) bytes
    → PassesValues v n before bytes → is_exact n p.signal ≡ true → (t : SignalParts) → signal_at v p ≡ Some t → IsPassedOver v x before t bytes
passed_over v clean place n its p x feeds behind before bytes faithful passes exact t is =
    let (j, signal, t_is) = sent_signal v n p t feeds is in
    let (i, jj, first, into, at) = behind_signal v n j x (ap (λ o. behind_forward v o n) (sym signal) ∙ behind) in
    let there : IsPassedOver v (point_on n.input.bus i (Some jj)) before t bytes =
    elim (cases_Bool (copies n)) [
      | inl copy ↦
          let (s, s_is, agree) = copied_agrees v n j jj t copy into t_is in
          let read : reading s before ≡ reading t bytes =
          agreeing_read s t before agree ∙ ap (reading t) (sym (faithful.copied ((Decides-copies n).0 copy))) in
          (s, heard_signal v n i jj s first s_is, λ a from. (a, sym read ∙ from, ap (λ d. a *ℤ pos d) (sym agree.per)))
      | inr other ↦
          let (k, f, f_is, written, reads, for) = put_is_listed v n j jj other into in
          let t_there : signal_of v n.output f.written ≡ Some t = ap (signal_of v n.output) written ∙ t_is in
          let (s, s_is) = listed_there v place n its k f f_is in
          let s_there : signal_of v n.input jj ≡ Some s = ap (signal_of v n.input) (sym reads) ∙ s_is in
          let whole : f.exact ≡ true = sym (listed_exactly n j f for) ∙ (ap (is_exact n) (sym signal) ∙ exact) in
          let has = exact_has v clean place n its k f s t f_is whole s_is t_there in (
            s,
            heard_signal v n i jj s first s_there,
            λ a from.
                passes k f s t a f_is s_is t_there from (each_value s t has (raw_of before s) a (read_there _ _ a from)),
          )
    ] in
    subst (λ q. IsPassedOver v q before t bytes) at there
