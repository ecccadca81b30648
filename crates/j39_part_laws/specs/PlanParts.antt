-- A part of a plan: some of its units, groups, flows and requests, in its order and naming the same; all else is the same, but for what is
-- needed.
use Rattle.std.specs.Prelude.{◌≡◌, ℕ, ◌<◌, ◌≤◌, List, length, Some}
use Rattle.std.specs.List.{slice_get}
use Rattle.j39_search.specs.ListPlaces.{ValueAt}
use Rattle.j39_findings.specs.Findings.{Holds, IsAloneInPlan}
use Rattle.j39_findings.specs.declared.checking.finding.Finding.{Finding}
use Rattle.j39_findings.specs.declared.checking.finding.Finding.TheVariants.{SameName, SameFixedAddress, TooFewAddresses, BadPgn, SamePgn, SignalWidth}
use Rattle.j39_findings.specs.declared.checking.finding.Finding.TheVariants.{SignalOutside, SignalOverlap, FlowToOne, FlowToSelf, FlowRepeated, KeptAddress}
use Rattle.j39_findings.specs.declared.checking.finding.Finding.TheVariants.{PrivateUnsent, RecordOverlap, TextOutside, NeedUnmet, RequestUnanswered}
use Rattle.j39_findings.specs.declared.checking.finding.Finding.TheVariants.{RequestUnheard, AnswerAstray, WhenOutside, RequestRepeated, SilentAddress}
use Rattle.j39_findings.specs.declared.checking.finding.Finding.TheVariants.{SilentInPool, FlowContested}
use Rattle.j39_network.specs.PlannedUnits.{units_of}
use Rattle.j39_network.specs.Staying.{Stays, StaysBeside}
use Rattle.j39_network.specs.declared.plan.Plan.{Plan}
use Rattle.j39_network.specs.declared.plan.flow_plan.FlowPlan.{FlowPlan}
use Rattle.j39_network.specs.declared.plan.group_plan.GroupPlan.{GroupPlan}
use Rattle.j39_network.specs.declared.plan.request_plan.RequestPlan.{RequestPlan}
use Rattle.j39_network.specs.declared.plan.to.To.{To}
use Rattle.j39_network.specs.declared.plan.to.To.TheVariants.{All, One}

-- ---- places

-- the first list has some values of the second, in its order: the value at each of its places stands in the second at the place that is reported
pub record AreSome {A : Type 0} (place : ℕ → ℕ) (Stands : A → A → Type 0) (some all : List A) : Type 0 where
  pub rises : (i j : ℕ) → i < j → place i < place j
  pub each : (i : ℕ) (x : A) → slice_get some i ≡ Some x → ValueAt (Stands x) all (place i)

-- it is the very one
abbrev pub IsSame : {A : Type 0} → A → A → Type 0
IsSame x y = x ≡ y

-- the group stands there with all that it is, but for what is said of its signals
pub record IsGroupThere (group there : GroupPlan) : Type 0 where
  pub label : there.label.bytes ≡ group.label.bytes
  pub pgn : there.pgn ≡ group.pgn
  pub priority : there.priority ≡ group.priority
  pub length : there.length ≡ group.length
  pub most : there.most ≡ group.most
  pub private : there.private ≡ group.private
  pub every : there.every ≡ group.every
  pub when : there.when ≡ group.when
  pub signals : there.signals.items ≡ group.signals.items
  pub texts : there.texts.items ≡ group.texts.items

-- where the units, the groups, the flows and the requests of a part stand in the whole
pub record Places : Type 0 where
  pub unit : ℕ → ℕ
  pub group : ℕ → ℕ
  pub flow : ℕ → ℕ
  pub request : ℕ → ℕ

-- the same receivers, by their places in the whole
abbrev pub to_in : Places → To → To
to_in at All = All
to_in at (One receiver) = One (at.unit receiver)

-- the flow stands there with all that it is; what it names has its place in the whole
pub record IsFlowThere (at : Places) (flow there : FlowPlan) : Type 0 where
  pub group : there.group ≡ at.group flow.group
  pub sender : there.sender ≡ at.unit flow.sender
  pub to : there.to ≡ to_in at flow.to
  pub pace : there.pace ≡ flow.pace
  pub pause : there.pause ≡ flow.pause
  pub on_request : there.on_request ≡ flow.on_request

-- and so does the request
pub record IsRequestThere (at : Places) (request there : RequestPlan) : Type 0 where
  pub group : there.group ≡ at.group request.group
  pub sender : there.sender ≡ at.unit request.sender
  pub to : there.to ≡ to_in at request.to
  pub period : there.period ≡ request.period

-- ---- parts

pub record IsPartAt (at : Places) (part whole : Plan) : Type 0 where
  pub units : AreSome at.unit IsSame part.units.items whole.units.items
  pub groups : AreSome at.group IsGroupThere part.groups.items whole.groups.items
  pub flows : AreSome at.flow (IsFlowThere at) part.flows.items whole.flows.items
  pub requests : AreSome at.request (IsRequestThere at) part.requests.items whole.requests.items
  pub keep_free : part.keep_free ≡ whole.keep_free
  pub strangers : part.strangers ≡ whole.strangers
  pub live : part.live ≡ whole.live
  pub timing : part.timing ≡ whole.timing

abbrev pub IsPlanPart : Plan → Plan → Type 0
IsPlanPart part whole = (at : Places) × IsPartAt at part whole

-- ---- what is found of a part is found of the whole

-- what a finding of the part says of the whole, at its places there: of too few addresses with a number at least as great; of what comes by
-- taking away nothing
abbrev pub HoldsThere : Places → Plan → Finding → Type 0
HoldsThere at whole (SameName i j) = Holds whole (SameName (at.unit i) (at.unit j))
HoldsThere at whole (SameFixedAddress i j) = Holds whole (SameFixedAddress (at.unit i) (at.unit j))
HoldsThere at whole (TooFewAddresses n) = (m : ℕ) × (n ≤ m) × Holds whole (TooFewAddresses m)
HoldsThere at whole (BadPgn g) = Holds whole (BadPgn (at.group g))
HoldsThere at whole (SamePgn g h) = Holds whole (SamePgn (at.group g) (at.group h))
HoldsThere at whole (SignalWidth g s) = Holds whole (SignalWidth (at.group g) s)
HoldsThere at whole (SignalOutside g s) = Holds whole (SignalOutside (at.group g) s)
HoldsThere at whole (SignalOverlap g s t) = Holds whole (SignalOverlap (at.group g) s t)
HoldsThere at whole (FlowToOne f) = Holds whole (FlowToOne (at.flow f))
HoldsThere at whole (FlowToSelf f) = Holds whole (FlowToSelf (at.flow f))
HoldsThere at whole (FlowRepeated f h) = Holds whole (FlowRepeated (at.flow f) (at.flow h))
HoldsThere at whole (KeptAddress i) = Holds whole (KeptAddress (at.unit i))
HoldsThere at whole (PrivateUnsent g) = Unit {0}
HoldsThere at whole (RecordOverlap g s t) = Holds whole (RecordOverlap (at.group g) s t)
HoldsThere at whole (TextOutside g t) = Holds whole (TextOutside (at.group g) t)
HoldsThere at whole (NeedUnmet n) = Unit {0}
HoldsThere at whole (RequestUnanswered r) = Unit {0}
HoldsThere at whole (RequestUnheard r) = Unit {0}
HoldsThere at whole (AnswerAstray r) = Unit {0}
HoldsThere at whole (WhenOutside g) = Holds whole (WhenOutside (at.group g))
HoldsThere at whole (RequestRepeated r s) = Holds whole (RequestRepeated (at.request r) (at.request s))
HoldsThere at whole (SilentAddress u v) = Holds whole (SilentAddress (at.unit u) (at.unit v))
HoldsThere at whole (SilentInPool u) = Holds whole (SilentInPool (at.unit u))
HoldsThere at whole (FlowContested f) = Holds whole (FlowContested (at.flow f))

-- ---- who stays in the whole stays in the part

pub record StayThere (at : Places) (part whole : Plan) : Type 0 where
  pub stays : (u : ℕ) → u < length part.units.items → Stays (units_of whole) (at.unit u) → Stays (units_of part) u
  pub beside : (u : ℕ) → u < length part.units.items → StaysBeside whole.strangers (units_of whole) (at.unit u)
      → StaysBeside part.strangers (units_of part) u
  pub alone : (u : ℕ) → u < length part.units.items → IsAloneInPlan whole (at.unit u) → IsAloneInPlan part u
