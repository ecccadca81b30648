-- What can be wrong with a plan: each finding as a plain statement on its units, groups, signals, flows, needs and requests, by their
-- places from 0 (addresses and NAMEs: SAE J1939-81; groups and their destinations: SAE J1939-21; signals: SAE J1939-71).
use Rattle.std.specs.Prelude.{◌≡◌, ℕ, ◌+◌, ◌*◌, ◌<◌, ◌≤◌, ◌⊎◌, List, [], ◌∷◌, Some, true, false, Contains, AllPairs}
use Rattle.std.specs.FinSet.{FinSet, contains}
use Rattle.std.specs.Ordering.{nat_cmp}
use Rattle.j39_claim.specs.AddressSets.{free_count}
use Rattle.j39_id.specs.Addresses.{in_pool}
use Rattle.j39_id.specs.Name.{is_arbitrary}
use Rattle.j39_id.specs.Pgn.{IsPgn, extended_page}
use Rattle.j39_id.specs.Proprietary.{proprietary_a, proprietary_a2, proprietary_b_first, proprietary_b_last, proprietary_b2_first, proprietary_b2_last}
use Rattle.j39_id.specs.Services.{service_groups}
use Rattle.std.specs.List.{slice_get}
use Rattle.j39_signal.specs.Selectors.{DifferInValue}
use Rattle.j39_signal.specs.declared.signal_parts.SignalParts.{SignalParts}
use Rattle.j39_signal.specs.Places.{Covers, WidthFits, IsInside, SharesBit, further}
use Rattle.j39_network.specs.Kinds.{MayBeOne}
use Rattle.j39_network.specs.PlannedUnits.{units_of}
use Rattle.j39_network.specs.Staying.{IsAloneBeside}
use Rattle.j39_search.specs.ListPlaces.{ValueAt, PairAt, SomeMeets, SoManyMeet}
use Rattle.j39_search.specs.Order.{ComesBefore}
use Rattle.j39_network.specs.Records.{record_count}
use Rattle.j39_network.specs.SignalPlaces.{room_of_signal}
use Rattle.j39_network.specs.TextPlaces.{last_byte}
use Rattle.j39_network.specs.declared.plan.Plan.{Plan}
use Rattle.j39_network.specs.declared.plan.unit_plan.UnitPlan.{UnitPlan}
use Rattle.j39_network.specs.declared.plan.group_plan.GroupPlan.{GroupPlan}
use Rattle.j39_network.specs.declared.plan.flow_plan.FlowPlan.{FlowPlan}
use Rattle.j39_network.specs.declared.plan.need_plan.NeedPlan.{NeedPlan}
use Rattle.j39_network.specs.declared.plan.request_plan.RequestPlan.{RequestPlan}
use Rattle.j39_network.specs.declared.plan.text_plan.TextPlan.{TextPlan}
use Rattle.j39_network.specs.declared.plan.to.To.TheVariants.{All, One}
use Rattle.j39_findings.specs.declared.checking.finding.Finding.{Finding}
use Rattle.j39_findings.specs.declared.checking.finding.Finding.TheVariants.{SameName, SameFixedAddress, TooFewAddresses, BadPgn, SamePgn, SignalWidth}
use Rattle.j39_findings.specs.declared.checking.finding.Finding.TheVariants.{SignalOutside, SignalOverlap, FlowToOne, FlowToSelf, FlowRepeated, KeptAddress}
use Rattle.j39_findings.specs.declared.checking.finding.Finding.TheVariants.{PrivateUnsent, RecordOverlap, TextOutside, NeedUnmet, RequestUnanswered}
use Rattle.j39_findings.specs.declared.checking.finding.Finding.TheVariants.{RequestUnheard, AnswerAstray, WhenOutside, RequestRepeated, SilentAddress}
use Rattle.j39_findings.specs.declared.checking.finding.Finding.TheVariants.{SilentInPool, FlowContested}
use Rattle.j39_network.specs.UnitAddresses.{IsFixed, NeedsPoolAddress}
use Rattle.j39_network.specs.PlannedFlows.{IsOneFrameToAll, MayBeOneFrameToAll, Sends, IsToOne, AreOneFlow}
use Rattle.j39_network.specs.PlannedGroups.{IsSelectorInside}
use Rattle.j39_network.specs.Serving.{IsServed, IsServedToOne, IsServedToAll, AsksOne, AsksAll, MayNameReceiver, Meets}

-- ---- units

-- two of those claim one address
abbrev pub HaveSameFixedAddress : UnitPlan → UnitPlan → Type 0
HaveSameFixedAddress u v = IsFixed u × IsFixed v × (u.address ≡ v.address) × (u.claims ≡ true) × (v.claims ≡ true)

-- so many addresses of the pool that aren't kept free are needed: one for each unit that needs one, and one for each stranger, which may
-- have to move to any of them
abbrev pub AreNeeded : Plan → ℕ → Type 0
AreNeeded plan n = (m : ℕ) × SoManyMeet (NeedsPoolAddress plan.keep_free) plan.units.items m × (n ≡ m + plan.strangers)

-- an arbitrary unit that prefers an address that is kept free
abbrev pub PrefersKept : FinSet nat_cmp → UnitPlan → Type 0
PrefersKept kept unit = (is_arbitrary unit.name ≡ true) × (contains kept unit.address ≡ true)

-- two units have one address, and not both of them claim it: neither hears that the other one is there
abbrev pub HaveSilentAddress : UnitPlan → UnitPlan → Type 0
HaveSilentAddress u v = (u.address ≡ v.address) × ((u.claims ≡ false) ⊎ (v.claims ≡ false))

-- a unit that never claims has an address to which others may move: one of the pool, which isn't kept free, or which strangers, that don't
-- know what is, may take
abbrev pub IsSilentInPool : FinSet nat_cmp → ℕ → UnitPlan → Type 0
IsSilentInPool kept strangers unit =
    (unit.claims ≡ false) × (in_pool unit.address ≡ true) × ((contains kept unit.address ≡ false) ⊎ (0 < strangers))

-- ---- groups

-- the groups whose content is each maker's own
abbrev pub IsProprietary : ℕ → Type 0
IsProprietary pgn =
    (pgn ≡ proprietary_a) ⊎ ((pgn ≡ proprietary_a2)
    ⊎ (((proprietary_b_first ≤ pgn) × (pgn ≤ proprietary_b_last)) ⊎ ((proprietary_b2_first ≤ pgn) × (pgn ≤ proprietary_b2_last))))

-- a number that is no group's, or whose group is not for a plan, as those of the extended data page
abbrev pub IsForNoPlan : ℕ → Type 0
IsForNoPlan pgn = (¬ IsPgn pgn) ⊎ ((extended_page ≤ pgn) ⊎ Contains service_groups pgn)

-- a maker's own number of a group that isn't private, or another one of a group that is
abbrev pub IsWronglyPrivate : GroupPlan → Type 0
IsWronglyPrivate group = ((group.private ≡ false) × IsProprietary group.pgn) ⊎ ((group.private ≡ true) × (¬ IsProprietary group.pgn))

abbrev pub HasBadPgn : GroupPlan → Type 0
HasBadPgn group = IsForNoPlan group.pgn ⊎ IsWronglyPrivate group

-- one unit can hear a message of either flow: one of them goes to all, or both to this unit, or both may go in a frame that names no
-- destination
abbrev pub DoReceiversMeet : GroupPlan → GroupPlan → FlowPlan → FlowPlan → Type 0
DoReceiversMeet g h f k = (f.to ≡ All) ⊎ ((k.to ≡ All) ⊎ ((f.to ≡ k.to) ⊎ (MayBeOneFrameToAll g × MayBeOneFrameToAll h)))

-- a unit sends both groups to receivers that meet
abbrev pub AreSentTogether : List GroupPlan → List FlowPlan → GroupPlan → GroupPlan → Type 0
AreSentTogether groups flows g h =
    SomeMeets (λ f. Sends groups g f × SomeMeets (λ k. (k.sender ≡ f.sender) × Sends groups h k × DoReceiversMeet g h f k) flows) flows

-- it counts unless their selectors differ in the value alone, and of two private groups only where a unit sends both to receivers that meet
abbrev pub HaveSamePgn : List GroupPlan → List FlowPlan → GroupPlan → GroupPlan → Type 0
HaveSamePgn groups flows g h = (g.pgn ≡ h.pgn) × (¬ DifferInValue g.when h.when)
    × ((g.private ≡ false) ⊎ ((h.private ≡ false) ⊎ AreSentTogether groups flows g h))

abbrev pub IsPrivateUnsent : List GroupPlan → List FlowPlan → GroupPlan → Type 0
IsPrivateUnsent groups flows group = (group.private ≡ true) × (¬ SomeMeets (Sends groups group) flows)

-- ---- flows

abbrev pub CannotGoToOne : List GroupPlan → FlowPlan → Type 0
CannotGoToOne groups flow = IsToOne flow × ValueAt IsOneFrameToAll groups flow.group

abbrev pub GoesToItsSender : FlowPlan → Type 0
GoesToItsSender flow = flow.to ≡ One flow.sender

-- ---- signals

-- a signal that ends behind the shortest message, or, where it is optional, behind the longest
abbrev pub EndsOutside : GroupPlan → SignalParts → Type 0
EndsOutside group signal = ¬ IsInside (room_of_signal group.length group.most signal) signal

-- ---- texts

-- a text that begins behind the place after the last byte of the shortest message, in which it may be empty, or that ends behind the
-- last byte of the longest
abbrev pub IsOutside : GroupPlan → TextPlan → Type 0
IsOutside group text = (group.length + 1 < text.byte) ⊎ (group.most < last_byte text)

-- ---- records

-- a later one of so many records has a bit of the first signal that belongs to the second one too
pub record ComesOnto (every count : ℕ) (s t : SignalParts) : Type 0 where
  pub behind : ℕ
  pub later : 1 ≤ behind
  pub stands : behind < count
  pub bit : ℕ
  pub of_record : Covers (further (every * behind) s) bit
  pub of_other : Covers t bit

-- records of the signal at place i come onto that at place j: of two that are repeated this is said once, of whichever comes onto the other
abbrev pub DoRecordsMeet : ℕ → ℕ → ℕ → ℕ → SignalParts → SignalParts → Type 0
DoRecordsMeet every count i j s t = (s.repeated ≡ true)
    × (((t.repeated ≡ false) × ComesOnto every count s t)
    ⊎ ((t.repeated ≡ true) × ((i ≤ j) × (ComesOnto every count s t ⊎ ComesOnto every count t s))))

-- so it is with those at these places of a group, in its longest messages
pub record HasRecordsOver (group : GroupPlan) (i j : ℕ) : Type 0 where
  pub every : ℕ
  pub every_is : group.every ≡ Some every
  pub first : SignalParts
  pub first_is : slice_get group.signals.items i ≡ Some first
  pub second : SignalParts
  pub second_is : slice_get group.signals.items j ≡ Some second
  pub meet : DoRecordsMeet every (record_count group group.most) i j first second

-- ---- requests

-- the one unit that is asked would refuse
abbrev pub GoesUnanswered : List FlowPlan → RequestPlan → Type 0
GoesUnanswered flows request = AsksOne request × (¬ IsServed flows request)

-- of all that are asked none would answer
abbrev pub GoesUnheard : List FlowPlan → RequestPlan → Type 0
GoesUnheard flows request = AsksAll request × (¬ IsServed flows request)

-- where one unit is asked, for a group whose messages can name a receiver, those that answer go to all; where all are asked, those that
-- answer go to one unit each (SAE J1939-21: one is answered to one, all are answered to all)
abbrev pub IsAnsweredAstray : List GroupPlan → List FlowPlan → RequestPlan → Type 0
IsAnsweredAstray groups flows request =
    (AsksOne request × MayNameReceiver groups request × IsServedToAll flows request × (¬ IsServedToOne flows request))
    ⊎ (AsksAll request × IsServedToOne flows request × (¬ IsServedToAll flows request))

-- both ask for groups of one number
abbrev pub AskForOneNumber : List GroupPlan → RequestPlan → RequestPlan → Type 0
AskForOneNumber groups r s = ValueAt (λ g. ValueAt (λ h. g.pgn ≡ h.pgn) groups s.group) groups r.group

-- on the bus they are one: a request names a number, who asks, and who is asked
abbrev pub AskTheSame : List GroupPlan → RequestPlan → RequestPlan → Type 0
AskTheSame groups r s = AskForOneNumber groups r s × (r.sender ≡ s.sender) × (r.to ≡ s.to)

-- ---- needs

abbrev pub IsUnmet : List RequestPlan → List FlowPlan → NeedPlan → Type 0
IsUnmet requests flows need = ¬ SomeMeets (Meets requests need) flows

-- ---- ends of flows on a live bus

-- no other unit ever holds the planned address of this one
abbrev pub IsAloneInPlan : Plan → ℕ → Type 0
IsAloneInPlan plan u = IsAloneBeside plan.strangers plan.keep_free (units_of plan) u

-- on a live bus an end of the flow isn't alone: its sender, or the one unit that it goes to; all others know the sender by its address alone
abbrev pub IsFlowContested : Plan → FlowPlan → Type 0
IsFlowContested plan flow = (plan.live ≡ true) × ((¬ IsAloneInPlan plan flow.sender) ⊎ ((r : ℕ) × (flow.to ≡ One r) × (¬ IsAloneInPlan plan r)))

-- ---- the findings

-- what a finding says of a plan
abbrev pub Holds : Plan → Finding → Type 0
Holds plan (SameName i j) = PairAt MayBeOne plan.units.items i j
Holds plan (SameFixedAddress i j) = PairAt HaveSameFixedAddress plan.units.items i j
Holds plan (TooFewAddresses n) = AreNeeded plan n × (free_count plan.keep_free < n)
Holds plan (BadPgn g) = ValueAt HasBadPgn plan.groups.items g
Holds plan (SamePgn g h) = PairAt (HaveSamePgn plan.groups.items plan.flows.items) plan.groups.items g h
Holds plan (SignalWidth g s) = ValueAt (λ group. ValueAt (λ signal. ¬ WidthFits signal) group.signals.items s) plan.groups.items g
Holds plan (SignalOutside g s) = ValueAt (λ group. ValueAt (EndsOutside group) group.signals.items s) plan.groups.items g
Holds plan (SignalOverlap g s t) = ValueAt (λ group. PairAt SharesBit group.signals.items s t) plan.groups.items g
Holds plan (FlowToOne f) = ValueAt (CannotGoToOne plan.groups.items) plan.flows.items f
Holds plan (FlowToSelf f) = ValueAt GoesToItsSender plan.flows.items f
Holds plan (FlowRepeated f h) = PairAt AreOneFlow plan.flows.items f h
Holds plan (KeptAddress i) = ValueAt (PrefersKept plan.keep_free) plan.units.items i
Holds plan (PrivateUnsent g) = ValueAt (IsPrivateUnsent plan.groups.items plan.flows.items) plan.groups.items g
Holds plan (RecordOverlap g s t) = ValueAt (λ group. HasRecordsOver group s t) plan.groups.items g
Holds plan (TextOutside g t) = ValueAt (λ group. ValueAt (IsOutside group) group.texts.items t) plan.groups.items g
Holds plan (NeedUnmet n) = ValueAt (IsUnmet plan.requests.items plan.flows.items) plan.needs.items n
Holds plan (RequestUnanswered r) = ValueAt (GoesUnanswered plan.flows.items) plan.requests.items r
Holds plan (RequestUnheard r) = ValueAt (GoesUnheard plan.flows.items) plan.requests.items r
Holds plan (AnswerAstray r) = ValueAt (IsAnsweredAstray plan.groups.items plan.flows.items) plan.requests.items r
Holds plan (WhenOutside g) = ValueAt (λ group. ¬ IsSelectorInside group) plan.groups.items g
Holds plan (RequestRepeated r s) = PairAt (AskTheSame plan.groups.items) plan.requests.items r s
Holds plan (SilentAddress u v) = PairAt HaveSilentAddress plan.units.items u v
Holds plan (SilentInPool u) = ValueAt (IsSilentInPool plan.keep_free plan.strangers) plan.units.items u
Holds plan (FlowContested f) = ValueAt (IsFlowContested plan) plan.flows.items f

-- nothing is wrong with the plan
abbrev pub Clean : Plan → Type 0
Clean plan = (finding : Finding) → ¬ Holds plan finding

-- ---- their order

-- the number under which a finding is known
abbrev pub finding_number : Finding → ℕ
finding_number (SameName i j) = 1
finding_number (SameFixedAddress i j) = 2
finding_number (TooFewAddresses n) = 3
finding_number (BadPgn g) = 4
finding_number (SamePgn g h) = 5
finding_number (SignalWidth g s) = 6
finding_number (SignalOutside g s) = 7
finding_number (SignalOverlap g s t) = 8
finding_number (FlowToOne f) = 9
finding_number (FlowToSelf f) = 10
finding_number (FlowRepeated f h) = 11
finding_number (KeptAddress i) = 12
finding_number (PrivateUnsent g) = 13
finding_number (RecordOverlap g s t) = 14
finding_number (TextOutside g t) = 15
finding_number (NeedUnmet n) = 19
finding_number (RequestUnanswered r) = 21
finding_number (RequestUnheard r) = 22
finding_number (AnswerAstray r) = 23
finding_number (WhenOutside g) = 24
finding_number (RequestRepeated r s) = 25
finding_number (SilentAddress u v) = 26
finding_number (SilentInPool u) = 27
finding_number (FlowContested f) = 28

-- the places that it names
abbrev pub places_of : Finding → List ℕ
places_of (SameName i j) = i ∷ j ∷ []
places_of (SameFixedAddress i j) = i ∷ j ∷ []
places_of (TooFewAddresses n) = []
places_of (BadPgn g) = g ∷ []
places_of (SamePgn g h) = g ∷ h ∷ []
places_of (SignalWidth g s) = g ∷ s ∷ []
places_of (SignalOutside g s) = g ∷ s ∷ []
places_of (SignalOverlap g s t) = g ∷ s ∷ t ∷ []
places_of (FlowToOne f) = f ∷ []
places_of (FlowToSelf f) = f ∷ []
places_of (FlowRepeated f h) = f ∷ h ∷ []
places_of (KeptAddress i) = i ∷ []
places_of (PrivateUnsent g) = g ∷ []
places_of (RecordOverlap g s t) = g ∷ s ∷ t ∷ []
places_of (TextOutside g t) = g ∷ t ∷ []
places_of (NeedUnmet n) = n ∷ []
places_of (RequestUnanswered r) = r ∷ []
places_of (RequestUnheard r) = r ∷ []
places_of (AnswerAstray r) = r ∷ []
places_of (WhenOutside g) = g ∷ []
places_of (RequestRepeated r s) = r ∷ s ∷ []
places_of (SilentAddress u v) = u ∷ v ∷ []
places_of (SilentInPool u) = u ∷ []
places_of (FlowContested f) = f ∷ []

-- by the number, then by the places
abbrev pub IsBefore : Finding → Finding → Type 0
IsBefore = ComesBefore finding_number places_of

-- all that is wrong with the plan and nothing else, in order
pub record AreFindings (plan : Plan) (findings : List Finding) : Type 0 where
  pub sound : (finding : Finding) → Contains findings finding → Holds plan finding
  pub complete : (finding : Finding) → Holds plan finding → Contains findings finding
  pub in_order : AllPairs IsBefore findings
