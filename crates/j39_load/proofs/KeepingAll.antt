-- A bus can keep to a plan in the plan's own words on which a single frame is sent, a request, a long message to one unit and one to all, one frame
-- behind the other.
use Rattle.std.proofs.Common.{◌≡◌, ℕ, zero, suc, ◌+◌, ◌*◌, ◌^◌, ◌<◌, ◌≤◌, Bool, true, if◌then◌else◌, ltb, length, Some, ◌-◌}
use Rattle.std.proofs.Common.{refl, sym, ap, ◌∙◌, subst, inl, inr, arith}
use Rattle.std.proofs.Math.Nat.{mul-le-mul_right}
use Rattle.std.proofs.lemmas.Bool.{cases_lt, le-ltb, lt-ltb}
use Rattle.std.proofs.lemmas.Option.{same_Some, slice_get_within}
use Rattle.std.specs.List.{slice_get}
use Rattle.j39_id.specs.Ident.{identifier_of}
use Rattle.j39_id.specs.Pgn.{IsPgn}
use Rattle.j39_network.specs.PlannedUnits.{units_of}
use Rattle.j39_network.specs.declared.plan.Plan.{Plan}
use Rattle.j39_network.specs.declared.plan.flow_plan.FlowPlan.{FlowPlan}
use Rattle.j39_network.specs.declared.plan.group_plan.GroupPlan.{GroupPlan}
use Rattle.j39_network.specs.declared.plan.pace.Pace.{Pace}
use Rattle.j39_network.specs.declared.plan.request_plan.RequestPlan.{RequestPlan}
use Rattle.j39_network.specs.declared.plan.timing.Timing.{Timing}
use Rattle.j39_network.specs.declared.plan.to.To.{To}
use Rattle.j39_network.specs.declared.plan.to.To.TheVariants.{All, One}
use Rattle.j39_network.specs.declared.plan.unit_plan.UnitPlan.{UnitPlan}
use Rattle.j39_search.proofs.Members.{all_at}
use Rattle.j39_load.specs.KeepsAnswers.{IsAnswering, IsOfFlow}
use Rattle.j39_load.specs.KeepsPlan.{KeepsQueues, KeepsToPlan}
use Rattle.j39_load.specs.KeptTogether.{CanSendAll, HasBeenSent}
use Rattle.j39_load.specs.Loads.{bits_per_ms}
use Rattle.j39_load.specs.Ranks.{AreHeldApart}
use Rattle.j39_load.specs.SentFrames.{Broadcasts, FrameSources, Held, IsFrameOf, IsPart, IsSentByUnit, IsRequestFrame, IsSessionFrame}
use Rattle.j39_load.specs.Clocks.{bit_time}
use Rattle.j39_load.specs.SentFrames.{IsSingleFrame, IsWithinUnitMs, Part, SendsPart, Source, goes_to, part_identifier}
use Rattle.j39_load.specs.SentFrames.{Announcing, Carrying, Single, First, InSession, Asking, RequestToSend, Packet, ClearToSend, EndAcknowledged}
use Rattle.j39_load.proofs.KeepingApart.{few_bits}
use Rattle.j39_load.proofs.KeepingOneToAll as one
use Rattle.j39_load.proofs.KeepingOneToAll.{OneToAll}
use Rattle.j39_load.proofs.KeepingPlanned.{IsAskedSeldom, keeps_queues, seldom_at, slots_kept, planned_address, planned_apart, planned_controllers}
use Rattle.j39_load.proofs.KeepingPlanned.{planned_held, planned_single}
use Rattle.j39_load.proofs.KnownFrames.{one_to}
use Rattle.j39_load.proofs.Milliseconds.{at_once, in_unit_ms, own_ms}
use Rattle.j39_load.proofs.Slots.{ends_before, slots}
use Rattle.j39_timing.specs.Rounds.{all_planned}
use Rattle.j39_timing.specs.TimedFrames.{Schedule}
use Rattle.j39_world.specs.HeldAddresses.{ArePlannedApart}

-- ---- what is sent in a slot

-- the single frame, the request, a part of the long message to one unit, or of the one to all the announcement or a packet
data Choice : Type 0 where
  Alone : Choice
  Asks : Choice
  Carries : Part → Choice
  Announces : Choice
  Sends : ℕ → Choice

-- behind the first five slots come the packets to one unit, the acknowledgement, and the packets to all
abbrev last_choice : ℕ → ℕ → Choice
last_choice packets k = if ltb k packets then Carries (Packet k) else (if ltb k (packets + 1) then Carries EndAcknowledged else Sends (k - (packets + 1)))

abbrev choice : ℕ → ℕ → Choice
choice packets zero = Alone
choice packets (suc zero) = Asks
choice packets (suc (suc zero)) = Carries RequestToSend
choice packets (suc (suc (suc zero))) = Carries (ClearToSend 0)
choice packets (suc (suc (suc (suc zero)))) = Announces
choice packets (suc (suc (suc (suc (suc k))))) = last_choice packets k

abbrev source_of : ℕ → ℕ → ℕ → ℕ → Choice → Source
source_of f g r w Alone = Single f
source_of f g r w Asks = Asking r
source_of f g r w (Carries part) = InSession g part
source_of f g r w Announces = Announcing w 0
source_of f g r w (Sends k) = Carrying w 0 k

-- the slot of a source
abbrev slot_of : ℕ → Source → ℕ
slot_of packets (Single f) = 0
slot_of packets (First f) = 0
slot_of packets (Asking r) = 1
slot_of packets (InSession g RequestToSend) = 2
slot_of packets (InSession g (ClearToSend k)) = 3
slot_of packets (InSession g (Packet k)) = 5 + k
slot_of packets (InSession g EndAcknowledged) = 5 + packets
slot_of packets (Announcing w m) = 4
slot_of packets (Carrying w m k) = 6 + (packets + k)

last_slot : (packets f g r w k : ℕ) → slot_of packets (source_of f g r w (last_choice packets k)) ≡ 5 + k
last_slot packets f g r w k = elim (cases_lt k packets) [
  | inl less ↦ rw (lt-ltb k packets less) refl
  | inr more ↦ elim (cases_lt k (packets + 1)) [
    | inl one ↦ rw (le-ltb k packets more, lt-ltb k (packets + 1) one) (omega (arith, more, one))
    | inr rest ↦ rw (le-ltb k packets more, le-ltb k (packets + 1) rest) (omega (arith, rest))
  ]
]

slot_stated : (packets f g r w p : ℕ) → slot_of packets (source_of f g r w (choice packets p)) ≡ p
slot_stated packets f g r w zero = refl
slot_stated packets f g r w (suc zero) = refl
slot_stated packets f g r w (suc (suc zero)) = refl
slot_stated packets f g r w (suc (suc (suc zero))) = refl
slot_stated packets f g r w (suc (suc (suc (suc zero)))) = refl
slot_stated packets f g r w (suc (suc (suc (suc (suc k))))) = last_slot packets f g r w k ∙ omega arith

module _ (plan : Plan) (timing : Timing) (apart : ArePlannedApart (units_of plan)) (f : ℕ) (flow : FlowPlan) (pace : Pace) (group : GroupPlan)
    (its : slice_get plan.flows.items f ≡ Some flow) (paced : flow.pace ≡ Some pace) (of : slice_get plan.groups.items flow.group ≡ Some group)
    (short : group.most ≤ 8) (number : IsPgn group.pgn) (g : ℕ) (other : FlowPlan) (its_pace : Pace) (second : GroupPlan)
    (other_is : slice_get plan.flows.items g ≡ Some other) (other_paced : other.pace ≡ Some its_pace)
    (second_is : slice_get plan.groups.items other.group ≡ Some second) (long : 8 < second.most) (v : ℕ) (to_one : other.to ≡ One v)
    (unit : UnitPlan) (receiver_is : slice_get plan.units.items v ≡ Some unit) (r : ℕ) (asked : RequestPlan) (ms : ℕ)
    (asked_is : slice_get plan.requests.items r ≡ Some asked) (asked_paced : asked.period ≡ Some ms) (packets : ℕ) (few : 7 * packets < second.most + 7)
    (h : ℕ) (to_all : FlowPlan) (h_pace : Pace) (third : GroupPlan) (h_is : slice_get plan.flows.items h ≡ Some to_all) (h_paced : to_all.pace ≡ Some h_pace)
    (third_is : slice_get plan.groups.items to_all.group ≡ Some third) (h_long : 8 < third.most) (goes_to_all : to_all.to ≡ All) (more : ℕ) (two : 2 ≤ more)
    (shortest : third.length ≤ 7 * more) (longest : 7 * more < third.most + 7)
    (seldom : IsAskedSeldom plan flow) (other_seldom : IsAskedSeldom plan other) (third_seldom : IsAskedSeldom plan to_all)
    (fits : (6 + (packets + more)) * (160 + timing.broadcast_gap * bits_per_ms timing.bitrate) * bit_time timing.bitrate ≤ 1000 * its_pace.period) where
  abbrev address : ℕ → ℕ
  address = planned_address plan apart

  abbrev held : Held
  held = planned_held plan apart

  abbrev u : ℕ
  u = other.sender

  -- the unit that sends to all
  abbrev w : ℕ
  w = to_all.sender

  -- a slot has room for a frame and a gap
  abbrev width : ℕ
  width = 160 + timing.broadcast_gap * bits_per_ms timing.bitrate

  named_where : (x : ℕ) → x < length plan.units.items → ltb x (length plan.units.items) ≡ true
  named_where x below = lt-ltb x (length plan.units.items) below

  abbrev ident_of : Choice → ℕ
  ident_of Alone = identifier_of group.priority group.pgn (goes_to address flow.to) (address flow.sender)
  ident_of Asks = identifier_of 6 59904 (goes_to address asked.to) (address asked.sender)
  ident_of (Carries part) = part_identifier timing part (address u) (address v)
  ident_of Announces = identifier_of timing.transport_priority 60416 255 (address w)
  ident_of (Sends k) = identifier_of timing.transport_priority 60160 255 (address w)

  abbrev n : ℕ
  n = 6 + (packets + more)

  abbrev bus : Schedule
  bus = slots width n (λ p. ident_of (choice packets p))

  -- a single frame and a request have their releases where they are queued, the long message where it begins
  abbrev release_of : ℕ → Choice → ℕ
  release_of p Alone = p * width
  release_of p Asks = p * width
  release_of p (Carries part) = 0
  release_of p Announces = p * width
  release_of p (Sends k) = p * width

  -- the two flows with messages of one frame, and to one unit, are two
  short_or_long : f ≡ g → ⊥
  short_or_long same =
      let flows : flow ≡ other = same_Some _ _ (sym its ∙ (ap (slice_get plan.flows.items) same ∙ other_is)) in
      let groups : group ≡ second = same_Some _ _ (sym of ∙ (ap (λ (h : FlowPlan). slice_get plan.groups.items h.group) flows ∙ second_is)) in
      let most : group.most ≡ second.most = ap (λ (h : GroupPlan). h.most) groups in
      omega (arith, most, short, long)

  seldom_of : (c : Choice) (k : ℕ) (answering : IsAnswering plan k) → IsOfFlow k (source_of f g r w c) → IsAskedSeldom plan answering.flow
  seldom_of Alone k answering is = seldom_at plan f k flow its is seldom answering
  seldom_of Asks k answering is = absurd is
  seldom_of (Carries part) k answering is = seldom_at plan g k other other_is is other_seldom answering
  seldom_of Announces k answering is = absurd is
  seldom_of (Sends i) k answering is = absurd is

  -- only the first slot has the single frame
  alone_first : (p : ℕ) → choice packets p ≡ Alone → p ≡ 0
  alone_first p is = sym (slot_stated packets f g r w p) ∙ ap (λ (c : Choice). slot_of packets (source_of f g r w c)) is

  released_as : (p q k : ℕ) (a c : Choice) → choice packets p ≡ a → choice packets q ≡ c → IsOfFlow k (source_of f g r w a) → IsOfFlow k (source_of f g r w c)
      → release_of p a ≡ release_of q c
  released_as p q k Alone Alone at_p at_q is_p is_q = ap (λ (x : ℕ). x * width) (alone_first p at_p ∙ sym (alone_first q at_q))
  released_as p q k Alone (Carries part) at_p at_q is_p is_q = absurd (short_or_long (is_p ∙ sym is_q))
  released_as p q k (Carries part) Alone at_p at_q is_p is_q = absurd (short_or_long (is_q ∙ sym is_p))
  released_as p q k (Carries part) (Carries other_part) at_p at_q is_p is_q = refl
  released_as p q k Asks c at_p at_q is_p is_q = absurd is_p
  released_as p q k Announces c at_p at_q is_p is_q = absurd is_p
  released_as p q k (Sends i) c at_p at_q is_p is_q = absurd is_p
  released_as p q k Alone Asks at_p at_q is_p is_q = absurd is_q
  released_as p q k Alone Announces at_p at_q is_p is_q = absurd is_q
  released_as p q k Alone (Sends i) at_p at_q is_p is_q = absurd is_q
  released_as p q k (Carries part) Asks at_p at_q is_p is_q = absurd is_q
  released_as p q k (Carries part) Announces at_p at_q is_p is_q = absurd is_q
  released_as p q k (Carries part) (Sends i) at_p at_q is_p is_q = absurd is_q

  -- one message to all
  abbrev to_all_of : OneToAll plan timing
  to_all_of = record {
    f = h;
    flow = to_all;
    pace = h_pace;
    group = third;
    its = h_is;
    paced = h_paced;
    of = third_is;
    long = h_long;
    to_all = goes_to_all;
    packets = more;
    two = two;
    shortest = shortest;
    longest = longest;
    width = width;
    wide = omega arith;
    count = n;
    ident = λ p. ident_of (choice packets p);
    source = λ p. source_of f g r w (choice packets p);
    release = λ p. release_of p (choice packets p);
    slot_of = slot_of packets;
    slot_stated = slot_stated packets f g r w;
    first = 4;
    announced = λ x m. refl;
    carried = λ x m k. omega arith;
    few = third_seldom;
    others_few = λ p k answering is. seldom_of (choice packets p) k answering is;
    one_release = λ p q k answering in_p in_q is_p is_q. released_as p q k (choice packets p) (choice packets q) refl refl is_p is_q;
  }

  abbrev messages_to_all : Broadcasts
  messages_to_all = one.messages plan timing apart to_all_of

  abbrev sent : FrameSources
  sent = one.sent plan timing apart to_all_of

  sends : other.sender < length plan.units.items
  sends = all_at (λ (h : FlowPlan). h.sender < length plan.units.items) plan.flows.items plan.flow_senders g other other_is

  receives : v < length plan.units.items
  receives = slice_get_within plan.units.items v unit receiver_is

  asks : asked.sender < length plan.units.items
  asks = all_at (λ (d : RequestPlan). d.sender < length plan.units.items) plan.requests.items plan.request_senders r asked asked_is

  is_asked : (w : ℕ) → asked.to ≡ One w → w < length plan.units.items
  is_asked w goes = all_at (λ (d : RequestPlan). (x : ℕ) → d.to ≡ One x → x < length plan.units.items) plan.requests.items plan.request_receivers r asked
      asked_is w goes

  -- ---- each frame

  single : (p : ℕ) → bus.ident p ≡ ident_of Alone → IsSingleFrame plan timing bus held f (p * width) p
  single p is =
      planned_single plan timing apart f flow pace group its paced of short bus (p * width) p (omega arith) (omega arith)
      (at_once timing pace.jitter (p * width)) is

  request : (p : ℕ) → bus.ident p ≡ ident_of Asks → IsRequestFrame plan bus held r (p * width) p
  request p is = record {
    asked = asked;
    its = asked_is;
    ms = ms;
    paced = asked_paced;
    length = omega arith;
    at_once = refl;
    sender_named = λ t queued. named_where asked.sender asks;
    receiver_named = λ t w queued goes. named_where w (is_asked w goes);
    identifier = λ t queued. is;
  }

  in_time : (p : ℕ) → p < n → IsWithinUnitMs timing (its_pace.period + its_pace.jitter) 0 (p * width)
  in_time p below =
      let slots : p * width ≤ n * width = mul-le-mul_right width (omega (arith, below)) in
      let most : p * width * bit_time timing.bitrate ≤ n * width * bit_time timing.bitrate = mul-le-mul_right (bit_time timing.bitrate) slots in
      in_unit_ms timing (its_pace.period + its_pace.jitter) 0 (p * width)
      (own_ms timing (its_pace.period + its_pace.jitter) 0 (p * width) (omega (arith, most, fits)))

  sends_to_all : w < length plan.units.items
  sends_to_all = all_at (λ (y : FlowPlan). y.sender < length plan.units.items) plan.flows.items plan.flow_senders h to_all h_is

  part : (p : ℕ) (x : Part) → p < n → bus.ident p ≡ ident_of (Carries x) → IsPart second.most unit.window x → IsSessionFrame plan timing bus held g x 0 p
  part p x below is has = record {
    flow = other;
    its = other_is;
    pace = its_pace;
    paced = other_paced;
    group = second;
    of = second_is;
    long = long;
    receiver = v;
    to_one = to_one;
    unit = unit;
    receiver_is = receiver_is;
    is_part = has;
    length = omega arith;
    release_first = omega arith;
    jitter_at_most = in_time p below;
    sender_named = λ t queued. named_where u sends;
    receiver_named = λ t queued. named_where v receives;
    identifier = λ t queued. is;
  }

  -- the message has what is chosen of it
  abbrev Has : Choice → Type 0
  Has Alone = Unit {0}
  Has Asks = Unit {0}
  Has (Carries x) = IsPart second.most unit.window x
  Has Announces = Unit {0}
  Has (Sends k) = k < more

  last_chosen : (k : ℕ) → 5 + k < n → Has (last_choice packets k)
  last_chosen k below = elim (cases_lt k packets) [
    | inl less ↦ subst (λ (b : Bool). Has (if b then Carries (Packet k)
        else (if ltb k (packets + 1) then Carries EndAcknowledged else Sends (k - (packets + 1)))))
        (sym (lt-ltb k packets less)) (omega (arith, less, few))
    | inr past ↦ subst (λ (b : Bool). Has (if b then Carries (Packet k)
        else (if ltb k (packets + 1) then Carries EndAcknowledged else Sends (k - (packets + 1)))))
        (sym (le-ltb k packets past)) (elim (cases_lt k (packets + 1)) [
          | inl one ↦ subst (λ (b : Bool). Has (if b then Carries EndAcknowledged else Sends (k - (packets + 1)))) (sym (lt-ltb k (packets + 1) one)) tt
          | inr rest ↦ subst (λ (b : Bool). Has (if b then Carries EndAcknowledged else Sends (k - (packets + 1)))) (sym (le-ltb k (packets + 1) rest))
              (omega (arith, rest, below))
        ])
  ]

  chosen : (p : ℕ) → p < n → Has (choice packets p)
  chosen zero below = tt
  chosen (suc zero) below = tt
  chosen (suc (suc zero)) below = tt
  chosen (suc (suc (suc zero))) below = omega (arith, long)
  chosen (suc (suc (suc (suc zero)))) below = tt
  chosen (suc (suc (suc (suc (suc k))))) below = last_chosen k (omega (arith, below))

  frame : (p : ℕ) (c : Choice) → p < n → bus.ident p ≡ ident_of c → Has c
      → IsFrameOf plan timing bus held messages_to_all (source_of f g r w c) (release_of p c) p
  frame p Alone below is has = single p is
  frame p Asks below is has = request p is
  frame p (Carries x) below is has = part p x below is has
  frame p Announces below is has = one.to_each plan timing apart to_all_of p 60416 is
  frame p (Sends k) below is has = (one.to_each plan timing apart to_all_of p 60160 is, has)

  held_apart : (t : ℕ) → AreHeldApart (held.named t) (held.address t)
  held_apart = planned_apart plan apart

  keeps : KeepsToPlan plan timing bus all_planned sent held
  keeps = one.keeps plan timing apart to_all_of (λ p in_p. frame p (choice packets p) in_p refl (chosen p in_p))

  -- ---- who sends it

  abbrev sender_of_part : Part → ℕ
  sender_of_part RequestToSend = u
  sender_of_part (Packet k) = u
  sender_of_part (ClearToSend k) = v
  sender_of_part EndAcknowledged = v

  abbrev sender_of : Choice → ℕ
  sender_of Alone = flow.sender
  sender_of Asks = asked.sender
  sender_of (Carries x) = sender_of_part x
  sender_of Announces = w
  sender_of (Sends k) = w

  by_part : (x : Part) (z : ℕ) (y : FlowPlan) → other ≡ y → SendsPart y x z → sender_of_part x ≡ z
  by_part RequestToSend z y same sends = ap (λ (a : FlowPlan). a.sender) same ∙ sends
  by_part (Packet k) z y same sends = ap (λ (a : FlowPlan). a.sender) same ∙ sends
  by_part (ClearToSend k) z y same sends = one_to v z (sym to_one ∙ (ap (λ (a : FlowPlan). a.to) same ∙ sends))
  by_part EndAcknowledged z y same sends = one_to v z (sym to_one ∙ (ap (λ (a : FlowPlan). a.to) same ∙ sends))

  sent_by : (c : Choice) (z : ℕ) → IsSentByUnit plan (source_of f g r w c) z → sender_of c ≡ z
  sent_by Alone z (y, at, is) = ap (λ (a : FlowPlan). a.sender) (same_Some _ _ (sym its ∙ at)) ∙ is
  sent_by Asks z (d, at, is) = ap (λ (a : RequestPlan). a.sender) (same_Some _ _ (sym asked_is ∙ at)) ∙ is
  sent_by (Carries x) z (y, at, is) = by_part x z y (same_Some _ _ (sym other_is ∙ at)) is
  sent_by Announces z is = is
  sent_by (Sends k) z is = is

  few_address : (w : ℕ) → w < length plan.units.items → address w ≤ 255
  few_address w below = let low = (held_apart 0).range w (named_where w below) in omega (arith, low)

  destination : (to : To) → ((w : ℕ) → to ≡ One w → w < length plan.units.items) → goes_to address to ≤ 255
  destination All known = omega arith
  destination (One w) known = few_address w (known w refl)

  part_few : (x : Part) → part_identifier timing x (address u) (address v) < 2 ^ 29
  part_few RequestToSend = let a = few_address u sends in let b = few_address v receives in let top = timing.transport_priority_range
      in omega (arith, a, b, top)
  part_few (Packet k) = let a = few_address u sends in let b = few_address v receives in let top = timing.transport_priority_range in omega (arith, a, b, top)
  part_few (ClearToSend k) = let a = few_address u sends in let b = few_address v receives in let top = timing.transport_priority_range
      in omega (arith, a, b, top)
  part_few EndAcknowledged = let a = few_address u sends in let b = few_address v receives in let top = timing.transport_priority_range
      in omega (arith, a, b, top)

  ident_few : (c : Choice) → ident_of c < 2 ^ 29
  ident_few Alone = few_bits group.priority group.pgn (goes_to address flow.to) (address flow.sender) group.priority_range number
      (destination flow.to (all_at (λ (h : FlowPlan). (x : ℕ) → h.to ≡ One x → x < length plan.units.items) plan.flows.items plan.flow_receivers f flow its))
      (few_address flow.sender (all_at (λ (h : FlowPlan). h.sender < length plan.units.items) plan.flows.items plan.flow_senders f flow its))
  ident_few Asks =
      let a : goes_to address asked.to ≤ 255 = destination asked.to is_asked in
      let b : address asked.sender ≤ 255 = few_address asked.sender asks in
      let is : ident_of Asks ≡ 6 * 2 ^ 26 + 59904 * 2 ^ 8 + goes_to address asked.to * 2 ^ 8 + address asked.sender = refl in
      omega (arith, a, b, is)
  ident_few (Carries x) = part_few x
  ident_few Announces = let a = few_address w sends_to_all in let top = timing.transport_priority_range in omega (arith, a, top)
  ident_few (Sends k) = let a = few_address w sends_to_all in let top = timing.transport_priority_range in omega (arith, a, top)

  queues : KeepsQueues plan timing bus (planned_controllers plan (λ p. sender_of (choice packets p))) all_planned sent
  queues = keeps_queues plan timing bus sent (λ p. sender_of (choice packets p)) (λ p. sent_by (choice packets p)) (λ p. ident_few (choice packets p))

  -- ---- all of it has been sent

  -- behind the first five slots
  is_sent : (k : ℕ) (x : Source) → k < packets + 1 + more → source_of f g r w (last_choice packets k) ≡ x → HasBeenSent bus sent x
  is_sent k x below is = (
    suc (suc (suc (suc (suc k)))),
    omega (arith, below),
    is,
    let far = ends_before width (5 + k) n (omega (arith, below))
        in omega (arith, far),
  )

  first_sent : (p : ℕ) (x : Source) → p < 5 → sent.source p ≡ x → HasBeenSent bus sent x
  first_sent p x below is = (p, omega (arith, below), is, let far = ends_before width p n (omega (arith, below)) in omega (arith, far))

  carries : (k : ℕ) → k < packets → HasBeenSent bus sent (InSession g (Packet k))
  carries k below = is_sent k (InSession g (Packet k)) (omega (arith, below))
      (ap (λ (b : Bool). source_of f g r w (if b then Carries (Packet k)
      else (if ltb k (packets + 1) then Carries EndAcknowledged else Sends (k - (packets + 1)))))
      (lt-ltb k packets below))

  acknowledges : HasBeenSent bus sent (InSession g EndAcknowledged)
  acknowledges = is_sent packets (InSession g EndAcknowledged) (omega arith)
      (rw (le-ltb packets packets (omega arith), lt-ltb packets (packets + 1) (omega arith)) refl)

  to_all_sent : (k : ℕ) → k < more → HasBeenSent bus sent (Carrying w 0 k)
  to_all_sent k below = is_sent (packets + 1 + k) (Carrying w 0 k) (omega (arith, below)) (
      let past = le-ltb (packets + 1 + k) packets (omega arith) in
      let behind = le-ltb (packets + 1 + k) (packets + 1) (omega arith) in
      let number : packets + 1 + k - (packets + 1) ≡ k = omega arith in
      rw (past, behind, number) refl)

  pub can_send_all : CanSendAll plan timing f g r w packets more
  can_send_all = record {
    bus = slots_kept plan timing apart width n (λ p. ident_of (choice packets p)) (omega arith) sent (λ p. sender_of (choice packets p)) keeps queues;
    turns = one.turns plan timing apart to_all_of;
    single = first_sent 0 (Single f) (omega arith) refl;
    request = first_sent 1 (Asking r) (omega arith) refl;
    asks = first_sent 2 (InSession g RequestToSend) (omega arith) refl;
    clears = first_sent 3 (InSession g (ClearToSend 0)) (omega arith) refl;
    carries = carries;
    acknowledges = acknowledges;
    announces = first_sent 4 (Announcing w 0) (omega arith) refl;
    sends_all = to_all_sent;
  }
