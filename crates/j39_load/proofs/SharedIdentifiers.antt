-- Which frames have one identifier at a bit: those of one flow, of twins, of requests of one unit, or of long messages between the same two units.
use Rattle.std.proofs.Common.{◌≡◌, ℕ, ◌%◌, ◌<◌, ◌⊎◌, Bool, true, false, not, ◌&&◌, ◌||◌, is_some, Option, Some, None}
use Rattle.std.proofs.Common.{refl, sym, ap, ◌∙◌, subst, inl, inr, arith, Contains}
use Rattle.std.proofs.lemmas.Bool.{and_parts, cases_eq, eq-eqb, le-leb, or_cases, or_left, or_right, true≢false}
use Rattle.j39_id.specs.Ident.{identifier_of}
use Rattle.j39_id.specs.Pgn.{is_pdu2, pf_of}
use Rattle.j39_id.specs.Services.{service_groups}
use Rattle.j39_findings.specs.Findings.{Clean}
use Rattle.j39_network.specs.declared.plan.Plan.{Plan}
use Rattle.j39_network.specs.declared.plan.flow_plan.FlowPlan.{FlowPlan}
use Rattle.j39_network.specs.declared.plan.group_plan.GroupPlan.{GroupPlan}
use Rattle.j39_network.specs.declared.plan.pace.Pace.{Pace}
use Rattle.j39_network.specs.declared.plan.timing.Timing.{Timing}
use Rattle.j39_network.specs.declared.plan.to.To.{To}
use Rattle.j39_network.specs.declared.plan.to.To.TheVariants.{All as ToAllUnits, One}
use Rattle.j39_network.specs.declared.plan.unit_plan.UnitPlan.{UnitPlan}
use Rattle.j39_signal.specs.declared.selector.Selector.{Selector}
use Rattle.j39_load.specs.declared.frames.flow_frames.FlowFrames.{FlowFrames}
use Rattle.j39_load.specs.AnyQueues.{keep_order}
use Rattle.j39_load.specs.Loads.{any_unit, destination_at, group_ident, single_frames}
use Rattle.j39_load.specs.Ranks.{AreHeldApart, AreTwinFlows, IsShortFlow}
use Rattle.j39_load.specs.SentFrames.{Broadcasts, Held, IsBroadcastFrame, IsFirstFrame, IsRequestFrame, IsSessionFrame, IsSingleFrame, Part, part_identifier}
use Rattle.j39_load.specs.SentFrames.{RequestToSend, Packet, ClearToSend, EndAcknowledged}
use Rattle.j39_load.specs.Twins.{are_twins, is_same}
use Rattle.j39_load.specs.AnswerStreams.{askers_of, frames_for}
use Rattle.j39_load.proofs.Different as other_idents
use Rattle.j39_load.proofs.KnownFrames.{asking_ident, first_ident, one_to, single_ident}
use Rattle.j39_load.proofs.PlacedFrames.{own}
use Rattle.j39_timing.specs.TimedFrames.{Schedule}
use Rattle.j39_timing.specs.Traffic.{IsQueuedAt}

-- ---- twins

-- two that are reported of one number, by one unit
pub record AreAlike (a b : FlowFrames) : Type 0 where
  pub number : ℕ
  pub first : a.twin_ident ≡ Some number
  pub second : b.twin_ident ≡ Some number
  pub senders : a.any_sender ≡ b.any_sender
  pub receivers : a.any_receiver ≡ b.any_receiver

orders_alike : (a b : FlowFrames) → AreAlike a b → keep_order a ≡ keep_order b
orders_alike a b are = ap (λ (u : Option ℕ). not (is_some u || is_some a.any_receiver)) are.senders
    ∙ ap (λ (u : Option ℕ). not (is_some b.any_sender || is_some u)) are.receivers

-- what is a twin of the one is a twin of the other
pub same_twin : (own a b : FlowFrames) → AreAlike a b → are_twins own a ≡ true → are_twins own b ≡ true
same_twin own a b are twin =
    subst (λ (k : Bool). (is_same own.twin_ident b.twin_ident && (k || not (keep_order own))) ≡ true) (orders_alike a b are)
    (subst (λ (n : Option ℕ). (is_same own.twin_ident n && (keep_order a || not (keep_order own))) ≡ true) (are.first ∙ sym are.second) twin)

-- and they are twins of one another
pub own_twin : (a b : FlowFrames) → AreAlike a b → are_twins a b ≡ true
own_twin a b are = same_twin a a b are (rw (are.first, eq-eqb are.number are.number refl) (either (keep_order a)))
  where
    either : (k : Bool) → (k || not k) ≡ true
    either true = refl
    either false = refl

-- frames without a number are twins of none
none_same : (n : Option ℕ) → is_same n None ≡ false
none_same None = refl
none_same (Some n) = refl

pub never_twin : (a b : FlowFrames) → b.twin_ident ≡ None → are_twins a b ≡ true → ⊥
never_twin a b none twin =
    true≢false (sym (and_parts (is_same a.twin_ident b.twin_ident) (keep_order b || not (keep_order a)) twin).0
    ∙ (ap (is_same a.twin_ident) none ∙ none_same a.twin_ident))

-- ---- how an identifier is made

-- of this number, from a unit to another one or to all
pub record IsMade (named : ℕ → Bool) (address : ℕ → ℕ) (ident number from : ℕ) (to : To) : Type 0 where
  pub priority : ℕ
  pub page : number < 131072
  pub low : pf_of number < 240 → number % 256 ≡ 0
  pub from_named : named from ≡ true
  pub to_named : (v : ℕ) → to ≡ One v → named v ≡ true
  pub is : ident ≡ identifier_of priority number (destination_at address to) (address from)

-- of a long message between two units
pub record IsPartMade (named : ℕ → Bool) (address : ℕ → ℕ) (ident u v : ℕ) : Type 0 where
  pub number : ℕ
  pub from : ℕ
  pub to : To
  pub made : IsMade named address ident number from to
  pub either : (number ≡ 60416) ⊎ (number ≡ 60160)
  pub ends : ((from ≡ u) × (to ≡ One v)) ⊎ ((from ≡ v) × (to ≡ One u))

or_swap : (x y : Bool) → (x || y) ≡ true → (y || x) ≡ true
or_swap x y is = elim (or_cases x y is) [
  | inl first ↦ or_right y x first
  | inr second ↦ or_left y x second
]

-- a unit counts where the message goes to it
abbrev counts_to : (ℕ → Bool) → To → Bool
counts_to counts ToAllUnits = false
counts_to counts (One v) = counts v

-- where one of the two units counts, the one that sends the frame does or the one to which it goes
enter : (counts : ℕ → Bool) (u v from : ℕ) (to : To) → ((from ≡ u) × (to ≡ One v)) ⊎ ((from ≡ v) × (to ≡ One u))
    → (counts u || counts v) ≡ true → (counts from || counts_to counts to) ≡ true
enter counts u v from to (inl ends) is = subst (λ (x : ℕ). (counts x || counts_to counts to) ≡ true) (sym ends.0)
    (subst (λ (x : To). (counts u || counts_to counts x) ≡ true) (sym ends.1) is)
enter counts u v from to (inr ends) is = subst (λ (x : ℕ). (counts x || counts_to counts to) ≡ true) (sym ends.0)
    (subst (λ (x : To). (counts v || counts_to counts x) ≡ true) (sym ends.1) (or_swap (counts u) (counts v) is))

-- and the other way round
leave : (counts : ℕ → Bool) (u v from : ℕ) (to : To) → ((from ≡ u) × (to ≡ One v)) ⊎ ((from ≡ v) × (to ≡ One u))
    → (counts from || counts_to counts to) ≡ true → (counts u || counts v) ≡ true
leave counts u v from to (inl ends) is = subst (λ (x : To). (counts u || counts_to counts x) ≡ true) ends.1
    (subst (λ (x : ℕ). (counts x || counts_to counts to) ≡ true) ends.0 is)
leave counts u v from to (inr ends) is = or_swap (counts v) (counts u) (subst (λ (x : To). (counts v || counts_to counts x) ≡ true) ends.1
    (subst (λ (x : ℕ). (counts x || counts_to counts to) ≡ true) ends.0 is))

module _ (plan : Plan) (clean : Clean plan) (named : ℕ → Bool) (address : ℕ → ℕ) (apart : AreHeldApart named address) where
  -- one identifier is made in one way
  made_alike : (x y n m u v : ℕ) (to other : To) → IsMade named address x n u to → IsMade named address y m v other → x ≡ y
      → (n ≡ m) × (u ≡ v) × (is_pdu2 n ≡ false → to ≡ other)
  made_alike x y n m u v to other a b same =
      let first = apart.range u a.from_named in
      let second = apart.range v b.from_named in
      let stated = other_idents.states a.priority b.priority n m (destination_at address to) (destination_at address other) (address u)
      (address v) a.page b.page
      (other_idents.few plan clean named address apart to a.to_named) (other_idents.few plan clean named address apart other b.to_named) (omega (arith, first))
      (omega (arith, second)) a.low b.low (sym a.is ∙ (same ∙ b.is)) in (
        stated.1,
        other_idents.one_unit plan clean named address apart u v a.from_named b.from_named stated.2,
        λ pdu1. other_idents.one_receiver plan clean named address apart to other a.to_named b.to_named (stated.3 pdu1),
      )

  names_destination : (number : ℕ) → (number ≡ 60416) ⊎ (number ≡ 60160) → is_pdu2 number ≡ false
  names_destination number (inl is) = ap is_pdu2 is
  names_destination number (inr is) = ap is_pdu2 is

  -- parts of long messages are of messages between the same two units
  pub parts_between : (counts : ℕ → Bool) (x y u v w z : ℕ) → IsPartMade named address x u v → IsPartMade named address y w z → x ≡ y
      → (counts u || counts v) ≡ true → (counts w || counts z) ≡ true
  parts_between counts x y u v w z a b same is =
      let (number, from, to) = made_alike x y a.number b.number a.from b.from a.to b.to a.made b.made same in
      let receiver : a.to ≡ b.to = to (names_destination a.number a.either) in
      leave counts w z b.from b.to b.ends (subst (λ (k : ℕ). (counts k || counts_to counts b.to) ≡ true) from
      (subst (λ (k : To). (counts a.from || counts_to counts k) ≡ true) receiver (enter counts u v a.from a.to a.ends is)))

  -- no request is one of them
  pub request_or_part : (x y u w z : ℕ) (to : To) → IsMade named address x 59904 u to → IsPartMade named address y w z → x ≡ y → ⊥
  request_or_part x y u w z to a b same =
      let number : 59904 ≡ b.number = (made_alike x y 59904 b.number u b.from to b.to a b.made same).0 in
      elim b.either [
        | inl manages ↦ omega (arith, number, manages)
        | inr carries ↦ omega (arith, number, carries)
      ]

  -- nor a frame of a long message to all
  pub request_or_broadcast : (x y u v number : ℕ) (to : To) → (number ≡ 60416) ⊎ (number ≡ 60160) → IsMade named address x 59904 u to
      → IsMade named address y number v ToAllUnits → x ≡ y → ⊥
  request_or_broadcast x y u v number to either a b same =
      let is : 59904 ≡ number = (made_alike x y 59904 number u v to ToAllUnits a b same).0 in
      elim either [
        | inl manages ↦ omega (arith, is, manages)
        | inr carries ↦ omega (arith, is, carries)
      ]

  -- and no part of one to a single unit
  pub broadcast_or_part : (x y u w z number : ℕ) → IsMade named address x number u ToAllUnits → IsPartMade named address y w z → x ≡ y → ⊥
  broadcast_or_part x y u w z number a b same =
      let (is, from, to) = made_alike x y number b.number u b.from ToAllUnits b.to a b.made same in
      to_one w z b.from b.to b.ends (to (ap is_pdu2 is ∙ names_destination b.number b.either))
    where
      to_one : (w z from : ℕ) (to : To) → ((from ≡ w) × (to ≡ One z)) ⊎ ((from ≡ z) × (to ≡ One w)) → ToAllUnits ≡ to → ⊥
      to_one w z from to (inl ends) all = let stated = all ∙ ends.1 in cc
      to_one w z from to (inr ends) all = let stated = all ∙ ends.1 in cc

  -- two of long messages to all are of one unit, and of one kind
  pub one_sends : (x y u v n k : ℕ) → IsMade named address x n u ToAllUnits → IsMade named address y k v ToAllUnits → x ≡ y → (n ≡ k) × (u ≡ v)
  one_sends x y u v n k a b same =
      let (number, from, to) = made_alike x y n k u v ToAllUnits ToAllUnits a b same in
      (number, from)

  -- two requests are of one unit
  pub one_asks : (x y u v : ℕ) (to other : To) → IsMade named address x 59904 u to → IsMade named address y 59904 v other → x ≡ y → u ≡ v
  one_asks x y u v to other a b same = (made_alike x y 59904 59904 u v to other a b same).1

module _ (plan : Plan) (timing : Timing) (clean : Clean plan) (s : Schedule) (held : Held) (t : ℕ) (apart : AreHeldApart (held.named t) (held.address t)) where
  pub request_made : (r release p : ℕ) (one : IsRequestFrame plan s held r release p) → IsQueuedAt s p t
      → IsMade (held.named t) (held.address t) (s.ident p) 59904 one.asked.sender one.asked.to
  request_made r release p one queued = record {
    priority = 6;
    page = omega arith;
    low = λ _. refl;
    from_named = one.sender_named t queued;
    to_named = λ v goes. one.receiver_named t v queued goes;
    is = asking_ident plan s held r release p t one queued;
  }

  pub broadcast_made : (b : Broadcasts) (number u m release p : ℕ) → (number ≡ 60416) ⊎ (number ≡ 60160)
      → IsBroadcastFrame timing s held b number u m release p → IsQueuedAt s p t → IsMade (held.named t) (held.address t) (s.ident p) number u ToAllUnits
  broadcast_made b number u m release p (inl is) one queued = record {
    priority = timing.transport_priority;
    page = omega (arith, is);
    low = λ _. omega (arith, is);
    from_named = one.sender_named t queued;
    to_named = λ v goes. absurd (let stated = goes in cc);
    is = one.identifier t queued;
  }
  broadcast_made b number u m release p (inr is) one queued = record {
    priority = timing.transport_priority;
    page = omega (arith, is);
    low = λ _. omega (arith, is);
    from_named = one.sender_named t queued;
    to_named = λ v goes. absurd (let stated = goes in cc);
    is = one.identifier t queued;
  }

  module _ (f : ℕ) (part : Part) (release p : ℕ) (one : IsSessionFrame plan timing s held f part release p) (queued : IsQueuedAt s p t) where
    abbrev u : ℕ
    u = one.flow.sender

    abbrev v : ℕ
    v = one.receiver

    -- from the one of its units to the other one
    from_to : (number from to : ℕ) → number < 131072 → number % 256 ≡ 0 → held.named t from ≡ true → held.named t to ≡ true
        → s.ident p ≡ identifier_of timing.transport_priority number (held.address t to) (held.address t from)
        → IsMade (held.named t) (held.address t) (s.ident p) number from (One to)
    from_to number from to page low from_named to_named is = record {
      priority = timing.transport_priority;
      page = page;
      low = λ _. low;
      from_named = from_named;
      to_named = λ w goes. subst (λ (x : ℕ). held.named t x ≡ true) (one_to to w goes) to_named;
      is = is;
    }

    there : (number : ℕ) → number < 131072 → number % 256 ≡ 0 → (number ≡ 60416) ⊎ (number ≡ 60160)
        → s.ident p ≡ identifier_of timing.transport_priority number (held.address t v) (held.address t u)
        → IsPartMade (held.named t) (held.address t) (s.ident p) u v
    there number page low either is = record {
      number = number;
      from = u;
      to = One v;
      made = from_to number u v page low (one.sender_named t queued) (one.receiver_named t queued) is;
      either = either;
      ends = inl (refl, refl);
    }

    back : s.ident p ≡ identifier_of timing.transport_priority 60416 (held.address t u) (held.address t v)
        → IsPartMade (held.named t) (held.address t) (s.ident p) u v
    back is = record {
      number = 60416;
      from = v;
      to = One u;
      made = from_to 60416 v u (omega arith) refl (one.receiver_named t queued) (one.sender_named t queued) is;
      either = inl refl;
      ends = inr (refl, refl);
    }

    by_part : (part : Part) → s.ident p ≡ part_identifier timing part (held.address t u) (held.address t v)
        → IsPartMade (held.named t) (held.address t) (s.ident p) u v
    by_part RequestToSend is = there 60416 (omega arith) refl (inl refl) is
    by_part (Packet k) is = there 60160 (omega arith) refl (inr refl) is
    by_part (ClearToSend k) is = back is
    by_part EndAcknowledged is = back is

    pub part_made : IsPartMade (held.named t) (held.address t) (s.ident p) one.flow.sender one.receiver
    part_made = by_part part (one.identifier t queued)

  -- a message of one frame, of a flow at this place
  pub record IsGroupFrame (f p : ℕ) (flow : FlowPlan) (group : GroupPlan) : Type 0 where
    pub sends : other_idents.SendsOneFrame plan clean (held.named t) (held.address t) apart f flow group
    pub is : s.ident p ≡ group_ident (held.address t) group flow

  pub of_single : (f release p : ℕ) (one : IsSingleFrame plan timing s held f release p) → IsQueuedAt s p t → IsGroupFrame f p one.flow one.group
  of_single f release p one queued = record {
    sends = record {
      its = one.its;
      sent = one.of;
      short = let most = one.short in let least = one.group.most_least in omega (arith, most, least);
      sender = one.sender_named t queued;
      receiver = λ v goes. one.receiver_named t v queued goes;
    };
    is = single_ident plan timing s held f release p t one queued;
  }

  pub of_first : (f release p : ℕ) (one : IsFirstFrame plan timing s held f release p) → IsQueuedAt s p t → IsGroupFrame f p one.flow one.group
  of_first f release p one queued = record {
    sends = record {
      its = one.its;
      sent = one.of;
      short = one.short;
      sender = one.sender_named t queued;
      receiver = λ v goes. one.receiver_named t v queued goes;
    };
    is = first_ident plan timing s held f release p t one queued;
  }

  module _ (f p : ℕ) {flow : FlowPlan} {group : GroupPlan} (one : IsGroupFrame f p flow group) where
    group_made : IsMade (held.named t) (held.address t) (s.ident p) group.pgn flow.sender flow.to
    group_made =
        let can = other_idents.planned plan clean (held.named t) (held.address t) apart flow.group group one.sends.sent in
        record {
          priority = group.priority;
          page = can.page;
          low = can.group.low;
          from_named = one.sends.sender;
          to_named = one.sends.receiver;
          is = one.is;
        }

    -- no service of the network has it
    no_service : (y number from : ℕ) (to : To) → Contains service_groups number → IsMade (held.named t) (held.address t) y number from to → s.ident p ≡ y → ⊥
    no_service y number from to service made same =
        let can = other_idents.planned plan clean (held.named t) (held.address t) apart flow.group group one.sends.sent in
        let is : group.pgn ≡ number =
        (made_alike plan clean (held.named t) (held.address t) apart (s.ident p) y group.pgn number flow.sender from flow.to to group_made made same).0 in
        can.not_service (subst (Contains service_groups) (sym is) service)

    -- so no request has it, and no part of a long message
    pub no_request : (y from : ℕ) (to : To) → IsMade (held.named t) (held.address t) y 59904 from to → s.ident p ≡ y → ⊥
    no_request y from to made same = no_service y 59904 from to (1, omega arith, refl) made same

    pub no_broadcast : (y number from : ℕ) → (number ≡ 60416) ⊎ (number ≡ 60160) → IsMade (held.named t) (held.address t) y number from ToAllUnits
        → s.ident p ≡ y → ⊥
    no_broadcast y number from (inl is) made same = no_service y number from ToAllUnits (3, omega arith, sym is) made same
    no_broadcast y number from (inr is) made same = no_service y number from ToAllUnits (2, omega arith, sym is) made same

    pub no_part : (y w z : ℕ) → IsPartMade (held.named t) (held.address t) y w z → s.ident p ≡ y → ⊥
    no_part y w z part same = no_service y part.number part.from part.to (by_number part.number part.either) part.made same
      where
        by_number : (number : ℕ) → (number ≡ 60416) ⊎ (number ≡ 60160) → Contains service_groups number
        by_number number (inl is) = (3, omega arith, sym is)
        by_number number (inr is) = (2, omega arith, sym is)

  -- ---- two messages of one frame with one identifier

  module _ (f g p q : ℕ) {flow other : FlowPlan} {group second : GroupPlan} (one : IsGroupFrame f p flow group) (two : IsGroupFrame g q other second)
      (same : s.ident p ≡ s.ident q) where
    idents : group_ident (held.address t) group flow ≡ group_ident (held.address t) second other
    idents = sym one.is ∙ (same ∙ two.is)

    -- are of one unit
    pub one_sender : flow.sender ≡ other.sender
    one_sender = other_idents.senders plan clean (held.named t) (held.address t) apart f g flow other group second one.sends two.sends idents

    alike : (stays : UnitPlan → Bool) (pace its_pace : Pace) → AreTwinFlows group flow second other
        → AreAlike (frames_for timing pace (askers_of plan.requests.items flow) (single_frames timing plan.units.items stays flow pace group))
        (frames_for timing its_pace (askers_of plan.requests.items other) (single_frames timing plan.units.items stays other its_pace second))
    alike stays pace its_pace twins = record {
      number = twins.number;
      first = twins.first_is;
      second = twins.second_is;
      senders = ap (any_unit plan.units.items) one_sender;
      receivers = refl;
    }

  -- two single frames are of one flow, or of two that are alike
  pub one_or_alike : (stays : UnitPlan → Bool) (f g release other p q : ℕ) (one : IsSingleFrame plan timing s held f release p)
      (two : IsSingleFrame plan timing s held g other q) → IsQueuedAt s p t → IsQueuedAt s q t → s.ident p ≡ s.ident q
      → (f ≡ g) ⊎ AreAlike (own plan timing stays f one.flow one.pace one.group one.its one.paced one.of)
      (own plan timing stays g two.flow two.pace two.group two.its two.paced two.of)
  one_or_alike stays f g release other p q one two at_p at_q same = elim (cases_eq f g) [
    | inl one_flow ↦ inl one_flow
    | inr differ ↦
        let a = of_single f release p one at_p in
        let b = of_single g other q two at_q in
        inr (alike f g p q a b same stays one.pace two.pace
        (other_idents.different plan clean (held.named t) (held.address t) apart f g one.flow two.flow one.group two.group differ
        (short_flow f release p one at_p)
        (short_flow g other q two at_q) (idents f g p q a b same)))
  ]
    where
      short_flow : (f release p : ℕ) (one : IsSingleFrame plan timing s held f release p) → IsQueuedAt s p t
          → IsShortFlow plan (held.named t) f one.flow one.group
      short_flow f release p one queued = record {
        its = one.its;
        sent = one.of;
        short = le-leb one.group.most 8 one.short;
        sender = one.sender_named t queued;
        receiver = λ v goes. one.receiver_named t v queued goes;
      }

  -- one of them and one of a flow with long messages too are alike
  pub single_or_first : (stays : UnitPlan → Bool) (f g release other p q : ℕ) (one : IsSingleFrame plan timing s held f release p)
      (two : IsFirstFrame plan timing s held g other q) → IsQueuedAt s p t → IsQueuedAt s q t → s.ident p ≡ s.ident q
      → AreAlike (own plan timing stays f one.flow one.pace one.group one.its one.paced one.of)
      (own plan timing stays g two.flow two.pace two.group two.its two.paced two.of)
  single_or_first stays f g release other p q one two at_p at_q same =
      let a = of_single f release p one at_p in
      let b = of_first g other q two at_q in
      alike f g p q a b same stays one.pace two.pace
      (other_idents.short_and_long plan clean (held.named t) (held.address t) apart f g one.flow two.flow one.group two.group a.sends b.sends
      (idents f g p q a b same)
      one.short two.long)

  -- and two of such flows, where the one has a twin
  pub firsts_alike : (stays : UnitPlan → Bool) (f g release other p q : ℕ) (one : IsFirstFrame plan timing s held f release p)
      (two : IsFirstFrame plan timing s held g other q) → IsQueuedAt s p t → IsQueuedAt s q t → s.ident p ≡ s.ident q → (v : Selector) → one.group.when ≡ Some v
      → AreAlike (own plan timing stays f one.flow one.pace one.group one.its one.paced one.of)
      (own plan timing stays g two.flow two.pace two.group two.its two.paced two.of)
  firsts_alike stays f g release other p q one two at_p at_q same v stated =
      let a = of_first f release p one at_p in
      let b = of_first g other q two at_q in
      alike f g p q a b same stays one.pace two.pace
      (other_idents.twins_if_stated plan clean (held.named t) (held.address t) apart f g one.flow two.flow one.group two.group a.sends b.sends
      (idents f g p q a b same)
      v stated)
