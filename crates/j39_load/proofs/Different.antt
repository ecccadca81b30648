-- Two flows of a clean plan whose messages go in one frame have two identifiers, while units hold different addresses, unless they are twins; so
-- has one that sends some messages in one frame, and others that are long; and no request has that of such a flow.
use Rattle.std.proofs.Common.{◌≡◌, ◌≢◌, ℕ, ◌+◌, ◌*◌, ◌^◌, ◌%◌, ◌<◌, ◌≤◌, ◌⊎◌, Bool, true, false, if◌then◌else◌, inl, inr, Option, Some, None}
use Rattle.std.proofs.Common.{refl, sym, ap, ◌∙◌, subst, arith}
use Rattle.std.proofs.lemmas.Bool.{cases_eq, cases_lt, leb-false, leb-true, true≢false}
use Rattle.std.proofs.lemmas.Option.{get_or_from_slice_get, same_Some, slice_get_within}
use Rattle.std.specs.List.{slice_get}
use Rattle.j39_id.specs.Ident.{identifier_of}
use Rattle.j39_id.specs.Pgn.{is_pdu2, pf_of}
use Rattle.j39_findings.specs.CleanParts.{CanBePlanned}
use Rattle.j39_findings.specs.Findings.{Clean}
use Rattle.j39_search.specs.ListPlaces.{SomeMeets}
use Rattle.j39_network.specs.PlannedFlows.{IsToOne, MayBeOneFrameToAll}
use Rattle.j39_network.specs.PrivateGroups.{Fits}
use Rattle.j39_signal.specs.Selectors.{DifferInValue}
use Rattle.j39_signal.specs.declared.selector.Selector.{Selector}
use Rattle.j39_findings.specs.declared.checking.finding.Finding.TheVariants.{FlowRepeated, FlowToOne}
use Rattle.j39_network.specs.declared.plan.Plan.{Plan}
use Rattle.j39_network.specs.declared.plan.flow_plan.FlowPlan.{FlowPlan}
use Rattle.j39_network.specs.declared.plan.group_plan.GroupPlan.{GroupPlan}
use Rattle.j39_network.specs.declared.plan.request_plan.RequestPlan.{RequestPlan}
use Rattle.j39_network.specs.declared.plan.to.To.{To}
use Rattle.j39_network.specs.declared.plan.to.To.TheVariants.{All as ToAll, One}
use Rattle.j39_findings.proofs.CleanLaws.{parts_of}
use Rattle.j39_findings.proofs.PrivateGroups.{one_unless_apart}
use Rattle.j39_load.specs.Loads.{destination_at, group_ident}
use Rattle.j39_id.specs.Services.{claim_priority, request as request_group}
use Rattle.j39_load.specs.Ranks.{AreHeldApart, AreTwinFlows, IsAskedBetween, IsShortFlow}
use Rattle.j39_load.specs.RequestLoads.{request_ident}

-- an identifier reports its group, its source, and in PDU1 its destination
pub states : (p q n m d e s t : ℕ) → n < 131072 → m < 131072 → d < 256 → e < 256 → s < 256 → t < 256 → (pf_of n < 240 → n % 256 ≡ 0)
    → (pf_of m < 240 → m % 256 ≡ 0) → identifier_of p n d s ≡ identifier_of q m e t → (p ≡ q) × (n ≡ m) × (s ≡ t) × (is_pdu2 n ≡ false → d ≡ e)
states p q n m d e s t n_few m_few d_few e_few s_few t_few n_low m_low = go (is_pdu2 n) (is_pdu2 m) refl refl
  where
    go : (a b : Bool) → is_pdu2 n ≡ a → is_pdu2 m ≡ b
        → p * 2 ^ 26 + n * 2 ^ 8 + (if a then 0 else d * 2 ^ 8) + s ≡ q * 2 ^ 26 + m * 2 ^ 8 + (if b then 0 else e * 2 ^ 8) + t
        → (p ≡ q) × (n ≡ m) × (s ≡ t) × (a ≡ false → d ≡ e)
    go true true is_n is_m same = (omega arith, omega arith, omega arith, λ no. absurd (true≢false no))
    go true false is_n is_m same =
        let high : 240 ≤ pf_of n = leb-true 240 (pf_of n) is_n in
        let below : pf_of m < 240 = leb-false 240 (pf_of m) is_m in
        let low : m % 256 ≡ 0 = m_low below in
        let whole : n ≡ m + e = omega (arith, same, n_few, m_few, e_few, s_few, t_few) in
        absurd (omega (arith, high, below, low, whole, e_few))
    go false true is_n is_m same =
        let high : 240 ≤ pf_of m = leb-true 240 (pf_of m) is_m in
        let below : pf_of n < 240 = leb-false 240 (pf_of n) is_n in
        let low : n % 256 ≡ 0 = n_low below in
        let whole : m ≡ n + d = omega (arith, same, n_few, m_few, d_few, s_few, t_few) in
        absurd (omega (arith, high, below, low, whole, d_few))
    go false false is_n is_m same =
        let low_n : n % 256 ≡ 0 = n_low (leb-false 240 (pf_of n) is_n) in
        let low_m : m % 256 ≡ 0 = m_low (leb-false 240 (pf_of m) is_m) in
        let whole : n + d ≡ m + e = omega (arith, same, n_few, m_few, d_few, e_few, s_few, t_few) in
        let sources : s ≡ t = omega (arith, same, whole, s_few, t_few) in
        let numbers : n ≡ m = omega (arith, low_n, low_m, whole, d_few, e_few) in
        (omega (arith, same, numbers, sources, n_few, whole), numbers, sources, λ _. omega (arith, whole, numbers))

no_second : (w : Option Selector) → DifferInValue w None → ⊥
no_second None none = none
no_second (Some w) none = none

module _ (plan : Plan) (clean : Clean plan) (named : ℕ → Bool) (held : ℕ → ℕ) (apart : AreHeldApart named held) where
  pub planned : (g : ℕ) (group : GroupPlan) → slice_get plan.groups.items g ≡ Some group → CanBePlanned group
  planned g group at = subst CanBePlanned (get_or_from_slice_get plan.groups.items g group group at)
      ((parts_of plan clean).groups g group (slice_get_within plan.groups.items g group at))

  pub one_unit : (u v : ℕ) → named u ≡ true → named v ≡ true → held u ≡ held v → u ≡ v
  one_unit u v named_u named_v same = elim (cases_eq u v) [ inl is ↦ is | inr other ↦ absurd (apart.apart u v other named_u named_v same) ]

  pub one_receiver : (to other : To) → ((v : ℕ) → to ≡ One v → named v ≡ true) → ((v : ℕ) → other ≡ One v → named v ≡ true)
      → destination_at held to ≡ destination_at held other → to ≡ other
  one_receiver ToAll ToAll on_to on_other same = refl
  one_receiver ToAll (One v) on_to on_other same = absurd (let low = apart.range v (on_other v refl) in omega (arith, low, same))
  one_receiver (One v) ToAll on_to on_other same = absurd (let low = apart.range v (on_to v refl) in omega (arith, low, same))
  one_receiver (One u) (One v) on_to on_other same = ap One (one_unit u v (on_to u refl) (on_other v refl) same)

  pub few : (to : To) → ((v : ℕ) → to ≡ One v → named v ≡ true) → destination_at held to < 256
  few ToAll known = omega arith
  few (One v) known = let low = apart.range v (known v refl) in omega (arith, low)

  -- the flow at this place, between units that are named, sends some messages of this group in one frame
  pub record SendsOneFrame (place : ℕ) (flow : FlowPlan) (group : GroupPlan) : Type 0 where
    pub its : slice_get plan.flows.items place ≡ Some flow
    pub sent : slice_get plan.groups.items flow.group ≡ Some group
    pub short : group.length ≤ 8
    pub sender : named flow.sender ≡ true
    pub receiver : (v : ℕ) → flow.to ≡ One v → named v ≡ true

  pub sends_one : (f : ℕ) (flow : FlowPlan) (group : GroupPlan) → IsShortFlow plan named f flow group → SendsOneFrame f flow group
  sends_one f flow group is = record {
    its = is.its;
    sent = is.sent;
    short = let most = leb-true group.most 8 is.short in let least = group.most_least in omega (arith, most, least);
    sender = is.sender;
    receiver = is.receiver;
  }

  -- where its frame names no destination it goes to all, unless others of the group are long
  to_all : (f : ℕ) (flow : FlowPlan) (group : GroupPlan) → IsShortFlow plan named f flow group → is_pdu2 group.pgn ≡ true → (to : To) → flow.to ≡ to
      → to ≡ ToAll
  to_all f flow group is pdu2 ToAll same = refl
  to_all f flow group is pdu2 (One v) same = absurd (clean (FlowToOne f) (record {
    value = flow;
    value_is = is.its;
    meets = (
      (v, same),
      record {
        value = group;
        value_is = is.sent;
        meets = (leb-true 240 (pf_of group.pgn) pdu2, leb-true group.most 8 is.short);
      },
    );
  }))

  module _ (f h : ℕ) (flow other : FlowPlan) (group second : GroupPlan) (is : SendsOneFrame f flow group) (its : SendsOneFrame h other second)
      (same : group_ident held group flow ≡ group_ident held second other) where
    stated : (group.priority ≡ second.priority) × (group.pgn ≡ second.pgn) × (held flow.sender ≡ held other.sender)
        × (is_pdu2 group.pgn ≡ false → destination_at held flow.to ≡ destination_at held other.to)
    stated =
        let can = planned flow.group group is.sent in
        let may = planned other.group second its.sent in
        let low = apart.range flow.sender is.sender in
        let less = apart.range other.sender its.sender in
        states group.priority second.priority group.pgn second.pgn (destination_at held flow.to) (destination_at held other.to) (held flow.sender)
        (held other.sender) can.page may.page (few flow.to is.receiver) (few other.to its.receiver) (omega (arith, low)) (omega (arith, less))
        can.group.low may.group.low same

    pub senders : flow.sender ≡ other.sender
    senders = one_unit flow.sender other.sender is.sender its.sender stated.2

    -- to one destination, where the frame names one
    one_place : is_pdu2 group.pgn ≡ false → flow.to ≡ other.to
    one_place pdu1 = one_receiver flow.to other.to is.receiver its.receiver (stated.3 pdu1)

    sent : (at : ℕ) (one : FlowPlan) (its_group : GroupPlan) (to : To) → SendsOneFrame at one its_group → one.sender ≡ flow.sender
        → (one.to ≡ to) ⊎ (IsToOne one × (to ≡ ToAll) × MayBeOneFrameToAll its_group) → SomeMeets (Fits plan its_group flow.sender to) plan.flows.items
    sent at one its_group to short from reaches = (
      at,
      record {
        value = one;
        value_is = short.its;
        meets = record {
          sends = record { value = its_group; value_is = short.sent; meets = refl };
          from = from;
          reaches = reaches;
        };
      },
    )

    -- a frame that names no destination can be one to all
    reach_all : (at : ℕ) (one : FlowPlan) (its_group : GroupPlan) → SendsOneFrame at one its_group → is_pdu2 its_group.pgn ≡ true → (to : To) → one.to ≡ to
        → (one.to ≡ ToAll) ⊎ (IsToOne one × (ToAll ≡ ToAll) × MayBeOneFrameToAll its_group)
    reach_all at one its_group short pdu2 ToAll goes = inl goes
    reach_all at one its_group short pdu2 (One v) goes = inr ((v, goes), refl, (leb-true 240 (pf_of its_group.pgn) pdu2, short.short))

    -- unless both groups are distinguished by their data they are one
    groups : ¬ DifferInValue group.when second.when → ¬ DifferInValue second.when group.when → flow.group ≡ other.group
    groups alike likewise = go (is_pdu2 group.pgn) refl
      where
        go : (b : Bool) → is_pdu2 group.pgn ≡ b → flow.group ≡ other.group
        go true pdu2 =
            one_unless_apart plan clean flow.sender ToAll flow.group other.group group second is.sent its.sent stated.1 alike likewise
            (sent f flow group ToAll is refl (reach_all f flow group is pdu2 flow.to refl))
            (sent h other second ToAll its (sym senders) (reach_all h other second its (ap is_pdu2 (sym stated.1) ∙ pdu2) other.to refl))
        go false pdu1 =
            one_unless_apart plan clean flow.sender flow.to flow.group other.group group second is.sent its.sent stated.1 alike likewise
            (sent f flow group flow.to is refl (inl refl)) (sent h other second flow.to its (sym senders) (inl (sym (one_place pdu1))))

    -- and their frames have one identifier, whatever addresses the units hold
    pub same_twins : (v w : Selector) → group.when ≡ Some v → second.when ≡ Some w → AreTwinFlows group flow second other
    same_twins v w first_when second_when = record {
      number = group_ident (λ u. u) group flow;
      first_is = rw (first_when) refl;
      second_is = rw (second_when) (ap Some (sym (one_identifier (λ u. u))));
      alike = one_identifier;
    }
      where
        to_either : (n d e s : ℕ) → is_pdu2 second.pgn ≡ true → identifier_of n second.pgn d s ≡ identifier_of n second.pgn e s
        to_either n d e s pdu2 = rw (pdu2) refl

        to_there : (at : ℕ → ℕ) (b : Bool) → is_pdu2 group.pgn ≡ b
            → identifier_of second.priority second.pgn (destination_at at flow.to) (at flow.sender)
            ≡ identifier_of second.priority second.pgn (destination_at at other.to) (at flow.sender)
        to_there at true pdu2 = to_either second.priority (destination_at at flow.to) (destination_at at other.to) (at flow.sender)
            (ap is_pdu2 (sym stated.1) ∙ pdu2)
        to_there at false pdu1 = ap (λ (to : To). identifier_of second.priority second.pgn (destination_at at to) (at flow.sender)) (one_place pdu1)

        one_identifier : (at : ℕ → ℕ) → group_ident at group flow ≡ group_ident at second other
        one_identifier at =
            ap (λ (n : ℕ). identifier_of n group.pgn (destination_at at flow.to) (at flow.sender)) stated.0
            ∙ ap (λ (n : ℕ). identifier_of second.priority n (destination_at at flow.to) (at flow.sender)) stated.1
            ∙ to_there at (is_pdu2 group.pgn) refl
            ∙ ap (λ (u : ℕ). identifier_of second.priority second.pgn (destination_at at other.to) (at u)) senders

    pub one_group_or_twins : (flow.group ≡ other.group) ⊎ AreTwinFlows group flow second other
    one_group_or_twins = go group.when second.when refl refl
      where
        one_group : (v w : Option Selector) → group.when ≡ v → second.when ≡ w → ¬ DifferInValue v w → ¬ DifferInValue w v → flow.group ≡ other.group
        one_group v w first_when second_when alike likewise =
            groups (subst (λ (o : Option Selector). ¬ DifferInValue o second.when) (sym first_when)
            (subst (λ (o : Option Selector). ¬ DifferInValue v o) (sym second_when) alike))
            (subst (λ (o : Option Selector). ¬ DifferInValue o group.when) (sym second_when)
            (subst (λ (o : Option Selector). ¬ DifferInValue w o) (sym first_when) likewise))

        go : (v w : Option Selector) → group.when ≡ v → second.when ≡ w → (flow.group ≡ other.group) ⊎ AreTwinFlows group flow second other
        go (Some v) (Some w) first_when second_when = inr (same_twins v w first_when second_when)
        go None w first_when second_when = inl (one_group None w first_when second_when (λ none. none) (λ none. no_second w none))
        go (Some v) None first_when second_when = inl (one_group (Some v) None first_when second_when (λ none. none) (λ none. none))

    one_kind : flow.group ≡ other.group → group ≡ second
    one_kind one_group = same_Some _ _ (sym is.sent ∙ (ap (slice_get plan.groups.items) one_group ∙ its.sent))

    -- a flow of short messages alone and one with long ones don't send one group
    pub short_and_long : group.most ≤ 8 → 8 < second.most → AreTwinFlows group flow second other
    short_and_long short long = elim one_group_or_twins [
      | inr twins ↦ twins
      | inl one_group ↦ absurd (let most = ap (λ (g : GroupPlan). g.most) (one_kind one_group) in omega (arith, short, long, most))
    ]

    -- and where the one is distinguished by its data the other is too
    pub twins_if_stated : (v : Selector) → group.when ≡ Some v → AreTwinFlows group flow second other
    twins_if_stated v first_when = elim one_group_or_twins [
      | inr twins ↦ twins
      | inl one_group ↦ same_twins v v first_when (sym (ap (λ (g : GroupPlan). g.when) (one_kind one_group)) ∙ first_when)
    ]

  -- one flow isn't planned twice
  pub different : (f h : ℕ) (flow other : FlowPlan) (group second : GroupPlan) → f ≢ h → IsShortFlow plan named f flow group
      → IsShortFlow plan named h other second → group_ident held group flow ≡ group_ident held second other → AreTwinFlows group flow second other
  different f h flow other group second differ is its same =
      elim (one_group_or_twins f h flow other group second one two same) [
        | inr twins ↦ twins
        | inl one_group ↦ elim (cases_lt f h) [
          | inl before ↦ absurd (clean (FlowRepeated f h) (record {
            first = flow;
            second = other;
            below = before;
            first_is = is.its;
            second_is = its.its;
            related = (one_group, from, to_one_place);
          }))
          | inr after ↦ absurd (clean (FlowRepeated h f) (record {
            first = other;
            second = flow;
            below = omega (arith, after, differ);
            first_is = its.its;
            second_is = is.its;
            related = (sym one_group, sym from, sym to_one_place);
          }))
        ]
      ]
    where
      one : SendsOneFrame f flow group
      one = sends_one f flow group is

      two : SendsOneFrame h other second
      two = sends_one h other second its

      from : flow.sender ≡ other.sender
      from = senders f h flow other group second one two same

      number : group.pgn ≡ second.pgn
      number = (stated f h flow other group second one two same).1

      to_one_place : flow.to ≡ other.to
      to_one_place = go (is_pdu2 group.pgn) refl
        where
          go : (b : Bool) → is_pdu2 group.pgn ≡ b → flow.to ≡ other.to
          go true pdu2 = to_all f flow group is pdu2 flow.to refl ∙ sym (to_all h other second its (ap is_pdu2 (sym number) ∙ pdu2) other.to refl)
          go false pdu1 = one_place f h flow other group second one two same pdu1

  -- requests are a service of the network, which no group of the plan is
  pub other_than_requests : (f : ℕ) (flow : FlowPlan) (group : GroupPlan) → IsShortFlow plan named f flow group → (request : RequestPlan)
      → IsAskedBetween named request → group_ident held group flow ≢ request_ident held request
  other_than_requests f flow group is request asked same =
      let can = planned flow.group group is.sent in
      let low = apart.range flow.sender is.sender in
      let less = apart.range request.sender asked.sender in
      let stated = states group.priority claim_priority group.pgn request_group (destination_at held flow.to) (destination_at held request.to)
      (held flow.sender) (held request.sender) can.page (omega arith) (few flow.to is.receiver) (few request.to asked.receiver) (omega (arith, low))
      (omega (arith, less)) can.group.low (λ _. refl) same in
      can.not_service (1, omega arith, sym stated.1)
