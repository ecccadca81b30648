-- Who keeps its own part of the plan on a bus isn't accused in a log of it.
use Rattle.std.proofs.Common.{◌≡◌, ◌≢◌, ◌⊎◌, ℕ, ◌<◌, ◌≤◌, ◌==◌, ◌||◌, List, Bool, true, false, length, get_or, nat_le}
use Rattle.std.proofs.Common.{inl, inr, refl, sym, ap, ◌∙◌, subst, arith, eqb-true, Option, Some}
use Rattle.std.specs.Prelude.{All, slice_index}
use Rattle.std.specs.List.{slice_get}
use Rattle.std.proofs.lemmas.Bool.{and_parts, cases_Bool, leb-true, or_cases, true≢false, false_from_ne_true, not_from_false}
use Rattle.std.proofs.lemmas.Option.{get_or_from_slice_get, none-some, same_Some, slice_get_within}
use Rattle.j39_id.specs.Addresses.{null_address, pool_first, pool_last}
use Rattle.j39_id.specs.Ident.{bits, identifier_of, pgn_of}
use Rattle.j39_id.specs.Lines.{Line}
use Rattle.j39_id.specs.Pgn.{is_pdu2, is_pgn}
use Rattle.j39_id.specs.Services.{address_claimed, connection_management, data_transfer, is_service, request}
use Rattle.j39_id.specs.declared.frame.Frame.{Frame}
use Rattle.j39_signal.specs.Selectors.{is_selected}
use Rattle.j39_network.specs.declared.plan.Plan.{Plan}
use Rattle.j39_network.specs.declared.plan.flow_plan.FlowPlan.{FlowPlan}
use Rattle.j39_network.specs.declared.plan.group_plan.GroupPlan.{GroupPlan}
use Rattle.j39_network.specs.declared.plan.request_plan.RequestPlan.{RequestPlan}
use Rattle.j39_network.specs.declared.plan.timing.Timing.{Timing}
use Rattle.j39_network.specs.declared.plan.to.To.TheVariants.{All as ToAll, One as ToOne}
use Rattle.j39_tp.specs.declared.packet.Packet.{Packet}
use Rattle.j39_timing.specs.TimedFrames.{Schedule}
use Rattle.j39_timing.specs.Traffic.{IsQueuedAt}
use Rattle.j39_load.specs.BusTimes.{with_claims}
use Rattle.j39_load.specs.KeepsBroadcasts.{IsMessageToAll}
use Rattle.j39_load.specs.SentFrames.{Announcing, Asking, Broadcasts, Carrying, ClearToSend, EndAcknowledged, First, FrameSources, Held, InSession, IsFrameOf}
use Rattle.j39_load.specs.SentFrames.{IsSentByUnit, Packet as CarriedPacket, Part, RequestToSend, Single, Source, goes_to, part_identifier, IsBroadcastFrame}
use Rattle.j39_load.specs.SentFrames.{IsRequestFrame, IsSessionFrame}
use Rattle.j39_log_laws.specs.HolderReports.{HaveOwnNumbers}
use Rattle.j39_log_laws.proofs.Identifiers.{IsOther, planned_other, sent_as}
use Rattle.j39_log_laws.proofs.SentFrames.{no_transport, planned_number}
use Rattle.j39_run_laws.proofs.Addresses.CleanEnds.{flow_at}
use Rattle.j39_audit.specs.Claiming.{HeardClaims, Knowledge, knowledge}
use Rattle.j39_audit.specs.Looking.{IsPacketOf, announced_message, is_claim, is_single, message_sent, single}
use Rattle.j39_audit.specs.SentMessages.{SentMessage}
use Rattle.j39_audit.specs.Settings.{Settings}
use Rattle.j39_audit_laws.specs.FoundLines.{IsFrameAt}
use Rattle.j39_audit_laws.specs.KeptParts.{CarriesPlanned, IsGroupAnnounced, IsGroupMessage, KeepersAreNotAccused, KeptPlansAreNotAccused, KeepsBesidePlan}
use Rattle.j39_audit_laws.specs.KeptParts.{KeepsOwnFrames, ShowsFrames, WireFrames, OfFlowsGroup}
use Rattle.j39_audit_laws.specs.OwnPart.{ClaimsAddresses, GoesAsPlanned, IsByThePlan, IsItsAddress, IsItsNumber, IsOfFlowPlanned, LooksAsPlanned, SentBy}
use Rattle.j39_audit_laws.proofs.PlanTiming.{planned_timing}
use Rattle.j39_audit_laws.proofs.Own.{can_claim, claim_number, claims_its_own, flows_are_planned, layouts_are_planned, priorities_are_planned}
use Rattle.j39_audit_laws.proofs.Own.{waits_for_planned, who_always_can, who_claims_its_own}
use Rattle.j39_audit_laws.proofs.RunMessages.{other_none, priority_as, sent_message}

-- ---- numbers and addresses

-- a number that isn't the network's own is that of single frames
own_single : (n : ℕ) → is_service n ≡ false → is_single n ≡ true
own_single n own =
    let two : Bool = n == connection_management || n == data_transfer in
    let one : Bool = n == request || two in
    not_from_false (n == address_claimed || one) (false_from_ne_true (n == address_claimed || one) (λ is.
    elim (or_cases (n == address_claimed) one is) [
      | inl e ↦ absurd (true≢false (sym (ap is_service (eqb-true n address_claimed e)) ∙ own))
      | inr more ↦ elim (or_cases (n == request) two more) [
        | inl e ↦ absurd (true≢false (sym (ap is_service (eqb-true n request e)) ∙ own))
        | inr last ↦ elim (or_cases (n == connection_management) (n == data_transfer) last) [
          | inl e ↦ absurd (true≢false (sym (ap is_service (eqb-true n connection_management e)) ∙ own))
          | inr e ↦ absurd (true≢false (sym (ap is_service (eqb-true n data_transfer e)) ∙ own))
        ]
      ]
    ]))

address_small : (plan : Plan) (v a : ℕ) → IsItsAddress plan v a → a < 254
address_small plan v a is = elim is.planned_or_free [
  | inl planned ↦ (let range = is.unit.address_range in omega (arith, planned, range))
  | inr (arbitrary, leaves, pool, free) ↦
      let parts = and_parts (nat_le pool_first a) (nat_le a pool_last) pool in
      let last = leb-true a pool_last parts.1 in
      omega (arith, last)
]

other_of : (plan : Plan) → HaveOwnNumbers plan → (g : ℕ) (group : GroupPlan) → slice_get plan.groups.items g ≡ Some group → IsOther group.pgn
other_of plan own g group at =
    let valid = own g group (slice_get_within plan.groups.items g group at) in
    let is : get_or plan.groups.items g group ≡ group = get_or_from_slice_get plan.groups.items g group group at in
    let here = subst (λ (x : GroupPlan). (is_pgn x.pgn ≡ true) × (is_service x.pgn ≡ false)) is valid in
    planned_other group.pgn here.0 here.1

other_management : IsOther 60416
other_management = record { range = omega arith; low = λ _. refl; unlike = λ (e : 60416 ≡ 60928). absurd (omega (arith, e)) }

other_packet : IsOther 60160
other_packet = record { range = omega arith; low = λ _. refl; unlike = λ (e : 60160 ≡ 60928). absurd (omega (arith, e)) }

other_request : IsOther 59904
other_request = record { range = omega arith; low = λ _. refl; unlike = λ (e : 59904 ≡ 60928). absurd (omega (arith, e)) }

-- ---- a frame of a unit

module _ (s : Settings) (timing : Timing) (own : HaveOwnNumbers s.plan) (u : ℕ) (f : Frame) where
  abbrev plan : Plan
  plan = s.plan

  -- what the lines of a log ask of it
  pub record IsFine : Type 0 where
    pub claims : is_claim f ≡ true → (f.ident.sa ≢ null_address) × ClaimsAddresses plan u × IsItsAddress plan u f.ident.sa
    pub looks : (packet : Option Packet) (m : SentMessage) → IsPacketOf f packet → message_sent u f packet ≡ Some m → IsItsNumber plan u m.number
        → (k : Knowledge) → IsOfFlowPlanned plan k m
    pub waits : f.ident.priority < timing.unplanned_priority → IsByThePlan s timing u f

  unclaimed : (pgn : ℕ) → IsOther pgn → pgn_of f.ident ≡ pgn → is_claim f ≡ true
      → (f.ident.sa ≢ null_address) × ClaimsAddresses plan u × IsItsAddress plan u f.ident.sa
  unclaimed pgn other group claim = absurd (other.unlike (sym group ∙ claim_number f claim))

  -- ---- of long messages, but what announces one

  -- it announces nothing
  silent_fine : (priority pgn d a : ℕ) → IsOther pgn → d < 256 → a < 256 → bits f.ident ≡ identifier_of priority pgn d a
      → ((packet : Option Packet) (m : SentMessage) → IsPacketOf f packet → message_sent u f packet ≢ Some m)
      → (priority ≡ timing.transport_priority) × ((pgn ≡ connection_management) ⊎ (pgn ≡ data_transfer)) → IsFine
  silent_fine priority pgn d a other less_d less_a number none transports =
      let group = (sent_as f.ident priority pgn d a other less_d less_a number).group_is in
      let same = priority_as f.ident priority pgn d a other less_d less_a number in
      let least = transports.0 in
      record {
        claims = unclaimed pgn other group;
        looks = λ packet m is sends _ k. absurd (none packet m is sends);
        waits = λ _. inr (
          elim transports.1 [ inl management ↦ inl (group ∙ management) | inr packet ↦ inr (group ∙ packet) ],
          omega (arith, same, least),
        );
      }

  packet_fine : (d a : ℕ) → d < 256 → a < 256 → bits f.ident ≡ identifier_of timing.transport_priority data_transfer d a → IsFine
  packet_fine d a less_d less_a number =
      let group = (sent_as f.ident timing.transport_priority data_transfer d a other_packet less_d less_a number).group_is in
      silent_fine timing.transport_priority data_transfer d a other_packet less_d less_a number
      (λ packet m. other_none f (ap is_single group) (λ e. (let never : 60160 ≡ 60416 = sym group ∙ e in absurd (omega (arith, never)))) u packet m)
      (refl, inr refl)

  answer_fine : (d a : ℕ) → d < 256 → a < 256 → bits f.ident ≡ identifier_of timing.transport_priority connection_management d a
      → (slice_index f.payload.items 0 ≢ 16) × (slice_index f.payload.items 0 ≢ 32) → IsFine
  answer_fine d a less_d less_a number nothing =
      let group = (sent_as f.ident timing.transport_priority connection_management d a other_management less_d less_a number).group_is in
      silent_fine timing.transport_priority connection_management d a other_management less_d less_a number
      (λ packet m is sends. elim (sent_message u f packet m is sends) [
        | inl one ↦ true≢false (sym one.0 ∙ ap is_single group)
        | inr it ↦ elim it.announces.control [ inl e ↦ nothing.0 e | inr e ↦ nothing.1 e ]
      ]) (refl, inl refl)

  -- a request
  asking_fine : (d a : ℕ) → d < 256 → a < 256 → bits f.ident ≡ identifier_of 6 request d a → IsFine
  asking_fine d a less_d less_a number =
      let group = (sent_as f.ident 6 request d a other_request less_d less_a number).group_is in
      let same = priority_as f.ident 6 request d a other_request less_d less_a number in
      let least = timing.unplanned_priority_range in
      record {
        claims = unclaimed request other_request group;
        looks = λ packet m is sends _ k. absurd (other_none f (ap is_single group)
            (λ e. (let never : 59904 ≡ 60416 = sym group ∙ e in absurd (omega (arith, never)))) u packet m is sends);
        waits = λ above. absurd (omega (arith, above, same, least));
      }

  -- ---- of flows

  module _ (k : ℕ) (flow : FlowPlan) (group : GroupPlan) (flow_is : slice_get plan.flows.items k ≡ Some flow)
      (group_is : slice_get plan.groups.items flow.group ≡ Some group) (sender : flow.sender ≡ u) (address : ℕ → ℕ)
      (held : (v : ℕ) → v < length plan.units.items → IsItsAddress plan v (address v)) where
    abbrev d : ℕ
    d = goes_to address flow.to

    abbrev a : ℕ
    a = address flow.sender

    receiver_inside : (v : ℕ) → flow.to ≡ ToOne v → v < length plan.units.items
    receiver_inside v to = flow_at (λ (x : FlowPlan). (r : ℕ) → x.to ≡ ToOne r → r < length plan.units.items) plan plan.flow_receivers k flow flow_is v to

    source_small : a < 256
    source_small =
        let inside = flow_at (λ (x : FlowPlan). x.sender < length plan.units.items) plan plan.flow_senders k flow flow_is in
        let less = address_small plan flow.sender a (held flow.sender inside) in
        omega (arith, less)

    destination_small : d < 256
    destination_small = elim (flow.to) as (λ to. flow.to ≡ to → goes_to address to < 256) [
      | ToAll ↦ λ _. omega arith
      | ToOne v ↦ λ to. (let less = address_small plan v (address v) (held v (receiver_inside v to)) in omega (arith, less))
    ] refl

    own_group : is_service group.pgn ≡ false
    own_group = planned_number plan own flow.group group group_is

    -- a message that names no destination, or this one, goes there
    there : (m : SentMessage) (l : Knowledge) → (m.unaddressed ≡ true) ⊎ (m.destination ≡ d) → GoesAsPlanned plan l m flow.to
    there m l goes = elim (flow.to) as (λ to. flow.to ≡ to → (m.unaddressed ≡ true) ⊎ (m.destination ≡ goes_to address to) → GoesAsPlanned plan l m to) [
      | ToAll ↦ λ _ is. is
      | ToOne v ↦ λ to is. elim is [
        | inl open_one ↦ inl open_one
        | inr at ↦
            let its = held v (receiver_inside v to) in
            let less = address_small plan v (address v) its in
            inr (λ (e : m.destination ≡ 255). absurd (omega (arith, e, at, less)), inl (subst (IsItsAddress plan v) (sym at) its))
      ]
    ] refl goes

    short_fine : bits f.ident ≡ identifier_of group.priority group.pgn d a → IsGroupMessage group f.payload.items → IsFine
    short_fine number bytes =
        let other = other_of plan own flow.group group group_is in
        let ident = sent_as f.ident group.priority group.pgn d a other destination_small source_small number in
        let priority = priority_as f.ident group.priority group.pgn d a other destination_small source_small number in
        record {
          claims = unclaimed group.pgn other ident.group_is;
          looks = λ packet m is sends _ l. elim (sent_message u f packet m is sends) [
            | inr it ↦ absurd (no_transport group.pgn own_group (inl (sym ident.group_is ∙ it.management)))
            | inl one ↦ subst (IsOfFlowPlanned plan l) one.1 (record {
              place = k;
              flow = flow;
              flow_is = flow_is;
              sender = sender;
              group = group;
              group_is = group_is;
              number = sym ident.group_is;
              at_least = bytes.at_least;
              at_most = bytes.at_most;
              selected = λ b same. subst (λ (x : List ℕ). is_selected group.when x ≡ true) (same_Some f.payload.items b same) bytes.selected;
              priority = λ p same. sym priority ∙ same_Some f.ident.priority p same;
              goes = there (single u f) l (elim (cases_Bool (is_pdu2 group.pgn)) [
                | inl two ↦ inl (ident.undirected two)
                | inr directed ↦ inr (ident.directed directed)
              ]);
            })
          ];
          waits = λ _. inl (
            ap is_single ident.group_is ∙ own_single group.pgn own_group,
            record {
              place = flow.group;
              group = group;
              group_is = group_is;
              number_is = sym ident.group_is;
              own = inr (k, flow, flow_is, refl, sender);
            },
          );
        }

    announced_fine : bits f.ident ≡ identifier_of timing.transport_priority connection_management d a → IsGroupAnnounced group f.payload.items → IsFine
    announced_fine number bytes =
        let ident = sent_as f.ident timing.transport_priority connection_management d a other_management destination_small source_small number in
        let same = priority_as f.ident timing.transport_priority connection_management d a other_management destination_small source_small number in
        record {
          claims = unclaimed connection_management other_management ident.group_is;
          looks = λ packet m is sends _ l. elim (sent_message u f packet m is sends) [
            | inl one ↦ absurd (true≢false (sym one.0 ∙ ap is_single ident.group_is))
            | inr it ↦
                let size = it.announces.size_is in
                let least = bytes.at_least in
                let most = bytes.at_most in
                subst (IsOfFlowPlanned plan l) it.message_is (record {
                  place = k;
                  flow = flow;
                  flow_is = flow_is;
                  sender = sender;
                  group = group;
                  group_is = group_is;
                  number = sym bytes.number ∙ it.announces.number_is;
                  at_least = omega (arith, size, least);
                  at_most = omega (arith, size, most);
                  selected = λ b none. absurd (none-some b none);
                  priority = λ p none. absurd (none-some p none);
                  goes = there (announced_message u f it.size it.number) l (inr (ident.directed refl));
                })
          ];
          waits = λ _. inr (inl ident.group_is, omega (arith, same));
        }

  -- ---- by its source

  module _ (bus : Schedule) (held : Held) (b : Broadcasts) (release p : ℕ) (number : bits f.ident ≡ bus.ident p) (queued_first : bus.queued p ≤ bus.start p)
      (held_own : (t v : ℕ) → v < length plan.units.items → IsItsAddress plan v (held.address t v))
      (messages : (m : ℕ) → m < b.count u → IsMessageToAll plan timing b u m) where
    abbrev bit : ℕ
    bit = bus.queued p

    queued : IsQueuedAt bus p bit
    queued = (omega arith, queued_first)

    abbrev address : ℕ → ℕ
    address = held.address bit

    sends_it : (k : ℕ) (flow : FlowPlan) → slice_get plan.flows.items k ≡ Some flow
        → (other : FlowPlan) × (slice_get plan.flows.items k ≡ Some other) × (other.sender ≡ u) → flow.sender ≡ u
    sends_it k flow at (other, there, sender) = ap (λ (x : FlowPlan). x.sender) (same_Some flow other (sym at ∙ there)) ∙ sender

    small : (v : ℕ) → v < length plan.units.items → address v < 256
    small v inside = (let less = address_small plan v (address v) (held_own bit v inside) in omega (arith, less))

    in_session : (k : ℕ) (part : Part) → IsSessionFrame plan timing bus held k part release p → IsSentByUnit plan (InSession k part) u
        → CarriesPlanned plan b (InSession k part) f.payload.items → IsFine
    in_session k part is its carries =
        let sender_in = flow_at (λ (x : FlowPlan). x.sender < length plan.units.items) plan plan.flow_senders k is.flow is.its in
        let receiver_in = flow_at (λ (x : FlowPlan). (r : ℕ) → x.to ≡ ToOne r → r < length plan.units.items) plan plan.flow_receivers k is.flow is.its
        is.receiver is.to_one in
        parted part refl (small is.flow.sender sender_in) (small is.receiver receiver_in)
        (number ∙ is.identifier bit queued) its carries
      where
        parted : (x : Part) → part ≡ x → address is.flow.sender < 256 → address is.receiver < 256
            → bits f.ident ≡ part_identifier timing x (address is.flow.sender) (address is.receiver)
            → IsSentByUnit plan (InSession k x) u → CarriesPlanned plan b (InSession k x) f.payload.items → IsFine
        parted RequestToSend same from to ident sends bytes =
            let destination : goes_to address is.flow.to ≡ address is.receiver = ap (goes_to address) is.to_one in
            announced_fine k is.flow is.group is.its is.of (sends_it k is.flow is.its sends) address (held_own bit)
            (ident ∙ ap (λ (d : ℕ). identifier_of timing.transport_priority connection_management d (address is.flow.sender)) (sym destination))
            (bytes is.flow is.group is.its is.of)
        parted (CarriedPacket j) same from to ident sends bytes = packet_fine (address is.receiver) (address is.flow.sender) to from ident
        parted (ClearToSend j) same from to ident sends bytes = answer_fine (address is.flow.sender) (address is.receiver) from to ident bytes
        parted EndAcknowledged same from to ident sends bytes = answer_fine (address is.flow.sender) (address is.receiver) from to ident bytes

    to_all : (v m : ℕ) → v ≡ u → IsBroadcastFrame timing bus held b connection_management v m release p
        → OfFlowsGroup plan (b.flow v m) (λ group. IsGroupAnnounced group f.payload.items) → IsFine
    to_all v m same is bytes =
        let message = messages m (subst (λ (x : ℕ). m < b.count x) same is.known) in
        let destination : goes_to address message.flow.to ≡ 255 = ap (goes_to address) message.to_all in
        let source : address message.flow.sender ≡ address v = ap address (message.from ∙ sym same) in
        announced_fine (b.flow u m) message.flow message.group message.its message.of message.from address (held_own bit)
        (number ∙ is.identifier bit queued
        ∙ ap (λ (d : ℕ). identifier_of timing.transport_priority connection_management d (address v)) (sym destination)
        ∙ ap (λ (a : ℕ). identifier_of timing.transport_priority connection_management (goes_to address message.flow.to) a) (sym source))
        (subst (λ (x : ℕ). OfFlowsGroup plan (b.flow x m)
        (λ group. IsGroupAnnounced group f.payload.items)) same bytes message.flow message.group message.its message.of)

    carried : (v m : ℕ) → v ≡ u → IsBroadcastFrame timing bus held b data_transfer v m release p → IsFine
    carried v m same is =
        let message = messages m (subst (λ (x : ℕ). m < b.count x) same is.known) in
        let inside = flow_at (λ (x : FlowPlan). x.sender < length plan.units.items) plan plan.flow_senders (b.flow u m) message.flow message.its in
        let there : v < length plan.units.items = subst (λ (x : ℕ). x < length plan.units.items) (message.from ∙ sym same) inside in
        packet_fine 255 (address v) (omega arith) (small v there) (number ∙ is.identifier bit queued)

    asked : (r : ℕ) → IsRequestFrame plan bus held r release p → IsFine
    asked r is =
        let sender_in = request_at (λ (x : RequestPlan). x.sender < length plan.units.items) plan.request_senders r is.asked is.its in
        let receivers = request_at (λ (x : RequestPlan). (v : ℕ) → x.to ≡ ToOne v → v < length plan.units.items) plan.request_receivers r is.asked is.its in
        let to : goes_to address is.asked.to < 256 = elim (is.asked.to) as (λ to. is.asked.to ≡ to → goes_to address to < 256) [
          | ToAll ↦ λ _. omega arith
          | ToOne v ↦ λ to. small v (receivers v to)
        ] refl in
        asking_fine (goes_to address is.asked.to) (address is.asked.sender) to (small is.asked.sender sender_in) (number ∙ is.identifier bit queued)
      where
        request_at : (P : RequestPlan → Type 0) → All P plan.requests.items → (k : ℕ) (x : RequestPlan) → slice_get plan.requests.items k ≡ Some x → P x
        request_at P all k x at =
            subst P (get_or_from_slice_get plan.requests.items k x x at) (all k x (slice_get_within plan.requests.items k x at))

    pub by_source : (from : Source) → IsFrameOf plan timing bus held b from release p → IsSentByUnit plan from u → CarriesPlanned plan b from f.payload.items
        → IsFine
    by_source (Single k) is its carries =
        short_fine k is.flow is.group is.its is.of (sends_it k is.flow is.its its) address (held_own bit) (number ∙ is.identifier bit queued)
        (carries is.flow is.group is.its is.of)
    by_source (First k) is its carries =
        short_fine k is.flow is.group is.its is.of (sends_it k is.flow is.its its) address (held_own bit) (number ∙ is.identifier bit queued)
        (carries is.flow is.group is.its is.of)
    by_source (InSession k part) is its carries = in_session k part is its carries
    by_source (Asking r) is its carries = asked r is
    by_source (Announcing v m) is its carries = to_all v m its is carries
    by_source (Carrying v m j) is its carries = carried v m its is.0

  -- one that isn't planned
  pub besides_fine : (ident : ℕ) → bits f.ident ≡ ident → KeepsBesidePlan plan timing u ident f → IsFine
  besides_fine ident number is = record {
    claims = is.looks.claims;
    looks = is.looks.messages;
    waits = λ above. absurd (never above);
  }
    where
      never : f.ident.priority < timing.unplanned_priority → ⊥
      never above =
          let least = is.priority in
          let a = f.ident.edp_range in let c = f.ident.dp_range in let e = f.ident.pf_range in let g = f.ident.ps_range in let h = f.ident.sa_range in
          omega (arith, above, least, number, a, c, e, g, h)

-- ---- a log

module _ (s : Settings) (log : List Line) (timing : Timing) (bus : Schedule) (wire : WireFrames) (place : ℕ → ℕ) (planned : ℕ → Bool) (sent : FrameSources)
    (held : Held) (u : ℕ) (own : HaveOwnNumbers s.plan) (shows : ShowsFrames s log bus wire place)
    (keeps : KeepsOwnFrames s.plan timing bus wire planned sent held u) where
  frame_fine : (p : ℕ) → p < bus.count → wire.unit p ≡ Some u → IsFine s timing own u (wire.frame p)
  frame_fine p inside its = elim (cases_Bool (planned p)) [
    | inl plans ↦
        let is = keeps.flows p inside its plans in
        by_source s timing own u (wire.frame p) bus held sent.broadcasts (sent.release p) p (keeps.ident p inside its) (keeps.queued_first p inside its)
        keeps.held_own keeps.messages (sent.source p) is.is is.its is.carries
    | inr other ↦
        besides_fine s timing own u (wire.frame p) (bus.ident p) (keeps.ident p inside its) (keeps.besides p inside its other)
  ]

  line_fine : (number : ℕ) (claims : HeardClaims) (f : Frame) (packet : Option Packet) → IsFrameAt s log number claims f packet
      → wire.unit (place number) ≡ Some u → IsFine s timing own u f
  line_fine number claims f packet at its =
      subst (IsFine s timing own u) (shows.is number claims f packet at) (frame_fine (place number) (shows.known number claims f packet at) its)

pub keepers : KeepersAreNotAccused
keepers s log timing bus wire place planned sent held u moving own timed shows its keeps =
    let sent_by : SentBy = λ number. wire.unit (place number) in
    let fine = line_fine s log timing bus wire place planned sent held u own shows keeps in
    let looks : LooksAsPlanned s log sent_by u = λ number claims f packet at by m message its_number.
    (fine number claims f packet at by).looks packet m at.packet_is message its_number (knowledge s claims) in
    record {
      address = claims_its_own s log sent_by u moving its (who_claims_its_own s log sent_by u (λ number claims f packet at by claim some.
          (let is = (fine number claims f packet at by).claims claim in (is.1, is.2))));
      cannot = can_claim s log sent_by u moving its
          (who_always_can s log sent_by u (λ number claims f packet at by claim. ((fine number claims f packet at by).claims claim).0));
      layout = layouts_are_planned s log sent_by u moving its looks;
      no_flow = flows_are_planned s log sent_by u moving its (λ n claims f packet at its_own m is number. inl (looks n claims f packet at its_own m is number));
      priority = priorities_are_planned s log sent_by u moving its looks;
      urgent = waits_for_planned s log sent_by u moving its (λ number claims f packet at by t there above.
          (let same : timing ≡ with_claims s.plan t = counted t there in
          subst (λ (x : Timing). IsByThePlan s x u f) same
          ((fine number claims f packet at by).waits (subst (λ (x : Timing). f.ident.priority < x.unplanned_priority) (sym same) above))));
    }
  where
    counted : (t : Timing) → s.plan.timing ≡ Some t → timing ≡ with_claims s.plan t
    counted t there =
        let (planned, at, same) = planned_timing s.plan timing timed in
        sym same ∙ ap (with_claims s.plan) (same_Some planned t (sym at ∙ there))

-- ---- a bus that keeps to its plan

pub kept_plans : KeptPlansAreNotAccused
kept_plans s log timing bus wire place planned sent held moving own timed first keeps carries shows u its =
    keepers s log timing bus wire place planned sent held u moving own timed shows its (record {
      ident = λ p inside unit. carries.ident p u inside unit;
      queued_first = λ p inside _. first p inside;
      held_own = carries.held_own;
      messages = λ m inside. keeps.broadcasts.messages u m inside;
      flows = λ p inside unit plans. record {
        is = keeps.frames p inside plans;
        its = carries.sender p u inside unit plans;
        carries = carries.flows p inside plans;
      };
      besides = λ p inside unit other. record { looks = carries.besides p u inside unit other; priority = keeps.others_priority p inside other };
    })
