-- What stands at the places of a plan's flows, requests and units among all frames that it asks for.
use Rattle.std.proofs.Common.{◌≡◌, ℕ, ◌+◌, ◌*◌, ◌<◌, ◌≤◌, Bool, List, [], ◌∷◌, ◌++◌, length, get_or, map, if◌then◌else◌, Option, Some, None}
use Rattle.std.proofs.Common.{refl, ap, ◌∙◌, subst, arith, option_map}
use Rattle.std.proofs.lemmas.Bool.{eq-eqb, le-leb, lt-leb}
use Rattle.std.proofs.lemmas.List.{length-map}
use Rattle.std.proofs.lemmas.List.FromFn.{length-map-range_with_len}
use Rattle.std.proofs.lemmas.Option.{slice_get-map}
use Rattle.std.specs.List.{slice_get}
use Rattle.j39_network.specs.declared.plan.Plan.{Plan}
use Rattle.j39_network.specs.declared.plan.flow_plan.FlowPlan.{FlowPlan}
use Rattle.j39_network.specs.declared.plan.group_plan.GroupPlan.{GroupPlan}
use Rattle.j39_network.specs.declared.plan.pace.Pace.{Pace}
use Rattle.j39_network.specs.declared.plan.request_plan.RequestPlan.{RequestPlan}
use Rattle.j39_network.specs.declared.plan.timing.Timing.{Timing}
use Rattle.j39_network.specs.declared.plan.to.To.TheVariants.{One}
use Rattle.j39_network.specs.declared.plan.unit_plan.UnitPlan.{UnitPlan}
use Rattle.j39_search.proofs.Members.{all_at}
use Rattle.j39_load.specs.declared.frames.flow_frames.FlowFrames.{FlowFrames}
use Rattle.j39_load.specs.declared.loads.flow_load.FlowLoad.{FlowLoad}
use Rattle.j39_load.specs.declared.frames.messages.Messages.TheVariants.{Short, ToOne}
use Rattle.j39_load.specs.declared.loads.request_load.RequestLoad.{RequestLoad}
use Rattle.j39_load.specs.Asked.{Asked, asked_of, frames_asked, own_frames}
use Rattle.j39_load.specs.Broadcasts.{broadcasts_by, known_unit_load, unit_loads_of}
use Rattle.j39_load.specs.Damage.{damage_frames}
use Rattle.j39_load.specs.KeepsPlan.{source_place, units_stated}
use Rattle.j39_load.specs.AnswerStreams.{askers_of, broadcast_for, frames_for, messages_for}
use Rattle.j39_load.specs.Loads.{long_messages, packet_frames, single_frames}
use Rattle.j39_load.specs.FlowLoads.{asked_load, load_of_flow, loads_of}
use Rattle.j39_load.specs.PlannedFrames.{traffic_of}
use Rattle.j39_load.specs.RequestLoads.{load_of_request, request_load}
use Rattle.j39_load.specs.SentFrames.{Asking}
use Rattle.j39_load.proofs.AskedPlaces.{flow_read, request_read, singles_read}
use Rattle.j39_timing.specs.Traffic.{Traffic}
use Rattle.j39_tp.specs.Chunks.{packets_of}
use Rattle.std.proofs.lemmas.List.FromFn.{get_or-map-range_with_len}
use Rattle.std.proofs.lemmas.Option.{get_or_from_slice_get, none-some}
use Rattle.j39_load.specs.declared.frames.broadcast.Broadcast.{Broadcast}
use Rattle.j39_load.specs.declared.frames.messages.Messages.TheVariants.{ToAll}
use Rattle.j39_load.specs.declared.loads.unit_load.UnitLoad.{UnitLoad}
use Rattle.j39_load.specs.Broadcasts.{broadcast_by, broadcast_from, least_packets, unit_load}
use Rattle.j39_load.specs.Delays.{announcements_place, packets_place}
use Rattle.j39_load.specs.KeepsBroadcasts.{IsMessageToAll}
use Rattle.j39_load.specs.Loads.{broadcast_of}
use Rattle.j39_load.specs.SentFrames.{Broadcasts, Announcing, Carrying}
use Rattle.j39_load.proofs.WantedPlaces.{known_where_some, least_at}
use Rattle.j39_load.proofs.WholeMessages.{announcements_read, packets_read}

module _ (plan : Plan) (timing : Timing) (stays : UnitPlan → Bool) where
  abbrev pub asked : Asked
  asked = asked_of timing plan stays

  abbrev pub all : List (Option FlowFrames)
  all = frames_asked asked ++ damage_frames timing

  abbrev pub traffic : Traffic
  traffic = traffic_of all

  abbrev pub units : List UnitPlan
  units = plan.units.items

  -- ---- a flow

  module _ (f : ℕ) (flow : FlowPlan) (pace : Pace) (group : GroupPlan) (its : slice_get plan.flows.items f ≡ Some flow) (paced : flow.pace ≡ Some pace)
      (of : slice_get plan.groups.items flow.group ≡ Some group) where
    -- how many requests ask for it
    abbrev pub its_askers : ℕ
    its_askers = askers_of plan.requests.items flow

    abbrev pub load : FlowLoad
    load = asked_load timing plan.requests.items units stays flow pace group

    its_load : load_of_flow timing plan stays flow ≡ Some load
    its_load = rw (paced, of) refl

    pub at_place : slice_get (loads_of timing plan stays) f ≡ Some (Some load)
    at_place = slice_get-map (load_of_flow timing plan stays) plan.flows.items f
        ∙ (ap (option_map (load_of_flow timing plan stays)) its ∙ ap Some its_load)

    -- each message of which goes in one frame
    abbrev pub own : FlowFrames
    own = frames_for timing pace its_askers (single_frames timing units stays flow pace group)

    pub of_one_frame : group.most ≤ 8 → load.messages ≡ Short own
    of_one_frame short = rw (le-leb group.most 8 short) refl

    pub read : group.most ≤ 8 → get_or (frames_asked asked) f None ≡ Some own
    read short = flow_read asked.flows asked.units asked.requests f load own at_place (ap own_frames (of_one_frame short))

    -- some messages of which go in one frame, while others are long
    its_singles : group.length ≤ 8 → 8 < group.most → load.singles ≡ Some own
    its_singles short long = rw (lt-leb group.most 8 long, le-leb group.length 8 short) refl

    pub first_read : group.length ≤ 8 → 8 < group.most → get_or (frames_asked asked) (length plan.flows.items + f) None ≡ Some own
    first_read short long =
        let flows = length-map plan.flows.items (load_of_flow timing plan stays) in
        let place : length plan.flows.items + f ≡ length asked.flows + f = omega (arith, flows) in
        ap (λ (k : ℕ). get_or (frames_asked asked) k None) place
        ∙ singles_read asked.flows asked.units asked.requests f load own at_place (its_singles short long)

    -- whose messages are long, to one unit
    abbrev pub in_session : ℕ → FlowFrames
    in_session v = frames_for timing pace its_askers (packet_frames timing units stays flow v pace (packets_of group.most))

    pub to_one : (v : ℕ) → 8 < group.most → flow.to ≡ One v → load.messages ≡ ToOne (in_session v)
    to_one v long goes =
        ap (messages_for timing pace its_askers)
        (ap (λ (b : Bool). if b then Short (single_frames timing units stays flow pace group) else long_messages timing units stays flow pace group flow.to)
        (lt-leb group.most 8 long)
        ∙ ap (long_messages timing units stays flow pace group) goes)

    pub session_read : (v : ℕ) → 8 < group.most → flow.to ≡ One v → get_or (frames_asked asked) f None ≡ Some (in_session v)
    session_read v long goes =
        flow_read asked.flows asked.units asked.requests f load (in_session v) at_place (ap own_frames (to_one v long goes))

  -- ---- a request

  pub same_units : length asked.units ≡ units_stated plan.flows.items units
  same_units = go plan.flows.items
    where
      go : (flows : List FlowPlan)
          → length (unit_loads_of timing units stays (map (load_of_flow timing plan stays) flows)) ≡ units_stated flows units
      go [] = refl
      go (flow ∷ flows) = length-map-range_with_len
          (λ u. known_unit_load timing units stays u (broadcasts_by u (map (load_of_flow timing plan stays) (flow ∷ flows)))) 0 (length units)

  module _ (r : ℕ) (request : RequestPlan) (ms : ℕ) (its : slice_get plan.requests.items r ≡ Some request) (paced : request.period ≡ Some ms) where
    abbrev pub request_asks : RequestLoad
    request_asks = request_load timing units stays request ms

    abbrev pub in_request : FlowFrames
    in_request = request_asks.frames

    pub request_at : slice_get asked.requests r ≡ Some (Some request_asks)
    request_at = slice_get-map (load_of_request timing units stays) plan.requests.items r
        ∙ (ap (option_map (load_of_request timing units stays)) its ∙ ap Some (ap (option_map (request_load timing units stays request)) paced))

    pub request_frames_read : get_or (frames_asked asked) (source_place plan (Asking r)) None ≡ Some in_request
    request_frames_read =
        let stated = same_units in
        let flows = length-map plan.flows.items (load_of_flow timing plan stays) in
        let place : source_place plan (Asking r) ≡ 2 * length asked.flows + (2 * length asked.units + r) = omega (arith, stated, flows) in
        ap (λ (k : ℕ). get_or (frames_asked asked) k None) place
        ∙ request_read asked.flows asked.units asked.requests r request_asks request_at

  -- ---- a unit's long messages to all

  units_read : (u : ℕ) (loads : List (Option FlowLoad)) → 0 < length (broadcasts_by u loads) → u < length units
      → get_or (unit_loads_of timing units stays loads) u None ≡ Some (unit_load timing units stays u (broadcasts_by u loads))
  units_read u [] some below = absurd (omega (arith, some))
  units_read u (load ∷ loads) some below =
      get_or-map-range_with_len (λ v. known_unit_load timing units stays v (broadcasts_by v (load ∷ loads))) 0 (length units) u u None below (omega arith)
      ∙ known_where_some u timing units stays (broadcasts_by u (load ∷ loads)) some

  pub stated_where_flows : (f : ℕ) (flow : FlowPlan) → slice_get plan.flows.items f ≡ Some flow → units_stated plan.flows.items units ≡ length units
  stated_where_flows f flow its = go plan.flows.items its
    where
      go : (flows : List FlowPlan) → slice_get flows f ≡ Some flow → units_stated flows units ≡ length units
      go [] at = absurd (none-some flow at)
      go (first ∷ flows) at = refl

  module _ (b : Broadcasts) (u m : ℕ) (one : IsMessageToAll plan timing b u m) where
    abbrev pub its_broadcast : Broadcast
    its_broadcast = broadcast_for timing one.pace (askers_of plan.requests.items one.flow) (broadcast_of timing one.flow one.pace one.group)

    pub unit_planned : u < length units
    unit_planned = subst (λ (x : ℕ). x < length units) one.from
        (all_at (λ (g : FlowPlan). g.sender < length plan.units.items) plan.flows.items plan.flow_senders (b.flow u m) one.flow one.its)

    pub unit_stated : u < units_stated plan.flows.items units
    unit_stated = let stated = stated_where_flows (b.flow u m) one.flow one.its in let below = unit_planned in omega (arith, stated, below)

    pub to_all_units : (load (b.flow u m) one.flow one.pace one.group one.its one.paced one.of).messages ≡ ToAll its_broadcast
    to_all_units =
        ap (messages_for timing one.pace (askers_of plan.requests.items one.flow))
        (ap (λ (x : Bool). if x then Short (single_frames timing units stays one.flow one.pace one.group)
        else long_messages timing units stays one.flow one.pace one.group one.flow.to) (lt-leb one.group.most 8 one.long)
        ∙ ap (long_messages timing units stays one.flow one.pace one.group) one.to_all)

    -- its flow's broadcast is one of the unit's
    pub is_by : broadcast_by u (get_or asked.flows (b.flow u m) None) ≡ Some its_broadcast
    is_by =
        let there : get_or asked.flows (b.flow u m) None ≡ Some (load (b.flow u m) one.flow one.pace one.group one.its one.paced one.of) =
        get_or_from_slice_get asked.flows (b.flow u m) (Some (load (b.flow u m) one.flow one.pace one.group one.its one.paced one.of)) None
        (at_place (b.flow u m) one.flow one.pace one.group one.its one.paced one.of) in
        let sender : broadcast_from u (ToAll its_broadcast) ≡ Some its_broadcast = rw (eq-eqb one.flow.sender u one.from) refl in
        ap (broadcast_by u) there ∙ (ap (broadcast_from u) to_all_units ∙ sender)

    -- which has no fewer packets than the shortest of them
    pub fewest : least_packets (broadcasts_by u asked.flows) ≤ b.packets u m
    fewest =
        let least = (least_at u asked.flows (b.flow u m) its_broadcast is_by).1 in
        let two = one.two in
        let shortest = one.shortest in
        omega (arith, least, two, shortest)

    abbrev pub unit_asks : UnitLoad
    unit_asks = unit_load timing units stays u (broadcasts_by u asked.flows)

    pub unit_read : get_or asked.units u None ≡ Some unit_asks
    unit_read = units_read u asked.flows (least_at u asked.flows (b.flow u m) its_broadcast is_by).0 unit_planned

    pub carrying_read : (k : ℕ) → get_or (frames_asked asked) (source_place plan (Carrying u m k)) None ≡ Some unit_asks.packets
    carrying_read k =
        let flows = length-map plan.flows.items (load_of_flow timing plan stays) in
        let place : source_place plan (Carrying u m k) ≡ packets_place asked u = omega (arith, flows) in
        ap (λ (n : ℕ). get_or (frames_asked asked) n None) place ∙ packets_read asked u unit_asks unit_read

    pub announcing_read : get_or (frames_asked asked) (source_place plan (Announcing u m)) None ≡ Some unit_asks.announcements
    announcing_read =
        let stated = same_units in
        let flows = length-map plan.flows.items (load_of_flow timing plan stays) in
        let place : source_place plan (Announcing u m) ≡ announcements_place asked u = omega (arith, stated, flows) in
        ap (λ (n : ℕ). get_or (frames_asked asked) n None) place ∙ announcements_read asked u unit_asks unit_read
