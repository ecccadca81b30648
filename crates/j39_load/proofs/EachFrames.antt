-- What holds of all frames that a plan asks for, where it holds of those of each kind.
use Rattle.std.proofs.Common.{◌≡◌, ℕ, Bool, true, false, not, ◌&&◌, if◌then◌else◌, List, [], ◌∷◌, ◌++◌, length, get_or, map, All, Option, Some, None, IfSome}
use Rattle.std.proofs.Common.{option_map, refl, arith}
use Rattle.std.proofs.lemmas.List.Elements.{All-append, All-map}
use Rattle.std.specs.List.{range_with_len, slice_get}
use Rattle.j39_id.specs.Services.{connection_management, data_transfer}
use Rattle.j39_network.specs.declared.plan.Plan.{Plan}
use Rattle.j39_network.specs.declared.plan.flow_plan.FlowPlan.{FlowPlan}
use Rattle.j39_network.specs.declared.plan.group_plan.GroupPlan.{GroupPlan}
use Rattle.j39_network.specs.declared.plan.pace.Pace.{Pace}
use Rattle.j39_network.specs.declared.plan.request_plan.RequestPlan.{RequestPlan}
use Rattle.j39_network.specs.declared.plan.timing.Timing.{Timing}
use Rattle.j39_network.specs.declared.plan.to.To.{To}
use Rattle.j39_network.specs.declared.plan.to.To.TheVariants.{All as ToAllUnits, One}
use Rattle.j39_network.specs.declared.plan.unit_plan.UnitPlan.{UnitPlan}
use Rattle.j39_load.specs.declared.frames.broadcast.Broadcast.{Broadcast}
use Rattle.j39_load.specs.declared.frames.flow_frames.FlowFrames.{FlowFrames}
use Rattle.j39_load.specs.declared.loads.flow_load.FlowLoad.{FlowLoad}
use Rattle.j39_load.specs.declared.frames.messages.Messages.TheVariants.{Short}
use Rattle.j39_load.specs.declared.loads.request_load.RequestLoad.{RequestLoad}
use Rattle.j39_load.specs.declared.loads.unit_load.UnitLoad.{UnitLoad}
use Rattle.j39_load.specs.Asked.{announcements_of_unit, asked_of, frames_asked, frames_of_flow, frames_of_request, own_frames, packets_of_unit, singles_of_flow}
use Rattle.j39_load.specs.Asked.{wanting}
use Rattle.j39_load.specs.Broadcasts.{broadcast_frames, broadcasts_by, known_unit_load, least_packets, unit_loads_of}
use Rattle.j39_load.specs.Demands.{announcements_demand, packets_demand}
use Rattle.j39_load.specs.Loads.{broadcast_of, has_short, is_always_short, long_messages, packet_frames, single_frames}
use Rattle.j39_load.specs.AnswerStreams.{askers_of, broadcast_for, frames_for, messages_for}
use Rattle.j39_load.specs.FlowLoads.{load_of_flow, loads_of}
use Rattle.j39_load.specs.RequestLoads.{load_of_request, request_load, request_loads_of}
use Rattle.j39_tp.specs.Chunks.{packets_of}

module _ (timing : Timing) (plan : Plan) (stays : UnitPlan → Bool) (P : FlowFrames → Type 0) where
  abbrev pub Fits : Option FlowFrames → Type 0
  Fits frames = IfSome frames P

  -- ---- of units

  abbrev pub OfUnit : Option UnitLoad → Type 0
  OfUnit load = Fits (packets_of_unit load) × Fits (announcements_of_unit load)

  module _ (broadcast : (pgn u gaps place : ℕ) → P (broadcast_frames timing plan.units.items stays pgn u gaps place)) where
    of_unit : (u : ℕ) (broadcasts : List Broadcast) → OfUnit (known_unit_load timing plan.units.items stays u broadcasts)
    of_unit u [] = (tt, tt)
    of_unit u (b ∷ bs) = (
      broadcast data_transfer u 1 (packets_demand u),
      broadcast connection_management u (least_packets (b ∷ bs)) (announcements_demand u),
    )

    pub of_units : (loads : List (Option FlowLoad)) → All OfUnit (unit_loads_of timing plan.units.items stays loads)
    of_units [] = λ k d below. absurd (omega arith)
    of_units (load ∷ loads) =
        All-map OfUnit (λ u. known_unit_load timing plan.units.items stays u (broadcasts_by u (load ∷ loads))) (range_with_len 0 (length plan.units.items))
        (λ k d below. let u = get_or (range_with_len 0 (length plan.units.items)) k d in of_unit u (broadcasts_by u (load ∷ loads)))

  -- ---- of requests

  abbrev pub OfRequest : Option RequestLoad → Type 0
  OfRequest load = Fits (frames_of_request load)

  module _ (asking : (request : RequestPlan) (period : ℕ) → P (request_load timing plan.units.items stays request period).frames) where
    of_request : (request : RequestPlan) (period : Option ℕ) → OfRequest (option_map (request_load timing plan.units.items stays request) period)
    of_request request None = tt
    of_request request (Some period) = asking request period

    pub of_requests : All OfRequest (request_loads_of timing plan stays)
    of_requests = All-map OfRequest (load_of_request timing plan.units.items stays) plan.requests.items
        (λ k d below. let request = get_or plan.requests.items k d in of_request request request.period)

  module _ (single : (flow : FlowPlan) (pace : Pace) (group : GroupPlan) (askers : ℕ)
      → P (frames_for timing pace askers (single_frames timing plan.units.items stays flow pace group)))
      (session : (flow : FlowPlan) (v : ℕ) (pace : Pace) (packets askers : ℕ)
      → P (frames_for timing pace askers (packet_frames timing plan.units.items stays flow v pace packets)))
      (broadcast : (pgn u gaps place : ℕ) → P (broadcast_frames timing plan.units.items stays pgn u gaps place))
      (wants : (flow : FlowPlan) (pace : Pace) (group : GroupPlan) (askers : ℕ)
      → P (wanting (broadcast_for timing pace askers (broadcast_of timing flow pace group))))
      (asking : (request : RequestPlan) (period : ℕ) → P (request_load timing plan.units.items stays request period).frames) where
    -- ---- of flows

    long : (flow : FlowPlan) (pace : Pace) (group : GroupPlan) (askers : ℕ) (to : To)
        → Fits (own_frames (messages_for timing pace askers (long_messages timing plan.units.items stays flow pace group to)))
    long flow pace group askers ToAllUnits = wants flow pace group askers
    long flow pace group askers (One v) = session flow v pace (packets_of group.most) askers

    by_lengths : (flow : FlowPlan) (pace : Pace) (group : GroupPlan) (askers : ℕ) (short has : Bool)
        → Fits (own_frames (messages_for timing pace askers (if short then Short (single_frames timing plan.units.items stays flow pace group)
        else long_messages timing plan.units.items stays flow pace group flow.to)))
        × Fits (option_map (frames_for timing pace askers)
        (if not short && has then Some (single_frames timing plan.units.items stays flow pace group) else None))
    by_lengths flow pace group askers true has = (single flow pace group askers, tt)
    by_lengths flow pace group askers false true = (long flow pace group askers flow.to, single flow pace group askers)
    by_lengths flow pace group askers false false = (long flow pace group askers flow.to, tt)

    abbrev OfFlow : Option FlowLoad → Type 0
    OfFlow load = Fits (frames_of_flow load) × Fits (singles_of_flow load)

    of_flow : (flow : FlowPlan) (pace : Option Pace) (group : Option GroupPlan) → flow.pace ≡ pace → slice_get plan.groups.items flow.group ≡ group
        → OfFlow (load_of_flow timing plan stays flow)
    of_flow flow None group paced at = rw (paced) (tt, tt)
    of_flow flow (Some pace) None paced at = rw (paced, at) (tt, tt)
    of_flow flow (Some pace) (Some group) paced at = rw (paced, at)
        (by_lengths flow pace group (askers_of plan.requests.items flow) (is_always_short group) (has_short group))

    of_flows : All OfFlow (loads_of timing plan stays)
    of_flows = All-map OfFlow (load_of_flow timing plan stays) plan.flows.items
        (λ k d below. let flow = get_or plan.flows.items k d in of_flow flow flow.pace (slice_get plan.groups.items flow.group) refl refl)

    -- ---- of all

    pub each_fits : All Fits (frames_asked (asked_of timing plan stays))
    each_fits =
        All-append Fits (map frames_of_flow flows)
        (map singles_of_flow flows ++ (map packets_of_unit units ++ (map announcements_of_unit units ++ map frames_of_request requests)))
        (All-map Fits frames_of_flow flows (λ k d below. (of_flows k d below).0))
        (All-append Fits (map singles_of_flow flows)
        (map packets_of_unit units ++ (map announcements_of_unit units ++ map frames_of_request requests))
        (All-map Fits singles_of_flow flows (λ k d below. (of_flows k d below).1))
        (All-append Fits (map packets_of_unit units) (map announcements_of_unit units ++ map frames_of_request requests)
        (All-map Fits packets_of_unit units (λ k d below. (of_units broadcast flows k d below).0))
        (All-append Fits (map announcements_of_unit units) (map frames_of_request requests)
        (All-map Fits announcements_of_unit units (λ k d below. (of_units broadcast flows k d below).1))
        (All-map Fits frames_of_request requests (λ k d below. of_requests asking k d below)))))
      where
        flows : List (Option FlowLoad)
        flows = loads_of timing plan stays

        units : List (Option UnitLoad)
        units = unit_loads_of timing plan.units.items stays flows

        requests : List (Option RequestLoad)
        requests = request_loads_of timing plan stays
