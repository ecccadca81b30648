-- What a plan asks of a bus is one: whoever reports who stays reports the same loads and the same delays. So do two plans whose units are alike.
use Rattle.std.proofs.Common.{◌≡◌, ℕ, ◌<◌, ◌≤◌, Bool, true, false, not, ◌&&◌, if◌then◌else◌, List, [], ◌∷◌, length, map, min, max, inl, inr, Option, Some, None}
use Rattle.std.proofs.Common.{refl, sym, ap, ◌∙◌, subst, arith, option_map}
use Rattle.std.proofs.lemmas.Bool.{cases_lt}
use Rattle.std.proofs.lemmas.List.{ext_get_or}
use Rattle.std.proofs.lemmas.Option.{same_Some, none-some}
use Rattle.std.specs.Bool.{MatchBool}
use Rattle.std.specs.Int.{div_ceil}
use Rattle.std.specs.List.{range_with_len, slice_get}
use Rattle.std.specs.Option.{option_map_or}
use Rattle.std.specs.Prelude.{slice_index_or, ◌+◌}
use Rattle.j39_id.specs.Addresses.{pool_first, pool_last}
use Rattle.j39_id.specs.Name.{is_arbitrary}
use Rattle.j39_id.specs.Services.{connection_management, data_transfer}
use Rattle.j39_network.specs.declared.plan.Plan.{Plan}
use Rattle.j39_network.specs.declared.plan.flow_plan.FlowPlan.{FlowPlan}
use Rattle.j39_network.specs.declared.plan.group_plan.GroupPlan.{GroupPlan}
use Rattle.j39_network.specs.declared.plan.pace.Pace.{Pace}
use Rattle.j39_network.specs.declared.plan.queue.Queue.{Queue}
use Rattle.j39_network.specs.declared.plan.request_plan.RequestPlan.{RequestPlan}
use Rattle.j39_network.specs.declared.plan.timing.Timing.{Timing}
use Rattle.j39_network.specs.declared.plan.to.To.{To}
use Rattle.j39_network.specs.declared.plan.to.To.TheVariants.{All as ToAllUnits, One}
use Rattle.j39_network.specs.declared.plan.unit_plan.UnitPlan.{UnitPlan}
use Rattle.j39_network.proofs.VehicleUnits.{AreBoth}
use Rattle.j39_load.specs.declared.frames.broadcast.Broadcast.{Broadcast}
use Rattle.j39_load.specs.declared.waits.delay.Delay.{Delay}
use Rattle.j39_load.specs.declared.waits.delay.Delay.TheVariants.{Within, Beyond, Late, Long, Whole}
use Rattle.j39_load.specs.declared.waits.turn.Turn.{Turn}
use Rattle.j39_load.specs.declared.frames.flow_frames.FlowFrames.{FlowFrames}
use Rattle.j39_load.specs.declared.loads.flow_load.FlowLoad.{FlowLoad}
use Rattle.j39_load.specs.declared.frames.messages.Messages.{Messages}
use Rattle.j39_load.specs.declared.frames.messages.Messages.TheVariants.{Short, ToAll, ToOne}
use Rattle.j39_load.specs.declared.loads.request_load.RequestLoad.{RequestLoad}
use Rattle.j39_load.specs.declared.loads.unit_load.UnitLoad.{UnitLoad}
use Rattle.j39_load.specs.declared.waits.whole_time.WholeTime.{WholeTime}
use Rattle.j39_load.specs.AnyQueues.{IsQueueGroupLevel, IsQueueGroupWait, IsBufferedFor, IsBuffering, IsWaitWith, Buffering, AreBufferingDelays, blocking_with}
use Rattle.j39_load.specs.AnyQueues.{keep_order, leasts_of, may_be_passed, buffered, streams_with, least_unbounded, with_unplanned}
use Rattle.j39_load.specs.Asked.{Asked, asked_by, asked_of, frames_asked}
use Rattle.j39_load.specs.Broadcasts.{broadcast_frames, broadcasts_by, known_unit_load, least_packets, unit_loads_of}
use Rattle.j39_load.specs.Delays.{HasDelayBy, IsDelay, IsDelayOf, IsDelayWithin, IsFrameDelay, IsShortDelay, IsTurnBy, IsWaitIn, IsWaitOf, IsWholeTime}
use Rattle.j39_load.specs.Delays.{AreFlowDelays, announcements_place, any_delay, blocking_of, known_turn, packets_place, streams_before, whole_time}
use Rattle.j39_load.specs.Demands.{announcements_demand, demands_of, packets_demand}
use Rattle.j39_load.specs.LoadFindings.{AsksOfBus}
use Rattle.j39_load.specs.Loads.{any_unit, destination_at, flow_load, frames_to_one, greatest_address, group_ident, is_any, least_address}
use Rattle.j39_load.specs.AnswerStreams.{askers_of, load_for}
use Rattle.j39_load.specs.FlowLoads.{load_of_flow}
use Rattle.j39_load.specs.Loads.{long_messages}
use Rattle.j39_load.specs.FlowLoads.{loads_of}
use Rattle.j39_load.specs.LiveClaims.{unplanned_end}
use Rattle.j39_load.specs.Loads.{of_unit, packet_frames, packet_ident, session_ident, single_frames}
use Rattle.j39_load.specs.RequestLoads.{load_of_request, request_ident, request_load, request_loads_of}
use Rattle.j39_findings.specs.Standing.{DecidesWhoStays}
use Rattle.j39_load.proofs.FoundWaits.{wait_among}
use Rattle.j39_timing.specs.Traffic.{delay_of}
use Rattle.j39_timing.specs.Waits.{Demand, NoShorterFits, need}
use Rattle.j39_timing.specs.declared.stream.Stream.{Stream}
use Rattle.j39_tp.specs.Chunks.{packets_of}

-- a statement is reported in one way
pub stated_once : (stays other : Bool) (S : Type 0) → MatchBool stays S (¬ S) → MatchBool other S (¬ S) → stays ≡ other
stated_once true true S is another = refl
stated_once true false S is another = absurd (another is)
stated_once false true S is another = absurd (is another)
stated_once false false S is another = refl

-- ---- loads

-- what a load sees of two units, where it is reported of one by the first whether it stays, and of the other by the second
pub record AreSeenAlike (stays other : UnitPlan → Bool) (unit box : UnitPlan) : Type 0 where
  pub address : box.address ≡ unit.address
  pub choice : is_arbitrary box.name ≡ is_arbitrary unit.name
  pub window : box.window ≡ unit.window
  pub queue : box.queue ≡ unit.queue
  pub standing : other box ≡ stays unit

-- a unit that may choose and doesn't stay may move so far
abbrev end_by : (far : ℕ → ℕ) (chooses standing : Bool) (address : ℕ) → ℕ
end_by far chooses standing address = if chooses && not standing then far address else address

module _ (timing : Timing) (stays other : UnitPlan → Bool) (units boxes : List UnitPlan) (count : length boxes ≡ length units)
    (both : (v : ℕ) → AreBoth (AreSeenAlike stays other) (slice_get units v) (slice_get boxes v)) where
  abbrev Alike : UnitPlan → UnitPlan → Type 0
  Alike = AreSeenAlike stays other

  -- what is read of two units that are alike
  module _ (f g : UnitPlan → ℕ) (same : (x y : UnitPlan) → Alike x y → f x ≡ g y) where
    read_same : (o p : Option UnitPlan) → AreBoth Alike o p → option_map_or f o 0 ≡ option_map_or g p 0
    read_same None None alike = refl
    read_same None (Some y) alike = absurd alike
    read_same (Some x) None alike = absurd alike
    read_same (Some x) (Some y) alike = same x y alike

    unit_same : (v : ℕ) → of_unit units f v ≡ of_unit boxes g v
    unit_same v = read_same (slice_get units v) (slice_get boxes v) (both v)

    destination_same : (to : To) → destination_at (of_unit units f) to ≡ destination_at (of_unit boxes g) to
    destination_same ToAllUnits = refl
    destination_same (One v) = unit_same v

    group_same : (group : GroupPlan) (flow : FlowPlan) → group_ident (of_unit units f) group flow ≡ group_ident (of_unit boxes g) group flow
    group_same group flow = rw (destination_same flow.to, unit_same flow.sender) refl

    packet_same : (flow : FlowPlan) → packet_ident timing (of_unit units f) flow ≡ packet_ident timing (of_unit boxes g) flow
    packet_same flow = rw (destination_same flow.to, unit_same flow.sender) refl

    asking_same : (request : RequestPlan) → request_ident (of_unit units f) request ≡ request_ident (of_unit boxes g) request
    asking_same request = rw (destination_same request.to, unit_same request.sender) refl

  -- an end of the addresses that a unit may hold, by how far it may move
  end_same : (far : ℕ → ℕ) (x y : UnitPlan) → Alike x y
      → end_by far (is_arbitrary x.name) (stays x) x.address ≡ end_by far (is_arbitrary y.name) (other y) y.address
  end_same far x y alike =
      sym (ap (end_by far (is_arbitrary y.name) (other y)) alike.address
      ∙ ap (λ choice. end_by far choice (other y) x.address) alike.choice
      ∙ ap (λ standing. end_by far (is_arbitrary x.name) standing x.address) alike.standing)

  least_same : (x y : UnitPlan) → Alike x y → least_address stays x ≡ least_address other y
  least_same = end_same (λ address. min address pool_first)

  greatest_same : (x y : UnitPlan) → Alike x y → greatest_address stays x ≡ greatest_address other y
  greatest_same = end_same (λ address. max address pool_last)

  any_same : (v : ℕ) → any_unit units v ≡ any_unit boxes v
  any_same v = go (slice_get units v) (slice_get boxes v) (both v) where
    any_by : Option UnitPlan → Option ℕ
    any_by o = if option_map_or (λ (unit : UnitPlan). is_any unit.queue) o false then Some v else None

    go : (o p : Option UnitPlan) → AreBoth Alike o p → any_by o ≡ any_by p
    go None None alike = refl
    go None (Some y) alike = absurd alike
    go (Some x) None alike = absurd alike
    go (Some x) (Some y) alike = ap (λ (q : Queue). if is_any q then Some v else None) (sym alike.queue)

  answers_same : (packets v : ℕ) → frames_to_one units packets v ≡ frames_to_one boxes packets v
  answers_same packets v =
      ap (λ window. 2 + packets + div_ceil packets window)
      (unit_same (λ (unit : UnitPlan). unit.window) (λ (unit : UnitPlan). unit.window) (λ x y alike. sym alike.window) v)

  singles_same : (flow : FlowPlan) (pace : Pace) (group : GroupPlan)
      → single_frames timing units stays flow pace group ≡ single_frames timing boxes other flow pace group
  singles_same flow pace group =
      rw (
        group_same (least_address stays) (least_address other) least_same group flow,
        group_same (greatest_address stays) (greatest_address other) greatest_same group flow,
        any_same flow.sender,
      ) refl

  session_same : (flow : FlowPlan) (v : ℕ) → session_ident timing (of_unit units (greatest_address stays)) flow v
      ≡ session_ident timing (of_unit boxes (greatest_address other)) flow v
  session_same flow v =
      rw (
        unit_same (greatest_address stays) (greatest_address other) greatest_same v,
        unit_same (greatest_address stays) (greatest_address other) greatest_same flow.sender,
      ) refl

  packets_same : (flow : FlowPlan) (v : ℕ) (pace : Pace) (packets : ℕ)
      → packet_frames timing units stays flow v pace packets ≡ packet_frames timing boxes other flow v pace packets
  packets_same flow v pace packets =
      rw (
        packet_same (least_address stays) (least_address other) least_same flow,
        packet_same (greatest_address stays) (greatest_address other) greatest_same flow,
        session_same flow v,
        any_same flow.sender,
        any_same v,
        answers_same packets v,
      ) refl

  long_same : (flow : FlowPlan) (pace : Pace) (group : GroupPlan) (to : To)
      → long_messages timing units stays flow pace group to ≡ long_messages timing boxes other flow pace group to
  long_same flow pace group ToAllUnits = refl
  long_same flow pace group (One v) = ap ToOne (packets_same flow v pace (packets_of group.most))

  load_same : (flow : FlowPlan) (pace : Pace) (group : GroupPlan)
      → flow_load timing units stays flow pace group ≡ flow_load timing boxes other flow pace group
  load_same flow pace group = rw (singles_same flow pace group, long_same flow pace group flow.to) refl

  broadcast_same : (pgn u gaps place : ℕ)
      → broadcast_frames timing units stays pgn u gaps place ≡ broadcast_frames timing boxes other pgn u gaps place
  broadcast_same pgn u gaps place =
      rw (
        unit_same (least_address stays) (least_address other) least_same u,
        unit_same (greatest_address stays) (greatest_address other) greatest_same u,
        any_same u,
      ) refl

  unit_load_same : (u : ℕ) (broadcasts : List Broadcast)
      → known_unit_load timing units stays u broadcasts ≡ known_unit_load timing boxes other u broadcasts
  unit_load_same u [] = refl
  unit_load_same u (b ∷ bs) =
      rw (broadcast_same data_transfer u 1 (packets_demand u), broadcast_same connection_management u (least_packets (b ∷ bs)) (announcements_demand u)) refl

  units_same : (loads : List (Option FlowLoad)) (places : List ℕ)
      → map (λ u. known_unit_load timing units stays u (broadcasts_by u loads)) places
      ≡ map (λ u. known_unit_load timing boxes other u (broadcasts_by u loads)) places
  units_same loads [] = refl
  units_same loads (u ∷ us) =
      ap (λ (x : Option UnitLoad). x ∷ map (λ v. known_unit_load timing units stays v (broadcasts_by v loads)) us)
      (unit_load_same u (broadcasts_by u loads))
      ∙ ap (λ (xs : List (Option UnitLoad)). known_unit_load timing boxes other u (broadcasts_by u loads) ∷ xs) (units_same loads us)

  unit_loads_same : (loads : List (Option FlowLoad)) → unit_loads_of timing units stays loads ≡ unit_loads_of timing boxes other loads
  unit_loads_same [] = refl
  unit_loads_same (load ∷ loads) =
      units_same (load ∷ loads) (range_with_len 0 (length units))
      ∙ ap (λ n. map (λ u. known_unit_load timing boxes other u (broadcasts_by u (load ∷ loads))) (range_with_len 0 n)) (sym count)

  request_load_same : (request : RequestPlan) (period : ℕ)
      → request_load timing units stays request period ≡ request_load timing boxes other request period
  request_load_same request period =
      rw (
        asking_same (least_address stays) (least_address other) least_same request,
        asking_same (greatest_address stays) (greatest_address other) greatest_same request,
        any_same request.sender,
      ) refl

  request_same : (request : RequestPlan) (period : Option ℕ)
      → option_map (request_load timing units stays request) period ≡ option_map (request_load timing boxes other request) period
  request_same request None = refl
  request_same request (Some period) = ap Some (request_load_same request period)

  requests_same : (requests : List RequestPlan)
      → map (load_of_request timing units stays) requests ≡ map (load_of_request timing boxes other) requests
  requests_same [] = refl
  requests_same (request ∷ requests) =
      ap (λ (x : Option RequestLoad). x ∷ map (load_of_request timing units stays) requests) (request_same request request.period)
      ∙ ap (λ (xs : List (Option RequestLoad)). load_of_request timing boxes other request ∷ xs) (requests_same requests)

-- two plans whose units are alike, place by place, ask the same
module _ (plan vehicle : Plan) (timing : Timing) (stays other : UnitPlan → Bool)
    (both : (v : ℕ) → AreBoth (AreSeenAlike stays other) (slice_get plan.units.items v) (slice_get vehicle.units.items v))
    (count : length vehicle.units.items ≡ length plan.units.items) (groups : vehicle.groups.items ≡ plan.groups.items)
    (flows : vehicle.flows.items ≡ plan.flows.items) (requests : vehicle.requests.items ≡ plan.requests.items)
    (ends : unplanned_end vehicle ≡ unplanned_end plan) where
  flow_same : (flow : FlowPlan) (pace : Option Pace) (group : Option GroupPlan) → flow.pace ≡ pace → slice_get plan.groups.items flow.group ≡ group
      → load_of_flow timing plan stays flow ≡ load_of_flow timing vehicle other flow
  flow_same flow None group paced is = rw paced refl
  flow_same flow (Some pace) None paced is = rw (groups, paced, is) refl
  flow_same flow (Some pace) (Some group) paced is =
      rw (groups, paced, is)
      (ap (λ (l : FlowLoad). Some (load_for timing pace (askers_of plan.requests.items flow) l))
      (load_same timing stays other plan.units.items vehicle.units.items count both flow pace group)
      ∙ ap (λ (asking : List RequestPlan). Some (load_for timing pace (askers_of asking flow) (flow_load timing vehicle.units.items other flow pace group)))
      (sym requests))

  loads_same : (list : List FlowPlan) → map (load_of_flow timing plan stays) list ≡ map (load_of_flow timing vehicle other) list
  loads_same [] = refl
  loads_same (flow ∷ list) =
      ap (λ (x : Option FlowLoad). x ∷ map (load_of_flow timing plan stays) list) (flow_same flow flow.pace (slice_get plan.groups.items flow.group) refl refl)
      ∙ ap (λ (xs : List (Option FlowLoad)). load_of_flow timing vehicle other flow ∷ xs) (loads_same list)

  one_load : loads_of timing plan stays ≡ loads_of timing vehicle other
  one_load = loads_same plan.flows.items ∙ sym (ap (map (load_of_flow timing vehicle other)) flows)

  one_request_load : request_loads_of timing plan stays ≡ request_loads_of timing vehicle other
  one_request_load =
      requests_same timing stays other plan.units.items vehicle.units.items count both plan.requests.items
      ∙ sym (ap (map (load_of_request timing vehicle.units.items other)) requests)

  pub asked_alike : asked_of timing plan stays ≡ asked_of timing vehicle other
  asked_alike =
      ap (λ (loads : List (Option FlowLoad)).
      asked_by loads (unit_loads_of timing plan.units.items stays loads) (request_loads_of timing plan stays) (unplanned_end plan)) one_load
      ∙ ap (λ (units : List (Option UnitLoad)). asked_by (loads_of timing vehicle other) units (request_loads_of timing plan stays) (unplanned_end plan))
      (unit_loads_same timing stays other plan.units.items vehicle.units.items count both (loads_of timing vehicle other))
      ∙ ap (λ (asking : List (Option RequestLoad)).
      asked_by (loads_of timing vehicle other) (unit_loads_of timing vehicle.units.items other (loads_of timing vehicle other)) asking (unplanned_end plan))
      one_request_load
      ∙ ap (λ (n : ℕ).
      asked_by (loads_of timing vehicle other) (unit_loads_of timing vehicle.units.items other (loads_of timing vehicle other))
      (request_loads_of timing vehicle other) n) (sym ends)

-- who stays is reported in one way, and so is what a plan asks
module _ (plan : Plan) (timing : Timing) (stays other : UnitPlan → Bool) (states : DecidesWhoStays plan stays) (report : DecidesWhoStays plan other) where
  seen : (v : ℕ) → AreBoth (AreSeenAlike stays other) (slice_get plan.units.items v) (slice_get plan.units.items v)
  seen v = go (slice_get plan.units.items v) refl where
    go : (o : Option UnitPlan) → slice_get plan.units.items v ≡ o → AreBoth (AreSeenAlike stays other) o o
    go None at = tt
    go (Some unit) at = record {
      address = refl;
      choice = refl;
      window = refl;
      queue = refl;
      standing = stated_once (other unit) (stays unit) _ (report v unit at) (states v unit at);
    }

  pub same_asked : asked_of timing plan stays ≡ asked_of timing plan other
  same_asked = asked_alike plan plan timing stays other seen refl refl refl refl refl

-- ---- waits

-- of two least waits none is less
not_less : (demands : List Demand) (blocked : ℕ) (streams : List Stream) (wait other : ℕ) → need demands blocked streams wait ≤ wait
    → NoShorterFits demands blocked streams other → other ≤ wait
not_less demands blocked streams wait other demand_fits least = elim (cases_lt wait other) [
  | inl below ↦ absurd (omega (arith, least wait below, demand_fits))
  | inr above ↦ above
]

one_wait : (timing : Timing) (demands : List Demand) (streams : List Stream) (blocked : ℕ) (wait other : Option ℕ)
    → IsWaitWith timing demands streams blocked wait → IsWaitWith timing demands streams blocked other → wait ≡ other
one_wait timing demands streams blocked None None is another = refl
one_wait timing demands streams blocked None (Some other) is another =
    absurd (let below = another.0 in let demand_fits = another.1 in omega (arith, is other (omega arith)))
one_wait timing demands streams blocked (Some wait) None is another =
    absurd (let below = is.0 in let demand_fits = is.1 in omega (arith, another wait (omega arith)))
one_wait timing demands streams blocked (Some wait) (Some other) is another =
    let above = not_less demands blocked streams wait other is.1 another.2 in
    let below = not_less demands blocked streams other wait another.1 is.2 in
    ap Some (omega (arith, above, below))

-- ---- delays

module _ (timing : Timing) (all : List (Option FlowFrames)) (flow : ℕ) where
  one_within : (frames : FlowFrames) (most bits more : ℕ) → IsDelayWithin timing all flow frames most bits → IsDelayWithin timing all flow frames most more
      → bits ≡ more
  one_within frames most bits more is another =
      let above = not_less (demands_of all) (blocking_of timing frames) (streams_before timing flow frames all) is.0 another.0 is.1.demand_fits another.2 in
      let below = not_less (demands_of all) (blocking_of timing frames) (streams_before timing flow frames all) another.0 is.0 another.1.demand_fits is.2 in
      let waits : is.0 ≡ another.0 = omega (arith, above, below) in
      is.3 ∙ ap (delay_of frames.stream) waits ∙ sym another.3

  one_short_delay : (frames : FlowFrames) (limit : ℕ) (delay other : Delay) → IsShortDelay timing all flow frames limit delay
      → IsShortDelay timing all flow frames limit other → delay ≡ other
  one_short_delay frames limit (Within bits) (Within more) is another = ap Within (one_within frames limit bits more is another)
  one_short_delay frames limit (Within bits) (Beyond more) is another = absurd (another.0 is.0 is.1)
  one_short_delay frames limit (Within bits) Late is another = absurd (another.0 is.0 is.1)
  one_short_delay frames limit (Within bits) (Long count) is another = absurd another
  one_short_delay frames limit (Within bits) (Whole whole) is another = absurd another
  one_short_delay frames limit (Beyond bits) (Within more) is another = absurd (is.0 another.0 another.1)
  one_short_delay frames limit (Beyond bits) (Beyond more) is another = ap Beyond (one_within frames frames.stream.period bits more is.1 another.1)
  one_short_delay frames limit (Beyond bits) Late is another = absurd (another.1 is.1.0 is.1.1)
  one_short_delay frames limit (Beyond bits) (Long count) is another = absurd another
  one_short_delay frames limit (Beyond bits) (Whole whole) is another = absurd another
  one_short_delay frames limit Late (Within bits) is another = absurd (is.0 another.0 another.1)
  one_short_delay frames limit Late (Beyond bits) is another = absurd (is.1 another.1.0 another.1.1)
  one_short_delay frames limit Late Late is another = refl
  one_short_delay frames limit Late (Long count) is another = absurd another
  one_short_delay frames limit Late (Whole whole) is another = absurd another
  one_short_delay frames limit (Long count) other is another = absurd is
  one_short_delay frames limit (Whole whole) other is another = absurd is

-- ---- frames of units that keep no order

module _ (timing : Timing) (ends : ℕ) (all : List (Option FlowFrames)) where
  one_level : (own : FlowFrames) (level other : ℕ) → IsQueueGroupLevel (leasts_of all) all own level → IsQueueGroupLevel (leasts_of all) all own other
      → level ≡ other
  one_level own level other is another =
      let below = is.least other another.is in
      let above = another.least level is.is in
      omega (arith, below, above)

  one_queue_group_wait : (own : FlowFrames) (wait other : Option ℕ) → IsQueueGroupWait timing ends (leasts_of all) all own wait
      → IsQueueGroupWait timing ends (leasts_of all) all own other → wait ≡ other
  one_queue_group_wait own wait other is another =
      let same = one_level (with_unplanned timing ends own) is.level another.level is.of_queue_group another.of_queue_group in
      one_wait timing (demands_of all) (streams_with timing (leasts_of all) all (with_unplanned timing ends own) another.level)
      (blocking_with timing own) wait other
      (subst (λ (n : ℕ). IsWaitWith timing (demands_of all) (streams_with timing (leasts_of all) all (with_unplanned timing ends own) n)
      (blocking_with timing own) wait) same
      is.least_wait) another.least_wait

  one_buffering_delay : (frames : Option FlowFrames) (wait other : Option ℕ) → IsBufferedFor timing ends all frames wait
      → IsBufferedFor timing ends all frames other
      → wait ≡ other
  one_buffering_delay None wait other is another = is ∙ sym another
  one_buffering_delay (Some f) wait other is another = go (keep_order f) is another
    where
      go : (keeps : Bool) → MatchBool keeps (wait ≡ Some 0) (IsQueueGroupWait timing ends (leasts_of all) all f wait)
          → MatchBool keeps (other ≡ Some 0) (IsQueueGroupWait timing ends (leasts_of all) all f other) → wait ≡ other
      go true is another = is ∙ sym another
      go false is another = one_queue_group_wait f wait other is another

  one_waits : (waits others : List (Option ℕ)) → AreBufferingDelays timing ends all waits → AreBufferingDelays timing ends all others → waits ≡ others
  one_waits waits others report another =
      ext_get_or None waits others (report.count ∙ sym another.count)
      (λ j below. let inside : j < length all = omega (arith, below, report.count) in
      one_buffering_delay (slice_index_or all j None) _ _ (report.each j inside) (another.each j inside))

  one_buffering : (buffering other : Buffering) → IsBuffering timing ends all buffering → IsBuffering timing ends all other → buffering ≡ other
  one_buffering buffering other is another =
      let waits = one_waits buffering.waits other.waits is.bounded another.bounded in
      let frames : buffering.frames ≡ other.frames = is.frames ∙ ap (λ (ws : List (Option ℕ)). buffered ws all) waits ∙ sym another.frames in
      let low : buffering.least_unbounded ≡ other.least_unbounded =
      is.least_unbounded ∙ ap (λ (ws : List (Option ℕ)). least_unbounded ws all) waits ∙ sym another.least_unbounded in
      ap (λ (fs : List (Option FlowFrames)). made fs buffering.waits buffering.least_unbounded) frames
      ∙ ap (λ (ws : List (Option ℕ)). made other.frames ws buffering.least_unbounded) waits
      ∙ ap (λ (o : Option ℕ). made other.frames other.waits o) low
    where
      made : List (Option FlowFrames) → List (Option ℕ) → Option ℕ → Buffering
      made frames waits low = record { frames = frames; waits = waits; least_unbounded = low }

module _ (timing : Timing) (asked : Asked) (buffering : Buffering) where
  one_wait_in : (place : ℕ) (frames : FlowFrames) (wait other : Option ℕ) → IsWaitIn timing buffering place frames wait
      → IsWaitIn timing buffering place frames other → wait ≡ other
  one_wait_in place frames wait other is another = go (keep_order frames) (may_be_passed buffering frames.greatest_ident) is another
    where
      go : (keeps passed : Bool)
          → MatchBool keeps (MatchBool passed (wait ≡ None) (IsWaitOf timing buffering.frames place frames wait)) (wait
          ≡ slice_index_or buffering.waits place None)
          → MatchBool keeps (MatchBool passed (other ≡ None) (IsWaitOf timing buffering.frames place frames other)) (other
          ≡ slice_index_or buffering.waits place None)
          → wait ≡ other
      go true true is another = is ∙ sym another
      go true false is another = one_wait timing (demands_of buffering.frames) (streams_before timing place frames buffering.frames)
          (blocking_of timing frames) wait other (wait_among timing buffering.frames place frames wait is)
          (wait_among timing buffering.frames place frames other another)
      go false passed is another = is ∙ sym another

  one_frame_delay : (flow : ℕ) (frames : FlowFrames) (limit : ℕ) (delay other : Delay) → IsFrameDelay timing buffering flow frames limit delay
      → IsFrameDelay timing buffering flow frames limit other → delay ≡ other
  one_frame_delay flow frames limit delay other is another = go (keep_order frames) (may_be_passed buffering frames.greatest_ident) is another
    where
      go : (keeps passed : Bool)
          → MatchBool keeps (MatchBool passed (delay ≡ Late) (IsShortDelay timing buffering.frames flow frames limit delay))
          (delay ≡ any_delay frames limit (slice_index_or buffering.waits flow None))
          → MatchBool keeps (MatchBool passed (other ≡ Late) (IsShortDelay timing buffering.frames flow frames limit other))
          (other ≡ any_delay frames limit (slice_index_or buffering.waits flow None))
          → delay ≡ other
      go true true is another = is ∙ sym another
      go true false is another = one_short_delay timing buffering.frames flow frames limit delay other is another
      go false passed is another = is ∙ sym another

  one_turn : (u : ℕ) (load : Option UnitLoad) (turn other : Option Turn) → IsTurnBy timing asked buffering u load turn
      → IsTurnBy timing asked buffering u load other → turn ≡ other
  one_turn u None turn other is another = is ∙ sym another
  one_turn u (Some load) turn other is another =
      let announced = one_wait_in (announcements_place asked u) load.announcements is.0 another.0 is.2 another.2 in
      let sent = one_wait_in (packets_place asked u) load.packets is.1 another.1 is.3 another.3 in
      is.4 ∙ ap (λ (a : Option ℕ). known_turn timing load a is.1) announced
      ∙ ap (λ (p : Option ℕ). known_turn timing load another.0 p) sent ∙ sym another.4

  one_whole_time : (broadcast : Broadcast) (whole other : WholeTime) → IsWholeTime timing asked buffering broadcast whole
      → IsWholeTime timing asked buffering broadcast other → whole ≡ other
  one_whole_time broadcast whole other is another =
      is.2 ∙ ap (whole_time broadcast) (one_turn broadcast.sender (slice_index_or asked.units broadcast.sender None) is.0 another.0 is.1 another.1)
      ∙ sym another.2

  -- of a long message to one unit it is reported how many frames it takes, and of one to all when it is whole
  of_one : (flow : ℕ) (frames : FlowFrames) (limit : ℕ) (delay : Delay) → IsDelayOf timing asked buffering flow (ToOne frames) limit delay
      → delay ≡ Long frames.stream.frames
  of_one flow frames limit (Long count) is = ap Long is
  of_one flow frames limit (Within bits) is = absurd is
  of_one flow frames limit (Beyond bits) is = absurd is
  of_one flow frames limit Late is = absurd is
  of_one flow frames limit (Whole whole) is = absurd is

  of_all : (flow : ℕ) (broadcast : Broadcast) (limit : ℕ) (delay : Delay) → IsDelayOf timing asked buffering flow (ToAll broadcast) limit delay
      → (whole : WholeTime) × (delay ≡ Whole whole) × IsWholeTime timing asked buffering broadcast whole
  of_all flow broadcast limit (Whole whole) is = (whole, refl, is)
  of_all flow broadcast limit (Within bits) is = absurd is
  of_all flow broadcast limit (Beyond bits) is = absurd is
  of_all flow broadcast limit Late is = absurd is
  of_all flow broadcast limit (Long count) is = absurd is

  one_delay : (flow : ℕ) (messages : Messages) (limit : ℕ) (delay other : Delay) → IsDelayOf timing asked buffering flow messages limit delay
      → IsDelayOf timing asked buffering flow messages limit other → delay ≡ other
  one_delay flow (Short frames) limit delay other is another =
      one_frame_delay flow frames limit delay other is another
  one_delay flow (ToOne frames) limit delay other is another = of_one flow frames limit delay is ∙ sym (of_one flow frames limit other another)
  one_delay flow (ToAll broadcast) limit delay other is another =
      let (whole, is_whole, time) = of_all flow broadcast limit delay is in
      let (more, is_more, another_time) = of_all flow broadcast limit other another in
      is_whole ∙ (ap Whole (one_whole_time broadcast whole more time another_time) ∙ sym is_more)

  one_known_delay : (flow : ℕ) (delay other : Option Delay) → HasDelayBy timing asked buffering flow delay → HasDelayBy timing asked buffering flow other
      → delay ≡ other
  one_known_delay flow None None is another = refl
  one_known_delay flow None (Some other) is another = absurd (none-some _ (same_Some _ _ (sym is ∙ another.1)))
  one_known_delay flow (Some delay) None is another = absurd (none-some _ (same_Some _ _ (sym another ∙ is.1)))
  one_known_delay flow (Some delay) (Some other) is another =
      let loads_are : is.0 ≡ another.0 = same_Some _ _ (same_Some _ _ (sym is.1 ∙ another.1)) in
      ap Some (one_delay flow another.0.messages another.0.limit delay other
      (subst (λ (l : FlowLoad). IsDelay timing asked buffering flow l delay) loads_are is.2) another.2)

pub delays_same : (timing : Timing) (asked : Asked) (delays others : List (Option Delay)) → AreFlowDelays timing asked delays
    → AreFlowDelays timing asked others → delays ≡ others
delays_same timing asked delays others report another =
    ext_get_or None delays others (report.count ∙ sym another.count)
    (λ flow below.
    let (buffering, is, its) = report.each flow below in
    let (other, are, theirs) = another.each flow (omega (arith, below, report.count, another.count)) in
    let same = one_buffering timing asked.unplanned_end (frames_asked asked) buffering other is are in
    one_known_delay timing asked other flow _ _
    (subst (λ (o : Buffering). HasDelayBy timing asked o flow (slice_index_or delays flow None)) same its) theirs)

-- both at once
pub one_asked : (plan : Plan) (timing : Timing) (stays other : UnitPlan → Bool) (delays others : List (Option Delay))
    → AsksOfBus plan timing stays delays → AsksOfBus plan timing other others
    → (asked_of timing plan stays ≡ asked_of timing plan other) × (delays ≡ others)
one_asked plan timing stays other delays others asks another =
    let same = same_asked plan timing stays other asks.standing another.standing in (
      same,
      delays_same timing (asked_of timing plan other) delays others
          (subst (λ (a : Asked). AreFlowDelays timing a delays) same asks.waits) another.waits,
    )
