-- Each stream of a plan's traffic has a period, and those of short flows have their limit within it.
use Rattle.std.proofs.Common.{◌≡◌, ℕ, ◌*◌, ◌<◌, ◌≤◌, Bool, true, false, not, ◌&&◌, eqb, if◌then◌else◌, List, [], ◌∷◌, ◌++◌, length, get_or, map, min, All}
use Rattle.std.proofs.Common.{Option, Some, None, IfSome}
use Rattle.std.proofs.Common.{refl, sym, ap, ◌∙◌, subst, arith, option_map}
use Rattle.std.proofs.Math.Nat.{mul-le-mul_left}
use Rattle.std.proofs.lemmas.List.Elements.{All-append, All-cons, All-head, All-map, All-tail}
use Rattle.std.proofs.lemmas.Option.{same_Some, none-some, slice_get-map}
use Rattle.std.specs.List.{cons_option, range_with_len, slice_get}
use Rattle.std.specs.Option.{ForSome}
use Rattle.j39_network.specs.declared.plan.Plan.{Plan}
use Rattle.j39_network.specs.declared.plan.flow_plan.FlowPlan.{FlowPlan}
use Rattle.j39_network.specs.declared.plan.group_plan.GroupPlan.{GroupPlan}
use Rattle.j39_network.specs.declared.plan.pace.Pace.{Pace}
use Rattle.j39_network.specs.declared.plan.request_plan.RequestPlan.{RequestPlan}
use Rattle.j39_network.specs.declared.plan.timing.ErrorRate.{ErrorRate}
use Rattle.j39_network.specs.declared.plan.timing.Timing.{Timing}
use Rattle.j39_id.specs.Limits.{frame_bytes}
use Rattle.j39_network.specs.declared.plan.to.To.{To}
use Rattle.j39_network.specs.declared.plan.to.To.TheVariants.{All as ToAllUnits, One}
use Rattle.j39_network.specs.declared.plan.unit_plan.UnitPlan.{UnitPlan}
use Rattle.j39_load.specs.declared.frames.broadcast.Broadcast.{Broadcast}
use Rattle.j39_load.specs.declared.frames.flow_frames.FlowFrames.{FlowFrames}
use Rattle.j39_load.specs.declared.loads.flow_load.FlowLoad.{FlowLoad}
use Rattle.j39_load.specs.declared.frames.messages.Messages.{Messages}
use Rattle.j39_load.specs.declared.frames.messages.Messages.TheVariants.{Short, ToAll, ToOne}
use Rattle.j39_load.specs.declared.loads.request_load.RequestLoad.{RequestLoad}
use Rattle.j39_load.specs.declared.loads.unit_load.UnitLoad.{UnitLoad}
use Rattle.j39_load.specs.Asked.{announcements_of_unit, asked_of, frames_asked, frames_of_flow, frames_of_request, own_frames, packets_of_unit, singles_of_flow}
use Rattle.j39_load.specs.Broadcasts.{broadcast_by, broadcast_from, broadcasts_by, known_unit_load, least_announced, least_packets, unit_loads_of}
use Rattle.j39_load.specs.Damage.{damage_frames, damage_stream, first_of_all}
use Rattle.j39_load.specs.Loads.{bits_at_least, bits_inside, has_short, is_always_short, load_of_messages, long_messages}
use Rattle.j39_load.specs.AnswerStreams.{askers_of, load_for, messages_for}
use Rattle.j39_load.specs.FlowLoads.{asked_load, load_of_flow, loads_of}
use Rattle.j39_load.specs.Loads.{limit_by, single_frames, time_limit}
use Rattle.j39_load.specs.RequestLoads.{load_of_request, request_load, request_loads_of}
use Rattle.j39_load.proofs.Milliseconds.{some_bits, some_inside}
use Rattle.j39_timing.specs.FrameBits.{error_frame, longest_frame}

-- what the messages of a flow have, of this limit
abbrev pub ArePaced : ℕ → Messages → Type 0
ArePaced limit (Short frames) = (0 < frames.stream.period) × (frames.stream.frames ≡ 1) × (limit ≤ frames.stream.period)
ArePaced limit (ToOne frames) = 0 < frames.stream.period
ArePaced limit (ToAll broadcast) = 2 ≤ broadcast.least_packets

abbrev pub HasPeriod : Option FlowFrames → Type 0
HasPeriod frames = IfSome frames (λ (f : FlowFrames). 0 < f.stream.period)

-- what each load of a plan has
pub record IsOfFlow (load : FlowLoad) : Type 0 where
  pub messages : ArePaced load.limit load.messages
  pub singles : HasPeriod load.singles

abbrev IsOfFlowIfKnown : Option FlowLoad → Type 0
IsOfFlowIfKnown load = IfSome load IsOfFlow

fewer_bits : (timing : Timing) (period : ℕ) (deadline : Option ℕ) → limit_by timing period deadline ≤ bits_at_least timing period
fewer_bits timing period None = omega arith
fewer_bits timing period (Some deadline) = omega arith

of_flow : (timing : Timing) (plan : Plan) (stays : UnitPlan → Bool) (flow : FlowPlan) (pace : Pace) (group : GroupPlan)
    → IsOfFlow (asked_load timing plan.requests.items plan.units.items stays flow pace group)
of_flow timing plan stays flow pace group = by (is_always_short group) (has_short group)
  where
    pos : 0 < bits_at_least timing pace.period
    pos = some_bits timing pace.period pace.period_positive

    fewer : time_limit timing pace ≤ bits_at_least timing pace.period
    fewer = fewer_bits timing pace.period pace.deadline

    single : FlowFrames
    single = single_frames timing plan.units.items stays flow pace group

    askers : ℕ
    askers = askers_of plan.requests.items flow

    long : (to : To) → ArePaced (time_limit timing pace) (messages_for timing pace askers (long_messages timing plan.units.items stays flow pace group to))
    long ToAllUnits = omega arith
    long (One v) = pos

    by : (short has : Bool) → IsOfFlow (load_for timing pace askers (record {
      messages = if short then Short single else long_messages timing plan.units.items stays flow pace group flow.to;
      singles = if not short && has then Some single else None;
      limit = time_limit timing pace;
      bits_per_second = load_of_messages timing (if short then Short single
          else long_messages timing plan.units.items stays flow pace group flow.to) pace.period;
    }))
    by true has = record { messages = (pos, refl, fewer); singles = tt }
    by false true = record { messages = long flow.to; singles = pos }
    by false false = record { messages = long flow.to; singles = tt }

of_paced : (timing : Timing) (plan : Plan) (stays : UnitPlan → Bool) (flow : FlowPlan) (pace : Option Pace) (group : Option GroupPlan)
    → flow.pace ≡ pace → slice_get plan.groups.items flow.group ≡ group → IsOfFlowIfKnown (load_of_flow timing plan stays flow)
of_paced timing plan stays flow None group paced at = rw (paced) tt
of_paced timing plan stays flow (Some pace) None paced at = rw (paced, at) tt
of_paced timing plan stays flow (Some pace) (Some group) paced at = rw (paced, at) (of_flow timing plan stays flow pace group)

each_flow : (timing : Timing) (plan : Plan) (stays : UnitPlan → Bool) (flow : FlowPlan) → IsOfFlowIfKnown (load_of_flow timing plan stays flow)
each_flow timing plan stays flow = of_paced timing plan stays flow flow.pace (slice_get plan.groups.items flow.group) refl refl

pub every_flow : (timing : Timing) (plan : Plan) (stays : UnitPlan → Bool) → All IsOfFlowIfKnown (loads_of timing plan stays)
every_flow timing plan stays =
    All-map IsOfFlowIfKnown (load_of_flow timing plan stays) plan.flows.items (λ k d below. each_flow timing plan stays (get_or plan.flows.items k d))

pub of_loads : (timing : Timing) (plan : Plan) (stays : UnitPlan → Bool) (k : ℕ) (load : FlowLoad)
    → slice_get (loads_of timing plan stays) k ≡ Some (Some load) → IsOfFlow load
of_loads timing plan stays k load at = go (slice_get plan.flows.items k) refl
  where
    known : (flow : FlowPlan) → load_of_flow timing plan stays flow ≡ Some load → IsOfFlow load
    known flow is = subst IsOfFlowIfKnown is (each_flow timing plan stays flow)

    go : (flow : Option FlowPlan) → slice_get plan.flows.items k ≡ flow → IsOfFlow load
    go None none = absurd (none-some (Some load)
        (sym (slice_get-map (load_of_flow timing plan stays) plan.flows.items k ∙ ap (option_map (load_of_flow timing plan stays)) none) ∙ at))
    go (Some flow) is = known flow
        (same_Some _ (Some load)
        (sym (slice_get-map (load_of_flow timing plan stays) plan.flows.items k ∙ ap (option_map (load_of_flow timing plan stays)) is) ∙ at))

-- ---- frames of flows

own_paced : (load : Option FlowLoad) → IsOfFlowIfKnown load → HasPeriod (frames_of_flow load)
own_paced None known = tt
own_paced (Some load) known = go load.messages known.messages
  where
    go : (messages : Messages) → ArePaced load.limit messages → HasPeriod (own_frames messages)
    go (Short frames) is = is.0
    go (ToOne frames) is = is
    go (ToAll broadcast) is = omega arith

singles_paced : (load : Option FlowLoad) → IsOfFlowIfKnown load → HasPeriod (singles_of_flow load)
singles_paced None known = tt
singles_paced (Some load) known = known.singles

-- ---- frames of units

positive_gaps : (timing : Timing) (gaps gap : ℕ) → 1 ≤ gaps → 10 ≤ gap → 0 < gaps * bits_at_least timing gap
positive_gaps timing gaps gap some long =
    let one = some_bits timing gap (omega (arith, long)) in
    let most : bits_at_least timing gap * 1 ≤ bits_at_least timing gap * gaps = mul-le-mul_left (bits_at_least timing gap) some in
    omega (arith, one, most)

abbrev pub HasPackets : Broadcast → Type 0
HasPackets broadcast = 2 ≤ broadcast.least_packets

some_packets : (broadcasts : List Broadcast) → All HasPackets broadcasts → 1 ≤ least_packets broadcasts
unfolding least_packets
some_packets [] all = omega arith
some_packets (b ∷ bs) all =
    let first = All-head HasPackets b bs all in
    let rest = some_packets bs (All-tail HasPackets b bs all) in
    omega (arith, first, rest)

pub some_announced : (bs : List Broadcast) → All HasPackets bs → 1 ≤ least_announced bs
unfolding least_announced
some_announced [] each = omega arith
some_announced (b ∷ bs) each =
    let first = All-head HasPackets b bs each in
    let rest = some_announced bs (All-tail HasPackets b bs each) in
    elim b.has_short as (λ has. 1 ≤ min (if has then 255 else b.least_packets) (least_announced bs)) [
      | true ↦ omega (arith, rest)
      | false ↦ omega (arith, first, rest)
    ]

by_paced : (u limit : ℕ) (messages : Messages) → ArePaced limit messages → IfSome (broadcast_from u messages) HasPackets
by_paced u limit (Short frames) known = tt
by_paced u limit (ToOne frames) known = tt
by_paced u limit (ToAll broadcast) known =
    elim (eqb broadcast.sender u) as (λ e. IfSome (if e then Some broadcast else None) HasPackets) [
      | true ↦ known
      | false ↦ tt
    ]

one_paced : (u : ℕ) (load : Option FlowLoad) → IsOfFlowIfKnown load → IfSome (broadcast_by u load) HasPackets
one_paced u None known = tt
one_paced u (Some load) known = by_paced u load.limit load.messages known.messages

pub broadcasts_paced : (u : ℕ) (loads : List (Option FlowLoad)) → All IsOfFlowIfKnown loads → All HasPackets (broadcasts_by u loads)
broadcasts_paced u [] all = λ k d below. absurd (omega arith)
broadcasts_paced u (load ∷ loads) all =
    go (broadcast_by u load) (one_paced u load (All-head IsOfFlowIfKnown load loads all))
    (broadcasts_paced u loads (All-tail IsOfFlowIfKnown load loads all))
  where
    go : (broadcast : Option Broadcast) → IfSome broadcast HasPackets → All HasPackets (broadcasts_by u loads)
        → All HasPackets (cons_option broadcast (broadcasts_by u loads))
    go None known rest = rest
    go (Some broadcast) known rest = All-cons HasPackets broadcast (broadcasts_by u loads) known rest

unit_paced : (timing : Timing) (units : List UnitPlan) (stays : UnitPlan → Bool) (u : ℕ) (broadcasts : List Broadcast) → All HasPackets broadcasts
    → HasPeriod (packets_of_unit (known_unit_load timing units stays u broadcasts))
    × HasPeriod (announcements_of_unit (known_unit_load timing units stays u broadcasts))
unit_paced timing units stays u [] all = (tt, tt)
unit_paced timing units stays u (b ∷ bs) all = (
  positive_gaps timing 1 timing.broadcast_gap (omega arith) timing.broadcast_gap_least,
  positive_gaps timing (least_packets (b ∷ bs)) timing.broadcast_gap (some_packets (b ∷ bs) all) timing.broadcast_gap_least,
)

-- ---- requests

abbrev IsPacedRequest : Option RequestLoad → Type 0
IsPacedRequest load = HasPeriod (frames_of_request load)

request_paced : (timing : Timing) (units : List UnitPlan) (stays : UnitPlan → Bool) (request : RequestPlan) (period : Option ℕ)
    → ForSome period (λ n. 1 ≤ n) → IsPacedRequest (option_map (request_load timing units stays request) period)
request_paced timing units stays request None some = tt
request_paced timing units stays request (Some period) some = some_bits timing period (some period refl)

-- ---- all of them

abbrev ArePacedUnits : Option UnitLoad → Type 0
ArePacedUnits load = HasPeriod (packets_of_unit load) × HasPeriod (announcements_of_unit load)

units_paced : (timing : Timing) (plan : Plan) (stays : UnitPlan → Bool) (flows : List (Option FlowLoad)) → All IsOfFlowIfKnown flows
    → All ArePacedUnits (unit_loads_of timing plan.units.items stays flows)
units_paced timing plan stays [] each = λ k d below. absurd (omega arith)
units_paced timing plan stays (flow ∷ flows) each =
    All-map ArePacedUnits (λ u. known_unit_load timing plan.units.items stays u (broadcasts_by u (flow ∷ flows))) (range_with_len 0 (length plan.units.items))
    (λ k d below. let u = get_or (range_with_len 0 (length plan.units.items)) k d in
    unit_paced timing plan.units.items stays u (broadcasts_by u (flow ∷ flows)) (broadcasts_paced u (flow ∷ flows) each))

asked_paced : (timing : Timing) (plan : Plan) (stays : UnitPlan → Bool) → All HasPeriod (frames_asked (asked_of timing plan stays))
asked_paced timing plan stays =
    All-append HasPeriod (map frames_of_flow flows)
    (map singles_of_flow flows ++ (map packets_of_unit units ++ (map announcements_of_unit units ++ map frames_of_request requests))) own
    (All-append HasPeriod (map singles_of_flow flows)
    (map packets_of_unit units ++ (map announcements_of_unit units ++ map frames_of_request requests)) singles
    (All-append HasPeriod (map packets_of_unit units) (map announcements_of_unit units ++ map frames_of_request requests) packets
    (All-append HasPeriod (map announcements_of_unit units) (map frames_of_request requests) announcements asked)))
  where
    flows : List (Option FlowLoad)
    flows = loads_of timing plan stays

    units : List (Option UnitLoad)
    units = unit_loads_of timing plan.units.items stays flows

    each : All IsOfFlowIfKnown flows
    each = every_flow timing plan stays

    own : All HasPeriod (map frames_of_flow flows)
    own = All-map HasPeriod frames_of_flow flows (λ k d below. own_paced (get_or flows k d) (each k d below))

    singles : All HasPeriod (map singles_of_flow flows)
    singles = All-map HasPeriod singles_of_flow flows (λ k d below. singles_paced (get_or flows k d) (each k d below))

    of_units : All ArePacedUnits units
    of_units = units_paced timing plan stays flows each

    packets : All HasPeriod (map packets_of_unit units)
    packets = All-map HasPeriod packets_of_unit units (λ k d below. (of_units k d below).0)

    announcements : All HasPeriod (map announcements_of_unit units)
    announcements = All-map HasPeriod announcements_of_unit units (λ k d below. (of_units k d below).1)

    requests : List (Option RequestLoad)
    requests = request_loads_of timing plan stays

    of_requests : All IsPacedRequest requests
    of_requests = All-map IsPacedRequest (load_of_request timing plan.units.items stays) plan.requests.items
        (λ k d below. let request = get_or plan.requests.items k d in
        request_paced timing plan.units.items stays request request.period request.period_positive)

    asked : All HasPeriod (map frames_of_request requests)
    asked = All-map HasPeriod frames_of_request requests (λ k d below. of_requests k d below)

damage_paced : (timing : Timing) (errors : Option ErrorRate) → timing.errors ≡ errors → All HasPeriod (damage_frames timing)
damage_paced timing None is = rw (is) (λ k d below. absurd (omega arith))
damage_paced timing (Some rate) is =
    let one : 0 < bits_inside timing rate.every = some_inside timing rate.every rate.every_positive in
    rw (is) (All-cons HasPeriod (first_of_all (damage_stream timing rate (longest_frame frame_bytes)))
    (first_of_all (damage_stream timing rate error_frame) ∷ []) one
    (All-cons HasPeriod (first_of_all (damage_stream timing rate error_frame)) [] one (λ k d below. absurd (omega arith))))

pub all_paced : (timing : Timing) (plan : Plan) (stays : UnitPlan → Bool)
    → All HasPeriod (frames_asked (asked_of timing plan stays) ++ damage_frames timing)
all_paced timing plan stays = All-append HasPeriod (frames_asked (asked_of timing plan stays)) (damage_frames timing) (asked_paced timing plan stays)
    (damage_paced timing timing.errors refl)
