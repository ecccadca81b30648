-- What a plan asks of its bus: what each flow asks, what the broadcasts of each unit do, and what each request does; and all frames that come
-- of it.
use Rattle.std.specs.Prelude.{ℕ, ◌+◌, ◌^◌, Bool, List, ◌++◌, map, sum_by, Option, Some, None}
use Rattle.std.specs.Option.{option_and_then, option_map, option_map_or}
use Rattle.j39_network.specs.declared.plan.Plan.{Plan}
use Rattle.j39_network.specs.declared.plan.timing.Timing.{Timing}
use Rattle.j39_network.specs.declared.plan.unit_plan.UnitPlan.{UnitPlan}
use Rattle.j39_load.specs.declared.frames.broadcast.Broadcast.{Broadcast}
use Rattle.j39_load.specs.declared.frames.flow_frames.FlowFrames.{FlowFrames}
use Rattle.j39_load.specs.declared.loads.flow_load.FlowLoad.{FlowLoad}
use Rattle.j39_load.specs.declared.frames.messages.Messages.{Messages}
use Rattle.j39_load.specs.declared.frames.messages.Messages.TheVariants.{Short, ToAll, ToOne}
use Rattle.j39_load.specs.declared.loads.request_load.RequestLoad.{RequestLoad}
use Rattle.j39_load.specs.declared.loads.unit_load.UnitLoad.{UnitLoad}
use Rattle.j39_load.specs.Broadcasts.{unit_loads_of}
use Rattle.j39_load.specs.Damage.{load_of_damage}
use Rattle.j39_load.specs.FlowLoads.{loads_of}
use Rattle.j39_load.specs.LiveClaims.{unplanned_end}
use Rattle.j39_load.specs.RequestLoads.{request_loads_of}

pub record Asked : Type 0 where
  -- of each flow, in order, where it is known how often it is sent
  pub flows : List (Option FlowLoad)
  -- of each unit, in order, where it has broadcasts
  pub units : List (Option UnitLoad)
  -- of each request, in order, where it is known how often it is sent
  pub requests : List (Option RequestLoad)
  -- what isn't planned has identifiers below this number
  pub unplanned_end : ℕ

abbrev pub asked_by : List (Option FlowLoad) → List (Option UnitLoad) → List (Option RequestLoad) → ℕ → Asked
asked_by flows units requests ends = record { flows = flows; units = units; requests = requests; unplanned_end = ends }

abbrev pub asked_of : Timing → Plan → (UnitPlan → Bool) → Asked
asked_of timing plan stays =
    asked_by (loads_of timing plan stays) (unit_loads_of timing plan.units.items stays (loads_of timing plan stays))
    (request_loads_of timing plan stays) (unplanned_end plan)

-- in place of frames of its own, which a flow with long messages to all has none of, what it wants of its unit's
abbrev pub wanting : Broadcast → FlowFrames
wanting broadcast = record {
  stream = record { frames = 0; period = 1; bits = 0; jitter = 0; wanted = None };
  least_ident = 2 ^ 29;
  greatest_ident = 2 ^ 29;
  any_sender = None;
  any_receiver = None;
  last_ident = 2 ^ 29;
  twin_ident = None;
  want = Some broadcast;
}

-- the frames that are a flow's own: those of a broadcast are among its unit's
abbrev pub own_frames : Messages → Option FlowFrames
own_frames (Short frames) = Some frames
own_frames (ToOne frames) = Some frames
own_frames (ToAll broadcast) = Some (wanting broadcast)

abbrev pub frames_of_flow : Option FlowLoad → Option FlowFrames
frames_of_flow load = option_and_then (λ (l : FlowLoad). own_frames l.messages) load

abbrev pub singles_of_flow : Option FlowLoad → Option FlowFrames
singles_of_flow load = option_and_then (λ (l : FlowLoad). l.singles) load

abbrev pub packets_of_unit : Option UnitLoad → Option FlowFrames
packets_of_unit load = option_map (λ (l : UnitLoad). l.packets) load

abbrev pub announcements_of_unit : Option UnitLoad → Option FlowFrames
announcements_of_unit load = option_map (λ (l : UnitLoad). l.announcements) load

abbrev pub frames_of_request : Option RequestLoad → Option FlowFrames
frames_of_request load = option_map (λ (l : RequestLoad). l.frames) load

-- at the places of the flows their frames; behind these, in as many places, the single frames of those that have long messages too; then
-- the packets of each unit's broadcasts, and their announcements; and at the end the requests
abbrev pub all_frames : List (Option FlowLoad) → List (Option UnitLoad) → List (Option RequestLoad) → List (Option FlowFrames)
all_frames flows units requests =
    map frames_of_flow flows ++ (map singles_of_flow flows
    ++ (map packets_of_unit units ++ (map announcements_of_unit units ++ map frames_of_request requests)))

abbrev pub frames_asked : Asked → List (Option FlowFrames)
frames_asked asked = all_frames asked.flows asked.units asked.requests

-- the bits that all of it takes in a second at most
abbrev pub total_load : Timing → Asked → ℕ
total_load timing asked = load_of_damage timing
    + (sum_by (λ load. option_map_or (λ (l : FlowLoad). l.bits_per_second) load 0) asked.flows
    + (sum_by (λ load. option_map_or (λ (l : UnitLoad). l.bits_per_second) load 0) asked.units
    + sum_by (λ load. option_map_or (λ (l : RequestLoad). l.bits_per_second) load 0) asked.requests))
