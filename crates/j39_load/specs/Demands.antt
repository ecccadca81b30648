-- What is wanted of the broadcasts of units: a unit sends one at a time, so behind the message that is under way one of each flow waits at most;
-- what is wanted meanwhile takes its place, or isn't sent.
use Rattle.std.specs.Prelude.{ℕ, ◌+◌, ◌==◌, max, if◌then◌else◌, List, [], ◌∷◌, ◌++◌, map, Option, Some, None}
use Rattle.std.specs.List.{filter_map, range_with_len}
use Rattle.j39_id.specs.Limits.{unit_limit}
use Rattle.j39_load.specs.declared.frames.broadcast.Broadcast.{Broadcast}
use Rattle.j39_load.specs.declared.frames.broadcast.BroadcastPart.{BroadcastPart}
use Rattle.j39_load.specs.declared.frames.broadcast.BroadcastPart.TheVariants.{Announcements, Packets}
use Rattle.j39_load.specs.declared.frames.flow_frames.FlowFrames.{FlowFrames}
use Rattle.j39_timing.specs.Waits.{Demand}
use Rattle.j39_timing.specs.declared.wants.Want.{Want}

-- where what is wanted of the packets of a unit stands, and of its announcements
abbrev pub packets_demand : ℕ → ℕ
packets_demand u = u

abbrev pub announcements_demand : ℕ → ℕ
announcements_demand u = unit_limit + u

-- what a flow wants, where it is of this unit
abbrev pub wanted_from : ℕ → Option Broadcast → Option Broadcast
wanted_from u None = None
wanted_from u (Some broadcast) = if broadcast.sender == u then Some broadcast else None

abbrev pub wanted_by : ℕ → Option FlowFrames → Option Broadcast
wanted_by u None = None
wanted_by u (Some frames) = wanted_from u frames.want

-- what all flows want of the unit at a place, among all frames
abbrev pub wants_of : List (Option FlowFrames) → ℕ → List Broadcast
wants_of all u = filter_map (wanted_by u) all

-- the most packets that one message of these has
unfoldable pub most_packets : List Broadcast → ℕ
most_packets [] = 0
most_packets (broadcast ∷ broadcasts) = max broadcast.packets (most_packets broadcasts)

-- of a message all packets are wanted, or its announcement
abbrev pub frames_of_part : BroadcastPart → Broadcast → ℕ
frames_of_part Packets broadcast = broadcast.packets
frames_of_part Announcements broadcast = 1

abbrev pub want_of : BroadcastPart → Broadcast → Want
want_of part broadcast = record {
  frames = frames_of_part part broadcast;
  period = broadcast.apart;
  jitter = broadcast.late;
  more = max 1 broadcast.askers;
}

-- of the one that is under way the packets may come, and no announcement
abbrev pub under_way_of : BroadcastPart → List Broadcast → ℕ
under_way_of Packets broadcasts = most_packets broadcasts
under_way_of Announcements broadcasts = 0

abbrev pub demand_by : BroadcastPart → List Broadcast → Demand
demand_by part broadcasts = record {
  under_way = under_way_of part broadcasts;
  wants = map (want_of part) broadcasts;
}

abbrev pub demands_by : BroadcastPart → List (Option FlowFrames) → List Demand
demands_by part all = map (λ u. demand_by part (wants_of all u)) (range_with_len 0 unit_limit)

-- what is wanted of the packets of each unit, and behind these of the announcements of each
abbrev pub demands_of : List (Option FlowFrames) → List Demand
demands_of all = demands_by Packets all ++ demands_by Announcements all
