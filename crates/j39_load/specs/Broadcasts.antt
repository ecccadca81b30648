-- What the long messages to all ask of the bus: of each unit two streams of single frames, its packets and its announcements, since it sends
-- one such message at a time, and the packets of each a gap apart (SAE J1939-21, ISO 11783-3).
use Rattle.std.specs.Prelude.{ℕ, ◌+◌, ◌*◌, ◌==◌, min, if◌then◌else◌, Bool, List, [], ◌∷◌, length, map, sum_by, Option, Some, None}
use Rattle.std.specs.List.{filter_map, range_with_len}
use Rattle.j39_id.specs.Limits.{frame_bytes}
use Rattle.j39_id.specs.Services.{connection_management, data_transfer}
use Rattle.j39_network.specs.declared.plan.timing.Timing.{Timing}
use Rattle.j39_network.specs.declared.plan.unit_plan.UnitPlan.{UnitPlan}
use Rattle.j39_load.specs.declared.frames.broadcast.Broadcast.{Broadcast}
use Rattle.j39_load.specs.declared.frames.flow_frames.FlowFrames.{FlowFrames}
use Rattle.j39_load.specs.declared.loads.flow_load.FlowLoad.{FlowLoad}
use Rattle.j39_load.specs.declared.frames.messages.Messages.{Messages}
use Rattle.j39_load.specs.declared.frames.messages.Messages.TheVariants.{Short, ToAll, ToOne}
use Rattle.j39_load.specs.declared.loads.unit_load.UnitLoad.{UnitLoad}
use Rattle.j39_load.specs.Demands.{announcements_demand, packets_demand}
use Rattle.j39_load.specs.Loads.{any_unit, bits_a_second, bits_at_least, broadcast_ident, greatest_address, least_address, of_unit}
use Rattle.j39_timing.specs.FrameBits.{longest_frame}
use Rattle.j39_timing.specs.declared.stream.Stream.{Stream}
use Rattle.j39_timing.specs.declared.stream.WantedBy.TheVariants.{Sender}

-- the messages are broadcasts of the unit at this place
abbrev pub broadcast_from : ℕ → Messages → Option Broadcast
broadcast_from u (Short frames) = None
broadcast_from u (ToOne frames) = None
broadcast_from u (ToAll broadcast) = if broadcast.sender == u then Some broadcast else None

abbrev pub broadcast_by : ℕ → Option FlowLoad → Option Broadcast
broadcast_by u None = None
broadcast_by u (Some load) = broadcast_from u load.messages

-- all broadcasts of the unit at this place
abbrev pub broadcasts_by : ℕ → List (Option FlowLoad) → List Broadcast
broadcasts_by u loads = filter_map (broadcast_by u) loads

-- the least number of packets of these; a message has 255 at most
unfoldable pub least_packets : List Broadcast → ℕ
least_packets [] = 255
least_packets (broadcast ∷ broadcasts) = min broadcast.least_packets (least_packets broadcasts)

-- single frames of eight bytes, which are queued at least so many gaps apart; what is wanted of them stands at a place
abbrev pub spaced_stream : Timing → ℕ → ℕ → Stream
spaced_stream timing gaps place = record {
  frames = 1;
  period = gaps * bits_at_least timing timing.broadcast_gap;
  bits = longest_frame frame_bytes;
  jitter = 0;
  wanted = Some (Sender place);
}

-- frames of one of the two groups of the transport protocol, from a unit to all
abbrev pub broadcast_frames : Timing → List UnitPlan → (UnitPlan → Bool) → ℕ → ℕ → ℕ → ℕ → FlowFrames
broadcast_frames timing units stays pgn u gaps place = record {
  stream = spaced_stream timing gaps place;
  least_ident = broadcast_ident timing pgn (of_unit units (least_address stays)) u;
  greatest_ident = broadcast_ident timing pgn (of_unit units (greatest_address stays)) u;
  any_sender = any_unit units u;
  any_receiver = None;
  last_ident = broadcast_ident timing pgn (of_unit units (greatest_address stays)) u;
  twin_ident = None;
  want = None;
}

-- the bits that so many frames take in a second at most, which are sent again after so many milliseconds
abbrev pub bits_each : Timing → ℕ → ℕ → ℕ
bits_each timing frames ms = bits_a_second timing (frames * longest_frame frame_bytes) ms

-- the bits that the packets of these broadcasts take in a second at most: no more than are wanted, and no more than one for each gap
abbrev pub load_of_packets : Timing → List Broadcast → ℕ
load_of_packets timing broadcasts =
    min (sum_by (λ b. bits_each timing b.packets b.period) broadcasts) (bits_each timing 1 timing.broadcast_gap)

-- those of the first frames of a broadcast's messages, where some go in one frame: an announcement, or such a frame, which no packets have to follow
abbrev pub bits_of_firsts : Timing → Broadcast → ℕ
bits_of_firsts timing broadcast = if broadcast.has_short then bits_each timing 1 broadcast.period else 0

abbrev pub load_of_firsts : Timing → List Broadcast → ℕ
load_of_firsts timing broadcasts = sum_by (bits_of_firsts timing) broadcasts

-- those of the announcements of one of which none does
abbrev pub bits_of_announcements : Timing → Broadcast → ℕ
bits_of_announcements timing broadcast = if broadcast.has_short then 0 else bits_each timing 1 broadcast.period

-- the least number of packets of these
abbrev pub announced_packets : Broadcast → ℕ
announced_packets broadcast = if broadcast.has_short then 255 else broadcast.least_packets

unfoldable pub least_announced : List Broadcast → ℕ
least_announced [] = 255
least_announced (broadcast ∷ broadcasts) = min (announced_packets broadcast) (least_announced broadcasts)

-- the packets of a message lie between two of these announcements
abbrev pub load_of_announcements : Timing → List Broadcast → ℕ
load_of_announcements timing broadcasts =
    min (sum_by (bits_of_announcements timing) broadcasts) (bits_each timing 1 (least_announced broadcasts * timing.broadcast_gap))

-- what these broadcasts of the unit at a place ask of the bus
abbrev pub unit_load : Timing → List UnitPlan → (UnitPlan → Bool) → ℕ → List Broadcast → UnitLoad
unit_load timing units stays u broadcasts = record {
  packets = broadcast_frames timing units stays data_transfer u 1 (packets_demand u);
  announcements = broadcast_frames timing units stays connection_management u (least_packets broadcasts) (announcements_demand u);
  flows = length broadcasts;
  all_packets = sum_by (λ b. b.packets) broadcasts;
  bits_per_second = load_of_packets timing broadcasts + (load_of_firsts timing broadcasts + load_of_announcements timing broadcasts);
}

-- where there are any
abbrev pub known_unit_load : Timing → List UnitPlan → (UnitPlan → Bool) → ℕ → List Broadcast → Option UnitLoad
known_unit_load timing units stays u [] = None
known_unit_load timing units stays u (b ∷ bs) = Some (unit_load timing units stays u (b ∷ bs))

-- what the broadcasts of each unit ask of the bus, in order
abbrev pub each_unit_load : Timing → List UnitPlan → (UnitPlan → Bool) → List (Option FlowLoad) → List (Option UnitLoad)
each_unit_load timing units stays loads =
    map (λ u. known_unit_load timing units stays u (broadcasts_by u loads)) (range_with_len 0 (length units))

-- nothing is held of units where there are no flows
abbrev pub unit_loads_of : Timing → List UnitPlan → (UnitPlan → Bool) → List (Option FlowLoad) → List (Option UnitLoad)
unit_loads_of timing units stays [] = []
unit_loads_of timing units stays (load ∷ loads) = each_unit_load timing units stays (load ∷ loads)
