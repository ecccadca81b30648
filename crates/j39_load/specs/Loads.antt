-- What each flow of a plan asks of the bus: how many frames, how long, how often, and how urgent.
use Rattle.std.specs.Prelude.{ℕ, ◌+◌, ◌*◌, ◌/◌, min, max, nat_le, Bool, true, false, not, ◌&&◌, if◌then◌else◌, List, Option, Some, None, unwrap_or}
use Rattle.std.specs.Int.{div_ceil}
use Rattle.std.specs.List.{slice_get}
use Rattle.std.specs.Option.{option_map, option_map_or}
use Rattle.j39_id.specs.Addresses.{global_address, pool_first, pool_last}
use Rattle.j39_id.specs.Ident.{identifier_of}
use Rattle.j39_id.specs.Limits.{frame_bytes}
use Rattle.j39_id.specs.Name.{is_arbitrary}
use Rattle.j39_id.specs.Services.{connection_management, data_transfer}
use Rattle.j39_network.specs.declared.plan.flow_plan.FlowPlan.{FlowPlan}
use Rattle.j39_network.specs.declared.plan.group_plan.GroupPlan.{GroupPlan}
use Rattle.j39_network.specs.declared.plan.pace.Pace.{Pace}
use Rattle.j39_network.specs.declared.plan.queue.Queue.{Queue}
use Rattle.j39_network.specs.declared.plan.queue.Queue.TheVariants.{Any, Priority}
use Rattle.j39_network.specs.declared.plan.timing.Bitrate.{Bitrate}
use Rattle.j39_network.specs.declared.plan.timing.Bitrate.TheVariants.{Kbit125, Kbit250, Kbit500, Mbit1}
use Rattle.j39_network.specs.declared.plan.timing.Timing.{Timing}
use Rattle.j39_network.specs.declared.plan.to.To.{To}
use Rattle.j39_network.specs.declared.plan.to.To.TheVariants.{All, One}
use Rattle.j39_network.specs.declared.plan.unit_plan.UnitPlan.{UnitPlan}
use Rattle.j39_load.specs.declared.frames.broadcast.Broadcast.{Broadcast}
use Rattle.j39_load.specs.declared.frames.flow_frames.FlowFrames.{FlowFrames}
use Rattle.j39_load.specs.declared.loads.flow_load.FlowLoad.{FlowLoad}
use Rattle.j39_load.specs.declared.frames.messages.Messages.{Messages}
use Rattle.j39_load.specs.declared.frames.messages.Messages.TheVariants.{Short, ToAll, ToOne}
use Rattle.j39_load.specs.Clocks.{bit_time, longest_million, million, shortest_million}
use Rattle.j39_timing.specs.FrameBits.{longest_frame}
use Rattle.j39_timing.specs.declared.stream.Stream.{Stream}
use Rattle.j39_tp.specs.Chunks.{packets_of}

-- ---- the bus

abbrev pub bits_per_ms : Bitrate → ℕ
bits_per_ms Kbit125 = 125
bits_per_ms Kbit250 = 250
bits_per_ms Kbit500 = 500
bits_per_ms Mbit1 = 1000

-- the bits that a bus carries in a second
abbrev pub bits_of_second : Bitrate → ℕ
bits_of_second bitrate = 1000 * bits_per_ms bitrate

-- the bits of so many milliseconds of the bus's own clock
abbrev pub bits_of_ms : Timing → ℕ → ℕ
bits_of_ms timing ms = ms * bits_per_ms timing.bitrate

-- the bits of the bus in so many milliseconds of a unit's clock, at least and at most
abbrev pub bits_at_least : Timing → ℕ → ℕ
bits_at_least timing ms = bits_of_ms timing ms * shortest_million timing / longest_million timing

abbrev pub bits_at_most : Timing → ℕ → ℕ
bits_at_most timing ms = div_ceil (bits_of_ms timing ms * longest_million timing) (shortest_million timing)

-- the most bits that last no longer than so many milliseconds of true time
abbrev pub bits_inside : Timing → ℕ → ℕ
bits_inside timing ms = bits_of_ms timing ms * million / longest_million timing

-- the microseconds of true time that so many bits last at most, and so many milliseconds of a unit's clock
abbrev pub us_of_bits : Timing → ℕ → ℕ
us_of_bits timing bits = div_ceil (bits * bit_time timing.bitrate * longest_million timing) million

abbrev pub us_of_unit_ms : Timing → ℕ → ℕ
us_of_unit_ms timing ms = div_ceil (1000 * ms * longest_million timing) million

-- the bits that the bus carries at most in a second of its own clock, where so many come once in so many milliseconds of a unit's
abbrev pub bits_a_second : Timing → ℕ → ℕ → ℕ
bits_a_second timing bits ms = div_ceil (1000 * bits * longest_million timing) (ms * shortest_million timing)

-- no longer wait is looked for where the limit isn't a flow's
abbrev pub longest_wait : Timing → ℕ
longest_wait timing = bits_of_ms timing 65535

-- ---- frames

-- each message of the group goes in one frame
abbrev pub is_always_short : GroupPlan → Bool
is_always_short group = nat_le group.most frame_bytes

-- some messages of the group do
abbrev pub has_short : GroupPlan → Bool
has_short group = nat_le group.length frame_bytes

-- the most bytes of a frame
abbrev pub most_bytes : GroupPlan → ℕ
most_bytes group = if is_always_short group then group.most else frame_bytes

-- what is read of the unit at a place
abbrev pub of_unit : List UnitPlan → (UnitPlan → ℕ) → ℕ → ℕ
of_unit units read u = option_map_or read (slice_get units u) 0

-- a controller that keeps no order
abbrev pub is_any : Queue → Bool
is_any Priority = false
is_any Any = true

-- the unit at a place, where its controller keeps no order
abbrev pub any_unit : List UnitPlan → ℕ → Option ℕ
any_unit units u = if option_map_or (λ unit. is_any unit.queue) (slice_get units u) false then Some u else None

-- the frames of a long message to one unit: its RTS, its packets, one CTS for as many packets as the receiver takes at once, and the
-- acknowledgement of its end
abbrev pub frames_to_one : List UnitPlan → ℕ → ℕ → ℕ
frames_to_one units packets v = 2 + packets + div_ceil packets (of_unit units (λ unit. unit.window) v)

-- of one to all: its announcement and its packets
abbrev pub frames_to_all : ℕ → ℕ
frames_to_all packets = 1 + packets

-- messages of one frame of the group each
abbrev pub single_stream : Timing → GroupPlan → Pace → Stream
single_stream timing group pace = record {
  frames = 1;
  period = bits_at_least timing pace.period;
  bits = longest_frame (most_bytes group);
  jitter = bits_at_most timing pace.jitter;
  wanted = None;
}

-- long messages of so many packets to one unit, each of which has ended before the next one begins
abbrev pub packet_stream : Timing → List UnitPlan → ℕ → ℕ → Pace → Stream
packet_stream timing units packets v pace = record {
  frames = frames_to_one units packets v;
  period = bits_at_least timing pace.period;
  bits = longest_frame frame_bytes;
  jitter = bits_at_most timing pace.period + bits_at_most timing pace.jitter;
  wanted = None;
}

-- ---- identifiers: the smaller one goes first

-- a unit that may choose and doesn't stay may come to hold another address than its planned one: one of the pool
abbrev pub may_move : (UnitPlan → Bool) → UnitPlan → Bool
may_move stays unit = is_arbitrary unit.name && not (stays unit)

abbrev pub least_address : (UnitPlan → Bool) → UnitPlan → ℕ
least_address stays unit = if may_move stays unit then min unit.address pool_first else unit.address

abbrev pub greatest_address : (UnitPlan → Bool) → UnitPlan → ℕ
greatest_address stays unit = if may_move stays unit then max unit.address pool_last else unit.address

-- the address that a message goes to, where the units hold these
abbrev pub destination_at : (ℕ → ℕ) → To → ℕ
destination_at held All = global_address
destination_at held (One v) = held v

-- the identifier of a flow's frames of its group
abbrev pub group_ident : (ℕ → ℕ) → GroupPlan → FlowPlan → ℕ
group_ident held group flow = identifier_of group.priority group.pgn (destination_at held flow.to) (held flow.sender)

-- that of a frame of the transport protocol
abbrev pub transport_ident : Timing → ℕ → ℕ → ℕ → ℕ
transport_ident timing pgn destination source = identifier_of timing.transport_priority pgn destination source

-- that of the data packets of a long message, by which one to one unit counts
abbrev pub packet_ident : Timing → (ℕ → ℕ) → FlowPlan → ℕ
packet_ident timing held flow = transport_ident timing data_transfer (destination_at held flow.to) (held flow.sender)

-- that of a unit's announcements and packets to all
abbrev pub broadcast_ident : Timing → ℕ → (ℕ → ℕ) → ℕ → ℕ
broadcast_ident timing pgn held u = transport_ident timing pgn global_address (held u)

-- the greatest one of a long message to the unit at a place: that of what its sender asks, or of what is answered. Its
-- packets have smaller ones
abbrev pub session_ident : Timing → (ℕ → ℕ) → FlowPlan → ℕ → ℕ
session_ident timing held flow v = max (transport_ident timing connection_management (held v) (held flow.sender))
    (transport_ident timing connection_management (held flow.sender) (held v))

-- where the group is distinguished by its data, the identifier that the flow's frames would have if each unit's address was its place: flows with one
-- such number are those whose frames have one identifier
abbrev pub twin_ident : GroupPlan → FlowPlan → Option ℕ
twin_ident group flow = option_map (λ _. group_ident (λ u. u) group flow) group.when

-- ---- flows

-- within so many milliseconds each frame of the flow has to be on the bus: those that are written, or its period
abbrev pub deadline_of : Pace → ℕ
deadline_of pace = unwrap_or pace.deadline pace.period

-- within so many bits each frame of the flow has to be on the bus, where these milliseconds are written; never later than the next message is
-- queued
abbrev pub limit_by : Timing → ℕ → Option ℕ → ℕ
limit_by timing period None = bits_at_least timing period
limit_by timing period (Some deadline) = min (bits_inside timing deadline) (bits_at_least timing period)

abbrev pub time_limit : Timing → Pace → ℕ
time_limit timing pace = limit_by timing pace.period pace.deadline

-- the bits that a stream takes in a second at most
abbrev pub load_of : Timing → Stream → ℕ → ℕ
load_of timing stream period = bits_a_second timing (stream.frames * stream.bits) period

-- the frames of a flow's messages that go in one frame
abbrev pub single_frames : Timing → List UnitPlan → (UnitPlan → Bool) → FlowPlan → Pace → GroupPlan → FlowFrames
single_frames timing units stays flow pace group = record {
  stream = single_stream timing group pace;
  least_ident = group_ident (of_unit units (least_address stays)) group flow;
  greatest_ident = group_ident (of_unit units (greatest_address stays)) group flow;
  any_sender = any_unit units flow.sender;
  any_receiver = None;
  last_ident = group_ident (of_unit units (greatest_address stays)) group flow;
  twin_ident = twin_ident group flow;
  want = None;
}

-- those of its long messages to the unit at a place, each of so many packets
abbrev pub packet_frames : Timing → List UnitPlan → (UnitPlan → Bool) → FlowPlan → ℕ → Pace → ℕ → FlowFrames
packet_frames timing units stays flow v pace packets = record {
  stream = packet_stream timing units packets v pace;
  least_ident = packet_ident timing (of_unit units (least_address stays)) flow;
  greatest_ident = packet_ident timing (of_unit units (greatest_address stays)) flow;
  any_sender = any_unit units flow.sender;
  any_receiver = any_unit units v;
  last_ident = session_ident timing (of_unit units (greatest_address stays)) flow v;
  twin_ident = None;
  want = None;
}

-- its long messages to all, by its sender. Those of the transport protocol have two packets at least
abbrev pub broadcast_of : Timing → FlowPlan → Pace → GroupPlan → Broadcast
broadcast_of timing flow pace group = record {
  sender = flow.sender;
  packets = packets_of group.most;
  least_packets = max 2 (packets_of group.length);
  has_short = has_short group;
  period = pace.period;
  apart = bits_at_least timing pace.period;
  jitter = bits_at_most timing pace.jitter;
  late = bits_at_most timing pace.jitter;
  askers = 0;
  deadline = option_map (bits_inside timing) pace.deadline;
}

abbrev pub long_messages : Timing → List UnitPlan → (UnitPlan → Bool) → FlowPlan → Pace → GroupPlan → To → Messages
long_messages timing units stays flow pace group All = ToAll (broadcast_of timing flow pace group)
long_messages timing units stays flow pace group (One v) = ToOne (packet_frames timing units stays flow v pace (packets_of group.most))

-- the messages of a flow, by the longest
abbrev pub messages_of : Timing → List UnitPlan → (UnitPlan → Bool) → FlowPlan → Pace → GroupPlan → Messages
messages_of timing units stays flow pace group =
    if is_always_short group then Short (single_frames timing units stays flow pace group)
    else long_messages timing units stays flow pace group flow.to

-- a flow with long messages has short ones too, where its group's shortest go in one frame
abbrev pub singles_of : Timing → List UnitPlan → (UnitPlan → Bool) → FlowPlan → Pace → GroupPlan → Option FlowFrames
singles_of timing units stays flow pace group =
    if not (is_always_short group) && has_short group then Some (single_frames timing units stays flow pace group) else None

-- the bits that a flow takes in a second at most; broadcasts count with those of their unit
abbrev pub load_of_messages : Timing → Messages → ℕ → ℕ
load_of_messages timing (Short frames) period = load_of timing frames.stream period
load_of_messages timing (ToOne frames) period = load_of timing frames.stream period
load_of_messages timing (ToAll broadcast) period = 0

abbrev pub flow_load : Timing → List UnitPlan → (UnitPlan → Bool) → FlowPlan → Pace → GroupPlan → FlowLoad
flow_load timing units stays flow pace group = record {
  messages = messages_of timing units stays flow pace group;
  singles = singles_of timing units stays flow pace group;
  limit = time_limit timing pace;
  bits_per_second = load_of_messages timing (messages_of timing units stays flow pace group) pace.period;
}
