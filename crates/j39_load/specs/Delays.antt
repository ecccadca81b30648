-- How long the messages of each flow take, from their releases: the waits of frames (Davis, Burns, Bril, Lukkien,
-- Real-Time Systems 35, 2007), and when a long message to all is whole.
use Rattle.std.specs.Prelude.{◌≡◌, ℕ, ◌+◌, ◌-◌, ◌*◌, ◌^◌, ◌<◌, ◌≤◌, ◌==◌, nat_le, Bool, false, ◌&&◌, if◌then◌else◌, List, [], ◌∷◌, ◌++◌, length, slice_index_or, Option, Some, None}
use Rattle.std.specs.Bool.{MatchBool}
use Rattle.std.specs.List.{slice_get}
use Rattle.std.specs.Option.{option_map, option_map_or}
use Rattle.j39_network.specs.declared.plan.timing.Timing.{Timing}
use Rattle.j39_load.specs.declared.frames.broadcast.Broadcast.{Broadcast}
use Rattle.j39_load.specs.declared.waits.delay.Delay.{Delay}
use Rattle.j39_load.specs.declared.waits.delay.Delay.TheVariants.{Within, Beyond, Late, Long, Whole}
use Rattle.j39_load.specs.declared.frames.flow_frames.FlowFrames.{FlowFrames}
use Rattle.j39_load.specs.declared.loads.flow_load.FlowLoad.{FlowLoad}
use Rattle.j39_load.specs.declared.frames.messages.Messages.{Messages}
use Rattle.j39_load.specs.declared.frames.messages.Messages.TheVariants.{Short, ToAll, ToOne}
use Rattle.j39_load.specs.declared.loads.unit_load.UnitLoad.{UnitLoad}
use Rattle.j39_load.specs.declared.waits.turn.Turn.{Turn}
use Rattle.j39_load.specs.declared.waits.whole_time.WholeTime.{WholeTime}
use Rattle.j39_load.specs.AnyQueues.{IsBuffering, Buffering, keep_order, may_be_passed}
use Rattle.j39_load.specs.AnswerStreams.{are_asked_for}
use Rattle.j39_load.specs.Asked.{Asked, frames_asked}
use Rattle.j39_load.specs.Damage.{damage_streams}
use Rattle.j39_load.specs.Demands.{demands_of}
use Rattle.j39_load.specs.Loads.{bits_at_least, bits_at_most, frames_to_all, longest_wait}
use Rattle.j39_load.specs.LineLists.{lines_of_each}
use Rattle.j39_load.specs.Twins.{may_precede}
use Rattle.j39_timing.specs.FrameBits.{longest_frame}
use Rattle.j39_timing.specs.Traffic.{delay_of}
use Rattle.j39_timing.specs.Waits.{NoShorterFits, need}
use Rattle.j39_timing.specs.declared.stream.Stream.{Stream}

-- identifiers of the priority from which on frames are that aren't planned
abbrev pub unplanned_idents : Timing → ℕ
unplanned_idents timing = timing.unplanned_priority * 2 ^ 26

-- the frame that has begun before, and those of no planned flow that may go before this identifier
abbrev pub blocking : Timing → ℕ → ℕ
blocking timing ident = longest_frame 8 * (1 + (if nat_le (unplanned_idents timing) ident then timing.unplanned else 0))

-- the stream of these frames, where one of them may go before one of those
abbrev pub frames_before : FlowFrames → FlowFrames → List Stream
frames_before own frames = if may_precede own frames then frames.stream ∷ [] else []

-- their own stream, where others of them may be queued at once
abbrev pub own_before : FlowFrames → List Stream
own_before frames = if are_asked_for frames then frames.stream ∷ [] else []

-- that of the frames at this place, by whether they are those at a place
abbrev pub going_before : ℕ → FlowFrames → ℕ → Option FlowFrames → List Stream
going_before i own place None = []
going_before i own place (Some frames) = if place == i then own_before frames else frames_before own frames

-- what is blocking these: but for the frame itself, where it is counted with its stream
abbrev pub blocking_of : Timing → FlowFrames → ℕ
blocking_of timing frames = blocking timing frames.greatest_ident - (if are_asked_for frames then frames.stream.bits else 0)

-- those of all frames, and of what comes of damage
abbrev pub streams_before : Timing → ℕ → FlowFrames → List (Option FlowFrames) → List Stream
streams_before timing i own all = damage_streams timing ++ lines_of_each (going_before i own) 0 all

-- what a wait of so many bits of a frame of these, at their place among all, has to have room for
abbrev pub need_of : Timing → List (Option FlowFrames) → ℕ → FlowFrames → ℕ → ℕ
need_of timing all i frames wait = need (demands_of all) (blocking_of timing frames) (streams_before timing i frames all) wait

-- and that no shorter wait has
abbrev pub IsLeastWait : Timing → List (Option FlowFrames) → ℕ → FlowFrames → ℕ → Type 0
IsLeastWait timing all i frames wait = NoShorterFits (demands_of all) (blocking_of timing frames) (streams_before timing i frames all) wait

-- the wait has room, and its delay is within the limit
pub record IsInTime (timing : Timing) (all : List (Option FlowFrames)) (i : ℕ) (frames : FlowFrames) (limit wait : ℕ) : Type 0 where
  pub demand_fits : need_of timing all i frames wait ≤ wait
  pub within : delay_of frames.stream wait ≤ limit

-- that of the least wait that has room, where it is at most so many bits
abbrev pub IsDelayWithin : Timing → List (Option FlowFrames) → ℕ → FlowFrames → ℕ → ℕ → Type 0
IsDelayWithin timing all flow frames most bits = (wait : ℕ) × IsInTime timing all flow frames most wait
    × IsLeastWait timing all flow frames wait × (bits ≡ delay_of frames.stream wait)

-- no wait is in time
abbrev pub HasNoneWithin : Timing → List (Option FlowFrames) → ℕ → FlowFrames → ℕ → Type 0
HasNoneWithin timing all flow frames most = (wait : ℕ) → ¬ IsInTime timing all flow frames most wait

-- the delay of a flow whose messages go in one frame each, of these, with this limit, at its place: that of the least
-- wait that is in time; or, where none is, of the least one that is within the period, or none is
abbrev pub IsShortDelay : Timing → List (Option FlowFrames) → ℕ → FlowFrames → ℕ → Delay → Type 0
IsShortDelay timing all flow frames limit (Within bits) = IsDelayWithin timing all flow frames limit bits
IsShortDelay timing all flow frames limit (Beyond bits) =
    HasNoneWithin timing all flow frames limit × IsDelayWithin timing all flow frames frames.stream.period bits
IsShortDelay timing all flow frames limit Late =
    HasNoneWithin timing all flow frames limit × HasNoneWithin timing all flow frames frames.stream.period
IsShortDelay timing all flow frames limit _ = ⊥

-- that of frames that have one of so many bits, by their limit and their period
abbrev pub judged : FlowFrames → ℕ → ℕ → Delay
judged frames limit bits =
    if nat_le bits limit then Within bits else (if nat_le bits frames.stream.period then Beyond bits else Late)

-- that of frames that wait for so long in a unit that keeps no order
abbrev pub any_delay : FlowFrames → ℕ → Option ℕ → Delay
any_delay frames limit None = Late
any_delay frames limit (Some wait) = judged frames limit (delay_of frames.stream wait)

-- that of a flow whose messages go in one frame each: where its sender keeps order, among the frames that are buffered
-- no longer, unless one of which it isn't known from when on may go before it
abbrev pub IsFrameDelay : Timing → Buffering → ℕ → FlowFrames → ℕ → Delay → Type 0
IsFrameDelay timing buffering flow frames limit delay = MatchBool (keep_order frames)
    (MatchBool (may_be_passed buffering frames.greatest_ident) (delay ≡ Late)
    (IsShortDelay timing buffering.frames flow frames limit delay))
    (delay ≡ any_delay frames limit (slice_index_or buffering.waits flow None))

-- ---- long messages to all, by the unit that sends them one at a time

-- the least wait that has room for a frame of these, at their place among all; or none of at most that many bits has
abbrev pub IsWaitOf : Timing → List (Option FlowFrames) → ℕ → FlowFrames → Option ℕ → Type 0
IsWaitOf timing all i frames (Some wait) =
    (wait ≤ longest_wait timing) × (need_of timing all i frames wait ≤ wait) × IsLeastWait timing all i frames wait
IsWaitOf timing all i frames None = IsLeastWait timing all i frames (longest_wait timing + 1)

-- that of frames of a unit that keeps order, among the frames that are buffered no longer; of one that keeps none it is its
-- queue group's
abbrev pub IsWaitIn : Timing → Buffering → ℕ → FlowFrames → Option ℕ → Type 0
IsWaitIn timing buffering i frames wait = MatchBool (keep_order frames)
    (MatchBool (may_be_passed buffering frames.greatest_ident) (wait ≡ None) (IsWaitOf timing buffering.frames i frames wait))
    (wait ≡ slice_index_or buffering.waits i None)

-- where the packets of a unit's broadcasts stand among all frames, and their announcements
abbrev pub packets_place : Asked → ℕ → ℕ
packets_place asked u = 2 * length asked.flows + u

abbrev pub announcements_place : Asked → ℕ → ℕ
announcements_place asked u = 2 * length asked.flows + (length asked.units + u)

-- the longest time from the end of one frame of a message to the end of the next packet, where packets wait for so long
abbrev pub packet_time : Timing → UnitLoad → ℕ → ℕ
packet_time timing load sent = bits_at_most timing timing.broadcast_gap_most + (sent + load.packets.stream.bits)

-- a receiver gives a message up of which no packet comes in 750 ms (SAE J1939-21, T1)
abbrev pub longest_pause : Timing → ℕ
longest_pause timing = bits_at_least timing 750

-- the time of the longest message of each flow of the unit, one after the other, where announcements and packets wait
-- for so long
abbrev pub turn_time : Timing → UnitLoad → ℕ → ℕ → ℕ
turn_time timing load announced sent =
    load.flows * (announced + load.announcements.stream.bits) + load.all_packets * packet_time timing load sent

abbrev pub flow_turn : Timing → UnitLoad → ℕ → ℕ → Turn
flow_turn timing load announced sent = record {
  time = turn_time timing load announced sent;
  announcement = announced + load.announcements.stream.bits;
  packet = packet_time timing load sent;
}

-- where both waits are known, and no receiver gives up
abbrev pub known_turn : Timing → UnitLoad → Option ℕ → Option ℕ → Option Turn
known_turn timing load (Some announced) (Some sent) =
    if nat_le (packet_time timing load sent) (longest_pause timing) then Some (flow_turn timing load announced sent)
    else None
known_turn timing load _ _ = None

-- the turn of the unit at a place, which asks this
abbrev pub IsTurnBy : Timing → Asked → Buffering → ℕ → Option UnitLoad → Option Turn → Type 0
IsTurnBy timing asked buffering u None turn = turn ≡ None
IsTurnBy timing asked buffering u (Some load) turn = (announced sent : Option ℕ)
    × IsWaitIn timing buffering (announcements_place asked u) load.announcements announced
    × IsWaitIn timing buffering (packets_place asked u) load.packets sent
    × (turn ≡ known_turn timing load announced sent)

abbrev pub IsTurn : Timing → Asked → Buffering → ℕ → Option Turn → Type 0
IsTurn timing asked buffering u turn = IsTurnBy timing asked buffering u (slice_index_or asked.units u None) turn

-- of a turn the part that is a message's own: its announcement and its packets
abbrev pub own_time : Broadcast → Turn → ℕ
own_time broadcast turn = turn.announcement + broadcast.packets * turn.packet

-- messages are wanted no more often than they can be sent: a turn is over within the period, and what waits is announced before the next one is
-- wanted; or, where one request asks for them, a turn is over before the next one can be wanted. Where several do, two may be wanted at once
abbrev pub keeps_pace : Broadcast → Turn → Bool
keeps_pace broadcast turn =
    nat_le turn.time broadcast.apart && nat_le (broadcast.jitter + turn.time) (broadcast.apart + own_time broadcast turn)

abbrev pub keeps_up : Broadcast → Turn → Bool
keeps_up broadcast turn =
    if broadcast.askers == 0 then keeps_pace broadcast turn
    else (broadcast.askers == 1 && nat_le (turn.time + broadcast.late) broadcast.apart)

-- where the unit's turn is this, the time of a flow's broadcasts, from the release at which one is wanted: each other flow
-- of the unit goes before it once at most
abbrev pub whole_time : Broadcast → Option Turn → WholeTime
whole_time broadcast turn = record {
  frames = frames_to_all broadcast.packets;
  bits = option_map (λ (t : Turn). broadcast.jitter + t.time) turn;
  limit = broadcast.deadline;
  each = option_map_or (keeps_up broadcast) turn false;
}

abbrev pub IsWholeTime : Timing → Asked → Buffering → Broadcast → WholeTime → Type 0
IsWholeTime timing asked buffering broadcast whole = (turn : Option Turn) × IsTurn timing asked buffering broadcast.sender turn
    × (whole ≡ whole_time broadcast turn)

-- ---- flows

-- the delay of a flow with these messages and this limit, at its place
abbrev pub IsDelayOf : Timing → Asked → Buffering → ℕ → Messages → ℕ → Delay → Type 0
IsDelayOf timing asked buffering flow (Short frames) limit delay = IsFrameDelay timing buffering flow frames limit delay
IsDelayOf timing asked buffering flow (ToOne frames) limit (Long count) = count ≡ frames.stream.frames
IsDelayOf timing asked buffering flow (ToOne frames) limit _ = ⊥
IsDelayOf timing asked buffering flow (ToAll broadcast) limit (Whole whole) = IsWholeTime timing asked buffering broadcast whole
IsDelayOf timing asked buffering flow (ToAll broadcast) limit _ = ⊥

abbrev pub IsDelay : Timing → Asked → Buffering → ℕ → FlowLoad → Delay → Type 0
IsDelay timing asked buffering flow load delay = IsDelayOf timing asked buffering flow load.messages load.limit delay

-- the flow at a place has this delay, or none where it isn't known how often it is sent
abbrev pub HasDelayBy : Timing → Asked → Buffering → ℕ → Option Delay → Type 0
HasDelayBy timing asked buffering flow None = slice_get asked.flows flow ≡ Some None
HasDelayBy timing asked buffering flow (Some delay) =
    (load : FlowLoad) × (slice_get asked.flows flow ≡ Some (Some load)) × IsDelay timing asked buffering flow load delay

-- by all frames at the end of their buffering delays
abbrev pub HasDelay : Timing → Asked → ℕ → Option Delay → Type 0
HasDelay timing asked flow delay =
    (buffering : Buffering) × IsBuffering timing asked.unplanned_end (frames_asked asked) buffering × HasDelayBy timing asked buffering flow delay

-- each flow has the delay that stands at its place
pub record AreFlowDelays (timing : Timing) (asked : Asked) (delays : List (Option Delay)) : Type 0 where
  pub count : length delays ≡ length asked.flows
  pub each : (flow : ℕ) → flow < length delays → HasDelay timing asked flow (slice_index_or delays flow None)
