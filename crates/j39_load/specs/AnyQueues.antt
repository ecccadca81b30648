-- Which frames may go before one of a unit whose controller keeps no order, and how long these wait.
use Rattle.std.specs.Prelude.{◌≡◌, ℕ, ◌+◌, ◌*◌, ◌-◌, ◌^◌, ◌≤◌, ◌<◌, ◌==◌, max, if◌then◌else◌, nat_lt, Bool, true, false, not, ◌||◌, List, [], ◌∷◌, ◌++◌, length, map}
use Rattle.std.specs.Prelude.{All, Option, Some, None, IfSome, is_some, slice_index_or, unwrap_or}
use Rattle.std.specs.Bool.{MatchBool}
use Rattle.std.specs.List.{filter_map, range_with_len}
use Rattle.std.specs.Option.{option_map, option_map_or}
use Rattle.j39_network.specs.declared.plan.timing.Timing.{Timing}
use Rattle.j39_id.specs.Limits.{unit_limit}
use Rattle.j39_load.specs.declared.frames.flow_frames.FlowFrames.{FlowFrames}
use Rattle.j39_load.specs.Ages.{least}
use Rattle.j39_load.specs.Damage.{damage_streams}
use Rattle.j39_load.specs.Demands.{demands_of}
use Rattle.j39_load.specs.Loads.{longest_wait}
use Rattle.j39_load.specs.LineLists.{lines_of_each}
use Rattle.j39_timing.specs.AnyOrder.{later_by}
use Rattle.j39_timing.specs.FrameBits.{longest_frame}
use Rattle.j39_timing.specs.Waits.{Demand, NoShorterFits, need}
use Rattle.j39_timing.specs.declared.stream.Stream.{Stream}

-- ---- queue groups: what waits in one work-conserving queue (Davis, Navet, 2012), but of several units

-- the unit at a place keeps no order, and sends these frames or answers them
abbrev pub are_of_unit : FlowFrames → ℕ → Bool
are_of_unit frames u =
    option_map_or (λ v. v == u) frames.any_sender false || option_map_or (λ v. v == u) frames.any_receiver false

-- every unit that sends these frames or answers them keeps order
abbrev pub keep_order : FlowFrames → Bool
keep_order frames = not (is_some frames.any_sender || is_some frames.any_receiver)

-- the least identifier of these frames, where they are of the unit at a place
abbrev pub own_least : ℕ → ℕ → Option FlowFrames → List ℕ
own_least u place None = []
own_least u place (Some frames) = if are_of_unit frames u then frames.least_ident ∷ [] else []

-- that of all frames of the unit, where it keeps no order and has some
abbrev pub least_of : List (Option FlowFrames) → ℕ → Option ℕ
least_of all u = least (lines_of_each (own_least u) 0 all)

-- the same of each unit
abbrev pub leasts_of : List (Option FlowFrames) → List (Option ℕ)
leasts_of all = map (least_of all) (range_with_len 0 unit_limit)

-- The list has at the places of units that keep no order the least identifier of all their frames. Such a unit belongs
-- to the queue group of some frames, with identifiers up to a level, where they are its own, or one of its frames may go
-- before the queue group's
abbrev pub is_member : List (Option ℕ) → FlowFrames → ℕ → ℕ → Bool
is_member leasts own level u =
    option_map_or (λ low. are_of_unit own u || nat_lt low level) (slice_index_or leasts u None) false

-- these frames are of a unit of the queue group
abbrev pub is_of_queue_group : List (Option ℕ) → FlowFrames → ℕ → FlowFrames → Bool
is_of_queue_group leasts own level frames =
    option_map_or (is_member leasts own level) frames.any_sender false
    || option_map_or (is_member leasts own level) frames.any_receiver false

-- the frames of the queue group with identifiers up to a level, where there are any here, have none above this number
abbrev pub AreAtMost : List (Option ℕ) → FlowFrames → ℕ → ℕ → Option FlowFrames → Type 0
AreAtMost leasts own level most frames =
    IfSome frames (λ (x : FlowFrames). is_of_queue_group leasts own level x ≡ true → x.last_ident ≤ most)

-- no frame of the queue group has an identifier above the level, and the frames themselves haven't
pub record IsLevel (leasts : List (Option ℕ)) (all : List (Option FlowFrames)) (own : FlowFrames) (level : ℕ)
    : Type 0 where
  pub own_frames : own.last_ident ≤ level
  pub queue_group : All (AreAtMost leasts own level level) all

-- the least such level: that of the least queue group
pub record IsQueueGroupLevel (leasts : List (Option ℕ)) (all : List (Option FlowFrames)) (own : FlowFrames) (level : ℕ)
    : Type 0 where
  pub is : IsLevel leasts all own level
  pub least : (other : ℕ) → IsLevel leasts all own other → level ≤ other

-- where there may be frames of no planned flow, one of them may wait in a unit of the queue group: their identifiers are below this end
abbrev pub with_unplanned : Timing → ℕ → FlowFrames → FlowFrames
with_unplanned timing ends own = record own { last_ident = if timing.unplanned == 0 then own.last_ident else max own.last_ident ends }

-- ---- waits

-- the stream of these frames, where they are of the queue group, or one of them may have a smaller identifier than its
-- level
abbrev pub stream_with : List (Option ℕ) → FlowFrames → ℕ → Option FlowFrames → Option Stream
stream_with leasts own level None = None
stream_with leasts own level (Some x) =
    if is_of_queue_group leasts own level x || nat_lt x.least_ident level then Some x.stream else None

-- those of all frames, these among them, and of what comes of damage
abbrev pub streams_with : Timing → List (Option ℕ) → List (Option FlowFrames) → FlowFrames → ℕ → List Stream
streams_with timing leasts all own level = damage_streams timing ++ filter_map (stream_with leasts own level) all

-- the frame that has begun before, and those of no planned flow, but for the frame itself, which is counted with its
-- stream
abbrev pub blocking_with : Timing → FlowFrames → ℕ
blocking_with timing own = longest_frame 8 * (1 + timing.unplanned) - own.stream.bits

-- the least wait that has room for these, or none of at most so many bits as are looked for has
abbrev pub IsWaitWith : Timing → List Demand → List Stream → ℕ → Option ℕ → Type 0
IsWaitWith timing demands streams blocking (Some wait) =
    (wait ≤ longest_wait timing) × (need demands blocking streams wait ≤ wait) × NoShorterFits demands blocking streams wait
IsWaitWith timing demands streams blocking None = NoShorterFits demands blocking streams (longest_wait timing + 1)

-- the wait of some frames in a unit that keeps no order
pub record IsQueueGroupWait (timing : Timing) (ends : ℕ) (leasts : List (Option ℕ)) (all : List (Option FlowFrames)) (own : FlowFrames)
    (wait : Option ℕ) : Type 0 where
  pub level : ℕ
  pub of_queue_group : IsQueueGroupLevel leasts all (with_unplanned timing ends own) level
  pub least_wait :
      IsWaitWith timing (demands_of all) (streams_with timing leasts all (with_unplanned timing ends own) level) (blocking_with timing own) wait

-- ---- buffering delays (Davis, Navet, 2012): until when frames are buffered; where their units keep order, until they are ready

-- for how many bits frames are buffered at most, among all
abbrev pub IsBufferedFor : Timing → ℕ → List (Option FlowFrames) → Option FlowFrames → Option ℕ → Type 0
IsBufferedFor timing ends all None wait = wait ≡ Some 0
IsBufferedFor timing ends all (Some frames) wait =
    MatchBool (keep_order frames) (wait ≡ Some 0) (IsQueueGroupWait timing ends (leasts_of all) all frames wait)

-- at their places, of all frames
pub record AreBufferingDelays (timing : Timing) (ends : ℕ) (all : List (Option FlowFrames)) (waits : List (Option ℕ)) : Type 0 where
  pub count : length waits ≡ length all
  pub each : (j : ℕ) → j < length all → IsBufferedFor timing ends all (slice_index_or all j None) (slice_index_or waits j None)

-- the same frames, so many bits later
abbrev pub later_frames : ℕ → FlowFrames → FlowFrames
later_frames more frames = record frames { stream = later_by more frames.stream }

-- the wait at a place, where it is known
abbrev pub buffered_for : List (Option ℕ) → ℕ → ℕ
buffered_for waits j = unwrap_or (slice_index_or waits j None) 0

abbrev pub buffered_at : List (Option ℕ) → ℕ → Option FlowFrames → List (Option FlowFrames)
buffered_at waits place frames = option_map (later_frames (buffered_for waits place)) frames ∷ []

-- all frames, queued at the end of their buffering delays
abbrev pub buffered : List (Option ℕ) → List (Option FlowFrames) → List (Option FlowFrames)
buffered waits all = lines_of_each (buffered_at waits) 0 all

abbrev pub unbounded_at : List (Option ℕ) → ℕ → Option FlowFrames → List ℕ
unbounded_at waits place None = []
unbounded_at waits place (Some frames) = if is_some (slice_index_or waits place None) then [] else frames.least_ident ∷ []

-- the least identifier of frames of which no wait is known
abbrev pub least_unbounded : List (Option ℕ) → List (Option FlowFrames) → Option ℕ
least_unbounded waits all = least (lines_of_each (unbounded_at waits) 0 all)

-- all frames at the end of their buffering delays
pub record Buffering : Type 0 where
  -- the frames at their places, so many bits later
  pub frames : List (Option FlowFrames)
  -- how many, where it is known
  pub waits : List (Option ℕ)
  -- the least identifier of those of which it isn't
  pub least_unbounded : Option ℕ

pub record IsBuffering (timing : Timing) (ends : ℕ) (all : List (Option FlowFrames)) (buffering : Buffering) : Type 0 where
  pub bounded : AreBufferingDelays timing ends all buffering.waits
  pub frames : buffering.frames ≡ buffered buffering.waits all
  pub least_unbounded : buffering.least_unbounded ≡ least_unbounded buffering.waits all

-- one of those of which no wait is known may go before a frame of this identifier, so that nothing is reported of how long it
-- waits
abbrev pub may_be_passed : Buffering → ℕ → Bool
may_be_passed buffering ident = option_map_or (λ (n : ℕ). nat_lt n ident) buffering.least_unbounded false
