-- How long a frame waits, its queueing delay: the least wait in which all that may go before it fits (Davis, Burns, Bril, Lukkien, 2007).
use Rattle.std.specs.Prelude.{◌≡◌, ℕ, ◌+◌, ◌*◌, ◌^◌, ◌<◌, ◌≤◌, min, List, All, length, sum_by, Option, Some, None, IfSome}
use Rattle.std.specs.Int.{div_ceil}
use Rattle.std.specs.List.{slice_get}
use Rattle.std.specs.Option.{option_and_then}
use Rattle.j39_timing.specs.declared.stream.Stream.{Stream}
use Rattle.j39_timing.specs.declared.stream.WantedBy.{WantedBy}
use Rattle.j39_timing.specs.declared.stream.WantedBy.TheVariants.{Askers, Sender}
use Rattle.j39_timing.specs.declared.wants.Want.{Want}
use Rattle.j39_timing.specs.declared.wants.Wanted.{Wanted}

abbrev pub IsWant : Want → Type 0
IsWant want = (0 < want.period) × (want.frames ≤ 2 ^ 9) × (want.jitter < 2 ^ 31) × (want.more ≤ 2 ^ 16)

-- what those want of a stream that ask for its messages
abbrev pub of_askers : WantedBy → Option Want
of_askers (Sender place) = None
of_askers (Askers want) = Some want

abbrev pub askers_want : Stream → Option Want
askers_want stream = option_and_then of_askers stream.wanted

-- nobody asks for its messages: the releases of two are a period apart
abbrev pub IsSpaced : Stream → Type 0
IsSpaced stream = askers_want stream ≡ None

abbrev pub IsStream : Stream → Type 0
IsStream stream = (0 < stream.period) × (stream.bits ≤ 2 ^ 8) × (stream.frames ≤ 2 ^ 10) × (stream.jitter < 2 ^ 31) × IfSome (askers_want stream) IsWant

-- the bits that a stream can queue in so many bits at its pace
abbrev pub share : ℕ → Stream → ℕ
share span stream = stream.frames * (div_ceil (span + stream.jitter) stream.period * stream.bits)

-- ---- a unit that sends one message at a time may want less than its pace allows

-- what is wanted of one of its streams
pub record Demand : Type 0 where
  -- the frames of the message that is under way, at most
  pub under_way : ℕ
  -- what each of its flows wants, of which one message at most waits behind the one that is under way
  pub wants : List Want

abbrev pub as_demand : Wanted → Demand
as_demand wanted = record { under_way = wanted.under_way; wants = wanted.wants.items }

abbrev pub IsDemand : Demand → Type 0
IsDemand demand = (demand.under_way ≤ 2 ^ 8) × (length demand.wants ≤ 2048) × All IsWant demand.wants

abbrev pub IsWanted : Wanted → Type 0
IsWanted wanted = IsDemand (as_demand wanted)

-- the frames that can be wanted in so many bits: of as many messages as periods begin in them and in the jitter before, and of so many more
abbrev pub frames_of_want : ℕ → Want → ℕ
frames_of_want span want = want.frames * (div_ceil (span + want.jitter) want.period + want.more)

-- the frames that can be queued in so many bits: of the message that is under way as they begin, and what the flows ask for
abbrev pub frames_wanted : ℕ → Demand → ℕ
frames_wanted span demand = sum_by (frames_of_want span) demand.wants + demand.under_way

-- the bits that a stream can queue in so many bits, where this is wanted of it: the lesser of what its pace allows and what is wanted
abbrev pub lesser : ℕ → Stream → Option Demand → ℕ
lesser span stream None = share span stream
lesser span stream (Some demand) = min (share span stream) (frames_wanted (span + stream.jitter) demand * stream.bits)

-- what is wanted of a stream by its sender, among all of which less may be wanted
abbrev pub of_sender : List Demand → WantedBy → Option Demand
of_sender demands (Sender place) = slice_get demands place
of_sender demands (Askers want) = None

abbrev pub demand_of : List Demand → Stream → Option Demand
demand_of demands stream = option_and_then (of_sender demands) stream.wanted

-- ---- others ask for the messages of a stream, and get them: these needn't be a period apart

-- the bits that it can queue in so many bits, where this is wanted of it
abbrev pub asked_share : ℕ → Stream → Want → ℕ
asked_share span stream want = frames_of_want (span + stream.jitter) want * stream.bits

-- whoever it is of whom it is known what they want
abbrev pub wanted_share : ℕ → Stream → Option Want → Option Demand → ℕ
wanted_share span stream (Some want) demand = asked_share span stream want
wanted_share span stream None demand = lesser span stream demand

abbrev pub lesser_share : List Demand → ℕ → Stream → ℕ
lesser_share demands span stream = wanted_share span stream (askers_want stream) (demand_of demands stream)

-- ---- waits

-- what has to fit in a wait of w bits: what is blocking, and all that can be queued in it and in the bit behind it
abbrev pub need : List Demand → ℕ → List Stream → ℕ → ℕ
need demands blocking streams w = blocking + sum_by (lesser_share demands (w + 1)) streams

-- in no shorter wait it fits
abbrev pub NoShorterFits : List Demand → ℕ → List Stream → ℕ → Type 0
NoShorterFits demands blocking streams w = (v : ℕ) → v < w → v < need demands blocking streams v
