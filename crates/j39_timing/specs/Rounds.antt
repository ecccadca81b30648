-- A bus on which units send long messages to all without a pause: in each round each of them sends the next frame of its messages, which
-- stand one after the other, each an announcement and so many packets.
use Rattle.std.specs.Prelude.{ℕ, ◌+◌, ◌*◌, ◌-◌, ◌/◌, ◌%◌, ◌<◌, ◌≤◌, Bool, true, cond, nat_eq, nat_lt, [], None}
use Rattle.j39_timing.specs.declared.stream.Stream.{Stream}
use Rattle.j39_timing.specs.TimedFrames.{Schedule}
use Rattle.j39_timing.specs.FrameStreams.{Origins}
use Rattle.j39_timing.specs.Traffic.{Traffic, Others, no_twins}

pub record Senders : Type 0 where
  pub units : ℕ
  -- how many packets the messages of each unit have
  pub packets : ℕ → ℕ
  -- the bits of a frame, and those from one frame on the bus to the next
  pub bits : ℕ
  pub step : ℕ
  -- the bits from one frame of a message to the next
  pub gap : ℕ
  -- the identifiers of the packets of each unit, and behind these of their announcements
  pub ident : ℕ → ℕ

-- there are units, and a round of them takes a gap at least
pub record AreSenders (x : Senders) : Type 0 where
  pub some : 0 < x.units
  pub long : 1 ≤ x.bits
  pub apart : x.bits ≤ x.step
  pub positive : 0 < x.gap
  pub round : x.gap ≤ x.units * x.step

-- the unit that sends a frame, and the frame's place among those of the unit
abbrev pub sender_of : Senders → ℕ → ℕ
sender_of x p = p % x.units

abbrev pub turn_of : Senders → ℕ → ℕ
turn_of x p = p / x.units

-- it begins a message
abbrev pub begins_message : Senders → ℕ → Bool
begins_message x p = nat_eq (turn_of x p % (x.packets (sender_of x p) + 1)) 0

-- the packets of each unit are a stream, and its announcements another, so many places behind
abbrev pub stream_of : Senders → ℕ → ℕ
stream_of x p = cond (begins_message x p) (x.units + sender_of x p) (sender_of x p)

-- what is seen of the bus when so many frames were sent
abbrev pub in_rounds : Senders → ℕ → Schedule
in_rounds x count = record {
  count = count;
  queued = λ p. p * x.step;
  start = λ p. p * x.step;
  bits = λ p. x.bits;
  ident = λ p. x.ident (stream_of x p);
  now = count * x.step;
}

abbrev pub of_rounds : Senders → Origins
of_rounds x = record { source = stream_of x; turn = λ p. 0; since = λ p. p * x.step }

-- single frames so many gaps apart
abbrev pub gap_stream : Senders → ℕ → Stream
gap_stream x gaps = record { frames = 1; period = gaps * x.gap; bits = x.bits; jitter = 0; wanted = None }

-- the streams: packets are a gap apart, and two announcements at least as many as the message between has packets
abbrev pub traffic_of_rounds : Senders → Traffic
traffic_of_rounds x = record {
  count = x.units + x.units;
  stream = λ j. gap_stream x (cond (nat_lt j x.units) 1 (x.packets (j - x.units)));
  demands = [];
  least = x.ident;
  greatest = x.ident;
  are_twins = no_twins;
}

-- and nothing else is sent
abbrev pub nothing_else : Others
nothing_else = record { least = 0; count = 0 }

abbrev pub all_planned : ℕ → Bool
all_planned p = true
