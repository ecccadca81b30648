-- The frames of a bus that come of damage: an attempt that is damaged, and the error frame behind it. Both go before all others.
use Rattle.std.specs.Prelude.{ℕ, ◌+◌, ◌*◌, List, [], ◌∷◌, map, Option, Some, None}
use Rattle.std.specs.Int.{div_ceil}
use Rattle.std.specs.Option.{option_map_or}
use Rattle.j39_id.specs.Limits.{frame_bytes}
use Rattle.j39_network.specs.declared.plan.timing.ErrorRate.{ErrorRate}
use Rattle.j39_network.specs.declared.plan.timing.Timing.{Timing}
use Rattle.j39_load.specs.declared.frames.flow_frames.FlowFrames.{FlowFrames}
use Rattle.j39_load.specs.Clocks.{longest_million, million}
use Rattle.j39_load.specs.Loads.{bits_inside}
use Rattle.j39_timing.specs.FrameBits.{error_frame, longest_frame}
use Rattle.j39_timing.specs.declared.stream.Stream.{Stream}

-- frames of so many bits, of which as many come in a window as attempts are damaged
abbrev pub damage_stream : Timing → ErrorRate → ℕ → Stream
damage_stream timing rate bits = record { frames = rate.count; period = bits_inside timing rate.every; bits = bits; jitter = 0; wanted = None }

-- the attempts, and the error frames
abbrev pub damage_streams : Timing → List Stream
damage_streams timing =
    option_map_or (λ rate. damage_stream timing rate (longest_frame frame_bytes) ∷ damage_stream timing rate error_frame ∷ []) timing.errors []

-- as frames of the least identifier
abbrev pub first_frames : Stream → FlowFrames
first_frames stream = record {
  stream = stream;
  least_ident = 0;
  greatest_ident = 0;
  any_sender = None;
  any_receiver = None;
  last_ident = 0;
  twin_ident = None;
  want = None;
}

abbrev pub first_of_all : Stream → Option FlowFrames
first_of_all stream = Some (first_frames stream)

abbrev pub damage_frames : Timing → List (Option FlowFrames)
damage_frames timing = map first_of_all (damage_streams timing)

-- the bits that they take in a second at most
abbrev pub load_of_damage : Timing → ℕ
load_of_damage timing =
    option_map_or (λ (rate : ErrorRate). div_ceil (1000 * (rate.count * (longest_frame frame_bytes + error_frame)) * longest_million timing)
    (rate.every * million)) timing.errors 0
