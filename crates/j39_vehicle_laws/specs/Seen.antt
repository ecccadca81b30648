-- What is seen of the buses of a vehicle: of each a schedule with a clock of its own, and what its frames bring.
use Rattle.std.specs.Prelude.{ℕ, ◌*◌, Bool, List, Option}
use Rattle.std.specs.Option.{option_map_or}
use Rattle.j39_network.specs.declared.plan.timing.Timing.{Timing}
use Rattle.j39_vehicle.specs.declared.vehicle.Vehicle.{Vehicle}
use Rattle.j39_vehicle_findings.specs.declared.point.FlowAt.{FlowAt}
use Rattle.j39_timing.specs.AnyOrder.{Controllers}
use Rattle.j39_timing.specs.FrameStreams.{Origins}
use Rattle.j39_vehicle_laws.specs.Gateways.{Carrier, Clock}
use Rattle.j39_timing.specs.TimedFrames.{Schedule}
use Rattle.j39_load.specs.Clocks.{bit_time, longest_million, million, shortest_million}
use Rattle.j39_vehicle_times.specs.Times.{timing_on}

-- times that buses have in common are true ones, in millionths of a microsecond
abbrev pub of_us : ℕ → ℕ
of_us us = us * million

pub record SeenBus : Type 0 where
  pub schedule : Schedule
  pub controllers : Controllers
  -- when each of its bits begins
  pub time : ℕ → ℕ
  pub planned : ℕ → Bool
  pub of : Origins
  -- the release of a frame's message: of one that a gateway sends on directly, that of the message which it sends on
  pub release : ℕ → ℕ
  -- when what a frame says of a signal of its group was so at its origin, or without a signal what its message says; none of what a gateway
  -- gave up on the way
  pub born : ℕ → Option ℕ → Option ℕ
  -- the bytes of a frame
  pub bytes : ℕ → List ℕ
  -- a frame has what the forward at this place puts there of that frame of its input
  pub carries : ℕ → ℕ → ℕ → Bool

-- by the places of the buses
abbrev pub SeenBuses : Type 0
SeenBuses = ℕ → SeenBus

-- how long a bit of the bus is at least and at most, where its plan has timing
abbrev pub shortest_bit : Vehicle → ℕ → ℕ
shortest_bit v b = option_map_or (λ (timing : Timing). bit_time timing.bitrate * shortest_million timing) (timing_on v.buses.items b) 1

abbrev pub longest_bit : Vehicle → ℕ → ℕ
longest_bit v b = option_map_or (λ (timing : Timing). bit_time timing.bitrate * longest_million timing) (timing_on v.buses.items b) 1

abbrev pub clock_on : Vehicle → SeenBuses → ℕ → Clock
clock_on v seen b = record { time = (seen b).time; shortest = shortest_bit v b; longest = longest_bit v b }

-- the frames of a flow
abbrev pub frames_at : Vehicle → SeenBuses → FlowAt → Carrier
frames_at v seen at = record {
  schedule = (seen at.bus).schedule;
  clock = clock_on v seen at.bus;
  planned = (seen at.bus).planned;
  of = (seen at.bus).of;
  source = at.flow;
  release = (seen at.bus).release;
  born = (seen at.bus).release;
}
