-- Requests with periods by the clocks of their units, in parts of a bit: so many of them, and how far apart the moments of each are.
use Rattle.std.specs.Prelude.{ℕ, ◌*◌, List, length, slice_index_or}
use Rattle.j39_network.specs.declared.plan.timing.Timing.{Timing}
use Rattle.j39_load.specs.Clocks.{bit_time, longest_million, shortest_million}
use Rattle.j39_timing.specs.AnsweredRequests.{Requesters}

-- the parts of a bit, and of so many milliseconds of a unit's clock
abbrev pub bit_parts : Timing → ℕ
bit_parts timing = bit_time timing.bitrate * longest_million timing

abbrev pub ms_parts : Timing → ℕ → ℕ
ms_parts timing ms = 1000 * ms * shortest_million timing

-- the requests that come each so many milliseconds
abbrev pub requesters_each : Timing → List ℕ → Requesters
requesters_each timing periods = record { count = length periods; bit = bit_parts timing; pace = λ r. ms_parts timing (slice_index_or periods r 1) }
