-- What the requests of a plan ask of its bus: each one for which it is known how often it is sent is a stream of single frames, which carry
-- the number of the group that is asked for (SAE J1939-21, requests).
use Rattle.std.specs.Prelude.{ℕ, Bool, List, map, Option, None}
use Rattle.std.specs.Option.{option_map}
use Rattle.j39_id.specs.Ident.{identifier_of}
use Rattle.j39_id.specs.Services.{claim_priority, request as request_group}
use Rattle.j39_network.specs.declared.plan.Plan.{Plan}
use Rattle.j39_network.specs.declared.plan.request_plan.RequestPlan.{RequestPlan}
use Rattle.j39_network.specs.declared.plan.timing.Timing.{Timing}
use Rattle.j39_network.specs.declared.plan.unit_plan.UnitPlan.{UnitPlan}
use Rattle.j39_load.specs.declared.loads.request_load.RequestLoad.{RequestLoad}
use Rattle.j39_load.specs.Loads.{any_unit, bits_at_least, destination_at, greatest_address, least_address, load_of, of_unit}
use Rattle.j39_timing.specs.FrameBits.{longest_frame}
use Rattle.j39_timing.specs.declared.stream.Stream.{Stream}

-- the bytes of a request: a number
abbrev pub request_bytes : ℕ
request_bytes = 3

abbrev pub request_stream : Timing → ℕ → Stream
request_stream timing period = record { frames = 1; period = bits_at_least timing period; bits = longest_frame request_bytes; jitter = 0; wanted = None }

-- the identifier of a request, where the units hold these addresses
abbrev pub request_ident : (ℕ → ℕ) → RequestPlan → ℕ
request_ident held request = identifier_of claim_priority request_group (destination_at held request.to) (held request.sender)

abbrev pub request_load : Timing → List UnitPlan → (UnitPlan → Bool) → RequestPlan → ℕ → RequestLoad
request_load timing units stays request period = record {
  frames = record {
    stream = request_stream timing period;
    least_ident = request_ident (of_unit units (least_address stays)) request;
    greatest_ident = request_ident (of_unit units (greatest_address stays)) request;
    any_sender = any_unit units request.sender;
    any_receiver = None;
    last_ident = request_ident (of_unit units (greatest_address stays)) request;
    twin_ident = None;
    want = None;
  };
  bits_per_second = load_of timing (request_stream timing period) period;
}

abbrev pub load_of_request : Timing → List UnitPlan → (UnitPlan → Bool) → RequestPlan → Option RequestLoad
load_of_request timing units stays request = option_map (request_load timing units stays request) request.period

-- what each request asks of the bus, in order
abbrev pub request_loads_of : Timing → Plan → (UnitPlan → Bool) → List (Option RequestLoad)
request_loads_of timing plan stays = map (load_of_request timing plan.units.items stays) plan.requests.items
