-- How long behind its moment a message of a flow has been sent at most, by the response time that the load command answers.
use Rattle.std.specs.Prelude.{◌≡◌, ℕ, ◌+◌, ◌/◌, Bool, List, [], map, Option, Some, None}
use Rattle.std.specs.Option.{option_map}
use Rattle.j39_load.specs.BusTimes.{timing_of}
use Rattle.j39_load.specs.LoadFindings.{AsksOfBus}
use Rattle.j39_load.specs.Loads.{us_of_bits}
use Rattle.j39_load.specs.declared.waits.delay.Delay.{Delay}
use Rattle.j39_load.specs.declared.waits.delay.Delay.TheVariants.{Within, Beyond}
use Rattle.j39_network.specs.declared.plan.Plan.{Plan}
use Rattle.j39_network.specs.declared.plan.timing.Timing.{Timing}
use Rattle.j39_network.specs.declared.plan.unit_plan.UnitPlan.{UnitPlan}

-- the bits of a response time, where one is reported
abbrev pub bits_reported : Option Delay → Option ℕ
bits_reported (Some (Within bits)) = Some bits
bits_reported (Some (Beyond bits)) = Some bits
bits_reported _ = None

-- so many microseconds of true time by the logger's clock, which differs by a thousandth at most
abbrev pub us_at_logger : ℕ → ℕ
us_at_logger us = us + us / 1000 + 1

abbrev pub response : Timing → Option Delay → Option ℕ
response timing delay = option_map (λ bits. us_at_logger (us_of_bits timing bits)) (bits_reported delay)

-- those of the flows of a plan, in order
abbrev pub AreResponsesBy : Plan → Option Timing → List (Option ℕ) → Type 0
AreResponsesBy plan None responses = responses ≡ []
AreResponsesBy plan (Some timing) responses = (stays : UnitPlan → Bool) × (delays : List (Option Delay)) × AsksOfBus plan timing stays delays
    × (responses ≡ map (response timing) delays)

abbrev pub AreResponses : Plan → List (Option ℕ) → Type 0
AreResponses plan responses = AreResponsesBy plan (timing_of plan) responses
