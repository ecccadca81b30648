-- What is known of the bus of a plan, as its times count it: of a live one the claims that come at any time are among the frames that aren't planned.
use Rattle.std.specs.Prelude.{Option}
use Rattle.std.specs.Option.{option_map}
use Rattle.j39_network.specs.declared.plan.Plan.{Plan}
use Rattle.j39_network.specs.declared.plan.timing.Timing.{Timing}
use Rattle.j39_load.specs.LiveClaims.{unplanned_of}
use Rattle.j39_load.specs.inside.FewClaims.{few_unplanned}

-- its frames that aren't planned are so many more, and still no more than a plan can report
abbrev pub with_claims : Plan → Timing → Timing
with_claims plan timing = record timing { unplanned = unplanned_of plan timing; unplanned_range = few_unplanned plan timing }

-- what is known of the bus, where anything is
unfoldable pub timing_of : Plan → Option Timing
timing_of plan = option_map (with_claims plan) plan.timing
