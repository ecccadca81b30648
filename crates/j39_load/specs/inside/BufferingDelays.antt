-- What is known of frames that are buffered no longer, so that waits can be computed from them.
use Rattle.std.specs.Prelude.{◌≡◌, ℕ, map, ◌^◌, ◌<◌, ◌≤◌, length, All, Option}
use Rattle.std.specs.Option.{ForSome}
use Rattle.j39_load.specs.declared.queues.buffering_delays.BufferingDelays.{BufferingDelays}
use Rattle.j39_load.specs.AnyQueues.{Buffering}
use Rattle.j39_load.specs.Demands.{demands_of}
use Rattle.j39_load.specs.SoundLoads.{FitIfAny}
use Rattle.j39_timing.specs.Waits.{IsWanted, as_demand}

abbrev pub IsShortWait : Option ℕ → Type 0
IsShortWait wait = ForSome wait (λ bits. bits < 2 ^ 27)

-- as a definition has them
abbrev pub buffering_of : BufferingDelays → Buffering
buffering_of buffering_delays =
    record { frames = buffering_delays.frames.items; waits = buffering_delays.waits.items; least_unbounded = buffering_delays.least_unbounded }

pub record AreFitBufferingDelays (buffering_delays : BufferingDelays) : Type 0 where
  pub fit : All FitIfAny buffering_delays.frames.items
  pub few : length buffering_delays.frames.items ≤ 2000
  pub short : All IsShortWait buffering_delays.waits.items
  pub demands : map as_demand buffering_delays.demands.items ≡ demands_of buffering_delays.frames.items
  pub wanted : All IsWanted buffering_delays.demands.items
