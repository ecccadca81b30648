-- The turns of the units as a list, and the delay of a flow by it.
use Rattle.std.specs.Prelude.{◌≡◌, ℕ, ◌^◌, ◌<◌, List, length, slice_index_or, Option, None, All}
use Rattle.std.specs.Option.{ForSome}
use Rattle.j39_network.specs.declared.plan.timing.Timing.{Timing}
use Rattle.j39_load.specs.declared.waits.delay.Delay.{Delay}
use Rattle.j39_load.specs.declared.waits.delay.Delay.TheVariants.{Long, Whole}
use Rattle.j39_load.specs.declared.waits.turn.Turn.{Turn}
use Rattle.j39_load.specs.declared.frames.messages.Messages.{Messages}
use Rattle.j39_load.specs.declared.frames.messages.Messages.TheVariants.{Short, ToAll, ToOne}
use Rattle.j39_load.specs.AnyQueues.{Buffering}
use Rattle.j39_load.specs.Asked.{Asked}
use Rattle.j39_load.specs.Delays.{IsFrameDelay, IsTurn, whole_time}

abbrev pub IsShortTurn : Option Turn → Type 0
IsShortTurn turn = ForSome turn (λ (t : Turn). (t.time < 2 ^ 60) × (t.announcement < 2 ^ 28) × (t.packet < 2 ^ 28))

abbrev pub AreShortTurns : List (Option Turn) → Type 0
AreShortTurns turns = All IsShortTurn turns

-- that of the unit at a place
abbrev pub turn_at : List (Option Turn) → ℕ → Option Turn
turn_at turns u = slice_index_or turns u None

-- these are the turns of the units
pub record AreTurns (timing : Timing) (asked : Asked) (buffering : Buffering) (turns : List (Option Turn)) : Type 0 where
  pub count : length turns ≡ length asked.units
  pub each : (u : ℕ) → u < length turns → IsTurn timing asked buffering u (slice_index_or turns u None)

abbrev pub IsDelayBy : Timing → Buffering → List (Option Turn) → ℕ → Messages → ℕ → Delay → Type 0
IsDelayBy timing buffering turns flow (Short frames) limit delay = IsFrameDelay timing buffering flow frames limit delay
IsDelayBy timing buffering turns flow (ToOne frames) limit (Long count) = count ≡ frames.stream.frames
IsDelayBy timing buffering turns flow (ToOne frames) limit _ = ⊥
IsDelayBy timing buffering turns flow (ToAll broadcast) limit (Whole whole) =
    whole ≡ whole_time broadcast (turn_at turns broadcast.sender)
IsDelayBy timing buffering turns flow (ToAll broadcast) limit _ = ⊥
