-- The delays of flows by the turns of their units.
use Rattle.std.proofs.Common.{◌≡◌, ℕ, List, length, get_or, inl, inr, Option, None, sym, subst, arith}
use Rattle.std.proofs.lemmas.Bool.{cases_lt}
use Rattle.std.proofs.lemmas.List.{get_or_past}
use Rattle.j39_network.specs.declared.plan.timing.Timing.{Timing}
use Rattle.j39_load.specs.declared.waits.delay.Delay.{Delay}
use Rattle.j39_load.specs.declared.waits.delay.Delay.TheVariants.{Within, Beyond, Late, Long, Whole}
use Rattle.j39_load.specs.declared.waits.turn.Turn.{Turn}
use Rattle.j39_load.specs.declared.frames.messages.Messages.{Messages}
use Rattle.j39_load.specs.declared.frames.messages.Messages.TheVariants.{Short, ToAll, ToOne}
use Rattle.j39_load.specs.declared.loads.unit_load.UnitLoad.{UnitLoad}
use Rattle.j39_load.specs.AnyQueues.{Buffering}
use Rattle.j39_load.specs.Asked.{Asked}
use Rattle.j39_load.specs.Delays.{IsDelayOf, IsTurn, IsTurnBy}
use Rattle.j39_load.specs.inside.TurnTimes.{IsDelayBy, AreTurns, turn_at}

module _ (timing : Timing) (asked : Asked) (buffering : Buffering) (turns : List (Option Turn)) (report : AreTurns timing asked buffering turns) where
  -- also where there is no such unit
  at_unit : (u : ℕ) → IsTurn timing asked buffering u (turn_at turns u)
  at_unit u = elim (cases_lt u (length turns)) [
    | inl inside ↦ report.each u inside
    | inr past ↦
        let none : get_or asked.units u None ≡ None = get_or_past asked.units u None (omega (arith, report.count, past)) in
        let no_turn : get_or turns u None ≡ None = get_or_past turns u None past in
        subst (λ (load : Option UnitLoad). IsTurnBy timing asked buffering u load (get_or turns u None)) (sym none) no_turn
  ]

  pub delay_by : (flow : ℕ) (messages : Messages) (limit : ℕ) (delay : Delay) → IsDelayBy timing buffering turns flow messages limit delay
      → IsDelayOf timing asked buffering flow messages limit delay
  delay_by flow (Short frames) limit delay is = is
  delay_by flow (ToOne frames) limit (Long count) is = is
  delay_by flow (ToOne frames) limit (Within bits) is = is
  delay_by flow (ToOne frames) limit (Beyond bits) is = is
  delay_by flow (ToOne frames) limit Late is = is
  delay_by flow (ToOne frames) limit (Whole whole) is = is
  delay_by flow (ToAll broadcast) limit (Whole whole) is = (turn_at turns broadcast.sender, at_unit broadcast.sender, is)
  delay_by flow (ToAll broadcast) limit (Within bits) is = is
  delay_by flow (ToAll broadcast) limit (Beyond bits) is = is
  delay_by flow (ToAll broadcast) limit Late is = is
  delay_by flow (ToAll broadcast) limit (Long count) is = is
