-- What holds of a step holds of the same step in other words.
use Rattle.std.proofs.Common.{◌≡◌, true, length, sym, ap, subst, ◌∙◌, Option, None, Result, Ok, Err, OnOk, OnErr}
use Rattle.j39_network.specs.declared.steps.Step.{Step}
use Rattle.j39_bus.specs.declared.network.Network.{Network}
use Rattle.j39_bus.specs.BusState.{nowhere}
use Rattle.j39_bus.specs.inside.Network.{Finds, IsAllowed, IsRefusal, Steps, world_in}
use Rattle.j39_bus.proofs.FlowRefused.{refused_begun, flow_inside, refused_alone}
use Rattle.j39_bus.proofs.Refused.{none_refuses, pair_inside, unit_inside}
use Rattle.j39_world.proofs.Refusals.{NoneHold}
use Rattle.std.proofs.lemmas.Bool.{ltb-true, not-false}
use Rattle.j39_network.specs.declared.steps.Step.TheVariants.{Up, Down, Give, Ask, Begin, Send, Emit, Take, Lose, LateSender, LateReceiver, Rest}
use Rattle.j39_world.specs.declared.step_error.StepError.{StepError}
use Rattle.j39_world.specs.Run.{step_refusals, takes_memory}

pub refusal_as : (net : Network) (s t : Step) (cause : Option StepError) → s ≡ t → IsRefusal net t cause → IsRefusal net s cause
refusal_as net s t cause same h = subst (λ (x : Step). IsRefusal net x cause) (sym same) h

-- what a step finds that is not refused
module _ (net : Network) where
  -- the last of its refusals does not hold
  last : (step : Step) → IsRefusal net step None → NoneHold (step_refusals net.live (length net.claimers.items) net.flows.items (world_in nowhere net) step)
  last step none = none_refuses net nowhere step (none.is nowhere)

  pub finds : (step : Step) → IsRefusal net step None → Finds net step
  finds (Up u) none = unit_inside _ _ _ (none.is nowhere)
  finds (Down u) none = unit_inside _ _ _ (none.is nowhere)
  finds (Give u v) none = (pair_inside _ _ _ _ (none.is nowhere), ltb-true 0 _ (not-false _ (last (Give u v) none).1.1.0))
  finds (Ask u) none = unit_inside _ _ _ (none.is nowhere)
  finds (Begin f bytes) none = flow_inside (refused_begun net bytes.items nowhere) (λ is. cc is) net.flows.items f (none.is nowhere)
  finds (Send f bytes) none = flow_inside (refused_alone net bytes.items nowhere) (λ is. cc is) net.flows.items f (none.is nowhere)
  finds (Emit u) none = (unit_inside _ _ _ (none.is nowhere), not-false _ (last (Emit u) none).1.1.0)
  finds (Take u v) none = (pair_inside _ _ _ _ (none.is nowhere), ltb-true 0 _ (not-false _ (last (Take u v) none).1.1.0))
  finds (Lose u v) none = (pair_inside _ _ _ _ (none.is nowhere), ltb-true 0 _ (not-false _ (last (Lose u v) none).1.1.0))
  finds (LateSender u) none = (unit_inside _ _ _ (none.is nowhere), not-false _ (last (LateSender u) none).1.1.0)
  finds (LateReceiver u v) none = pair_inside _ _ _ _ (none.is nowhere)
  finds (Rest u) none = unit_inside _ _ _ (none.is nowhere)

pub allowed_by : (net : Network) (step : Step) (cause : Option StepError) → cause ≡ None → IsRefusal net step cause → IsAllowed net step
allowed_by net step cause is refuses =
    let none : IsRefusal net step None = subst (IsRefusal net step) is refuses in
    record { refusal = none; finds = finds net step none }

pub allowed_as : (net : Network) (s t : Step) → s ≡ t → IsAllowed net s → IsAllowed net t
allowed_as net s t same h = subst (IsAllowed net) same h

pub steps_as : (old new : Network) (s t : Step) → s ≡ t → Steps old t new → Steps old s new
steps_as old new s t same h = subst (λ (x : Step). Steps old x new) (sym same) h

pub steps_if_done : {X E : Type 0} (r : Result X E) (old new : Network) (s t : Step) → s ≡ t → OnOk r (Steps old t new) → OnOk r (Steps old s new)
steps_if_done (Ok x) old new s t same h = steps_as old new s t same h
steps_if_done (Err e) old new s t same h = tt

pub memory_as : {X E : Type 0} (r : Result X E) (s t : Step) → s ≡ t → takes_memory t ≡ true → OnErr r (takes_memory s ≡ true)
memory_as (Ok x) s t same h = tt
memory_as (Err e) s t same h = ap takes_memory same ∙ h
