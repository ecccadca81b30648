-- A flow that isn't sent as an answer has no askers; and the messages of one that has none are a period apart.
use Rattle.std.proofs.Common.{◌≡◌, ℕ, Bool, true, false, if◌then◌else◌, Option, Some, None, refl, ap, ◌∙◌, subst}
use Rattle.std.proofs.lemmas.Option.{none-some, same_Some}
use Rattle.std.specs.List.{slice_get}
use Rattle.j39_network.specs.declared.plan.Plan.{Plan}
use Rattle.j39_network.specs.declared.plan.flow_plan.FlowPlan.{FlowPlan}
use Rattle.j39_network.specs.declared.plan.group_plan.GroupPlan.{GroupPlan}
use Rattle.j39_network.specs.declared.plan.pace.Pace.{Pace}
use Rattle.j39_network.specs.declared.plan.timing.Timing.{Timing}
use Rattle.j39_network.specs.declared.plan.to.To.{To}
use Rattle.j39_network.specs.declared.plan.to.To.TheVariants.{One, All as ToAllUnits}
use Rattle.j39_network.specs.declared.plan.unit_plan.UnitPlan.{UnitPlan}
use Rattle.j39_load.specs.declared.frames.flow_frames.FlowFrames.{FlowFrames}
use Rattle.j39_load.specs.declared.frames.messages.Messages.TheVariants.{Short}
use Rattle.j39_load.specs.declared.loads.flow_load.FlowLoad.{FlowLoad}
use Rattle.j39_load.specs.AnswerStreams.{askers_of, frames_for, messages_for}
use Rattle.j39_load.specs.AskedFlows.{asking_periods}
use Rattle.j39_load.specs.FlowLoads.{load_of_flow}
use Rattle.j39_load.specs.Loads.{is_always_short, long_messages, single_frames}
use Rattle.j39_timing.specs.Waits.{IsSpaced, askers_want}
use Rattle.std.proofs.Common.{length}

module _ (timing : Timing) (plan : Plan) (stays : UnitPlan → Bool) (flow : FlowPlan) (load : FlowLoad) (frames : FlowFrames)
    (short : load.messages ≡ Short frames)
    (none_asks : askers_of plan.requests.items flow ≡ 0) where
  module _ (pace : Pace) (group : GroupPlan) where
    by_length : (b : Bool) (to : To)
        → messages_for timing pace (askers_of plan.requests.items flow)
        (if b then Short (single_frames timing plan.units.items stays flow pace group) else long_messages timing plan.units.items stays flow pace group to)
        ≡ Short frames
        → IsSpaced frames.stream
    by_length true to is =
        let same : frames_for timing pace (askers_of plan.requests.items flow) (single_frames timing plan.units.items stays flow pace group) ≡ frames = cc in
        subst (λ (f : FlowFrames). IsSpaced f.stream) same
        (ap (λ (n : ℕ). askers_want (frames_for timing pace n (single_frames timing plan.units.items stays flow pace group)).stream) none_asks)
    by_length false ToAllUnits is = absurd (let stated = is in cc)
    by_length false (One v) is = absurd (let stated = is in cc)

  by_parts : (pace : Option Pace) (group : Option GroupPlan) → flow.pace ≡ pace → slice_get plan.groups.items flow.group ≡ group
      → load_of_flow timing plan stays flow ≡ Some load → IsSpaced frames.stream
  by_parts None group paced at is = absurd (none-some load (rw (paced) at is))
  by_parts (Some pace) None paced at is = absurd (none-some load (rw (paced, at) at is))
  by_parts (Some pace) (Some group) paced at is =
      by_length pace group (is_always_short group) flow.to (ap (λ (l : FlowLoad). l.messages) (same_Some _ load (rw (paced, at) at is)) ∙ short)

  pub spaced_where_none_asks : load_of_flow timing plan stays flow ≡ Some load → IsSpaced frames.stream
  spaced_where_none_asks = by_parts flow.pace (slice_get plan.groups.items flow.group) refl refl

pub unasked_spaced : (timing : Timing) (plan : Plan) (stays : UnitPlan → Bool) (flow : FlowPlan) (load : FlowLoad) (frames : FlowFrames)
    → load.messages ≡ Short frames → flow.on_request ≡ false → load_of_flow timing plan stays flow ≡ Some load → IsSpaced frames.stream
unasked_spaced timing plan stays flow load frames short unasked = spaced_where_none_asks timing plan stays flow load frames short
    (ap (λ (b : Bool). if b then length (asking_periods plan.requests.items flow) else 0) unasked)
