-- With which flow `follow` reports a message of a run that came in one frame.
use Rattle.std.specs.Prelude.{◌≡◌, ◌⊎◌, ℕ, true, List, [], ◌∷◌, ◌++◌, map, Option, Some, None}
use Rattle.std.specs.List.{All, slice_get}
use Rattle.j39_id.specs.Pgn.{is_pdu2}
use Rattle.j39_id.specs.declared.frame.Frame.{Frame}
use Rattle.j39_search.specs.ListPlaces.{ValueAt}
use Rattle.j39_network.specs.declared.plan.Plan.{Plan}
use Rattle.j39_network.specs.declared.plan.flow_plan.FlowPlan.{FlowPlan}
use Rattle.j39_network.specs.declared.plan.group_plan.GroupPlan.{GroupPlan}
use Rattle.j39_network.specs.declared.plan.unit_plan.UnitPlan.{UnitPlan}
use Rattle.j39_network.specs.declared.steps.Step.{Step}
use Rattle.j39_network.specs.declared.steps.Step.TheVariants.{Begin, Send}
use Rattle.j39_world.specs.Run.{Follows}
use Rattle.j39_world.specs.World.{World}
use Rattle.j39_follow.specs.Contests.{Timed}
use Rattle.j39_follow.specs.FollowReports.{IsMessageReport, in_frame}
use Rattle.j39_follow.specs.declared.message.Sort.TheVariants.{Grouped}
use Rattle.j39_log_laws.specs.Between.{IsSentBehind}

-- each unit claims its address, so that a log reports where it is
abbrev pub EachClaims : Plan → Type 0
EachClaims plan = All (λ (unit : UnitPlan). unit.claims ≡ true) plan.units.items

-- lines without a time, as `run` prints frames
abbrev pub untimed : List Frame → List Timed
untimed frames = map (λ (f : Frame). record { frame = f; time = None }) frames

-- the step begins or sends a message of these bytes by the flow at this place
abbrev pub IsBegunBy : Step → ℕ → List ℕ → Type 0
IsBegunBy (Begin k message) f bytes = (k ≡ f) × (message.items ≡ bytes)
IsBegunBy (Send k message) f bytes = (k ≡ f) × (message.items ≡ bytes)
IsBegunBy _ f bytes = ⊥

-- the flow at the one place sends the group, and the one at the other, which may be the same, looks like it in one frame: it sends the same group
-- from the same unit, and to the same units, or the frame names no receiver
pub record LooksLike (plan : Plan) (group f other : ℕ) : Type 0 where
  pub flow : FlowPlan
  pub twin : FlowPlan
  pub flow_is : slice_get plan.flows.items f ≡ Some flow
  pub twin_is : slice_get plan.flows.items other ≡ Some twin
  pub flow_group : flow.group ≡ group
  pub twin_group : twin.group ≡ group
  pub sender : twin.sender ≡ flow.sender
  pub receivers : (twin.to ≡ flow.to) ⊎ ValueAt (λ (g : GroupPlan). is_pdu2 g.pgn ≡ true) plan.groups.items group

-- a message of a group that `follow` reports of one frame which a step sends was begun or sent by this step, byte for byte, by the flow that it
-- is reported with, or by one that looks like it
abbrev pub AreReportedAsBegun : Plan → World → Type 0
AreReportedAsBegun plan w =
    (step : Step) (after : World) (log : List Frame) (f : Frame) (front : List ℕ) (group : ℕ) (stated : Option ℕ) (text : List ℕ)
    → Follows plan w step after → IsSentBehind w after log f
    → IsMessageReport plan (untimed (log ++ f ∷ [])) front (in_frame f) (Grouped group stated) text
    → (k : ℕ) × (other : ℕ) × IsBegunBy step k f.payload.items × (stated ≡ Some other) × LooksLike plan group k other
