-- What the requests of a plan have.
use Rattle.j39_network.specs.Serving.{AsksAll, AsksOne, IsServedToAll, IsServedToOne, MayNameReceiver, IsServed, Meets}
use Rattle.j39_network.specs.declared.plan.Plan.{Plan}
use Rattle.j39_network.specs.declared.plan.request_plan.RequestPlan.{RequestPlan}
use Rattle.std.specs.Prelude.{◌≡◌, false, List, All}
use Rattle.j39_network.specs.declared.plan.flow_plan.FlowPlan.{FlowPlan}
use Rattle.j39_network.specs.declared.plan.need_plan.NeedPlan.{NeedPlan}

-- where one unit is asked, for a group whose messages can name a receiver, some flow answers to one unit, and where all are asked, some answers
-- to all
pub record IsAnsweredWell (plan : Plan) (r : RequestPlan) : Type 0 where
  pub to_one : AsksOne r → MayNameReceiver plan.groups.items r → IsServedToOne plan.flows.items r
  pub to_all : AsksAll r → IsServedToAll plan.flows.items r

-- some flow answers each request
abbrev pub AreRequestsServed : Plan → Type 0
AreRequestsServed plan = All (IsServed plan.flows.items) plan.requests.items

-- and to one unit or to all, as it was asked
abbrev pub AreAnsweredWell : Plan → Type 0
AreAnsweredWell plan = All (IsAnsweredWell plan) plan.requests.items

-- a flow that comes by itself meets a need whatever is asked for
abbrev pub ComesByItself : NeedPlan → FlowPlan → Type 0
ComesByItself need flow = flow.on_request ≡ false → (requests others : List RequestPlan) → Meets requests need flow → Meets others need flow
