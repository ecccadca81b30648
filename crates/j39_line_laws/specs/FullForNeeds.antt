-- Which flows of the file bring in a variant what a need is for.
use Rattle.std.specs.Prelude.{◌≡◌, ℕ, List, true, Some}
use Rattle.std.specs.List.{slice_get}
use Rattle.j39_network.specs.Serving.{serves}
use Rattle.j39_network.specs.declared.plan.flow_plan.FlowPlan.{FlowPlan}
use Rattle.j39_network.specs.declared.plan.need_plan.NeedPlan.{NeedPlan}
use Rattle.j39_network.specs.declared.plan.request_plan.RequestPlan.{RequestPlan}
use Rattle.j39_variants.specs.declared.line.ProductLine.{ProductLine}
use Rattle.j39_line_findings.specs.FullVariants.{provides}
use Rattle.j39_line_findings.specs.There.{is_flow_there, is_request_there}

-- a request is there that the flow answers
pub record IsAnswerIn (line : ProductLine) (variant : List ℕ) (flow : FlowPlan) : Type 0 where
  pub r : ℕ
  pub request : RequestPlan
  pub request_is : slice_get line.plan.requests.items r ≡ Some request
  pub serves_it : serves request flow ≡ true
  pub there : is_request_there line variant r ≡ true

-- the flow at a place is there and brings what is needed; and where it is sent only as an answer, a request is there for it
pub record MeetsIn (line : ProductLine) (variant : List ℕ) (need : NeedPlan) (f : ℕ) : Type 0 where
  pub flow : FlowPlan
  pub flow_is : slice_get line.plan.flows.items f ≡ Some flow
  pub brings : provides need flow ≡ true
  pub there : is_flow_there line variant f ≡ true
  pub asked : flow.on_request ≡ true → IsAnswerIn line variant flow
