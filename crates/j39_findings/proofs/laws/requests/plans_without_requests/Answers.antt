use Rattle.std.proofs.Common.{◌≡◌, ◌∙◌, sym, Some, List, [], ℕ, subst}
use Rattle.std.specs.List.{slice_get}
use Rattle.std.proofs.lemmas.Bool.{false≢true}
use Rattle.std.proofs.lemmas.Option.{none-some}
use Rattle.j39_network.specs.PlannedRequests.{ComesByItself}
use Rattle.j39_findings.specs.WithoutRequests.{IsWithoutRequests}
use Rattle.j39_network.specs.declared.plan.Plan.{Plan}
use Rattle.j39_network.specs.declared.plan.flow_plan.FlowPlan.{FlowPlan}
use Rattle.j39_network.specs.declared.plan.need_plan.NeedPlan.{NeedPlan}
use Rattle.j39_network.specs.declared.plan.request_plan.RequestPlan.{RequestPlan}
use Rattle.j39_findings.proofs.laws.requests.plans_without_requests.Goals as goal

none_there : (requests : List RequestPlan) → requests ≡ [] → (r : ℕ) (request : RequestPlan) → ¬ (slice_get requests r ≡ Some request)
none_there requests none r request at =
    none-some _ (subst (λ (all : List RequestPlan). slice_get all r ≡ Some request) none at)

unfound : (plan : Plan) → IsWithoutRequests plan
unfound plan none = record {
  unanswered = λ r at. none_there plan.requests.items none r at.value at.value_is;
  unheard = λ r at. none_there plan.requests.items none r at.value at.value_is;
  astray = λ r at. none_there plan.requests.items none r at.value at.value_is;
  repeated = λ r s at. none_there plan.requests.items none r at.first at.first_is;
}

alike : (need : NeedPlan) (flow : FlowPlan) → ComesByItself need flow
alike need flow itself requests others meets = record {
  group = meets.group;
  other = meets.other;
  from = meets.from;
  reaches = meets.reaches;
  comes = λ asked. absurd (false≢true (sym itself ∙ asked));
}

pub returns : goal.returns
returns c = record { unfound = unfound; alike = alike }
