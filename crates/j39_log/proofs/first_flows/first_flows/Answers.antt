use Rattle.std.proofs.Common.{◌≡◌, ◌+◌, List, length, sym, ap, ◌∙◌, arith}
use Rattle.std.proofs.Math.Seq.{drop-length}
use Rattle.std.proofs.lemmas.List.{get_or-replicate}
use Rattle.j39_network.specs.declared.plan.flow_plan.FlowPlan.{FlowPlan}
use Rattle.j39_log.specs.inside.FirstFlows.{first_flow}
use Rattle.j39_log.proofs.first_flows.first_flows.Goals as goal

pub loop-place-init : goal.loop-place-init
loop-place-init c = (
  omega arith,
  λ group less.
      let flows : List FlowPlan = c.args.flows.now in
      let none : length flows ≡ length flows + 0 = omega arith in
      get_or-replicate 256 group (length flows) 0 less ∙ none
      ∙ ap (λ (rest : List FlowPlan). length flows + first_flow group rest) (sym (drop-length flows)),
)
