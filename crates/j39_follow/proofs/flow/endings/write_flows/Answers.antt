use Rattle.std.proofs.Common.{◌<◌, ◌∙◌, arith, ap, ◌++◌, ℕ, List, length}
use Rattle.j39_network.specs.declared.plan.flow_plan.FlowPlan.{FlowPlan}
use Rattle.j39_follow.specs.FollowText.{flow_end, flow_sent_line}
use Rattle.j39_follow.proofs.Flows.EndLines.{all_lines, one_more_line}
use Rattle.j39_follow.proofs.flow.endings.write_flows.Goals as goal

pub loop-place-preserved : goal.loop-place-preserved
loop-place-preserved c = λ sent of.
    let plan = c.args.plan.now in
    let flows : List FlowPlan = plan.flows.items in
    let k = c.loop-place.place in
    let test = c.loop-place-test.true in
    let count = c.len-place-end.ensures in
    let more : k < length flows = omega (arith, test, count) in
    let times = c.of_flow.ensures ∙ of.flows k more in
    let written = c.in_ok-write_flow.ensures ∙ ap (λ (n : ℕ). c.loop-place.text ++ flow_sent_line plan k c.index.result.now n) times in
    one_more_line (flow_end plan sent) flows _ _ _ k _ more c.index.ensures written (c.loop-place.invariant sent of)

pub returns : goal.returns
returns c = λ sent of.
    let test = c.loop-place-test.false in
    let count = c.len-place-end.ensures in
    all_lines (flow_end c.args.plan.now sent) c.args.plan.now.flows.items _ _ c.loop-place.place (omega (arith, test, count)) (c.loop-place.invariant sent of)
