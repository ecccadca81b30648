use Rattle.std.proofs.Common.{◌<◌, ◌∙◌, arith, ap, ◌++◌, ℕ, List, length}
use Rattle.j39_network.specs.declared.plan.need_plan.NeedPlan.{NeedPlan}
use Rattle.j39_follow.specs.FollowText.{need_end, need_met_line}
use Rattle.j39_follow.proofs.Flows.EndLines.{all_lines, one_more_line}
use Rattle.j39_follow.proofs.flow.needs.write_needs.Goals as goal

pub loop-place-preserved : goal.loop-place-preserved
loop-place-preserved c = λ sent of.
    let plan = c.args.plan.now in
    let needs : List NeedPlan = plan.needs.items in
    let k = c.loop-place.place in
    let test = c.loop-place-test.true in
    let count = c.len-place-end.ensures in
    let written =
    c.in_ok-write_met.ensures
    ∙ ap (λ (n : ℕ). c.loop-place.text ++ need_met_line plan k c.index-need.result.now n) (c.times_met.ensures sent of) in
    one_more_line (need_end plan sent) needs _ _ _ k _ (omega (arith, test, count)) c.index-need.ensures written (c.loop-place.invariant sent of)

pub returns : goal.returns
returns c = λ sent of.
    let test = c.loop-place-test.false in
    let count = c.len-place-end.ensures in
    all_lines (need_end c.args.plan.now sent) c.args.plan.now.needs.items _ _ c.loop-place.place (omega (arith, test, count)) (c.loop-place.invariant sent of)
