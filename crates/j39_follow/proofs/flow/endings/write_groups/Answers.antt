use Rattle.std.proofs.Common.{◌<◌, ◌∙◌, arith, ap, ◌++◌, ℕ, List, length}
use Rattle.std.specs.Prelude.{count_by}
use Rattle.j39_network.specs.declared.plan.group_plan.GroupPlan.{GroupPlan}
use Rattle.j39_follow.specs.FollowText.{group_end, is_without_flow, rest_line}
use Rattle.j39_follow.proofs.Flows.EndLines.{all_lines, one_more_line}
use Rattle.j39_follow.proofs.flow.endings.write_groups.Goals as goal

pub loop-place-preserved : goal.loop-place-preserved
loop-place-preserved c = λ sent of.
    let plan = c.args.plan.now in
    let groups : List GroupPlan = plan.groups.items in
    let k = c.loop-place.place in
    let group : GroupPlan = c.index-group.result.now in
    let old : List ℕ = c.loop-place.text in
    let test = c.loop-place-test.true in
    let count = c.len-place-end.ensures in
    let more : k < length groups = omega (arith, test, count) in
    let written =
    c.in_ok-write_group.ensures
    ∙ ap (λ (n : ℕ). old ++ rest_line group n c.others_of.result) (c.of_group.ensures ∙ of.groups k more)
    ∙ ap (λ (n : ℕ). old ++ rest_line group (count_by (is_without_flow k) sent) n) (c.others_of.ensures sent of) in
    one_more_line (group_end plan sent) groups _ _ _ k group more c.index-group.ensures written (c.loop-place.invariant sent of)

pub returns : goal.returns
returns c = λ sent of.
    let test = c.loop-place-test.false in
    let count = c.len-place-end.ensures in
    all_lines (group_end c.args.plan.now sent) c.args.plan.now.groups.items _ _ c.loop-place.place (omega (arith, test, count)) (c.loop-place.invariant sent of)
