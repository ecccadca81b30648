use Rattle.std.proofs.Common.{ℕ, List, take, get_or, Option, None, sym, ap, ◌∙◌}
use Rattle.j39_load.specs.Ages.{least, smaller_known}
use Rattle.j39_load.specs.AnyQueues.{own_least}
use Rattle.j39_load.specs.LineLists.{lines_of_each}
use Rattle.j39_load.proofs.LeastKnown.{least_of_both}
use Rattle.j39_load.proofs.Before.{more}
use Rattle.j39_load.proofs.queues.queue_groups.least_of.Goals as goal

pub loop-frames-preserved : goal.loop-frames-preserved
loop-frames-preserved c =
    let k = c.loop-frames.frames-index in
    let all = c.args.all.now in
    let report = own_least c.args.unit in
    let before : List ℕ = lines_of_each report 0 (take k all) in
    c.smaller-least.ensures
    ∙ ap (λ (o : Option ℕ). smaller_known o c.own_least.result) c.loop-frames.invariant
    ∙ ap (smaller_known (least before)) (c.own_least.ensures k)
    ∙ sym (least_of_both before (report k (get_or all k None)))
    ∙ ap least (sym (more report k all None c.loop-frames-test.true))
