use Rattle.std.proofs.Common.{ℕ, List, take, get_or, Option, None, sym, ap, ◌∙◌}
use Rattle.j39_load.specs.Ages.{least, smaller_known}
use Rattle.j39_load.specs.AnyQueues.{unbounded_at}
use Rattle.j39_load.specs.LineLists.{lines_of_each}
use Rattle.j39_load.proofs.LeastKnown.{least_of_both}
use Rattle.j39_load.proofs.Before.{more}
use Rattle.j39_load.proofs.queues.buffering_delays.least_unbounded.Goals as goal

pub loop-place-preserved : goal.loop-place-preserved
loop-place-preserved c =
    let k = c.loop-place.place in
    let all = c.args.all.now in
    let report = unbounded_at c.args.waits.now in
    let before : List ℕ = lines_of_each report 0 (take k all) in
    c.smaller-least.ensures
    ∙ ap (λ (o : Option ℕ). smaller_known o c.unbounded_at.result) c.loop-place.invariant
    ∙ ap (smaller_known (least before)) c.unbounded_at.ensures
    ∙ sym (least_of_both before (report k (get_or all k None)))
    ∙ ap least (sym (more report k all None c.loop-place-test.true))
