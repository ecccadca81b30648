use Rattle.std.proofs.Common.{◌≡◌, Bool, Option, None, if◌then◌else◌, ap, ◌∙◌}
use Rattle.j39_follow.specs.declared.pair.collected.Collected.{Collected}
use Rattle.j39_follow.specs.inside.Collecting.{collected_between}
use Rattle.j39_log.proofs.Forgetting.{all_are_reached, one_more_forgotten}
use Rattle.j39_follow.proofs.pair.collections.Collections.forget.Goals as goal

pub loop-other-preserved : goal.loop-other-preserved
loop-other-preserved c = λ s d ls ld.
    let none : Option Collected = None in
    one_more_forgotten c.args.address c.loop-other.other s d none (collected_between c.args.self.now s d) _ _ _ (c.loop-other.invariant s d ls ld)
    (c.close.ensures s d ls ld) (c.close-in-loop-other.ensures s d ls ld)

pub returns : goal.returns
returns c = λ s d first second.
    let was = collected_between c.args.self.now s d in
    let none : Option Collected = None in
    c.loop-other.invariant s d first second
    ∙ ap (λ (b : Bool). if b then none else was) (all_are_reached c.args.address c.loop-other.other s d first second c.loop-other-test.false)
