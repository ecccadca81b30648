use Rattle.std.proofs.Common.{◌≡◌, ℕ, Bool, if◌then◌else◌, ap, ◌∙◌}
use Rattle.j39_tp.specs.Receiver.{fresh}
use Rattle.j39_tp.specs.declared.receiving.manner.Manner.TheVariants.{Listening}
use Rattle.j39_log.specs.PairListeners.{is_of_pair, listener_of_pair}
use Rattle.j39_log.proofs.Forgetting.{all_are_reached, one_more_forgotten}
use Rattle.j39_log.proofs.listeners.Listeners.forget.Goals as goal

pub loop-other-preserved : goal.loop-other-preserved
loop-other-preserved c = λ s d.
    one_more_forgotten c.from-place.result c.loop-other.other s d (fresh Listening) (listener_of_pair c.args.self.now.rows.items s d) _ _ _
    (c.loop-other.invariant s d) (c.close.ensures s d) (c.close-in-loop-other.ensures s d)

pub returns : goal.returns
returns c = λ s d first second.
    let was = listener_of_pair c.args.self.now.rows.items s d in
    let f = fresh Listening in
    c.loop-other.invariant s d
    ∙ ap (λ (b : Bool). if b then f else was) (all_are_reached c.from-place.result c.loop-other.other s d first second c.loop-other-test.false)
    ∙ ap (λ (a : ℕ). if is_of_pair a s d then f else was) c.from-place.ensures
