use Rattle.std.proofs.Common.{◌++◌, ℕ, List, take, append_assoc, sym, ap, ◌∙◌}
use Rattle.std.proofs.lemmas.List.{append-nil}
use Rattle.j39_load.proofs.Before.{more}
use Rattle.j39_load.specs.LineLists.{lines_of_each}
use Rattle.j39_plan_text.proofs.each.write_each.Goals as goal

pub loop-place-init : goal.loop-place-init
unfolding lines_of_each
loop-place-init g c = sym (append-nil c.args.text.now)

pub loop-place-preserved : goal.loop-place-preserved
loop-place-preserved g c =
    let line = g.W.WriteLines.lines c.args.writer.now in
    let k = c.loop-place.place in
    let x = c.index-values-place.result in
    let step = more line k c.args.values.now x c.loop-place-test.true in
    let before : List ℕ = lines_of_each line 0 (take k c.args.values.now) in
    c.in_ok-write.ensures
    ∙ ap (λ (t : List ℕ). t ++ line k x) c.loop-place.invariant
    ∙ append_assoc c.args.text.now before (line k x)
    ∙ ap (λ d. c.args.text.now ++ (before ++ line k d)) c.index-values-place.is
    ∙ ap (λ (t : List ℕ). c.args.text.now ++ t) (sym step)
