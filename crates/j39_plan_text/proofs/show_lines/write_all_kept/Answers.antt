use Rattle.std.proofs.Common.{◌≡◌, ◌++◌, ◌+◌, ℕ, suc, List, append_assoc, append-nil, sym, ap, ◌∙◌, arith}
use Rattle.j39_plan_text.specs.ShowText.{kept_line, kept_lines}
use Rattle.j39_plan_text.proofs.show_lines.write_all_kept.Goals as goal

pub loop-place-init : goal.loop-place-init
unfolding kept_lines
loop-place-init c = sym (append-nil c.args.text.now)

pub loop-place-preserved : goal.loop-place-preserved
unfolding kept_lines
loop-place-preserved c =
    let kept = c.args.kept.now in
    let k = c.loop-place.place in
    let next : suc k ≡ k + 1 = omega arith in
    c.in_ok-write_kept.ensures
    ∙ ap (λ (t : List ℕ). t ++ kept_line kept (128 + k)) c.loop-place.invariant
    ∙ append_assoc c.args.text.now (kept_lines kept k) (kept_line kept (128 + k))
    ∙ ap (λ (n : ℕ). c.args.text.now ++ kept_lines kept n) next
