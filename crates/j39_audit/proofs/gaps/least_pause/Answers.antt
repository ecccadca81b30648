use Rattle.std.proofs.Common.{◌≡◌, ℕ, Option, length, sym, ap, ◌∙◌, arith}
use Rattle.j39_audit.specs.Below.{least_below, lesser_of}
use Rattle.j39_audit.specs.Gaps.{least_pause, single_pause}
use Rattle.j39_audit.proofs.Below.{least_more, least_none}
use Rattle.j39_audit.proofs.gaps.least_pause.Goals as goal

pub loop-place-init : goal.loop-place-init
loop-place-init c = sym (least_none (single_pause c.args.plan.now))

pub loop-place-preserved : goal.loop-place-preserved
loop-place-preserved c =
    c.lesser-least.ensures ∙ ap (λ (o : Option ℕ). lesser_of o c.single_pause.result) c.loop-place.invariant
    ∙ ap (lesser_of (least_below (single_pause c.args.plan.now) c.loop-place.place)) c.single_pause.ensures
    ∙ sym (least_more (single_pause c.args.plan.now) c.loop-place.place)

pub returns : goal.returns
unfolding least_pause
returns c =
    let count = c.len-place-end.ensures in
    let test = c.loop-place-test.false in
    let end : c.loop-place.place ≡ length c.args.plan.now.flows.items = omega (arith, count, test) in
    c.loop-place.invariant ∙ ap (least_below (single_pause c.args.plan.now)) end
