use Rattle.std.proofs.Common.{◌≡◌, ◌++◌, ℕ, ap, ◌∙◌, arith}
use Rattle.j39_audit.specs.Below.{each_below}
use Rattle.j39_audit.specs.inside.Auditing.{seen_at, seen_places, tallied}
use Rattle.j39_audit.proofs.Writing.{text_more, text_none}
use Rattle.j39_audit.proofs.summary.write_all_seen.Goals as goal

pub loop-place-init : goal.loop-place-init
loop-place-init c = text_none _ _

pub loop-place-preserved : goal.loop-place-preserved
loop-place-preserved c =
    text_more _ _ _ (seen_at c.args.word c.args.plan.now (tallied c.args.log.now)) c.loop-place.place c.loop-place.invariant c.in_ok-write_seen.ensures

pub returns : goal.returns
returns c =
    let count = c.seen_places-place-end.ensures in
    let done = c.loop-place-test.false in
    let auto = c.loop-place.auto.place-end in
    let end : c.loop-place.place ≡ seen_places c.args.word c.args.plan.now = omega (arith, count, done, auto) in
    c.loop-place.invariant ∙ ap (λ (n : ℕ). c.args.text.now ++ each_below (seen_at c.args.word c.args.plan.now (tallied c.args.log.now)) n) end
