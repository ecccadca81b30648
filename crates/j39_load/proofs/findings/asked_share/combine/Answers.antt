use Rattle.std.proofs.Common.{rules, ◌≡◌, ◌<◌, ◌+◌, ◌*◌, ℕ, refl}
use Rattle.j39_load.specs.inside.AskedShares.{digit_at, digit_base}
use Rattle.j39_load.proofs.AskedShares.{combined_more, none_combined}
use Rattle.j39_load.proofs.findings.asked_share.combine.Goals as goal

pub loop-place-init : goal.loop-place-init
loop-place-init c = none_combined c.args.number.now c.args.other.now c.args.times c.args.other_times

pub loop-place-preserved : goal.loop-place-preserved
loop-place-preserved c =
    let k : ℕ = c.loop-place.place in
    let now = c.loop-place.number in
    let other = c.args.other.now in
    let sum : ℕ = c.from.result * c.from-in-loop-place.result + c.from-in-loop-place-2.result * c.from-in-loop-place-3.result + c.loop-place.over in
    let is : sum ≡ c.args.times * digit_at now k + c.args.other_times * digit_at other k + c.loop-place.over =
    rw (c.from.ensures, c.from-in-loop-place.ensures, c.from-in-loop-place-2.ensures, c.from-in-loop-place-3.ensures) refl in
    let small : digit_at now k < digit_base = search rules in
    let other_small : digit_at other k < digit_base = search rules in
    combined_more now c.args.number.now other c.args.times c.args.other_times k c.loop-place.over sum (search rules) c.loop-place.invariant is small other_small
