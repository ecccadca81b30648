use Rattle.std.proofs.Common.{rules, ◌≡◌, ◌<◌, ◌+◌, ℕ, subst, sym}
use Rattle.j39_load.specs.inside.AskedShares.{digit_at, digit_base, less_with}
use Rattle.j39_load.proofs.AskedShares.{IsLess, less_more, none_less}
use Rattle.j39_load.proofs.findings.asked_share.is_less.Goals as goal

pub loop-place-init : goal.loop-place-init
loop-place-init c = none_less c.args.number.now c.args.other.now

pub loop-place-preserved : goal.loop-place-preserved
loop-place-preserved c =
    let k : ℕ = c.loop-place.place in
    let number = c.args.number.now in
    let other = c.args.other.now in
    let is : c.is_less_with-less.result ≡ less_with c.loop-place.less (digit_at number k) (digit_at other k) = search rules in
    let small : digit_at number k < digit_base = search rules in
    let other_small : digit_at other k < digit_base = search rules in
    subst (IsLess number other (k + 1)) (sym is) (less_more number other k c.loop-place.less c.loop-place.invariant small other_small)
