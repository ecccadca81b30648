use Rattle.std.proofs.Common.{◌≡◌, ◌-◌, ◌*◌, ◌%◌, ◌^◌, ◌≤◌, sym, subst, rules, arith}
use Rattle.j39_signal.proofs.Steps.{at_least_two}
use Rattle.j39_signal.proofs.signal.Signal.all_ones.Goals as goal

pub returns-clause-some : goal.returns-clause-some
returns-clause-some c =
    let ones : 1 * 2 ^ c.bits.result % 18446744073709551616 - 1 ≡ 2 ^ c.args.self.now.bits - 1 = search rules in
    let some : 1 ≤ 2 ^ c.args.self.now.bits - 1 = omega (arith, at_least_two c.args.self.now.bits c.bits.ensures.ranges.some_bits) in
    subst (λ n. 1 ≤ n) (sym ones) some
