use Rattle.std.proofs.Common.{◌≡◌, ◌-◌, slice_index_or, arith}
use Rattle.std.proofs.lemmas.Grind.{common_steps}
use Rattle.j39_follow.proofs.Lines.TimeNumbers.{digit_at_place, number_with, number_until}
use Rattle.j39_follow.proofs.line.moment.number_of.Goals as goal

pub overflow_mul-number : goal.overflow_mul-number
overflow_mul-number c =
    omega (arith, c.loop-digit.invariant, number_until c.args.digits.now c.loop-digit.digit-index c.requires.digits c.requires.few)

pub overflow_sub-digit : goal.overflow_sub-digit
overflow_sub-digit c = omega (arith, digit_at_place c.args.digits.now c.loop-digit.digit-index c.requires.digits (omega arith))

pub overflow_add-number : goal.overflow_add-number
overflow_add-number c =
    let digit = digit_at_place c.args.digits.now c.loop-digit.digit-index c.requires.digits (omega arith) in
    let value : c.from.result ≡ slice_index_or c.args.digits.now c.loop-digit.digit-index 0 - 48 = grind (arith, common_steps) in
    omega (arith, c.loop-digit.invariant, digit, value, number_until c.args.digits.now c.loop-digit.digit-index c.requires.digits c.requires.few)

pub loop-digit-preserved : goal.loop-digit-preserved
loop-digit-preserved c =
    let value : c.from.result ≡ slice_index_or c.args.digits.now c.loop-digit.digit-index 0 - 48 = grind (arith, common_steps) in
    omega (arith, c.loop-digit.invariant, value, number_with c.args.digits.now c.loop-digit.digit-index c.requires.digits (omega arith))

pub returns-clause-room : goal.returns-clause-room
returns-clause-room c =
    let until = number_until c.args.digits.now c.loop-digit.digit-index c.requires.digits c.requires.few in
    omega (arith, c.loop-digit.invariant, until)
