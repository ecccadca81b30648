use Rattle.std.proofs.Common.{◌≡◌, ◌-◌, slice_index_or, sym, ◌∙◌, arith}
use Rattle.std.proofs.lemmas.Grind.{common_steps}
use Rattle.j39_schedule.proofs.Numbers.{digit_at_place, number_with, number_until}
use Rattle.j39_schedule.proofs.messages.number_of.Goals as goal

pub overflow_mul-number : goal.overflow_mul-number
overflow_mul-number c = omega (
  arith,
  c.loop-digit.invariant,
  number_until c.args.text.now c.loop-digit.digit-index
      (sym c.is_number.ensures ∙ c.if-not-is_number.false),
)

pub overflow_sub-digit : goal.overflow_sub-digit
overflow_sub-digit c = omega (arith, digit_at_place c.args.text.now c.loop-digit.digit-index (sym c.is_number.ensures ∙ c.if-not-is_number.false) (omega arith))

pub overflow_add-number : goal.overflow_add-number
overflow_add-number c =
    let is = sym c.is_number.ensures ∙ c.if-not-is_number.false in
    let digit = digit_at_place c.args.text.now c.loop-digit.digit-index is (omega arith) in
    let value : c.from.result ≡ slice_index_or c.args.text.now c.loop-digit.digit-index 0 - 48 = grind (arith, common_steps) in
    omega (arith, c.loop-digit.invariant, digit, value, number_until c.args.text.now c.loop-digit.digit-index is)

pub loop-digit-preserved : goal.loop-digit-preserved
loop-digit-preserved c =
    let is = sym c.is_number.ensures ∙ c.if-not-is_number.false in
    let value : c.from.result ≡ slice_index_or c.args.text.now c.loop-digit.digit-index 0 - 48 = grind (arith, common_steps) in
    omega (arith, c.loop-digit.invariant, value, number_with c.args.text.now c.loop-digit.digit-index is (omega arith))
