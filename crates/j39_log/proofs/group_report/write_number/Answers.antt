use Rattle.std.proofs.Common.{w64, arith}
use Rattle.std.proofs.lemmas.Int.{ints, to_z-of_z}
use Rattle.j39_log.proofs.ValueLines.{one_digit}
use Rattle.j39_log.proofs.group_report.write_number.Goals as goal

pub returns-then-magnitude-lt10 : goal.returns-then-magnitude-lt10
returns-then-magnitude-lt10 c =
    let size = rw (to_z-of_z w64 c.args.value c.ranges.value) at c.unsigned_abs-magnitude.ensures.value in
    let text = one_digit c.args.value (grind (arith, ints, c.if-value-ge0.true)) (omega (arith, size)) in
    rw (c.if-per-eq1.true, text) (rw size at c.bytes.ensures)
