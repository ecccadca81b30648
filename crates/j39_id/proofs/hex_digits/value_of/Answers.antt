use Rattle.std.proofs.Common.{refl}
use Rattle.j39_id.proofs.DigitTable.{entry-none, entry-value, values}
use Rattle.j39_id.proofs.hex_digits.value_of.Goals as goal

pub returns-then-value : goal.returns-then-value
returns-then-value c =
    rw c.from-then-value.ensures (entry-none values c.from.result c.args.digit c.args.at refl c.from.ensures c.ranges.digit.fits c.if-value.true)

pub returns : goal.returns
returns c = entry-value values c.from.result c.args.digit c.args.at refl c.from.ensures c.ranges.digit.fits c.if-value.false
