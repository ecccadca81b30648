use Rattle.std.proofs.Common.{length, refl, sym, arith}
use Rattle.std.proofs.lemmas.Option.{slice_get_past, slice_get_read}
use Rattle.j39_follow.proofs.address.directory.name_of.Goals as goal

pub returns-then-place-len : goal.returns-then-place-len
returns-then-place-len c =
    let units = c.args.plan.now.units.items in
    let unit = c.index-unit.result.now in
    let less = c.if-place-len.true in
    let count = c.len.ensures in
    (unit, slice_get_read units (length units) c.args.place unit refl (omega (arith, less, count)) c.index-unit.ensures, sym c.to_bits.ensures.value)

pub returns-else-place-len : goal.returns-else-place-len
returns-else-place-len c =
    let past = c.if-place-len.false in
    let count = c.len.ensures in
    slice_get_past c.args.plan.now.units.items c.args.place (omega (arith, past, count))
