use Rattle.std.proofs.Common.{◌≡◌, ◌<◌, arith, length, get_or, refl, ap, ◌∙◌, Some, None}
use Rattle.std.proofs.lemmas.List.{get_or_default}
use Rattle.std.proofs.lemmas.Option.{slice_get_read}
use Rattle.std.specs.List.{slice_get}
use Rattle.j39_findings.specs.Standing.{smaller}
use Rattle.j39_findings.proofs.WhoStays.{entered, none_entered}
use Rattle.j39_findings.proofs.standing.firsts_of.Goals as goal

pub loop-unit-init : goal.loop-unit-init
loop-unit-init c = none_entered c.args.units.now

pub loop-unit-preserved : goal.loop-unit-preserved
loop-unit-preserved c =
    let unit = c.unit-item.result in
    let firsts = c.loop-unit.firsts in
    let at : slice_get c.args.units.now c.loop-unit.unit-index ≡ Some unit =
    slice_get_read c.args.units.now (length c.args.units.now) c.loop-unit.unit-index unit refl c.loop-unit-test.true c.unit-item.is in
    let place : c.from-place.result ≡ unit.address = c.from-place.ensures ∙ c.number.ensures.value in
    let inside : c.from-place.result < length firsts = omega (arith, c.loop-unit.invariant.size, place, unit.address_range) in
    let name : c.smaller.result ≡ smaller (get_or firsts unit.address None) unit.name =
    c.smaller.ensures ∙ ap (λ o. smaller o unit.name) (get_or_default firsts c.from-place.result c.index-firsts-place.result None inside)
    ∙ ap (λ k. smaller (get_or firsts k None) unit.name) place in
    rw (name, place) (entered c.args.units.now c.loop-unit.unit-index firsts c.loop-unit.invariant unit at)
