use Rattle.std.proofs.Common.{◌≡◌, length, get_or, false, ◌||◌, refl, sym, ap, ◌∙◌, Some}
use Rattle.std.proofs.lemmas.Option.{slice_get_read}
use Rattle.std.specs.List.{slice_get}
use Rattle.j39_findings.proofs.SharedAddresses.{none_shared, none_taken, shared_by_one_more, taken}
use Rattle.j39_findings.proofs.standing.shared_addresses.Goals.{then-shared-place, else-shared-place}
use Rattle.j39_findings.proofs.standing.shared_addresses.Goals as goal

pub loop-unit-init : goal.loop-unit-init
loop-unit-init c = (none_taken c.args.units.now, none_shared c.args.units.now)

pub loop-unit-preserved : goal.loop-unit-preserved
loop-unit-preserved c =
    let units = c.args.units.now in
    let unit = c.unit-item.result in
    let planned = c.loop-unit.planned in
    let shared = c.loop-unit.shared in
    let at : slice_get units c.loop-unit.unit-index ≡ Some unit =
    slice_get_read units (length units) c.loop-unit.unit-index unit refl c.loop-unit-test.true c.unit-item.is in
    let place : c.from-place.result ≡ unit.address = c.from-place.ensures ∙ c.number.ensures.value in
    let value : c.if-shared-place.shared ≡ get_or shared unit.address false || get_or planned unit.address false =
    elim (c.if-shared-place.branch) [
      | then-shared-place w ↦
          let was = ap (λ k. get_or shared k false) (sym place) ∙ w.if-shared-place.true in
          w.shared-is ∙ w.if-shared-place.true ∙ sym (ap (λ b. b || get_or planned unit.address false) was)
      | else-shared-place w ↦
          let was = ap (λ k. get_or shared k false) (sym place) ∙ w.if-shared-place.false in
          w.shared-is ∙ ap (λ k. get_or planned k false) place ∙ sym (ap (λ b. b || get_or planned unit.address false) was)
    ] in
    rw (value, place) (
      taken units c.loop-unit.unit-index planned c.loop-unit.invariant.0 unit at,
      shared_by_one_more units c.loop-unit.unit-index planned shared c.loop-unit.invariant.0 c.loop-unit.invariant.1 unit at,
    )
