use Rattle.std.proofs.Common.{◌≡◌, true, false, length, refl, sym, ◌∙◌, Some}
use Rattle.std.proofs.lemmas.Bool.{true≢false}
use Rattle.std.proofs.lemmas.Option.{slice_get_read}
use Rattle.std.specs.List.{slice_get}
use Rattle.j39_findings.specs.Standing.{is_mover_by}
use Rattle.j39_findings.proofs.WhoStays.{least_skips, least_takes}
use Rattle.j39_findings.proofs.standing.mover_of.Goals.{then-is_mover, else-is_mover}
use Rattle.j39_findings.proofs.standing.mover_of.Goals as goal

pub loop-unit-preserved : goal.loop-unit-preserved
loop-unit-preserved c =
    let units = c.args.units.now in
    let unit = c.unit-item.result in
    let at : slice_get units c.loop-unit.unit-index ≡ Some unit =
    slice_get_read units (length units) c.loop-unit.unit-index unit refl c.loop-unit-test.true c.unit-item.is in
    elim (c.if-is_mover.branch) [
      | then-is_mover w ↦
          let moves : is_mover_by c.args.firsts.now unit ≡ true = sym c.is_mover.ensures ∙ w.if-is_mover.true in
          rw (w.mover-is, w.smaller.ensures)
          (least_takes units c.loop-unit.unit-index (λ u. is_mover_by c.args.firsts.now u ≡ true) c.loop-unit.mover c.loop-unit.invariant unit at moves)
      | else-is_mover w ↦
          let stays : is_mover_by c.args.firsts.now unit ≡ false = sym c.is_mover.ensures ∙ w.if-is_mover.false in
          rw (w.mover-is)
          (least_skips units c.loop-unit.unit-index (λ u. is_mover_by c.args.firsts.now u ≡ true) c.loop-unit.mover c.loop-unit.invariant unit at
          (λ moves. true≢false (sym moves ∙ stays)))
    ]
