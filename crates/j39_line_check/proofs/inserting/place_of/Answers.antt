use Rattle.std.proofs.Common.{◌≡◌, ◌≤◌, ◌-◌, false, length, arith, sym, ◌∙◌}
use Rattle.j39_line_findings.specs.InFile.{is_below, rank_of}
use Rattle.j39_line_check.proofs.ReportedInOrder.{one_more_behind}
use Rattle.j39_line_check.proofs.inserting.place_of.Goals as goal

pub loop-place-preserved : goal.loop-place-preserved
loop-place-preserved c =
    let none : is_below (rank_of c.index-reported-place.result.finding) c.args.rank ≡ false = sym c.comes_before.ensures ∙ c.if-not-comes_before.true in (
      (let inside = c.loop-place.invariant.0 in omega (arith, inside)),
      one_more_behind c.args.reported.now c.loop-place.place c.index-reported-place.result c.args.rank c.loop-place-test.true c.loop-place.invariant.0
          c.index-reported-place.is c.loop-place.invariant.1 none,
    )
