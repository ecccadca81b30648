use Rattle.std.proofs.Common.{arith}
use Rattle.j39_audit.proofs.Singling.{meant_none, meant_read, meant_whole}
use Rattle.j39_audit.proofs.flow_marks.flows_meant.Goals as goal

pub loop-place-init : goal.loop-place-init
loop-place-init c = meant_none _ _ _ _ c.nothing-meant.ensures

pub loop-place-preserved : goal.loop-place-preserved
loop-place-preserved c =
    meant_read
    (omega (
      arith,
      c.len-place-end.ensures,
      c.loop-place-test.true,
    )) c.index-flow.ensures c.is_of-is_meant.ensures c.meant_with-meant.ensures c.loop-place.invariant

pub returns : goal.returns
returns c = meant_whole (omega (arith, c.len-place-end.ensures, c.loop-place-test.false, c.loop-place.auto)) c.loop-place.invariant
