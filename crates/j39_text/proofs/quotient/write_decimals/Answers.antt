use Rattle.std.proofs.Common.{◌-◌, ◌+◌, arith}
use Rattle.j39_text.specs.Decimals.{most_decimals}
use Rattle.j39_text.proofs.Decimals.{ended, finished, goes-on}
use Rattle.j39_text.proofs.quotient.write_decimals.Goals as goal

pub returns-then-left-eq0 : goal.returns-then-left-eq0
returns-then-left-eq0 c = ended _ _ _ c.loop-done.left c.args.per (omega arith) (omega arith) c.loop-done.invariant.written

pub loop-done-preserved : goal.loop-done-preserved
loop-done-preserved c =
    let further =
    goes-on c.loop-done.text c.bytes.new.self _ (most_decimals - c.loop-done._done) (most_decimals - (c.loop-done._done + 1)) c.loop-done.left c.args.per
    (omega arith) (omega arith) c.loop-done.invariant.proper c.loop-done.invariant.whole (c.in_ok-bytes.ensures {u = tt}) c.loop-done.invariant.written
    in
    record {
      proper = omega arith;
      whole = further.0;
      written = further.1;
    }

pub returns : goal.returns
returns c = finished _ _ _ _ (omega arith) c.loop-done.invariant.written
