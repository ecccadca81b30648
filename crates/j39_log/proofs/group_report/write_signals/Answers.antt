use Rattle.std.proofs.Common.{arith}
use Rattle.std.proofs.lemmas.List.{append-nil, drop_all}
use Rattle.j39_log.specs.LogReports.{signal_lines}
use Rattle.j39_log.proofs.SignalLists.{one_more_line}
use Rattle.j39_log.proofs.group_report.write_signals.Goals as goal

pub loop-place-preserved : goal.loop-place-preserved
loop-place-preserved c =
    one_more_line c.args.signals.now c.args.bytes.now _ _ _ c.loop-place.place c.index-signals-place.result c.loop-place-test.true
    c.index-signals-place.is c.in_ok-write_single.ensures c.loop-place.invariant

pub returns : goal.returns
unfolding signal_lines
returns c =
    let done = drop_all c.loop-place.place c.args.signals.now (omega arith) in
    rw (done, append-nil) at c.loop-place.invariant
