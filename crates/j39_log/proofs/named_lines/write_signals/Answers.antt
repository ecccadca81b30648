use Rattle.std.proofs.Common.{arith}
use Rattle.std.proofs.lemmas.List.{append-nil}
use Rattle.j39_signal.specs.declared.signal_parts.SignalParts.{SignalParts}
use Rattle.j39_log.specs.NamedReports.{named_signal_lines}
use Rattle.j39_log.specs.inside.NameTables.{named_by, names_in}
use Rattle.j39_log.proofs.NamedLists.{all_named, named_at, named_count, one_more_line}
use Rattle.j39_log.proofs.named_lines.write_signals.Goals as goal

pub loop-place-preserved : goal.loop-place-preserved
loop-place-preserved c =
    let s : SignalParts = c.index-signals-place.result in
    let i = c.loop-place.place in
    let tables = c.args.values.now in
    let signals = c.args.signals.now in
    let t = c.index-values-place.result in
    let at = named_at tables signals i s t c.requires.names c.loop-place-test.true c.index-signals-place.is c.index-values-place.is in
    let count = named_count tables signals c.requires.names in
    let less = c.loop-place-test.true in
    one_more_line (names_in c.args.parameters.now) (named_by tables signals) c.args.bytes.now _ _ _ i (s, names_in t)
    (omega (arith, count, less)) at c.in_ok-write_single.ensures c.loop-place.invariant

pub returns : goal.returns
unfolding named_signal_lines
returns c =
    rw (all_named c.args.values.now c.args.signals.now c.loop-place.place c.requires.names c.loop-place-test.false, append-nil) at c.loop-place.invariant
