use Rattle.std.proofs.Common.{◌++◌, ℕ, List, length, true, sym, ap, ◌∙◌, arith}
use Rattle.std.proofs.lemmas.List.{append-nil, drop_all}
use Rattle.j39_signal.specs.Bits.{raw_of}
use Rattle.j39_signal.specs.declared.signal_parts.SignalParts.{SignalParts}
use Rattle.j39_signal.specs.Places.{further}
use Rattle.j39_signal.specs.State.{state_of}
use Rattle.j39_signal.specs.declared.state.State.{State}
use Rattle.j39_log.specs.LogReports.{record_line, record_lines}
use Rattle.j39_log.proofs.RecordLists.{inside_at, no_signal, one_more_signal, one_signal, stands_at}
use Rattle.j39_log.proofs.record_lines.NoNamesRecordWriter.write_record.Goals as goal
use Rattle.j39_log.proofs.record_lines.NoNamesRecordWriter.write_record.Goals.{then-is_repeated+in_ok-write_line, else-is_repeated}

pub read_further-state-requires-clause-inside : goal.read_further-state-requires-clause-inside
read_further-state-requires-clause-inside c =
    inside_at (length c.args.at.bytes.now) c.args.at.behind _ c.args.at.signals.now c.loop-i.i c.index-signals-i.result c.requires.signals c.loop-i-test.true
    c.index-signals-i.is c.requires.inside (sym c.is_repeated.ensures ∙ c.if-is_repeated.true)

pub loop-i-preserved : goal.loop-i-preserved
loop-i-preserved c =
    let s : SignalParts = c.index-signals-i.result in
    let signals = c.args.at.signals.now in
    let bytes = c.args.at.bytes.now in
    let place = c.args.at.place in
    let behind = c.args.at.behind in
    let old : List ℕ = c.loop-i.text in
    one_more_signal place behind signals bytes old _ _ c.loop-i.i s c.loop-i-test.true c.index-signals-i.is
    (elim c.if-is_repeated.branch [
      | then-is_repeated+in_ok-write_line w ↦
          let at = stands_at _ signals c.loop-i.i s c.requires.signals c.loop-i-test.true c.index-signals-i.is s in
          let reads = w.read_further-state.ensures s ∙ ap (λ (t : SignalParts). state_of t (raw_of bytes (further behind t))) at in
          let line = ap (λ (state : State). record_line place s state) reads ∙ sym
          (one_signal place behind s bytes (sym c.is_repeated.ensures ∙ w.if-is_repeated.true)) in
          w.text-is ∙ w.in_ok-write_line.ensures ∙ ap (λ (t : List ℕ). old ++ t) line
      | else-is_repeated w ↦
          w.text-is
          ∙ sym (ap (λ (t : List ℕ). old ++ t) (no_signal place behind s bytes (sym c.is_repeated.ensures ∙ w.if-is_repeated.false)) ∙ append-nil old)
    ])
    c.loop-i.invariant

pub returns : goal.returns
unfolding record_lines
returns c =
    let done = drop_all c.loop-i.i c.args.at.signals.now (omega arith) in
    rw (done, append-nil) at c.loop-i.invariant
