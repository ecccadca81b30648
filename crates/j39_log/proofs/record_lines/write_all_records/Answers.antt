use Rattle.std.proofs.Common.{◌≡◌, ◌*◌, ◌+◌, ◌++◌, ℕ, List, length, sym, ap, ◌∙◌, arith}
use Rattle.std.proofs.lemmas.List.{append-nil}
use Rattle.j39_network.specs.Records.{record_count}
use Rattle.j39_log.specs.LogReports.{lines_of_records, of_records}
use Rattle.j39_log.proofs.RecordLists.{one_more_record, record_inside}
use Rattle.j39_log.proofs.record_lines.write_all_records.Goals as goal

pub loop-record-init : goal.loop-record-init
unfolding of_records
loop-record-init g c = sym (append-nil c.args.text.now)

pub write_record-requires-clause-inside : goal.write_record-requires-clause-inside
write_record-requires-clause-inside g c =
    rw (c.from.ensures, c.as_slice-signals.ensures.value) (record_inside c.args.group.now c.args.every (length c.args.bytes.now) _ c.loop-record.record
    c.requires.every c.record_count-count.ensures c.loop-record-test.true)

pub loop-record-preserved : goal.loop-record-preserved
loop-record-preserved g c =
    let lines : ℕ → ℕ → List ℕ = g.R.RecordWriter.lines c.args.writer.now c.args.group.now.signals.items c.args.bytes.now in
    one_more_record (λ behind. lines (behind + 1) (c.args.every * behind))
    c.args.text.now _ _ c.loop-record.record c.loop-record.invariant (rw (c.from.ensures, c.as_slice-signals.ensures.value) at c.in_ok-write_record.ensures)

pub returns : goal.returns
returns g c =
    let lines : ℕ → ℕ → List ℕ = g.R.RecordWriter.lines c.args.writer.now c.args.group.now.signals.items c.args.bytes.now in
    let all : c.loop-record.record ≡ record_count c.args.group.now (length c.args.bytes.now) =
    omega (arith, c.record_count-count.ensures, c.loop-record-test.false, c.loop-record.auto.record-end) in
    c.loop-record.invariant ∙ ap (λ (n : ℕ). c.args.text.now ++ lines_of_records lines c.args.every n) all
