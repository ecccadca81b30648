use Rattle.std.proofs.Common.{◌++◌, ℕ, Bool, List, length, sym, ap, ◌∙◌, arith}
use Rattle.std.proofs.lemmas.List.{append-nil}
use Rattle.j39_signal.specs.Bits.{raw_of}
use Rattle.j39_signal.specs.declared.signal_parts.SignalParts.{SignalParts}
use Rattle.j39_signal.specs.Places.{further}
use Rattle.j39_signal.specs.State.{shown_of}
use Rattle.j39_signal.specs.declared.state.Shown.{Shown}
use Rattle.j39_log.specs.NamedReports.{NumberNames, named_record_line, named_record_lines, raw_text}
use Rattle.j39_log.specs.inside.NameTables.{named_by, names_in}
use Rattle.j39_log.proofs.NamedLists.{all_named, named_at, named_count, one_more_record_line, record_lines_of}
use Rattle.j39_log.proofs.RecordLists.{inside_at, stands_at}
use Rattle.j39_log.proofs.named_lines.GroupNamesRecordWriter.write_record.Goals as goal
use Rattle.j39_log.proofs.named_lines.GroupNamesRecordWriter.write_record.Goals.{then-is_repeated+in_ok-write_line, else-is_repeated}

pub show_further-shown-requires-clause-inside : goal.show_further-shown-requires-clause-inside
show_further-shown-requires-clause-inside c =
    inside_at (length c.args.at.bytes.now) c.args.at.behind _ c.args.at.signals.now c.loop-i.i c.index-signals-i.result c.requires.signals c.loop-i-test.true
    c.index-signals-i.is c.requires.inside (sym c.is_repeated.ensures ∙ c.if-is_repeated.true)

pub write_line-requires : goal.write_line-requires
write_line-requires c =
    let s : SignalParts = c.index-signals-i.result in
    let at = stands_at _ c.args.at.signals.now c.loop-i.i s c.requires.signals c.loop-i-test.true c.index-signals-i.is s in
    let shows = c.show_further-shown.ensures s ∙ ap (λ (t : SignalParts). shown_of t (raw_of c.args.at.bytes.now (further c.args.at.behind t))) at in
    shows ∙ ap (shown_of s) (sym (ap (λ (x : Shown). x.raw) shows))

pub loop-i-preserved : goal.loop-i-preserved
loop-i-preserved c =
    let tables = c.args.self.now.values.now in
    let signals = c.args.at.signals.now in
    let bytes = c.args.at.bytes.now in
    let behind = c.args.at.behind in
    let s : SignalParts = c.index-signals-i.result in
    let t = c.index-values-i.result in
    let i = c.loop-i.i in
    let old : List ℕ = c.loop-i.text in
    let parameters : NumberNames = names_in c.args.self.now.parameters.now in
    let at = named_at tables signals i s t c.requires.fits c.loop-i-test.true c.index-signals-i.is c.index-values-i.is in
    let count = named_count tables signals c.requires.fits in
    let less = c.loop-i-test.true in
    let line : ℕ → List ℕ = λ raw. named_record_line c.args.at.place s (raw_text parameters (s, names_in t) raw) in
    let own : List ℕ = line (raw_of bytes (further behind s)) in
    one_more_record_line parameters c.args.at.place behind (named_by tables signals) bytes old _ _ i (s, names_in t) (omega (arith, count, less)) at
    (elim c.if-is_repeated.branch [
      | then-is_repeated+in_ok-write_line w ↦
          let here = stands_at _ signals i s c.requires.signals less c.index-signals-i.is s in
          let shows = w.show_further-shown.ensures s ∙ ap (λ (x : SignalParts). shown_of x (raw_of bytes (further behind x))) here in
          w.text-is ∙ w.in_ok-write_line.ensures ∙ ap (λ (raw : ℕ). old ++ line raw) (ap (λ (x : Shown). x.raw) shows)
          ∙ ap (λ (b : Bool). old ++ record_lines_of b own) (sym (sym c.is_repeated.ensures ∙ w.if-is_repeated.true))
      | else-is_repeated w ↦
          w.text-is ∙ sym (ap (λ (b : Bool). old ++ record_lines_of b own) (sym c.is_repeated.ensures ∙ w.if-is_repeated.false) ∙ append-nil old)
    ])
    c.loop-i.invariant

pub returns : goal.returns
unfolding named_record_lines
returns c =
    rw (all_named c.args.self.now.values.now c.args.at.signals.now c.loop-i.i c.requires.fits c.loop-i-test.false, append-nil) at c.loop-i.invariant
