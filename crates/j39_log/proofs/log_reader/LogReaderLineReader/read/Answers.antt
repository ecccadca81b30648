use Rattle.std.proofs.Common.{◌+◌, ◌^◌, ◌≡◌, ◌++◌, ◌∷◌, ℕ, true, List, [], sym, ap, subst}
use Rattle.std.proofs.lemmas.List.{append-nil}
use Rattle.std.proofs.lemmas.Result.{IfOk-weaker}
use Rattle.j39_id.specs.Lines.{Line, Long, Short, yields}
use Rattle.j39_id.specs.declared.cut.Cut.{Cut}
use Rattle.j39_stream.specs.LineReading.{IsSoFar}
use Rattle.j39_stream.specs.declared.verdict.Verdict.TheVariants.{Done}
use Rattle.j39_log.specs.LineCounting.{one_more_bad}
use Rattle.j39_log.specs.declared.line_counts.LineCounts.{LineCounts}
use Rattle.j39_log.proofs.LogReading.{Keeps, none_more, one_more, within_more}
use Rattle.j39_log.proofs.log_reader.LogReaderLineReader.read.Goals as goal

pub read_line-requires : goal.read_line-requires
read_line-requires g c = let (most, within, room) = c.requires.room in within_more c.args.self.now.counts most (2 ^ 62) room within.1

pub returns-in-More-clause-lines : goal.returns-in-More-clause-lines
returns-in-More-clause-lines g c before written kept =
    let self = c.args.self.now in
    let plan = self.groups.now in
    let Reported : List Line → List ℕ → Type 0 = g.R.LogReport.has_reported self.report.now plan self.counts in
    let IsText : List ℕ → List ℕ → Type 0 = g.R.LogReport.is_log_text self.report.now plan in
    subst
    (λ (cut : Cut). IsSoFar (Keeps Reported self.number self.text) (λ log text verdict. IsText log text × (verdict ≡ Done)) true self.text
    (before ++ yields cut c.args.line.now) written)
    (sym c.in-More.is)
    (none_more Reported IsText (g.met.R.LogReport.ends self.report.now plan self.counts) self.number self.text before written kept)

pub returns-in-Line-clause-lines : goal.returns-in-Line-clause-lines
returns-in-Line-clause-lines g c =
    let self = c.args.self.now in
    let plan = self.groups.now in
    let report = c.read_line.new.self in
    let counts = c.read_line.new.counts in
    let text = c.read_line.new.text in
    let Old : List Line → List ℕ → Type 0 = g.R.LogReport.has_reported self.report.now plan self.counts in
    let Reported : List Line → List ℕ → Type 0 = g.R.LogReport.has_reported report plan counts in
    let IsText : List ℕ → List ℕ → Type 0 = g.R.LogReport.is_log_text report plan in
    IfOk-weaker c.read_line.result _ _
    (λ _ reported. λ before written kept.
    subst
    (λ (cut : Cut). IsSoFar (Keeps Reported (self.number + 1) text) (λ log text verdict. IsText log text × (verdict ≡ Done)) true text
    (before ++ yields cut c.args.line.now) written)
    (sym c.in-Line.is)
    (one_more Reported IsText (g.met.R.LogReport.ends report plan counts) Old self.number (Short c.args.line.now) self.text text before written
    (reported before (written ++ self.text) (ap (λ (n : ℕ). n + 1) kept.0)) kept))
    c.read_line.ensures.reported

pub returns-in-Long-clause-lines : goal.returns-in-Long-clause-lines
returns-in-Long-clause-lines g c before written kept =
    let self = c.args.self.now in
    let plan = self.groups.now in
    let counts : LineCounts = one_more_bad self.counts in
    let Old : List Line → List ℕ → Type 0 = g.R.LogReport.has_reported self.report.now plan self.counts in
    let Reported : List Line → List ℕ → Type 0 = g.R.LogReport.has_reported self.report.now plan counts in
    let IsText : List ℕ → List ℕ → Type 0 = g.R.LogReport.is_log_text self.report.now plan in
    let reports : List ℕ = written ++ self.text in
    let long = g.met.R.LogReport.long_line self.report.now plan self.counts before reports kept.1 in
    subst
    (λ (cut : Cut). IsSoFar (Keeps Reported (self.number + 1) self.text) (λ log text verdict. IsText log text × (verdict ≡ Done)) true self.text
    (before ++ yields cut c.args.line.now) written)
    (sym c.in-Long.is)
    (one_more Reported IsText (g.met.R.LogReport.ends self.report.now plan counts) Old self.number Long self.text self.text before written
    (λ _. ([], subst (Reported (before ++ Long ∷ [])) (sym (append-nil reports)) long, sym (append-nil self.text))) kept)
