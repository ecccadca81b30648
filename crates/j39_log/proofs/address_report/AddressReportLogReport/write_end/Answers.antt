use Rattle.std.proofs.Common.{◌++◌, ◌∙◌, ℕ, List, refl, sym, ap, subst}
use Rattle.std.proofs.lemmas.Result.{IfOk-weaker}
use Rattle.j39_id.specs.Lines.{Line}
use Rattle.j39_log.specs.ReadText.{ReadsLines, count_line, nothing_yet}
use Rattle.j39_log.proofs.LinesRead.{same_counts}
use Rattle.j39_log.proofs.address_report.AddressReportLogReport.write_end.Goals as goal

pub returns : goal.returns
returns c =
    IfOk-weaker c.write_counts.result _ _
    (λ _ written. λ ls reports log all are. (
      count_line all.past,
      record {
        past = all.past;
        reports = reports;
        read = subst (λ (read_lines : List Line). ReadsLines c.args._groups.now nothing_yet read_lines all.past reports) (sym are) all.read;
        text_is = refl;
      },
      written ∙ ap (λ (t : List ℕ). c.args.text.now ++ t) (same_counts c.args.self.now.listeners c.args.counts.now all.past all.recalls),
    ))
    c.write_counts.ensures
