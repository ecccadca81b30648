use Rattle.std.proofs.Common.{◌++◌, ◌∙◌, List, ℕ, refl, sym, ap, subst, append_assoc}
use Rattle.j39_log.proofs.log_reader.LogReaderLineReader.close.Goals as goal

pub returns-clause-text : goal.returns-clause-text
returns-clause-text g c = λ log ls written read all.
    let self = c.args.self.now in
    let end = c.in_ok-write_end.ensures ls (written ++ self.text) log read.1 all in (
      subst (g.R.LogReport.is_log_text self.report.now self.groups.now log)
          (append_assoc written self.text end.0 ∙ sym (ap (λ (t : List ℕ). written ++ t) end.2)) end.1,
      refl,
    )
