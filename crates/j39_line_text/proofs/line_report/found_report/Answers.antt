use Rattle.std.proofs.Common.{sym, ◌∙◌}
use Rattle.j39_line_text.proofs.CertifiedVariants.{certified_line}
use Rattle.j39_line_text.proofs.line_report.found_report.Goals as goal

pub returns : goal.returns
returns c some are = (
  certified_line c.args.line.now c.args.many c.args.reported.now c.variants_without_findings_are_certified.ensures
      (sym c.is_some_reported.ensures ∙ c.if-is_some_reported.false) some are,
  c.in_ok-text-2.ensures,
)
