-- A variant has what is one of its findings, whatever these are.
use Rattle.std.proofs.Common.{ℕ, List}
use Rattle.j39_variants.specs.declared.line.ProductLine.{ProductLine}
use Rattle.j39_line_findings.specs.declared.line_finding.LineFinding.{LineFinding}
use Rattle.j39_line_laws.proofs.VariantsExist.{some_findings}
use Rattle.j39_line_check.specs.LineChecks.{HasAtAnyRate, HasIt}

pub had : (line : ProductLine) (v : List ℕ) (f : LineFinding) → HasAtAnyRate line v f → HasIt line v f
had line v f at_any_rate =
    let found = some_findings line v in
    record { possible = at_any_rate.possible; findings = found.0; are_findings = found.1; one = at_any_rate.one found.0 found.1 }
