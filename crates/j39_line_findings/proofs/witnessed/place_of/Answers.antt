use Rattle.std.proofs.Common.{false, sym, ◌∙◌}
use Rattle.j39_findings.specs.declared.checking.finding.Finding.TheVariants.{SameName}
use Rattle.j39_line_findings.specs.declared.line_finding.LineFinding.TheVariants.{OfPlan}
use Rattle.j39_line_findings.proofs.Witnesses.{one_more_before}
use Rattle.j39_line_findings.proofs.witnessed.place_of.Goals as goal

pub loop-place-preserved : goal.loop-place-preserved
loop-place-preserved c =
    one_more_before c.args.reported.now c.loop-place.place (record { finding = OfPlan (SameName 0 0); variant = 0; counted = false }) c.args.rank
    c.loop-place-test.true c.loop-place.invariant (sym c.comes_before.ensures ∙ c.if-not-comes_before.false)
