use Rattle.std.proofs.Common.{◌∙◌, sym, subst}
use Rattle.std.proofs.lemmas.List.{take_more}
use Rattle.j39_findings.specs.declared.checking.finding.Finding.TheVariants.{SameName}
use Rattle.j39_line_findings.specs.declared.line_finding.LineFinding.TheVariants.{OfPlan}
use Rattle.j39_line_witnesses.specs.WitnessedFindings.{AreWitnessed}
use Rattle.j39_line_witnesses.proofs.found.found_of.Goals as goal

pub loop-finding-init : goal.loop-finding-init
loop-finding-init c = record { kept = c.in_ok-holes.ensures; reported = c.new-reported.ensures.items }

pub loop-finding-preserved : goal.loop-finding-preserved
loop-finding-preserved c = record {
  kept = c.in_ok-add_found.ensures.kept ∙ c.loop-finding.invariant.kept;
  reported =
      subst (λ findings. AreWitnessed c.args.line.now findings c.add_found.new.reported.items)
      (sym (take_more c.args.findings.now c.loop-finding.finding-index (OfPlan (SameName 0 0)) c.loop-finding-test.true))
      (c.in_ok-add_found.ensures.added _ c.loop-finding.invariant.reported);
}
