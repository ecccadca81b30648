use Rattle.std.proofs.Common.{◌≡◌, ◌++◌, List, map, append_assoc, ap, refl, ◌∙◌}
use Rattle.j39_answer.proofs.Answered.{load_wrong}
use Rattle.j39_answer.specs.PlanAnswers.{load_findings_in}
use Rattle.j39_findings.specs.Found.{found}
use Rattle.j39_findings.specs.declared.checking.finding.Finding.{Finding}
use Rattle.j39_findings.specs.declared.checking.finding.Finding.TheVariants.{NeedUnmet}
use Rattle.j39_load.specs.declared.findings.load_finding.LoadFinding.{LoadFinding}
use Rattle.j39_line_findings.specs.InFile.{finding_in_file, load_finding_in_file}
use Rattle.j39_line_findings.specs.There.{missed_needs}
use Rattle.j39_line_findings.specs.declared.line_finding.LineFinding.{LineFinding}
use Rattle.j39_line_findings.specs.declared.line_finding.LineFinding.TheVariants.{OfPlan, OfLoad}
use Rattle.j39_line_findings.proofs.found.VariantAnswer.findings.Goals as goal

pub returns : goal.returns
returns c =
    let known = c.args.self.now in
    let there = known.there in
    let others = load_findings_in known.answer in
    let first : c.in_ok-findings.findings.items ≡ map (λ (f : Finding). OfPlan (finding_in_file there f)) (found known.plan) =
    rw (c.deref.ensures.value, c.requires.is_answer.listed) at c.in_ok-findings.ensures in
    let second : c.deref-2.result.now ≡ map (λ (f : LoadFinding). OfLoad (load_finding_in_file there f)) others =
    c.deref-2.ensures.value ∙ (rw c.load_findings-others.ensures at c.in_ok-others_in_file.ensures) in
    let third : c.deref-4.result.now ≡ map (λ d. OfPlan (NeedUnmet d)) (missed_needs c.args.line.now c.args.variant.now) =
    c.deref-4.ensures.value ∙ (rw (c.deref-3.ensures.value, c.in_ok-needs.ensures) at c.in_ok-missed.ensures) in
    record {
      there = there;
      is_there = c.requires.is_there;
      plan = known.plan;
      is_plan = c.requires.is_plan;
      others = others;
      are_others = load_wrong known.plan known.answer c.requires.is_answer;
      are_all =
          c.in_ok-extend_from_slice-2.ensures.items
          ∙ ap (λ (xs : List LineFinding). xs ++ c.deref-4.result.now) c.in_ok-extend_from_slice.ensures.items
          ∙ append_assoc c.in_ok-findings.findings.items c.deref-2.result.now c.deref-4.result.now
          ∙ (rw (first, second, third) refl);
    }
