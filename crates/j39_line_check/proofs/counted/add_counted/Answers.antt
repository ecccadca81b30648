use Rattle.std.proofs.Common.{◌≡◌, ◌+◌, ◌++◌, List, false, get_or, take, true, sym, subst, ◌∙◌}
use Rattle.std.proofs.lemmas.List.{append-nil, take_all}
use Rattle.j39_findings.specs.declared.checking.finding.Finding.TheVariants.{SameName}
use Rattle.j39_line_findings.specs.Best.{AreBest}
use Rattle.j39_line_findings.specs.declared.line_finding.LineFinding.{LineFinding}
use Rattle.j39_line_findings.specs.declared.line_finding.LineFinding.TheVariants.{OfPlan}
use Rattle.j39_line_findings.specs.declared.witnessed.Witnessed.{Witnessed}
use Rattle.j39_line_check.specs.CountedFindings.{counted_of, is_looked_for}
use Rattle.j39_line_check.proofs.CountedOfVariants.{counted_next, counted_past}
use Rattle.j39_line_check.proofs.counted.add_counted.Goals.{then-is_looked_for+in_ok-add, else-is_looked_for}
use Rattle.j39_line_check.proofs.counted.add_counted.Goals as goal

pub loop-finding-init : goal.loop-finding-init
loop-finding-init c all best = subst (λ ws. AreBest ws c.args.reported.now.items) (sym (append-nil all)) best

pub loop-finding-preserved : goal.loop-finding-preserved
loop-finding-preserved c all best =
    let i = c.loop-finding.finding-index in
    let first : LineFinding = OfPlan (SameName 0 0) in
    let of = counted_of c.args.line.now c.args.full.now c.args.place c.args.variant.now in
    let before : List Witnessed = all ++ of (take i c.args.findings.now) in
    elim c.if-is_looked_for.branch [
      | then-is_looked_for+in_ok-add w ↦
          let here : is_looked_for c.args.line.now c.args.full.now c.args.variant.now (get_or c.args.findings.now i first) ≡ true =
          sym c.is_looked_for.ensures ∙ w.if-is_looked_for.true in
          subst (λ reported. AreBest (all ++ of (take (i + 1) c.args.findings.now)) reported.items) (sym w.reported-is)
          (subst (λ ws. AreBest ws w.add.new.reported.items)
          (counted_next c.args.line.now c.args.full.now all c.args.place c.args.variant.now c.args.findings.now i first c.loop-finding-test.true here)
          (w.in_ok-add.ensures before (c.loop-finding.invariant all best)))
      | else-is_looked_for w ↦
          let none : is_looked_for c.args.line.now c.args.full.now c.args.variant.now (get_or c.args.findings.now i first) ≡ false =
          sym c.is_looked_for.ensures ∙ w.if-is_looked_for.false in
          subst (λ reported. AreBest (all ++ of (take (i + 1) c.args.findings.now)) reported.items) (sym w.reported-is)
          (subst (λ ws. AreBest ws c.loop-finding.reported.items)
          (counted_past c.args.line.now c.args.full.now all c.args.place c.args.variant.now c.args.findings.now i first c.loop-finding-test.true none)
          (c.loop-finding.invariant all best))
    ]

pub returns : goal.returns
returns c all best =
    subst (λ fs. AreBest (all ++ counted_of c.args.line.now c.args.full.now c.args.place c.args.variant.now fs) c.loop-finding.reported.items)
    (take_all c.loop-finding.finding-index c.args.findings.now c.loop-finding-test.false) (c.loop-finding.invariant all best)
