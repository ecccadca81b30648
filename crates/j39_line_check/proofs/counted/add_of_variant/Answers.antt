use Rattle.std.proofs.Common.{◌++◌, subst}
use Rattle.j39_line_findings.specs.Best.{AreBest}
use Rattle.j39_line_check.specs.CountedFindings.{counted_of}
use Rattle.j39_line_check.proofs.counted.add_of_variant.Goals as goal

pub returns : goal.returns
returns c all best = (
  c.in_ok-findings.findings.items,
  c.in_ok-findings.ensures,
  subst (λ fs. AreBest (all ++ counted_of c.args.line.now c.args.full.now c.args.place c.args.variant.now fs) c.add_counted.new.reported.items)
      c.deref.ensures.value (c.in_ok-add_counted.ensures all best),
)
