use Rattle.std.proofs.Common.{append_assoc}
use Rattle.j39_plan_text.specs.CheckText.{listed_text}
use Rattle.j39_plan_text.proofs.plan_report.write_found.Goals as goal

pub returns : goal.returns
unfolding listed_text
returns c =
    simp (
      c.in_ok-write_lines.ensures,
      c.in_ok-write_load_findings.ensures,
      c.in_ok-write_lines-2.ensures,
      c.in_ok-write_load_findings-2.ensures,
      c.in_ok-write_lines-3.ensures,
      append_assoc,
    ) at c.write_load_findings-3.ensures
