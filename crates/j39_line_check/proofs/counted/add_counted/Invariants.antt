use Rattle.std.proofs.Common.{◌++◌, List, take}
use Rattle.j39_line_findings.specs.Best.{AreBest}
use Rattle.j39_line_findings.specs.declared.witnessed.Witnessed.{Witnessed}
use Rattle.j39_line_check.specs.CountedFindings.{counted_of}
use Rattle.j39_line_check.proofs.counted.add_counted.Given as goal

abbrev pub invariant-loop-finding : goal.invariant-loop-finding
invariant-loop-finding l = (all : List Witnessed) → AreBest all l.initial.reported.items
    → AreBest (all ++ counted_of l.line l.full l.place l.variant (take l.finding-index l.findings)) l.reported.items
