use Rattle.std.proofs.Common.{◌≡◌, ◌∷◌, [], map, take}
use Rattle.j39_load.specs.LineLists.{lines_of_each}
use Rattle.j39_line_findings.specs.FullVariants.{full_of_need, line_with}
use Rattle.j39_line_findings.proofs.full.full_of_needs.Given as goal

abbrev pub invariant-loop-place : goal.invariant-loop-place
invariant-loop-place l = map (λ list. list.items) l.full.items
    ≡ lines_of_each (λ d need. full_of_need (line_with l.nevers l.line) l.alternatives d need ∷ []) 0 (take l.place l.needs)
