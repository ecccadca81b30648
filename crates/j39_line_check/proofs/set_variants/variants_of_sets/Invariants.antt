use Rattle.std.proofs.Common.{◌≡◌, drop, map}
use Rattle.j39_line_check.proofs.Enumerated.{begun_behind, begun}
use Rattle.j39_line_check.proofs.set_variants.variants_of_sets.Given as goal

abbrev pub invariant-loop-choice : goal.invariant-loop-choice
invariant-loop-choice l = begun_behind (map (λ s. s.items) l.sets) (map (λ v. v.items) l.all.items) (drop l.choice-index l.choices)
    ≡ begun (map (λ s. s.items) l.sets) l.choices
