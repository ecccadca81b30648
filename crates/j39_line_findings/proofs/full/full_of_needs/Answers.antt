use Rattle.std.proofs.Common.{◌∷◌, ◌++◌, [], ℕ, List, map, take, sym, ap, ◌∙◌}
use Rattle.std.proofs.lemmas.List.{map-append}
use Rattle.j39_load.proofs.Before.{more}
use Rattle.j39_load.specs.LineLists.{lines_of_each}
use Rattle.j39_network.specs.declared.plan.need_plan.NeedPlan.{NeedPlan}
use Rattle.j39_variants.specs.declared.line.Alternative.{Alternative}
use Rattle.j39_line_findings.specs.FullVariants.{full_of_need, line_with}
use Rattle.j39_line_findings.proofs.full.full_of_needs.Goals as goal

pub loop-place-init : goal.loop-place-init
unfolding lines_of_each
loop-place-init c = ap (map (λ list. list.items)) c.new-full.ensures.items

pub loop-place-preserved : goal.loop-place-preserved
loop-place-preserved c =
    let one : ℕ → NeedPlan → List (List Alternative) = λ d need. full_of_need (line_with c.args.nevers c.args.line.now) c.args.alternatives.now d need ∷ [] in
    let k = c.loop-place.place in
    let before : List (List Alternative) = lines_of_each one 0 (take k c.args.needs.now) in
    rw c.in_ok-push.ensures.items
    (map-append (λ list. list.items) c.loop-place.full.items (c.in_ok-full_of_need.field-0 ∷ [])
    ∙ ap (λ (xs : List (List Alternative)). xs ++ c.in_ok-full_of_need.field-0.items ∷ []) c.loop-place.invariant
    ∙ ap (λ (x : List Alternative). before ++ x ∷ [])
    (c.in_ok-full_of_need.ensures ∙ ap (full_of_need (line_with c.args.nevers c.args.line.now) c.args.alternatives.now k) c.index-needs-place.is)
    ∙ sym (more one k c.args.needs.now c.index-needs-place.result c.loop-place-test.true))
