use Rattle.std.proofs.Common.{◌≡◌, ◌+◌, ◌-◌, ◌^◌, ◌∷◌, ◌++◌, [], List, map, min, sum, take, refl, sym, ap, ◌∙◌}
use Rattle.std.proofs.lemmas.List.{take_all}
use Rattle.j39_variants.specs.declared.line.Alternative.{Alternative}
use Rattle.j39_line_check.specs.SetVariants.{variants_of_set}
use Rattle.j39_line_check.proofs.Counts.{min_plus, sum_more}
use Rattle.j39_line_check.proofs.Filters.{one_more}
use Rattle.j39_line_check.proofs.full_sets.number_of_variants.Goals as goal

pub loop-set-preserved : goal.loop-set-preserved
loop-set-preserved c =
    let g = variants_of_set c.args.line.now.choices.items in
    let i = c.loop-set.set-index in
    let before : List (List Alternative) = map (λ s. s.items) (take i c.args.sets.now) in
    let one : c.variants_of_set.result ≡ min (g c.set-item.result.items) (2 ^ 64 - 1) =
    rw (c.deref.ensures.value, c.deref-in-loop-set.ensures.value) at c.variants_of_set.ensures in
    let more : map (λ s. s.items) (take (i + 1) c.args.sets.now) ≡ before ++ c.set-item.result.items ∷ [] =
    one_more (λ s. s.items) c.args.sets.now i c.set-item.result c.set-item.result.items c.loop-set-test.true c.set-item.is refl in
    rw (c.saturating_add-count.ensures, c.loop-set.invariant, one)
    (min_plus (sum (map g before)) (g c.set-item.result.items) (2 ^ 64 - 1)
    ∙ ap (λ n. min n (2 ^ 64 - 1)) (sym (ap (λ xs. sum (map g xs)) more ∙ sum_more g before c.set-item.result.items)))

pub returns : goal.returns
returns c =
    c.loop-set.invariant
    ∙ ap (λ xs. min (sum (map (variants_of_set c.args.line.now.choices.items) (map (λ s. s.items) xs))) (2 ^ 64 - 1))
    (take_all c.loop-set.set-index c.args.sets.now c.loop-set-test.false)
