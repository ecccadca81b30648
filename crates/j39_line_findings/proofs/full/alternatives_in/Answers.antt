use Rattle.std.proofs.Common.{◌++◌, List, take, sym, ap, ◌∙◌}
use Rattle.j39_load.proofs.Before.{more}
use Rattle.j39_load.specs.LineLists.{lines_of_each}
use Rattle.j39_variants.specs.declared.line.Alternative.{Alternative}
use Rattle.j39_line_findings.specs.FullVariants.{alternatives_of_choice}
use Rattle.j39_line_findings.proofs.full.alternatives_in.Goals as goal

pub loop-choice-init : goal.loop-choice-init
unfolding lines_of_each
loop-choice-init c = c.new-alternatives.ensures.items

pub loop-choice-preserved : goal.loop-choice-preserved
loop-choice-preserved c =
    let k = c.loop-choice.choice in
    let before : List Alternative = lines_of_each alternatives_of_choice 0 (take k c.args.choices.now) in
    c.in_ok-extend_from_slice.ensures.items
    ∙ ap (λ (xs : List Alternative). xs ++ c.deref.result.now) c.loop-choice.invariant
    ∙ ap (λ (xs : List Alternative). before ++ xs)
    (c.deref.ensures.value ∙ c.in_ok-of_choice.ensures ∙ ap (alternatives_of_choice k) c.index-choices-choice.is)
    ∙ sym (more alternatives_of_choice k c.args.choices.now c.index-choices-choice.result c.loop-choice-test.true)
