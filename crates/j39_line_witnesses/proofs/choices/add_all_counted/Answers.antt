use Rattle.std.proofs.Common.{◌++◌, List, ap, sym, ◌∙◌}
use Rattle.std.proofs.lemmas.List.{append-nil}
use Rattle.j39_load.specs.LineLists.{lines_of_each}
use Rattle.j39_line_findings.specs.declared.part.LinePart.{LinePart}
use Rattle.j39_line_witnesses.specs.ReportedChoices.{counted_with}
use Rattle.j39_line_witnesses.proofs.ChoiceLists.{one_added}
use Rattle.j39_line_witnesses.proofs.choices.add_all_counted.Goals as goal

pub loop-parts-init : goal.loop-parts-init
unfolding lines_of_each
loop-parts-init c = sym (append-nil c.args.counted.now.items)

pub loop-parts-preserved : goal.loop-parts-preserved
loop-parts-preserved c =
    let old = c.loop-parts.counted.items in
    one_added
    (λ _ parts. counted_with c.args.line.now c.args.together.now parts.items) c.loop-parts.parts-index c.args.lacking.now c.parts-item.result c.args.counted.now.items old
    c.add_counted.new.counted.items c.loop-parts-test.true c.loop-parts.invariant
    (c.in_ok-add_counted.ensures
    ∙ ap (λ (xs : List LinePart). old ++ counted_with c.args.line.now c.args.together.now xs)
    (c.deref.ensures.value ∙ ap (λ parts. parts.items) c.parts-item.is))
