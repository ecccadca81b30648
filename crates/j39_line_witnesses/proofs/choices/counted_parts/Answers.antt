use Rattle.std.proofs.Common.{◌++◌, List, Vec, ap, sym, ◌∙◌}
use Rattle.std.specs.declared.alloc.Global.{Global}
use Rattle.j39_load.specs.LineLists.{lines_of_each}
use Rattle.j39_line_findings.specs.declared.part.LinePart.{LinePart}
use Rattle.j39_line_witnesses.specs.ReportedChoices.{counted_with}
use Rattle.j39_line_witnesses.proofs.ChoiceLists.{lines_of_map}
use Rattle.j39_line_witnesses.proofs.choices.counted_parts.Goals as goal

pub returns : goal.returns
returns c =
    let line = c.args.line.now in
    let first = c.args.condition.now.together.items in
    c.in_ok-add_all_counted.ensures
    ∙ ap (λ (xs : List LinePart). xs ++ lines_of_each (λ _ parts. counted_with line c.as_slice-together.result.now parts.items) 0 c.as_slice-lacking.result.now)
    (c.in_ok-counted.ensures ∙ c.as_slice-together.ensures.value)
    ∙ ap (λ (xs : List LinePart). first
    ++ lines_of_each (λ _ parts. counted_with line xs parts.items) 0 c.as_slice-lacking.result.now) c.as_slice-together.ensures.value
    ∙ ap (λ (lists : List (Vec LinePart Global)). first ++ lines_of_each
    (λ _ parts. counted_with line first parts.items) 0 lists) c.as_slice-lacking.ensures.value
    ∙ ap (λ (xs : List LinePart). first ++ xs) (sym (lines_of_map (counted_with line first)
    (λ (parts : Vec LinePart Global). parts.items) 0 c.args.condition.now.lacking.items))
