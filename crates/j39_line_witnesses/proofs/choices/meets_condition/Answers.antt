use Rattle.std.proofs.Common.{◌≡◌, true, not, ◌&&◌, ap, sym, ◌∙◌}
use Rattle.std.specs.List.{list_any}
use Rattle.j39_line_findings.specs.Conditions.{are_there}
use Rattle.j39_line_witnesses.specs.Presences.{parts_in}
use Rattle.j39_line_witnesses.proofs.ChoiceLists.{any_parts}
use Rattle.j39_line_witnesses.proofs.choices.meets_condition.Goals as goal

pub returns-then-are_all : goal.returns-then-are_all
returns-then-are_all c =
    let there = are_there c.args.line.now c.args.variant.now in
    let lacking = c.args.condition.now.lacking.items in
    let all : there c.args.condition.now.together.items ≡ true = sym (c.are_there-are_all.ensures ∙ ap there c.deref.ensures.value) ∙ c.if-are_all.true in
    sym (ap (λ b. b && not (list_any there (parts_in lacking))) all
    ∙ ap not (any_parts c.args.line.now c.args.variant.now lacking
    ∙ sym (c.are_any_there-are_any.ensures ∙ ap (list_any (λ parts. there parts.items)) c.deref-2.ensures.value)))
