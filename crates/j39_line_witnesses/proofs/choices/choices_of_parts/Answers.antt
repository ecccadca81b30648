use Rattle.std.proofs.Common.{ap, sym, ◌∙◌}
use Rattle.j39_variant_search.specs.VariantSearch.{box_flags}
use Rattle.j39_line_witnesses.specs.ReportedChoices.{lacking_choices}
use Rattle.j39_line_witnesses.proofs.ChoiceLists.{lacking_in}
use Rattle.j39_line_witnesses.proofs.choices.choices_of_parts.Goals as goal

pub returns : goal.returns
returns c = c.in_ok-choices.ensures ∙ sym (lacking_in c.deref.result.now)
    ∙ ap lacking_choices (ap box_flags c.deref.ensures.value ∙ c.in_ok-within.ensures)
