use Rattle.std.proofs.Common.{sym, ◌∙◌}
use Rattle.j39_variants.proofs.NamedChoices.{any_view}
use Rattle.j39_variants.proofs.reading.labels.is_in_choices.Goals as goal

pub returns : goal.returns
returns c = c.has_alternative.ensures ∙ sym (any_view c.args.choices.now c.args.text.now)
