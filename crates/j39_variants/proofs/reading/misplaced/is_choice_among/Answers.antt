use Rattle.std.proofs.Common.{sym, ◌∙◌}
use Rattle.j39_variants.proofs.NamedChoices.{choices_view}
use Rattle.j39_variants.proofs.reading.misplaced.is_choice_among.Goals as goal

pub returns : goal.returns
returns c = c.has_choice.ensures ∙ sym (choices_view c.args.others.now c.args.choice)
