use Rattle.std.proofs.Common.{sym, ◌∙◌}
use Rattle.j39_line_witnesses.proofs.ChoiceLists.{by_first, by_whole}
use Rattle.j39_line_witnesses.proofs.choices.choices_by.Goals as goal

pub returns-then-is_whole : goal.returns-then-is_whole
returns-then-is_whole c = c.new.ensures.items ∙ sym (by_whole c.args.met.now (sym c.is_any_none-is_whole.ensures ∙ c.if-is_whole.true))

pub returns : goal.returns
returns c = c.in_ok-first.ensures ∙ sym (by_first c.args.met.now (sym c.is_any_none-is_whole.ensures ∙ c.if-is_whole.false))
