use Rattle.std.proofs.Common.{sym, ◌∙◌}
use Rattle.j39_line_witnesses.proofs.ChoiceLists.{some_in}
use Rattle.j39_line_witnesses.proofs.choices.is_in_some.Goals as goal

pub returns : goal.returns
returns c = c.all_have.ensures ∙ sym (some_in c.args.within.now)
