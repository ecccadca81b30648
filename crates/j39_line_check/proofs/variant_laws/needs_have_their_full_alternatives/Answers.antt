use Rattle.j39_line_check.proofs.NeedLists.{lists_of_needs}
use Rattle.j39_line_check.proofs.variant_laws.needs_have_their_full_alternatives.Goals as goal

pub returns : goal.returns
returns c = lists_of_needs
