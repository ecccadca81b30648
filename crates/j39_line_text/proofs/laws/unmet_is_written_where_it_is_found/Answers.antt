use Rattle.j39_line_text.proofs.UnmetNeeds.{unmet_is_found}
use Rattle.j39_line_text.proofs.laws.unmet_is_written_where_it_is_found.Goals as goal

pub returns : goal.returns
returns c = unmet_is_found
