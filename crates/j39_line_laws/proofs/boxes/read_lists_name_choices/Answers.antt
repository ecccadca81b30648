use Rattle.j39_line_laws.proofs.ReadLists.{read_lists_name_choices}
use Rattle.j39_line_laws.proofs.boxes.read_lists_name_choices.Goals as goal

pub returns : goal.returns
returns c = read_lists_name_choices
