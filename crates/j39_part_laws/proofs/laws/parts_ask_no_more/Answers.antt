use Rattle.j39_part_laws.proofs.Loads.{ask_no_more}
use Rattle.j39_part_laws.proofs.laws.parts_ask_no_more.Goals as goal

pub returns : goal.returns
returns c at part whole is good timing unplanned range busier stays reported decides reports_who =
    ask_no_more at part whole is good timing stays reported decides reports_who unplanned range busier
