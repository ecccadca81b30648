use Rattle.j39_load.proofs.ReadingInTime.{read_where_checked}
use Rattle.j39_load.proofs.laws.needed_values_are_read_in_time.Goals as goal

pub returns : goal.returns
returns c = read_where_checked
