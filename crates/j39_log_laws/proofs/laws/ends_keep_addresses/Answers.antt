use Rattle.j39_log_laws.proofs.Ends.{ends_keep_addresses}
use Rattle.j39_log_laws.proofs.laws.ends_keep_addresses.Goals as goal

pub returns : goal.returns
returns c = λ plan steps w keeps run. ends_keep_addresses plan keeps steps w run
