use Rattle.j39_line_laws.proofs.ByPresence.{found_by_presence}
use Rattle.j39_line_laws.proofs.presence.what_is_there_is_found.Goals as goal

pub returns : goal.returns
returns c = found_by_presence
