use Rattle.j39_load.proofs.KeepingDeadlines.{can_be_sent_whole}
use Rattle.j39_load.proofs.laws.long_messages_can_be_sent_whole.Goals as goal

pub returns : goal.returns
returns c = can_be_sent_whole
