use Rattle.j39_log_laws.proofs.Between.{messages_go}
use Rattle.j39_log_laws.proofs.Logged.{each_goes}
use Rattle.j39_log_laws.proofs.laws.messages_go_between_holders.Goals as goal

pub returns-clause-sent : goal.returns-clause-sent
returns-clause-sent c = λ plan steps w keeps distinct own run. messages_go plan keeps distinct own steps w run

pub returns-clause-logged : goal.returns-clause-logged
returns-clause-logged c = λ plan steps w keeps distinct own run. each_goes plan keeps distinct own steps w run
