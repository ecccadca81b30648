use Rattle.std.proofs.Common.{refl}
use Rattle.j39_schedule.proofs.WordTables.{named}
use Rattle.j39_schedule.proofs.order_word.OrderWord.spelled.Goals as goal

pub returns : goal.returns
returns c = named _ _ _ c.beside.ensures refl
