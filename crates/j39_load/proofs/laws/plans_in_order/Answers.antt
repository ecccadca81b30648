use Rattle.j39_load.proofs.Sending.{in_order}
use Rattle.j39_load.proofs.laws.plans_in_order.Goals as goal

pub returns : goal.returns
returns c = λ plan timing stays ordered. in_order timing plan stays ordered
