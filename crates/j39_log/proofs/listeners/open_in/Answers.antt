use Rattle.std.proofs.Common.{arith}
use Rattle.std.proofs.lemmas.Result.{IfOk-weaker}
use Rattle.j39_log.proofs.ListenerTables.{has_set}
use Rattle.j39_log.proofs.listeners.open_in.Goals as goal

pub returns-clause-open : goal.returns-clause-open
returns-clause-open c =
    let slots = c.lengthen.new.row.items in
    IfOk-weaker c.fill.result _ _
    (λ _ some. has_set slots c.args.destination c.fill.new.slot (omega (arith, c.in_ok-lengthen.ensures.there)) some)
    c.fill.ensures.filled
