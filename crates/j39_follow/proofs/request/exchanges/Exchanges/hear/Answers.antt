use Rattle.std.proofs.Common.{List, subst}
use Rattle.j39_follow.specs.declared.request.exchange.Exchange.{Exchange}
use Rattle.j39_follow.specs.inside.Exchanging.{IsAfter, exchange_at}
use Rattle.j39_follow.proofs.request.exchanges.Exchanges.hear.Goals as goal

pub returns : goal.returns
returns c = λ events few are place r at.
    let noted = subst (λ (old : List Exchange). IsAfter c.args.plan.now place r c.args.event (exchange_at old place)
    (exchange_at c.note_event.new.table place)) c.deref_mut.ensures.value (c.note_event.ensures place r at) in
    noted events few (are place r at)
