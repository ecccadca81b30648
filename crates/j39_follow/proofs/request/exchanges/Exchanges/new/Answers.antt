use Rattle.std.proofs.Common.{◌≡◌, [], List, sym, ap, subst, ◌∙◌, arith}
use Rattle.std.proofs.lemmas.List.{get_or-replicate}
use Rattle.std.proofs.lemmas.Option.{slice_get_within}
use Rattle.j39_follow.specs.declared.request.exchange.Exchange.{Exchange}
use Rattle.j39_follow.specs.inside.Exchanging.{IsExchange, exchange_at, nothing_asked}
use Rattle.j39_follow.proofs.Requests.Exchanged.{nothing_yet}
use Rattle.j39_follow.proofs.request.exchanges.Exchanges.new.Goals as goal

pub returns : goal.returns
returns c = λ plan place r at.
    let within = slice_get_within plan.requests.items place r at in
    let most = plan.request_count in
    let table : exchange_at c.in_ok-new.field-0.value place ≡ nothing_asked =
    ap (λ (t : List Exchange). exchange_at t place) c.in_ok-new.ensures.ok
    ∙ get_or-replicate 512 place c.new.result nothing_asked (omega (arith, within, most)) ∙ c.new.ensures in
    subst (λ (x : Exchange). IsExchange plan place r x []) (sym table) (nothing_yet plan place r)
