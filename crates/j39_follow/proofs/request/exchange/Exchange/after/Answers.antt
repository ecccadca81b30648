use Rattle.std.proofs.Common.{◌+◌, ◌-◌, ◌^◌, ◌&&◌, ◌||◌, not, Bool, if◌then◌else◌, ap, ◌∙◌}
use Rattle.std.specs.Prelude.{min}
use Rattle.j39_follow.specs.LoggedRequests.{answers, asks_request as asks}
use Rattle.j39_follow.specs.declared.request.exchange.Exchange.{Exchange}
use Rattle.j39_follow.proofs.Requests.Exchanged.{after_event}
use Rattle.j39_follow.proofs.request.exchange.Exchange.after.Goals as goal

pub returns : goal.returns
returns c =
    let plan = c.args.plan.now in
    let place = c.args.place in
    let request = c.args.request.now in
    let event = c.args.event in
    let old : Exchange = c.args.self in
    let new : Exchange = record {
      asked = c.one_more_if.result;
      answered = c.one_more_if-2.result;
      refused = c.one_more_if-3.result;
      is_open = c.is_open_behind.result;
    } in
    after_event plan place request event old new
    (c.one_more_if.ensures ∙ ap (λ (b : Bool). if b then min (old.asked + 1) (2 ^ 64 - 1) else old.asked) c.asks-asks.ensures)
    (c.one_more_if-2.ensures ∙ ap (λ (b : Bool). if old.is_open && b then min (old.answered + 1) (2 ^ 64 - 1) else old.answered) c.answers-answers.ensures)
    (c.one_more_if-3.ensures ∙ ap (λ (b : Bool). if old.is_open && b then min (old.refused + 1) (2 ^ 64 - 1) else old.refused) c.refuses-refuses.ensures)
    (c.is_open_behind.ensures
    ∙ ap (λ (b : Bool). b || (old.is_open && not (c.answers-answers.result || c.refuses-refuses.result))) c.asks-asks.ensures
    ∙ ap (λ (b : Bool). asks place event || (old.is_open && not (b || c.refuses-refuses.result))) c.answers-answers.ensures
    ∙ ap (λ (b : Bool). asks place event || (old.is_open && not (answers plan request event || b))) c.refuses-refuses.ensures)
