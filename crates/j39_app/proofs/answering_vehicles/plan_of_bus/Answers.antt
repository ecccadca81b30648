use Rattle.std.proofs.Common.{rules}
use Rattle.j39_app.proofs.Ending.{ends_too, wants_memory}
use Rattle.j39_app.proofs.answering_vehicles.plan_of_bus.Goals as goal

pub returns-in_err-name-clause-ends : goal.returns-in_err-name-clause-ends
returns-in_err-name-clause-ends g c = wants_memory _ (search rules)

pub returns-clause-ends : goal.returns-clause-ends
returns-clause-ends g c =
    let named = rw c.as_str.ensures.value at c.in_ok-name.ensures.named in
    ends_too (λ text plan is. (_, named, is)) (λ text part. (_, named, part)) (λ now. now) (λ long. (_, named, long)) (λ broken. (_, named, broken))
    c.plan_named.result (rw c.as_str-2.ensures.value at c.plan_named.ensures.ends)
