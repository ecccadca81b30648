use Rattle.std.proofs.lemmas.Result.{IfOk-weaker}
use Rattle.j39_audit.proofs.moments.Moments.end_pauses.Goals as goal

pub returns-clause-moments : goal.returns-clause-moments
returns-clause-moments c =
    IfOk-weaker c.end_listed.result _ _
    (λ _ ended. λ m recalls. ended _ (c.in_ok-end_at.ensures.moments m recalls))
    c.end_listed.ensures.moments
