use Rattle.j39_audit.proofs.broadcasts.BegunBroadcasts.begin.Goals as goal
use Rattle.j39_audit.proofs.broadcasts.BegunBroadcasts.begin.Goals.{then-anew-via-then-anew, then-anew-via-else-anew+then-gap}

pub returns-then-anew : goal.returns-then-anew
returns-then-anew c = λ b recalls.
    let forgot = c.forget_all.ensures b recalls in
    elim c.then-anew.branch [
      | then-anew-via-then-anew w ↦ rw w.if-anew.true forgot
      | then-anew-via-else-anew+then-gap w ↦ rw (w.if-anew.false, w.if-gap.true) forgot
    ]
