use Rattle.j39_follow.specs.inside.Exchanging.{IsHeardBelow}
use Rattle.j39_follow.proofs.request.exchanges.note_event.Given as goal

abbrev pub invariant-loop-place : goal.invariant-loop-place
invariant-loop-place l = IsHeardBelow l.plan l.event l.fn.table l.table l.place
