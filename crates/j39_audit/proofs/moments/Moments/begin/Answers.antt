use Rattle.std.proofs.Common.{refl}
use Rattle.j39_audit.proofs.moments.Moments.begin.Goals as goal

pub returns-clause-moments : goal.returns-clause-moments
returns-clause-moments c = λ m recalls.
    let ended = c.in_ok-end_all.ensures.moments m recalls in
    rw c.if-not-anew.false (record {
      before = refl;
      since = refl;
      earliest = λ key. c.forget.ensures key;
      counted = ended.counted;
      pauses = record { newest = ended.pauses.newest; last = ended.pauses.last };
    })
