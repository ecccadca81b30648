use Rattle.j39_audit.specs.Moments.{Moments, listed_pauses_ended}
use Rattle.j39_audit.specs.inside.Recalling.{AreNear, RecallsMoments, settings_of}
use Rattle.j39_audit.proofs.moments.Moments.end_listed.Given as goal

abbrev pub invariant-loop-at : goal.invariant-loop-at
invariant-loop-at l = record {
  near : AreNear l.self;
  moments : (m : Moments) → RecallsMoments l.fn.self m → RecallsMoments l.self (listed_pauses_ended (settings_of l.basis) l.timing l.places l.at m);
}
