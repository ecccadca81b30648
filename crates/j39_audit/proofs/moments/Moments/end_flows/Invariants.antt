use Rattle.j39_audit.specs.Moments.{Moments, pauses_ended}
use Rattle.j39_audit.specs.inside.Recalling.{AreNear, RecallsMoments, settings_of}
use Rattle.j39_audit.proofs.moments.Moments.end_flows.Given as goal

abbrev pub invariant-loop-place : goal.invariant-loop-place
invariant-loop-place l = record {
  near : AreNear l.self;
  moments : (m : Moments) → RecallsMoments l.fn.self m → RecallsMoments l.self (pauses_ended (settings_of l.basis) l.timing l.unit l.place m);
}
