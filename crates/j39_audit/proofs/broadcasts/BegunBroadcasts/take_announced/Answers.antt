use Rattle.std.proofs.Common.{Option, subst}
use Rattle.j39_audit.specs.BegunBroadcasts.{with_one}
use Rattle.j39_audit.specs.declared.broadcasts.BegunBroadcast.{BegunBroadcast}
use Rattle.j39_audit.specs.inside.Recalling.{RecallsBroadcasts, settings_of}
use Rattle.j39_audit.proofs.broadcasts.BegunBroadcasts.take_announced.Goals as goal

pub returns : goal.returns
returns c = λ b recalls.
    subst (λ (one : Option BegunBroadcast). RecallsBroadcasts (settings_of c.args.basis.now) c.set.new.self (with_one c.args.unit one b)) c.begun_by-one.ensures
    (c.set.ensures b recalls)
