use Rattle.std.proofs.Common.{ℕ, Option, Some, sym, ap, ◌∙◌}
use Rattle.j39_network.specs.declared.plan.timing.Timing.{Timing}
use Rattle.j39_audit.specs.BegunBroadcasts.{packet_of, packet_with}
use Rattle.j39_audit.specs.declared.broadcasts.BegunBroadcast.{BegunBroadcast}
use Rattle.j39_audit.proofs.broadcasts.BegunBroadcasts.packet.Goals as goal

pub returns-in-Some-unit-clause-value : goal.returns-in-Some-unit-clause-value
returns-in-Some-unit-clause-value c = λ b recalls.
    let f = c.args.frame.now in
    c.packet_of.ensures.value ∙ ap (λ (o : Option BegunBroadcast). packet_of c.in-Some.timing c.in-Some-unit.unit f o)
    (recalls.begun.places c.in-Some-unit.unit)
    ∙ sym (ap (λ (t : Option Timing). packet_with t c.args.unit f b) c.in-Some.is ∙ ap
    (λ (u : Option ℕ). packet_with (Some c.in-Some.timing) u f b) c.in-Some-unit.is)
