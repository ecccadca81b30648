use Rattle.std.proofs.Common.{Option, subst}
use Rattle.std.proofs.lemmas.Result.{IfOk-weaker}
use Rattle.j39_audit.specs.Moments.{with_packet_stream}
use Rattle.j39_audit.specs.declared.streams.MessageStream.{MessageStream}
use Rattle.j39_audit.specs.inside.Recalling.{RecallsMoments, settings_of}
use Rattle.j39_audit.proofs.log_steps.take_packet.Goals as goal

pub returns-clause-moments : goal.returns-clause-moments
returns-clause-moments c =
    IfOk-weaker c.take_packet.result _ _
    (λ _ took. λ m b recalls begun.
    subst (λ (stream : Option MessageStream). RecallsMoments c.take_packet.new.self
    (with_packet_stream (settings_of c.args.basis.now) c.args.time c.args.line stream m)) (c.packet-stream.ensures.value b begun) (took m recalls))
    c.take_packet.ensures.moments
