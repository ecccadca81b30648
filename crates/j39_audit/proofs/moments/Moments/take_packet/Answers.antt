use Rattle.std.proofs.Common.{ℕ, Option, Some, sym, ap, subst, ◌∙◌}
use Rattle.std.proofs.lemmas.Result.{IfOk-weaker}
use Rattle.j39_audit.specs.Moments.{moment_window, with_message, with_packet_stream}
use Rattle.j39_audit.specs.declared.streams.MessageStream.{MessageStream}
use Rattle.j39_audit.specs.declared.window.Window.{Window}
use Rattle.j39_audit.specs.inside.Recalling.{RecallsMoments, settings_of}
use Rattle.j39_audit.proofs.moments.Moments.take_packet.Goals as goal

pub returns-clause-moments : goal.returns-clause-moments
returns-clause-moments c =
    IfOk-weaker c.take_message.result _ _
    (λ _ took. λ m recalls.
    let s = settings_of c.args.basis.now in
    let time = c.in-Some.time in
    let one = c.in-Some-stream.stream in
    let new = c.take_message.new.self in
    let at = c.moment_window-window.ensures.value ∙ ap (λ (i : Option ℕ). moment_window s one.slack time i) recalls.since in
    subst (λ (t : Option ℕ). RecallsMoments new (with_packet_stream s t c.args.line c.args.stream m)) (sym c.in-Some.is)
    (subst (λ (o : Option MessageStream). RecallsMoments new (with_packet_stream s (Some time) c.args.line o m)) (sym c.in-Some-stream.is)
    (subst (λ (w : Window). RecallsMoments new (with_message one w c.args.line m)) at (took m recalls))))
    c.take_message.ensures.moments
