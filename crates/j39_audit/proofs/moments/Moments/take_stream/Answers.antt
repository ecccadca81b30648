use Rattle.std.proofs.Common.{ℕ, Option, sym, ap, subst, ◌∙◌}
use Rattle.std.proofs.lemmas.Result.{IfOk-weaker}
use Rattle.j39_audit.specs.Moments.{moment_window, with_message_of, with_pause, with_stream}
use Rattle.j39_audit.specs.declared.streams.MessageStream.{MessageStream}
use Rattle.j39_audit.specs.declared.window.Window.{Window}
use Rattle.j39_audit.specs.inside.Recalling.{RecallsMoments, settings_of}
use Rattle.j39_audit.proofs.moments.Moments.take_stream.Goals as goal

pub returns-in_ok-take_message_of-in-Some-clause-moments : goal.returns-in_ok-take_message_of-in-Some-clause-moments
returns-in_ok-take_message_of-in-Some-clause-moments c =
    let s = settings_of c.args.basis.now in
    let one = c.in-Some.one in
    let new = c.take_pause.new.self in
    IfOk-weaker c.take_pause.result _ _
    (λ _ paused. λ m recalls.
    let at = c.moment_window-window.ensures.value ∙ ap (λ (i : Option ℕ). moment_window s one.slack c.args.time i) recalls.since in
    let by : Window → _ = λ w. with_pause one.pause one.mark.subject w c.args.line (with_message_of c.args.besides one w c.args.line m) in
    subst (λ (o : Option MessageStream). RecallsMoments new (with_stream s c.args.time c.args.line c.args.besides o m)) (sym c.in-Some.is)
    (subst (λ (w : Window). RecallsMoments new (by w)) at
    (paused (with_message_of c.args.besides one c.moment_window-window.result c.args.line m) (c.in_ok-take_message_of-in-Some.ensures.moments m recalls))))
    c.take_pause.ensures.moments
