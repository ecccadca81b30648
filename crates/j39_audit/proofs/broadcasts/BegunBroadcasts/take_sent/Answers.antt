use Rattle.std.proofs.Common.{◌≡◌, Option, Some, None, sym, ap, subst, ◌∙◌}
use Rattle.std.specs.Option.{option_map}
use Rattle.std.proofs.lemmas.Result.{IfOk-weaker}
use Rattle.j39_audit.specs.BegunBroadcasts.{announced_to_all, with_sent}
use Rattle.j39_audit.specs.SentMessages.{SentMessage}
use Rattle.j39_audit.specs.declared.messages.UnitMessage.{UnitMessage}
use Rattle.j39_audit.specs.inside.Recalling.{RecallsBroadcasts, known_by, sent_as, settings_of}
use Rattle.j39_audit.proofs.broadcasts.BegunBroadcasts.take_sent.Goals as goal

pub returns-in-Some : goal.returns-in-Some
returns-in-Some c = λ b recalls.
    let s = settings_of c.args.basis.now in
    let u = c.args.unit in
    let f = c.args.frame.now in
    let is : announced_to_all u f c.args.announced ≡ Some (sent_as c.in-Some.message) =
    sym c.announced_to_all.ensures ∙ ap (λ (o : Option UnitMessage). option_map sent_as o) c.in-Some.is in
    subst (λ (m : Option SentMessage). RecallsBroadcasts s c.take_announced.new.self
    (with_sent s (known_by c.args.known.now) c.args.timing u f c.args.idle c.args.moment c.args.line m (b.begun u) b)) (sym is)
    (c.take_announced.ensures b recalls)

pub returns-in-None : goal.returns-in-None
returns-in-None c =
    IfOk-weaker c.take_other.result _ _
    (λ _ took. λ b recalls.
    let s = settings_of c.args.basis.now in
    let u = c.args.unit in
    let f = c.args.frame.now in
    let is : announced_to_all u f c.args.announced ≡ None =
    sym c.announced_to_all.ensures ∙ ap (λ (o : Option UnitMessage). option_map sent_as o) c.in-None.is in
    subst (λ (m : Option SentMessage). RecallsBroadcasts s c.take_other.new.self
    (with_sent s (known_by c.args.known.now) c.args.timing u f c.args.idle c.args.moment c.args.line m (b.begun u) b)) (sym is)
    (took b (known_by c.args.known.now) recalls))
    c.take_other.ensures
