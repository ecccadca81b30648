use Rattle.std.proofs.Common.{◌≡◌, Bool, Option, Some, None, cond, sym, subst, ◌∙◌}
use Rattle.std.proofs.lemmas.Result.{IfOk-weaker}
use Rattle.j39_audit.specs.BegunBroadcasts.{is_packet_to_all, with_packet, with_sent}
use Rattle.j39_audit.specs.declared.broadcasts.BegunBroadcast.{BegunBroadcast}
use Rattle.j39_audit.specs.inside.Recalling.{RecallsBroadcasts, settings_of}
use Rattle.j39_audit.proofs.broadcasts.BegunBroadcasts.take_other.Goals as goal

pub returns-then-is_packet_to_all : goal.returns-then-is_packet_to_all
returns-then-is_packet_to_all c =
    IfOk-weaker c.take_packet.result _ _
    (λ _ took. λ b k recalls.
    let s = settings_of c.args.basis.now in
    let t = c.args.timing in
    let u = c.args.unit in
    let new = c.take_packet.new.self in
    let one = c.in-Some.one in
    let here : b.begun u ≡ Some one = sym (recalls.begun.places u) ∙ sym c.kept_at.ensures ∙ c.in-Some.is in
    let is : is_packet_to_all c.args.frame.now ≡ _ = sym c.is_packet_to_all.ensures ∙ c.if-is_packet_to_all.true in
    subst (λ (o : Option BegunBroadcast). RecallsBroadcasts s new (with_sent s k t u c.args.frame.now c.args.idle c.args.moment c.args.line None o b))
    (sym here)
    (subst (λ (is : Bool). RecallsBroadcasts s new (cond is (with_packet t u c.args.idle c.args.moment c.args.line one b) b)) (sym is) (took b recalls)))
    c.take_packet.ensures
