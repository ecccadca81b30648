use Rattle.std.proofs.Common.{◌≡◌, true, subst}
use Rattle.std.proofs.lemmas.Bool.{lt-ltb}
use Rattle.std.proofs.lemmas.Result.{IfOk-weaker}
use Rattle.j39_id.specs.Addresses.{is_address}
use Rattle.j39_audit.specs.Claiming.{Knowledge, sender_at}
use Rattle.j39_audit.specs.Looking.{sent_noted}
use Rattle.j39_audit.specs.declared.senders.SureSender.{SureSender}
use Rattle.j39_audit.specs.inside.Recalling.{Notes, known_by, settings_of}
use Rattle.j39_audit.proofs.Knowing.{known_knowledge}
use Rattle.j39_audit.proofs.frame_marks.take_other.Goals as goal

pub returns : goal.returns
returns c =
    let s = settings_of c.args.basis.now in
    let f = c.args.frame.now in
    let there : is_address f.ident.sa ≡ true = lt-ltb f.ident.sa 254 c.if-source-ge-NULL_ADDRESS.false in
    IfOk-weaker c.note_sent.result _ _
    (λ _ noted. λ claims knows.
    let sent = subst (λ (x : SureSender). Notes c.args.tally.now c.note_sent.new.tally (sent_noted s (known_by c.args.known.now) f c.args.packet c.args.line x))
    c.sender_at-sender.ensures.sender noted in
    rw (c.requires, there)
    (subst (λ (k : Knowledge). Notes c.args.tally.now c.note_sent.new.tally (sent_noted s k f c.args.packet c.args.line (sender_at s k f.ident.sa)))
    (known_knowledge s c.args.known.now claims knows) sent))
    c.note_sent.ensures
