use Rattle.std.proofs.Common.{◌≡◌, [], ◌∷◌, refl, sym, ap, subst, ◌∙◌, inl, inr, Some}
use Rattle.std.specs.Option.{option_to_list}
use Rattle.std.proofs.lemmas.List.{append-nil}
use Rattle.std.proofs.lemmas.Result.{IfOk-weaker, on_ok_weaker}
use Rattle.j39_log.proofs.Completing.{carried_there, completed_there, uncarried_there, uncompleted}
use Rattle.j39_log.proofs.PairLists.{heard_itself}
use Rattle.j39_tp.specs.Receiver.{Receiving, message_of}
use Rattle.j39_tp.specs.declared.packet.Packet.{Packet}
use Rattle.j39_tp.specs.declared.receiving.progress.Progress.{Progress}
use Rattle.j39_tp.specs.declared.receiving.progress.Progress.TheVariants.{Complete}
use Rattle.j39_follow.specs.FollowText.{IsPacketReport}
use Rattle.j39_follow.specs.inside.Hearing.{HaveHeardOneMore, listener_between}
use Rattle.j39_follow.specs.inside.Reporting.{front_of}
use Rattle.j39_follow.proofs.Addresses.Heard.{heard_packet, since_in_range}
use Rattle.j39_follow.proofs.Pairs.Ways.{plain_report, receipt_is}
use Rattle.j39_follow.proofs.frame_report.write_packet.Goals as goal

pub returns-in-Some-clause-heard : goal.returns-in-Some-clause-heard
returns-in-Some-clause-heard c =
    let is = receipt_is c.args.packet.now c.in-Some.receipt (sym c.receipt_in.ensures ∙ c.in-Some.is) in
    on_ok_weaker c.write_received.result
    (λ stated. λ seen have.
    subst (λ (p : Packet). HaveHeardOneMore c.args.groups.now c.write_received.new.pairs seen (record { frame = c.args.frame.now; packet = Some p }))
    (sym is) (stated seen have))
    c.write_received.ensures.heard

pub returns-in-Some-clause-carried : goal.returns-in-Some-clause-carried
returns-in-Some-clause-carried c =
    let is = receipt_is c.args.packet.now c.in-Some.receipt (sym c.receipt_in.ensures ∙ c.in-Some.is) in
    IfOk-weaker c.write_received.result _ _
    (λ ended stated. λ seen log shows have ranges.
    let t = stated seen log shows have in (
      t.0,
      subst (λ (p : Packet). IsPacketReport c.args.groups.now seen log (front_of c.args.stamp) c.args.frame.now (Some p) (option_to_list ended) t.0)
          (sym is) t.1,
      t.2,
    ))
    c.write_received.ensures.received

pub returns-clause-heard : goal.returns-clause-heard
returns-clause-heard c = λ seen have.
    heard_packet c.args.groups.now c.args.pairs.now c.hear.new.self seen c.args.frame.now c.args.packet.now
    c.in_ok-pgn.ensures.heard c.in_ok-pgn.ensures.collected have

pub returns-clause-carried : goal.returns-clause-carried
returns-clause-carried c = λ seen log shows have ranges.
    let f = c.args.frame.now in
    let i = f.ident in
    let p : Packet = c.args.packet.now in
    let old = listener_between c.args.pairs.now i.sa i.ps in
    let new = listener_between c.hear.new.self i.sa i.ps in
    let done = completed_there old p c.in-Some-2.pgn (sym c.in_ok-pgn.ensures.group ∙ c.in-Some-2.is) in
    let itself = heard_itself c.args.pairs.now.listeners.rows.items c.hear.new.self.listeners.rows.items i p c.in_ok-pgn.ensures.heard in
    let progress : new.progress ≡ Complete c.number.result =
    ap (λ (r : Receiving). r.progress) itself ∙ done.1 ∙ ap Complete (sym c.number.ensures.value) in
    let bytes : new.bytes ≡ c.bytes.result.now =
    sym (c.bytes.ensures ∙ ap (λ (pr : Progress). message_of pr new.bytes) progress) in
    let one = have i.sa i.ps i.sa_range i.ps_range in
    let written = c.in_ok-sort.ensures log shows in (
      written.0,
      plain_report c.args.groups.now seen log (front_of c.args.stamp) f p (c.in_ok-sort.sort ∷ []) written.0 (sym c.receipt_in.ensures ∙ c.in_default.is) (
        one.packets,
        one.is,
        inl (
          c.number.result,
          c.bytes.result.now,
          c.in_ok-sort.sort,
          carried_there c.listener_completes_what_is_carried.ensures.completed one.packets p old new c.number.result c.bytes.result.now one.listener itself
              (since_in_range c.args.groups.now seen i.sa i.ps one.packets one.is ranges)
              c.requires done.0 progress bytes,
          written.1,
          refl,
        ),
      ),
      written.2,
    )

pub returns-in_default-2-clause-heard : goal.returns-in_default-2-clause-heard
returns-in_default-2-clause-heard c = λ seen have.
    heard_packet c.args.groups.now c.args.pairs.now c.hear.new.self seen c.args.frame.now c.args.packet.now
    c.in_ok-pgn.ensures.heard c.in_ok-pgn.ensures.collected have

pub returns-in_default-2-clause-carried : goal.returns-in_default-2-clause-carried
returns-in_default-2-clause-carried c = λ seen log shows have ranges.
    let i = c.args.frame.now.ident in
    let p : Packet = c.args.packet.now in
    let old = listener_between c.args.pairs.now i.sa i.ps in
    let unstated = uncompleted old p (sym c.in_ok-pgn.ensures.group ∙ c.in_default-2.is) in
    let one = have i.sa i.ps i.sa_range i.ps_range in
    let none = uncarried_there c.listener_completes_what_is_carried.ensures.carried one.packets p old one.listener unstated in (
      [],
      plain_report c.args.groups.now seen log (front_of c.args.stamp) c.args.frame.now p [] [] (sym c.receipt_in.ensures ∙ c.in_default.is)
          (one.packets, one.is, inr (none, refl, refl)),
      sym (append-nil c.args.text.now),
    )
