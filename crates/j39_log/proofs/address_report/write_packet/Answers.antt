use Rattle.std.proofs.Common.{◌≡◌, [], ap, sym, ◌∙◌, inl, inr, refl}
use Rattle.std.proofs.lemmas.List.{append-nil}
use Rattle.std.proofs.lemmas.Result.{IfOk-weaker}
use Rattle.j39_tp.specs.Receiver.{Receiving, message_of}
use Rattle.j39_tp.specs.declared.packet.Packet.{Packet}
use Rattle.j39_tp.specs.declared.receiving.progress.Progress.{Progress}
use Rattle.j39_tp.specs.declared.receiving.progress.Progress.TheVariants.{Complete}
use Rattle.j39_log.specs.PairListeners.{listener_of_pair}
use Rattle.j39_log.specs.ReadText.{heard_before}
use Rattle.j39_log.proofs.Completing.{carried_there, completed_there, uncarried_there, uncompleted}
use Rattle.j39_log.proofs.PairLists.{heard_in_range, heard_itself, turned}
use Rattle.j39_log.proofs.address_report.write_packet.Goals as goal

pub returns-in-Some-clause-heard : goal.returns-in-Some-clause-heard
returns-in-Some-clause-heard c =
    IfOk-weaker c.write_planned.result _ _
    (λ _ _. λ seen have.
    turned c.args.listeners.now.rows.items c.listen.new.listeners.rows.items seen c.args.frame.now c.args.packet.now c.in_ok-pgn.ensures.heard have)
    c.write_planned.ensures

pub returns-in-None-clause-heard : goal.returns-in-None-clause-heard
returns-in-None-clause-heard c = λ seen have.
    turned c.args.listeners.now.rows.items c.listen.new.listeners.rows.items seen c.args.frame.now c.args.packet.now c.in_ok-pgn.ensures.heard have

pub returns-in-Some-clause-message : goal.returns-in-Some-clause-message
returns-in-Some-clause-message c =
    let i = c.args.frame.now.ident in
    let p : Packet = c.args.packet.now in
    let old = listener_of_pair c.args.listeners.now.rows.items i.sa i.ps in
    let new = listener_of_pair c.listen.new.listeners.rows.items i.sa i.ps in
    let done = completed_there old p c.in-Some.pgn (sym c.in_ok-pgn.ensures.group ∙ c.in-Some.is) in
    let itself = heard_itself c.args.listeners.now.rows.items c.listen.new.listeners.rows.items i p c.in_ok-pgn.ensures.heard in
    let progress : new.progress ≡ Complete c.number.result =
    ap (λ (r : Receiving). r.progress) itself ∙ done.1 ∙ ap Complete (sym c.number.ensures.value) in
    let bytes : new.bytes ≡ c.bytes-bytes.result.now =
    sym (c.bytes-bytes.ensures ∙ ap (λ (pr : Progress). message_of pr new.bytes) progress) in
    IfOk-weaker c.write_planned.result _ _
    (λ _ written. λ seen have ranges. (
      written.0,
      inl (
        c.number.result,
        c.bytes-bytes.result.now,
        carried_there c.listener_completes_what_is_carried.ensures.completed (heard_before seen i) p old new c.number.result
            c.bytes-bytes.result.now (have i.sa i.ps i.sa_range i.ps_range) itself (heard_in_range i.sa i.ps seen ranges)
            c.requires done.0 progress bytes,
        written.1,
      ),
      written.2,
    ))
    c.write_planned.ensures

pub returns-in-None-clause-message : goal.returns-in-None-clause-message
returns-in-None-clause-message c = λ seen have ranges.
    let i = c.args.frame.now.ident in
    let p : Packet = c.args.packet.now in
    let old = listener_of_pair c.args.listeners.now.rows.items i.sa i.ps in
    let unstated = uncompleted old p (sym c.in_ok-pgn.ensures.group ∙ c.in-None.is) in (
      [],
      inr (
        uncarried_there c.listener_completes_what_is_carried.ensures.carried (heard_before seen i) p old
            (have i.sa i.ps i.sa_range i.ps_range) unstated,
        refl,
      ),
      sym (append-nil c.args.text.now),
    )
