use Rattle.std.proofs.Common.{◌≡◌, [], ℕ, Option, Some, None, inl, inr, refl, sym, ◌∙◌, subst}
use Rattle.std.proofs.lemmas.List.{append-nil}
use Rattle.std.proofs.lemmas.Result.{IfOk-weaker}
use Rattle.j39_log.specs.LogFrames.{planned_group}
use Rattle.j39_log.specs.ReadText.{IsGroupReport}
use Rattle.j39_log.proofs.FoundGroups.{found_for}
use Rattle.j39_log.proofs.Outcomes.{both_ok}
use Rattle.j39_log.proofs.PairLists.{unheard}
use Rattle.j39_log.proofs.address_report.write_frame.Goals as goal

pub returns-in-Some : goal.returns-in-Some
returns-in-Some c =
    let plan = c.args.groups.now in
    let f = c.args.frame.now in
    let group : c.place.result ≡ planned_group plan f =
    found_for plan f c.number.result c.as_slice-bytes.result.now c.place.result (c.number.ensures.value ∙ c.pgn.ensures)
    c.as_slice-bytes.ensures.value c.place.ensures in
    let planned : planned_group plan f ≡ Some c.in-Some.place = sym group ∙ c.in-Some.is in
    IfOk-weaker c.write_group.result _ _
    (λ _ written. λ seen have ranges. (
      None,
      written.0,
      inl (λ none. cc (none, planned)),
      tt,
      subst (λ (place : Option ℕ). IsGroupReport plan place f.ident f.payload.items written.0) (sym planned) (rw c.as_slice-bytes.ensures.value at written.1),
      unheard c.args.listeners.now.rows.items seen f have,
      written.2,
    ))
    c.write_group.ensures

pub returns-in-Some-transport_packet : goal.returns-in-Some-transport_packet
returns-in-Some-transport_packet c =
    let plan = c.args.groups.now in
    let f = c.args.frame.now in
    let group : c.place.result ≡ planned_group plan f =
    found_for plan f c.number.result c.as_slice-bytes.result.now c.place.result (c.number.ensures.value ∙ c.pgn.ensures)
    c.as_slice-bytes.ensures.value c.place.ensures in
    both_ok c.write_packet.result _ _ _ c.write_packet.ensures.heard c.write_packet.ensures.message
    (λ heard written. λ seen have ranges.
    let stated = written seen have ranges in (
      Some c.in-Some-transport_packet.packet,
      stated.0,
      (sym group ∙ c.in_default.is, c.in-Some-transport_packet.ensures.found.0),
      c.in-Some-transport_packet.ensures.found.1,
      stated.1,
      heard seen have,
      stated.2,
    ))

pub returns-in-None : goal.returns-in-None
returns-in-None c = λ seen have ranges.
    let plan = c.args.groups.now in
    let f = c.args.frame.now in
    let group : c.place.result ≡ planned_group plan f =
    found_for plan f c.number.result c.as_slice-bytes.result.now c.place.result (c.number.ensures.value ∙ c.pgn.ensures)
    c.as_slice-bytes.ensures.value c.place.ensures in (
      None,
      [],
      inr c.in-None.ensures.none,
      tt,
      subst (λ (place : Option ℕ). IsGroupReport plan place f.ident f.payload.items []) (sym (sym group ∙ c.in_default.is)) refl,
      unheard c.args.listeners.now.rows.items seen f have,
      sym (append-nil c.args.text.now),
    )
