use Rattle.std.proofs.Common.{◌≡◌, length, refl, sym, ap, ◌∙◌, arith}
use Rattle.j39_variant_search.specs.VariantSearch.{box_flags, boxes_flags}
use Rattle.j39_line_witnesses.specs.PartBoxes.{holes_of_parts, parts_box}
use Rattle.j39_line_witnesses.proofs.Meeting.{kept_boxes, none_unknown, witness_by}
use Rattle.j39_line_witnesses.proofs.witness.first_meeting.Goals as goal

pub returns-then-not-names_known_choices-clause-first : goal.returns-then-not-names_known_choices-clause-first
returns-then-not-names_known_choices-clause-first c =
    none_unknown c.args.line.now c.args.condition.now (rw c.deref.ensures.value at (sym c.names_known_choices.ensures ∙ c.if-not-names_known_choices.true))

pub returns-clause-kept : goal.returns-clause-kept
returns-clause-kept c =
    let count : c.len-count.result ≡ length c.args.holes.now.items = omega arith in
    ap boxes_flags c.truncate.ensures.items
    ∙ kept_boxes c.args.holes.now.items c.add_holes.new.holes.items (holes_of_parts c.args.line.now c.deref-3.result.now) c.len-count.result count
    c.in_ok-add_holes.ensures

pub returns-clause-first : goal.returns-clause-first
returns-clause-first c =
    let line = c.args.line.now in
    witness_by line c.args.condition.now (rw c.deref.ensures.value at (sym c.names_known_choices.ensures ∙ c.if-not-names_known_choices.false)) c.in_ok-found.found
    (box_flags c.deref-4.result.now) (boxes_flags c.deref-5.result.now)
    (ap box_flags c.deref-4.ensures.value ∙ c.in_ok-within.ensures ∙ ap (parts_box line) c.deref-2.ensures.value)
    (ap boxes_flags c.deref-5.ensures.value ∙ c.in_ok-add_holes.ensures ∙ (rw (c.requires, c.deref-3.ensures.value) refl))
    c.in_ok-found.ensures
