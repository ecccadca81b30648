use Rattle.std.proofs.Common.{◌||◌, ltb, length, ap, sym, ◌∙◌}
use Rattle.j39_claim.proofs.RisingNotes.{room}
use Rattle.j39_claim.proofs.notes.Notes.can_note.Goals as goal

pub returns-then-is_ok : goal.returns-then-is_ok
returns-then-is_ok c =
    let es = c.self.inside.pairs.items in
    let place = c.place_of in
    let has_room = room es c.as_slice.result.now c.args.name c.args.self.now place.result c.as_slice.ensures.value c.self.view_is
    c.self.invariant.rising place.ensures.found place.ensures.absent in
    c.if-is_ok.true ∙ sym (has_room ∙ ap (λ b. b || ltb (length es) 128) (sym c.is_ok.ensures.value ∙ c.if-is_ok.true))

pub returns-else-is_ok : goal.returns-else-is_ok
returns-else-is_ok c =
    let es = c.self.inside.pairs.items in
    let place = c.place_of in
    let has_room = room es c.as_slice.result.now c.args.name c.args.self.now place.result c.as_slice.ensures.value c.self.view_is
    c.self.invariant.rising place.ensures.found place.ensures.absent in
    ap (λ k. ltb k 128) c.len.ensures.value ∙ sym (has_room ∙ ap (λ b. b || ltb (length es) 128) (sym c.is_ok.ensures.value ∙ c.if-is_ok.false))
