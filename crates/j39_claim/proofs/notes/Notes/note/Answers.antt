use Rattle.std.proofs.Common.{◌≡◌, get_or, ltb, length, true, Err, lit<, subst, ap, sym, ◌∙◌}
use Rattle.std.proofs.lemmas.Bool.{ltb-true}
use Rattle.std.specs.FinMap as map
use Rattle.j39_claim.specs.inside.Noting.{IsAt, IsGapFor, AreNotes}
use Rattle.j39_claim.proofs.Counts.{More, moved, added}
use Rattle.j39_claim.proofs.RisingNotes.{map_of, room, note_set, note_inserted, refilled_set}
use Rattle.j39_claim.proofs.notes.Notes.note.Goals as goal
use Rattle.j39_claim.proofs.notes.Notes.note.Goals.{in-Ok, in-Err}

pub insert-requires : goal.insert-requires
insert-requires c =
    let es = c.self.inside.pairs.items in
    let gap = subst (λ l. IsGapFor l c.args.name c.in-Err.place) c.as_slice.ensures.value c.in-Err.ensures.absent in
    let few : ltb (length es) 128 ≡ true =
    sym (room es c.as_slice.result.now c.args.name c.args.self.now (Err c.in-Err.place) c.as_slice.ensures.value c.self.view_is
    c.self.invariant.rising tt c.in-Err.ensures.absent) ∙ c.requires in
    (lit< tt, (gap.in_range, ltb-true (length es) 128 few))

pub invariant_of-self : goal.invariant_of-self
invariant_of-self c =
    let es = c.self.inside.pairs.items in
    let name = c.args.name in
    elim c.match-place_of.branch [
      | in-Ok w ↦
          let at = subst (λ l. IsAt l name w.in-Ok.place) c.as_slice.ensures.value w.in-Ok.ensures.found in
          let more = subst (λ s. More c.args.address s.counts c.raise.new.self) w.self-inside-is c.raise.ensures in
          let old = w.index-as_slice-place.result in
          subst (λ s. AreNotes s.pairs.items c.raise.new.self) (sym w.self-inside-is)
          (subst (λ l. AreNotes l c.raise.new.self)
          (sym (refilled_set es w.as_mut_slice.result.now w.in-Ok.place (name, c.args.address) w.as_mut_slice.ensures.value))
          (moved es name c.args.address w.in-Ok.place _ old c.self.inside.counts w.lower.new.self c.raise.new.self c.self.invariant at
          (ap (λ l. (get_or l w.in-Ok.place old).1) w.as_slice-in-Ok.ensures.value) w.lower.ensures more))
      | in-Err w ↦
          let gap = subst (λ l. IsGapFor l name w.in-Err.place) c.as_slice.ensures.value w.in-Err.ensures.absent in
          let more = subst (λ s. More c.args.address s.counts c.raise.new.self) w.self-inside-is c.raise.ensures in
          subst (λ s. AreNotes s.pairs.items c.raise.new.self) (sym w.self-inside-is)
          (subst (λ l. AreNotes l c.raise.new.self) (sym w.insert.ensures.items)
          (added es name c.args.address w.in-Err.place c.self.inside.counts c.raise.new.self c.self.invariant gap more))
    ]

pub returns : goal.returns
returns c =
    let es = c.self.inside.pairs.items in
    let name = c.args.name in
    elim c.match-place_of.branch [
      | in-Ok w ↦
          let at = subst (λ l. IsAt l name w.in-Ok.place) c.as_slice.ensures.value w.in-Ok.ensures.found in
          ap (λ s. map_of s.pairs.items) w.self-inside-is
          ∙ ap map_of (refilled_set es w.as_mut_slice.result.now w.in-Ok.place (name, c.args.address) w.as_mut_slice.ensures.value)
          ∙ (note_set es name c.args.address w.in-Ok.place c.self.invariant.rising at).map ∙ ap (λ m. map.insert m name c.args.address) c.self.view_is
      | in-Err w ↦
          let gap = subst (λ l. IsGapFor l name w.in-Err.place) c.as_slice.ensures.value w.in-Err.ensures.absent in
          ap (λ s. map_of s.pairs.items) w.self-inside-is ∙ ap map_of w.insert.ensures.items
          ∙ (note_inserted es name c.args.address w.in-Err.place c.self.invariant.rising gap).map
          ∙ ap (λ m. map.insert m name c.args.address) c.self.view_is
    ]
