use Rattle.std.proofs.Common.{subst, ap, sym, ◌∙◌}
use Rattle.std.specs.FinMap as map
use Rattle.j39_claim.specs.inside.Noting.{IsAt, IsGapFor, AreNotes}
use Rattle.j39_claim.proofs.Counts.{dropped}
use Rattle.j39_claim.proofs.RisingNotes.{map_of, note_removed, remove_absent}
use Rattle.j39_claim.proofs.notes.Notes.forget.Goals as goal
use Rattle.j39_claim.proofs.notes.Notes.forget.Goals.{After-lower}

at : (c : After-lower) → IsAt c.self.inside.pairs.items c.args.name c.in-Ok.place
at c = subst (λ l. IsAt l c.args.name c.in-Ok.place) c.as_slice.ensures.value c.in-Ok.ensures.found

pub invariant_of-self : goal.invariant_of-self
invariant_of-self c =
    subst (λ l. AreNotes l c.lower.new.self) (sym c.remove-address.ensures.items)
    (dropped c.self.inside.pairs.items c.args.name c.in-Ok.place _ c.remove-address.result c.self.inside.counts c.lower.new.self
    c.self.invariant (at c) (ap (λ pair. pair.1) c.remove-address.ensures.value) c.lower.ensures)

pub returns-in-Ok : goal.returns-in-Ok
returns-in-Ok c =
    ap map_of c.remove-address.ensures.items ∙ (note_removed c.self.inside.pairs.items c.args.name c.in-Ok.place c.self.invariant.rising (at c)).map
    ∙ ap (λ m. map.remove m c.args.name) c.self.view_is

pub returns-in_default : goal.returns-in_default
returns-in_default c =
    let gap = subst (λ l. IsGapFor l c.args.name c.in_default.field-0) c.as_slice.ensures.value c.in_default.ensures.absent in
    sym c.self.view_is ∙ remove_absent c.self.inside.pairs.items c.args.name c.in_default.field-0 c.self.invariant.rising gap
    ∙ ap (λ m. map.remove m c.args.name) c.self.view_is
