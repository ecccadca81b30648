-- A flow that is reported as silent, by the bus or by load, has its line in the text.
use Rattle.std.proofs.Common.{◌≡◌, ◌≢◌, ℕ, min, ◌+◌, ◌<◌, ◌==◌, ◌∷◌, [], List, length}
use Rattle.std.proofs.Common.{inl, inr, refl, arith}
use Rattle.std.proofs.lemmas.Bool.{cases_eq, cond-false, cond-true, eq-eqb, ne_eqb}
use Rattle.std.proofs.lemmas.Option.{slice_get_within}
use Rattle.j39_id.specs.Lines.{lines}
use Rattle.j39_audit.specs.AuditPasts.{AuditPast, log_ended}
use Rattle.j39_audit.specs.AuditText.{Look, look_at, mark_at}
use Rattle.j39_audit.specs.Counting.{Noted, most_times, reported_at, reported_in, occurrences_of}
use Rattle.j39_audit.specs.declared.mark.Mark.{Mark}
use Rattle.j39_audit.specs.declared.mark.Word.TheVariants.{SilentFlow, SilentOrLate}
use Rattle.j39_audit_laws.specs.SilentFlows.{SilentAreFound}
use Rattle.j39_audit_laws.proofs.Hits.{In, hits, in_hits}
use Rattle.j39_audit_laws.proofs.SilentFound.{yielded_at_end}
use Rattle.j39_audit_laws.proofs.Written.{said, says}

-- what is among the notes was reported
once : (noted : List Noted) (m : Mark) (n : Noted) → In n noted → n.mark ≡ m → (reported_in noted m).times ≢ 0
unfolding reported_at
once noted m n is mark_is =
    elim (hits m noted) as (λ xs. In n xs → (occurrences_of xs).times ≢ 0) [
      | [] ↦ λ never. absurd never
      | x ∷ rest ↦ λ _ none. absurd (some (length rest) none)
    ] (in_hits m n noted is mark_is)
  where
    some : (k : ℕ) → min (k + 1) most_times ≡ 0 → ⊥
    some k none = absurd (omega (arith, none))

pub silent_are_found : SilentAreFound
silent_are_found s log text verdict a t timed us clock bus frame keeps on_bus n long =
    let end : AuditPast = log_ended s a.past in
    let look : Look = look_at end in
    let by_bus : Mark = mark_at SilentFlow n 0 in
    let or_late : Mark = mark_at SilentOrLate n 0 in
    let stated = yielded_at_end s (lines log) t timed us clock bus frame keeps on_bus n long a.past a.read in
    let load : (look or_late).times ≢ 0 = once end.by_load.untimely by_bus stated.note stated.noted stated.mark_is in
    let inside : n < length s.plan.flows.items = slice_get_within s.plan.flows.items n long.flow long.flow_is in
    elim (cases_eq (look by_bus).times 0) [
      | inl none ↦
          let is = said s log text verdict a or_late (says s look SilentFlow n 0 17 or_late (omega arith) refl inside (omega arith)
          (cond-true ((look by_bus).times == 0) or_late by_bus (eq-eqb (look by_bus).times 0 none)) load) in
          (is.findings, (or_late, look or_late, inr refl, is.written))
      | inr some ↦
          let is = said s log text verdict a by_bus (says s look SilentFlow n 0 17 by_bus (omega arith) refl inside (omega arith)
          (cond-false ((look by_bus).times == 0) or_late by_bus (ne_eqb (look by_bus).times 0 some)) some) in
          (is.findings, (by_bus, look by_bus, inl refl, is.written))
    ]
