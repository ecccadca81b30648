use Rattle.std.proofs.Common.{◌≡◌, ℕ, ◌<◌, List, [], get_or, sym, ap, ◌∙◌, subst, arith, inl, inr, eqb}
use Rattle.std.proofs.lemmas.Bool.{cases_Bool, eqb-false, eqb-true}
use Rattle.std.proofs.lemmas.Option.{get_or_from_slice_get, slice_get_within}
use Rattle.j39_network.specs.declared.plan.unit_plan.UnitPlan.{UnitPlan}
use Rattle.j39_schedule.specs.inside.UnitIndexes.{Has}
use Rattle.j39_schedule.specs.inside.Checksums.{checksum}
use Rattle.j39_schedule.proofs.unit_index.UnitIndex.new.Goals as goal

pub loop-place-preserved : goal.loop-place-preserved
loop-place-preserved c = λ u unit below at.
    let units = c.args.plan.now.units.items in
    let place = c.loop-place.place in
    elim (cases_Bool (eqb u place)) [
      | inl here ↦
          let is = eqb-true u place here in
          let same : c.index.result.now ≡ unit =
          c.index.ensures ∙ ap (λ k. get_or units k c.index.result.now) (sym is) ∙ get_or_from_slice_get units u unit _ at in
          let bytes = c.as_bytes.ensures.value ∙ c.deref.ensures.0 ∙ ap (λ (w : UnitPlan). w.label.bytes) same in
          subst (λ (l : List ℕ). Has (get_or c.add.new.self (checksum l) []) u) bytes
          (subst (λ (k : ℕ). Has (get_or c.add.new.self (checksum c.as_bytes.result.now) []) k) (sym is) c.in_ok-add.ensures.has)
      | inr other ↦
          let differs = eqb-false u place other in
          c.in_ok-add.ensures.keeps _ u (c.loop-place.invariant u unit (omega (arith, below, differs)) at)
    ]

pub returns : goal.returns
returns c = λ u unit at. c.loop-place.invariant u unit (let within = slice_get_within c.args.plan.now.units.items u unit at in omega (arith, within)) at
