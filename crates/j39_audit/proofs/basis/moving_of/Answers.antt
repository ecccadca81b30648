use Rattle.std.proofs.Common.{◌≡◌, ◌&&◌, ◌∷◌, [], not, ℕ, Bool, List, false, get_or, length, slice_index_or, ap, subst, ◌∙◌, arith, inl, inr}
use Rattle.std.proofs.lemmas.Bool.{cases_lt}
use Rattle.std.proofs.lemmas.List.{get_or_append_left, get_or_push, length_push}
use Rattle.std.proofs.lemmas.Option.{get_or_from_slice_get, slice_get_within}
use Rattle.j39_id.specs.Name.{is_arbitrary}
use Rattle.j39_findings.specs.Standing.{stays_of}
use Rattle.j39_network.specs.declared.plan.unit_plan.UnitPlan.{UnitPlan}
use Rattle.j39_audit.proofs.basis.moving_of.Goals as goal

pub returns : goal.returns
returns c =
    let units = c.args.plan.now.units.items in
    let before = c.loop-unit.invariant in
    let size = before.size in
    let test = c.loop-unit-test.false in
    let auto = c.loop-unit.auto.unit-index-end in
    let same = ap length c.deref-unit-items.ensures.value in
    let end : c.loop-unit.unit-index ≡ length units = omega (arith, test, auto, same) in
    record {
      size = omega (arith, size, end);
      stays = stays_of c.new-standing.result;
      decides = c.new-standing.ensures.stays;
      each = λ u unit at. before.each u unit (let inside = slice_get_within units u unit at in omega (arith, inside, end)) at;
    }

pub loop-unit-preserved : goal.loop-unit-preserved
loop-unit-preserved c =
    let before = c.loop-unit.invariant in
    let units : List UnitPlan = c.args.plan.now.units.items in
    let old : List Bool = c.loop-unit.moving.items in
    let new : Bool = c.may_move.result in
    let index : ℕ = c.loop-unit.unit-index in
    let item : UnitPlan = c.unit-item.result in
    let size = before.size in
    let pushed = c.in_ok-push.ensures.items in
    let same_length = ap length pushed in
    let more = length_push old new in
    record {
      size = omega (arith, same_length, more, size);
      each = λ u unit less at. ap (λ (l : List Bool). slice_index_or l u false) pushed
          ∙ elim (cases_lt u index) [
            | inl below ↦ get_or_append_left old (new ∷ []) false u (omega (arith, below, size)) ∙ before.each u unit below at
            | inr above ↦
                let same : u ≡ index = omega (arith, less, above) in
                let there : get_or units index item ≡ unit =
                subst (λ (i : ℕ). get_or units i item ≡ unit) same (get_or_from_slice_get units u unit item at) in
                let is : item ≡ unit = c.unit-item.is ∙ ap (λ (xs : List UnitPlan). get_or xs index item) c.deref-unit-items.ensures.value ∙ there in
                get_or_push old new false u (omega (arith, size, same)) ∙ c.may_move.ensures
                ∙ ap (λ (v : UnitPlan). is_arbitrary v.name && not (stays_of c.new-standing.result v)) is
          ];
    }
