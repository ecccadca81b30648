use Rattle.std.proofs.Common.{◌≡◌, ◌+◌, ◌<◌, ◌≤◌, vec_len, vec_capacity, ◌∷◌, [], ◌++◌, ℕ, suc, List}
use Rattle.std.proofs.Common.{Bool, true, false, cond, eqb, length, ap, refl, sym, ◌∙◌, arith}
use Rattle.std.proofs.lemmas.Bool.{and_right, eq-eqb, ne_eqb}
use Rattle.std.specs.List.{filter, range_with_len}
use Rattle.j39_world.specs.World.{is_other_on}
use Rattle.j39_bus.specs.Stations.{station_at}
use Rattle.j39_bus.proofs.WellFormed.{hears_as}
use Rattle.j39_bus.proofs.Wires.{tested_more}
use Rattle.j39_bus.proofs.Worlds.{append_nil}
use Rattle.j39_bus.proofs.transferring.beginning.others_on.Goals as goal
use Rattle.j39_bus.proofs.transferring.beginning.others_on.Goals.{then-place-unit+then-is_started, else-place-unit}
use Rattle.j39_bus.proofs.transferring.beginning.others_on.Goals.{else-place-unit-via-then-place-unit+else-is_started, else-place-unit-via-else-place-unit}

pub loop-place-preserved : goal.loop-place-preserved
loop-place-preserved c =
    let k = c.loop-place.place in
    let cs = c.args.claimers.now in
    let test : ℕ → Bool = is_other_on (station_at cs) c.args.unit in
    let below : k < length cs = omega arith in
    let heard = hears_as cs c.args.unit k c.index-claimers-place.result below c.index-claimers-place.is in
    let next : suc k ≡ k + 1 = omega arith in
    let same : k ≡ 0 + k = omega arith in
    let more : filter test (range_with_len 0 k) ++ cond (test k) (k ∷ []) [] ≡ filter test (range_with_len 0 (k + 1)) =
    ap (λ (j : ℕ). filter test (range_with_len 0 k) ++ cond (test j) (j ∷ []) []) same ∙ sym (tested_more test 0 k)
    ∙ ap (λ (j : ℕ). filter test (range_with_len 0 j)) next in
    let targets : c.if-place-unit.targets.items ≡ filter test (range_with_len 0 (k + 1)) = elim c.if-place-unit.branch [
      | then-place-unit+then-is_started w ↦
          let one : test k ≡ true = heard true false (sym w.is_started.ensures ∙ w.if-is_started.true) (ne_eqb k c.args.unit w.if-place-unit.true) in
          ap (λ v. v.items) w.targets-is ∙ w.push_reserved.ensures.items ∙ ap (λ (l : List ℕ). l ++ k ∷ []) c.loop-place.invariant.targets
          ∙ ap (λ b. filter test (range_with_len 0 k) ++ cond b (k ∷ []) []) (sym one) ∙ more
      | else-place-unit w ↦
          let none : test k ≡ false = elim w.else-place-unit.branch [
            | else-place-unit-via-then-place-unit+else-is_started v ↦ heard false (eqb k c.args.unit) (sym v.is_started.ensures ∙ v.if-is_started.false) refl
            | else-place-unit-via-else-place-unit v ↦
                heard c.index-claimers-place.result.state.on true refl (eq-eqb k c.args.unit v.if-place-unit.false)
                ∙ and_right c.index-claimers-place.result.state.on false refl
          ] in
          ap (λ v. v.items) w.targets-is ∙ c.loop-place.invariant.targets ∙ sym (append_nil (filter test (range_with_len 0 k)))
          ∙ ap (λ b. filter test (range_with_len 0 k) ++ cond b (k ∷ []) []) (sym none) ∙ more
    ] in
    let len : vec_len c.if-place-unit.targets ≤ k + 1 = elim c.if-place-unit.branch [
      | then-place-unit+then-is_started w ↦ omega (arith, ap vec_len w.targets-is)
      | else-place-unit w ↦ omega (arith, ap vec_len w.targets-is)
    ] in
    let room : length cs ≤ vec_capacity c.if-place-unit.targets = elim c.if-place-unit.branch [
      | then-place-unit+then-is_started w ↦ omega (arith, ap vec_capacity w.targets-is)
      | else-place-unit w ↦ omega (arith, ap vec_capacity w.targets-is)
    ] in
    record { targets = targets; len = len; room = room }
