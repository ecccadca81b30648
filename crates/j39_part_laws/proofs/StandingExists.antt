-- Of each plan there is what reports which of its units stay.
use Rattle.std.proofs.Common.{◌≡◌, ℕ, zero, suc, ◌+◌, ◌≤◌, Bool, true, ◌&&◌, ltb, List, length, replicate, Option, None, sym, ◌∙◌, subst, arith, inl, inr}
use Rattle.std.proofs.lemmas.Bool.{cases_Bool, true≢false}
use Rattle.j39_network.specs.declared.plan.Plan.{Plan}
use Rattle.j39_network.specs.declared.plan.unit_plan.UnitPlan.{UnitPlan}
use Rattle.j39_findings.specs.Standing.{AreFirsts, DecidesWhoStays, IsMover, is_mover_by, is_settled, stays_by}
use Rattle.j39_findings.proofs.WhoStays.{entered, least_skips, least_takes, none_entered, none_least, some_come, stated}
use Rattle.j39_part_laws.proofs.Places.{value_at}

module _ (units : List UnitPlan) where
  -- the least NAME at each address
  some_firsts : (count : ℕ) → count ≤ length units → (firsts : List (Option ℕ)) × AreFirsts units count firsts
  some_firsts zero few = (replicate 256 None, none_entered units)
  some_firsts (suc count) few =
      let before = some_firsts count (omega (arith, few)) in
      let (unit, at) = value_at units count (omega (arith, few)) in
      let more : count + 1 ≡ suc count = omega arith in
      subst (λ n. (firsts : List (Option ℕ)) × AreFirsts units n firsts) more (_, entered units count before.0 before.1 unit at)

  -- and that of those that may have to move
  some_mover : (firsts : List (Option ℕ)) (count : ℕ) → count ≤ length units → (mover : Option ℕ) × IsMover units count firsts mover
  some_mover firsts zero few = (None, none_least units (λ unit. is_mover_by firsts unit ≡ true))
  some_mover firsts (suc count) few =
      let before = some_mover firsts count (omega (arith, few)) in
      let (unit, at) = value_at units count (omega (arith, few)) in
      let more : count + 1 ≡ suc count = omega arith in
      elim (cases_Bool (is_mover_by firsts unit)) [
        | inl moves ↦ subst (λ n. (mover : Option ℕ) × IsMover units n firsts mover) more
            (_, least_takes units count (λ x. is_mover_by firsts x ≡ true) before.0 before.1 unit at moves)
        | inr stays ↦ subst (λ n. (mover : Option ℕ) × IsMover units n firsts mover) more
            (_, least_skips units count (λ x. is_mover_by firsts x ≡ true) before.0 before.1 unit at (λ moves. true≢false (sym moves ∙ stays)))
      ]

pub some_standing : (plan : Plan) → (stays : UnitPlan → Bool) × DecidesWhoStays plan stays
some_standing plan =
    let all = length plan.units.items in
    let firsts = some_firsts plan.units.items all (omega arith) in
    let mover = some_mover plan.units.items firsts.0 all (omega arith) in
    let strangers = ltb 0 plan.strangers in
    (λ unit. stays_by firsts.0 mover.0 unit && is_settled strangers unit, stated plan firsts.0 mover.0 firsts.1 mover.1 strangers (some_come plan.strangers))
