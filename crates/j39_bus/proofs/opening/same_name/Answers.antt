use Rattle.std.proofs.Common.{◌≡◌, ℕ, subst, inl, inr, arith}
use Rattle.std.proofs.lemmas.Bool.{cases_lt}
use Rattle.std.proofs.lemmas.Option.{slice_get_within}
use Rattle.j39_network.specs.Kinds.{MayBeOneAt}
use Rattle.j39_bus.proofs.opening.same_name.Goals as goal

pub loop-first-preserved : goal.loop-first-preserved
loop-first-preserved c = λ j k less one.
    let plan = c.args.plan.now in
    let none : (k : ℕ) → ¬ MayBeOneAt plan c.loop-first.first k = rw c.in_default.is at c.same_name_after.ensures.none in
    elim (cases_lt j c.loop-first.first) [
      | inl below ↦ c.loop-first.invariant j k below one
      | inr above ↦
          let same : j ≡ c.loop-first.first = omega (arith, less, above) in
          none k (subst (λ i. MayBeOneAt plan i k) same one)
    ]

pub returns-clause-none : goal.returns-clause-none
returns-clause-none c = λ i j one.
    let inside = slice_get_within c.args.plan.now.units.items i one.first one.first_is in
    let end = c.loop-first-test.false in
    let count = c.len-first-end.ensures in
    c.loop-first.invariant i j (omega (arith, inside, end, count)) one
