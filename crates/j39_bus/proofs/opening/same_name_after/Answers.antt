use Rattle.std.proofs.Common.{◌<◌, ◌≤◌, length, sym, ◌∙◌, arith, below_more}
use Rattle.std.proofs.lemmas.Option.{slice_get_within}
use Rattle.j39_bus.proofs.Opened.{got, not_one_at, one_at}
use Rattle.j39_bus.proofs.opening.same_name_after.Goals as goal

pub loop-second-preserved : goal.loop-second-preserved
loop-second-preserved c =
    let plan = c.args.plan.now in
    let units = plan.units.items in
    let first = c.index-units-first.result in
    let second = c.index-units-second.result in
    let first_is = rw c.as_slice-units.ensures.value at c.index-units-first.is in
    let second_is = rw c.as_slice-units.ensures.value at c.index-units-second.is in
    let inside : c.loop-second.second < length units = rw c.as_slice-units.ensures.value at c.loop-second-test.true in
    below_more _ _ c.loop-second.invariant
    (not_one_at plan c.args.first c.loop-second.second first second (got units c.args.first first c.requires first_is)
    (got units c.loop-second.second second inside second_is) (sym c.may_be_one.ensures ∙ c.if-may_be_one.false))

pub returns-then-may_be_one-clause-some : goal.returns-then-may_be_one-clause-some
returns-then-may_be_one-clause-some c =
    let plan = c.args.plan.now in
    let units = plan.units.items in
    let first = c.index-units-first.result in
    let second = c.index-units-second.result in
    let first_is = rw c.as_slice-units.ensures.value at c.index-units-first.is in
    let second_is = rw c.as_slice-units.ensures.value at c.index-units-second.is in
    let inside : c.loop-second.second < length units = rw c.as_slice-units.ensures.value at c.loop-second-test.true in
    let behind = c.loop-second.auto.second in (
      one_at plan c.args.first c.loop-second.second first second (omega (arith, behind)) (got units c.args.first first c.requires first_is)
          (got units c.loop-second.second second inside second_is) (sym c.may_be_one.ensures ∙ c.if-may_be_one.true),
      c.loop-second.invariant,
    )

pub returns-clause-none : goal.returns-clause-none
returns-clause-none c = λ k one.
    let units = c.args.plan.now.units.items in
    let end : length units ≤ c.loop-second.second = rw c.as_slice-units.ensures.value at c.loop-second-test.false in
    let inside = slice_get_within units k one.second one.second_is in
    c.loop-second.invariant k (omega (arith, end, inside)) one
