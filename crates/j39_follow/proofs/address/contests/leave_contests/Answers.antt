use Rattle.std.proofs.Common.{◌≡◌, ◌<◌, ◌==◌, ℕ, length, subst, ◌∙◌, inl, inr, arith, eqb-true}
use Rattle.std.specs.Prelude.{slice_set}
use Rattle.std.proofs.lemmas.Bool.{cases_Bool, eqb-false}
use Rattle.std.proofs.lemmas.Grind.{common_steps}
use Rattle.std.proofs.lemmas.List.{length-set}
use Rattle.j39_follow.specs.Contests.{nothing_contended}
use Rattle.j39_follow.specs.declared.address.contest.Contention.{Contention}
use Rattle.j39_follow.specs.inside.Contesting.{contention_at, remaining_at}
use Rattle.j39_follow.proofs.Addresses.Tables.{set_here, set_there}
use Rattle.j39_follow.proofs.address.contests.leave_contests.Goals as goal

pub loop-address-preserved : goal.loop-address-preserved
loop-address-preserved c =
    let table = c.args.table.now in
    let rest = c.loop-address.table in
    let k = c.loop-address.address in
    let old = contention_at rest k in
    let new : Contention = record { since = old.since; taken = old.taken; contest = c.contest_left.result } in
    let before = c.loop-address.invariant in
    let room : k < length rest = (let count = before.0 in let test = c.loop-address-test.true in omega (arith, count, test)) in
    let untouched : old ≡ contention_at table k = before.2 k (omega arith) in
    let is_new : new ≡ remaining_at c.args.party (contention_at table k) = grind (arith, common_steps) in (
      length-set rest k new ∙ before.0,
      λ a less. elim (cases_Bool (k == a)) [
        | inl same ↦
            let is : k ≡ a = eqb-true k a same in
            subst (λ (i : ℕ). contention_at (slice_set rest k new) i ≡ remaining_at c.args.party (contention_at table i)) is
            (set_here rest k new nothing_contended room ∙ is_new)
        | inr other ↦
            let apart = eqb-false k a other in
            set_there rest k a new nothing_contended apart ∙ before.1 a (omega (arith, less, apart))
      ],
      λ a reached. set_there rest k a new nothing_contended (λ e. omega (arith, reached, e)) ∙ before.2 a (omega (arith, reached)),
    )

pub returns : goal.returns
returns c = λ address less. c.loop-address.invariant.1 address (omega (arith, less, c.loop-address-test.false))
