use Rattle.std.proofs.Common.{◌≡◌, ◌<◌, ◌==◌, ℕ, length, sym, subst, ◌∙◌, inl, inr, arith, eqb-true}
use Rattle.std.specs.Prelude.{slice_set}
use Rattle.std.proofs.lemmas.Bool.{cases_Bool, eqb-false}
use Rattle.std.proofs.lemmas.List.{length-set}
use Rattle.j39_follow.specs.Who.{IsWho}
use Rattle.j39_follow.specs.declared.address.who.Who.{Who}
use Rattle.j39_follow.specs.declared.address.who.Who.TheVariants.{Holder}
use Rattle.j39_follow.specs.inside.Recounting.{party_at}
use Rattle.j39_follow.proofs.Addresses.Tables.{set_here, set_there}
use Rattle.j39_follow.proofs.address.directory.parties_of.Goals as goal

pub loop-address-preserved : goal.loop-address-preserved
loop-address-preserved c =
    let plan = c.args.plan.now in
    let parties = c.loop-address.parties in
    let k = c.loop-address.address in
    let who : Who = c.who_at.result in
    let before = c.loop-address.invariant in
    let room : k < length parties = (let count = before.0 in let test = c.loop-address-test.true in omega (arith, count, test)) in (
      length-set parties k who ∙ before.0,
      λ frames of a less. elim (cases_Bool (k == a)) [
        | inl same ↦
            let is : k ≡ a = eqb-true k a same in
            let here : party_at (slice_set parties k who) k ≡ who = set_here parties k who (Holder 0) room in
            subst (λ (i : ℕ). IsWho plan frames i (party_at (slice_set parties k who) i)) is
            (subst (IsWho plan frames k) (sym here) (c.who_at.ensures frames of))
        | inr other ↦
            let apart = eqb-false k a other in
            subst (IsWho plan frames a) (sym (set_there parties k a who (Holder 0) apart)) (before.1 frames of a (omega (arith, less, apart)))
      ],
    )

pub returns : goal.returns
returns c = λ frames of address less. c.loop-address.invariant.1 frames of address (omega (arith, less, c.loop-address-test.false))
