use Rattle.std.proofs.Common.{◌≡◌, ℕ, true, sym, subst, ◌∙◌}
use Rattle.std.proofs.lemmas.Bool.{true≢false}
use Rattle.std.proofs.lemmas.Option.{none-some}
use Rattle.j39_follow.specs.Who.{is_name_of}
use Rattle.j39_follow.proofs.Addresses.Tables.{there_same}
use Rattle.j39_follow.proofs.address.holders.Holders.is_of.Goals as goal

pub returns-in-Some-clause-held : goal.returns-in-Some-clause-held
returns-in-Some-clause-held c = λ yes. record {
  name = c.in-Some.name;
  named = c.in-Some.ensures.some;
  name_of = sym (c.is_name_of.ensures c.args.plan.now c.unit_named.ensures) ∙ yes;
}

pub returns-in-Some-clause-not : goal.returns-in-Some-clause-not
returns-in-Some-clause-not c = λ no held.
    let same : held.name ≡ c.in-Some.name = there_same held.name c.in-Some.name (sym held.named ∙ c.in-Some.ensures.some) in
    true≢false (sym (subst (λ (n : ℕ). is_name_of c.args.plan.now c.args.place c.args.unit.now n ≡ true) same held.name_of)
    ∙ sym (c.is_name_of.ensures c.args.plan.now c.unit_named.ensures) ∙ no)

pub returns-in-None-clause-not : goal.returns-in-None-clause-not
returns-in-None-clause-not c = λ no held. none-some held.name (sym c.in-None.is ∙ c.holder_at.ensures.only held.name held.named)
