use Rattle.std.proofs.Common.{◌≤◌, ℕ, sym, subst, ◌∙◌}
use Rattle.std.proofs.lemmas.Option.{none-some, same_Some}
use Rattle.j39_follow.specs.inside.Recounting.{claimed_at}
use Rattle.j39_follow.proofs.address.holders.Holders.is_later.Goals as goal

pub returns-in-Some-clause-later : goal.returns-in-Some-clause-later
returns-in-Some-clause-later c = λ yes a e.
    subst (λ (i : ℕ). claimed_at c.args.self.now i ≤ claimed_at c.args.self.now c.args.address)
    (same_Some c.in-Some.other a (sym c.in-Some.is ∙ e)) (c.is_in_order.ensures.yes yes)

pub returns-in-Some-clause-not : goal.returns-in-Some-clause-not
returns-in-Some-clause-not c = λ no. (c.in-Some.other, c.in-Some.is, c.is_in_order.ensures.no no)

pub returns-in-None-clause-later : goal.returns-in-None-clause-later
returns-in-None-clause-later c = λ yes a e. absurd (none-some a (sym c.in-None.is ∙ e))
