use Rattle.std.proofs.Common.{ℕ, Option, sym, ap, ◌∙◌}
use Rattle.j39_follow.specs.inside.Contesting.{defender_at}
use Rattle.j39_follow.proofs.address.contests.Contests.are_over.Goals as goal

pub returns-clause-source : goal.returns-clause-source
returns-clause-source c = λ calm.
    ap (λ (t : Option ℕ). defender_at c.args.self.now c.args.ident.sa t) (sym c.moment-now.ensures)
    ∙ sym c.defender-source.ensures ∙ c.are_none.ensures.source calm

pub returns-clause-receiver : goal.returns-clause-receiver
returns-clause-receiver c = λ calm.
    ap (λ (t : Option ℕ). defender_at c.args.self.now c.args.ident.ps t) (sym c.moment-now.ensures)
    ∙ sym c.defender-receiver.ensures ∙ c.are_none.ensures.receiver calm
