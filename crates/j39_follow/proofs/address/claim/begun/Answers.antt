use Rattle.std.proofs.Common.{is_some, sym, ap, subst, ◌∙◌}
use Rattle.j39_follow.specs.inside.Contesting.{IsBegun, IsMet}
use Rattle.j39_follow.proofs.Addresses.Beginning.{begun_with, none_free, none_met, none_pooled, none_timed}
use Rattle.j39_follow.proofs.address.claim.begun.Goals as goal

pub returns-in_default : goal.returns-in_default
returns-in_default c = λ before x knows at. none_timed c.args.plan.now before x c.args.claim at c.args.old c.in_default.is

pub returns-then-not-is_in_pool : goal.returns-then-not-is_in_pool
returns-then-not-is_in_pool c = λ before x knows at.
    none_pooled c.args.plan.now before x c.args.claim at c.args.old (sym c.is_in_pool.ensures ∙ c.if-not-is_in_pool.true)

pub returns-then-is_some : goal.returns-then-is_some
returns-then-is_some c = λ before x knows at.
    none_free c.args.plan.now before x c.args.claim at c.args.old
    (sym (ap is_some c.running.ensures) ∙ sym c.is_some.ensures ∙ c.if-is_some.true)

pub returns-in_default-opponent : goal.returns-in_default-opponent
returns-in_default-opponent c = λ before x knows at.
    none_met c.args.plan.now before x c.args.claim at c.args.old
    (subst (IsMet c.args.plan.now before c.args.old x c.args.claim) c.in_default-opponent.is (c.opponent.ensures before x knows at))

pub returns : goal.returns
returns c = λ before x knows at.
    subst (IsBegun c.args.plan.now before c.args.old x c.args.claim.address) (sym c.contest_with.ensures)
    (begun_with c.args.plan.now before x c.args.claim at c.args.old c.in-Some.since c.in-Some-opponent.opponent c.in-Some.is
    (sym c.is_in_pool.ensures ∙ c.if-not-is_in_pool.false)
    (sym (ap is_some c.running.ensures) ∙ sym c.is_some.ensures ∙ c.if-is_some.false)
    (subst (IsMet c.args.plan.now before c.args.old x c.args.claim) c.in-Some-opponent.is (c.opponent.ensures before x knows at)))
