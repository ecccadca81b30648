use Rattle.std.proofs.Common.{sym, ap, subst, ◌∙◌}
use Rattle.j39_follow.specs.Contests.{frames_of}
use Rattle.j39_follow.specs.Holders.{IsHolder}
use Rattle.j39_follow.specs.inside.Contesting.{IsMet, opponent_of}
use Rattle.j39_follow.proofs.Addresses.Beginning.{met_guess, met_holder}
use Rattle.j39_follow.proofs.address.claim.opponent.Goals as goal

pub returns-in-Some : goal.returns-in-Some
returns-in-Some c = λ before x knows at.
    let plan = c.args.plan.now in
    let k = c.args.claim in
    let holds = subst (IsHolder (frames_of before) k.address) c.in-Some.is (c.holder.ensures plan (frames_of before) knows) in
    subst (IsMet plan before c.args.old x k) (sym (c.in_the_way.ensures ∙ ap (opponent_of c.in-Some.holder k.name) c.defends-is_defence.ensures))
    (met_holder plan before x k at c.args.old c.in-Some.holder holds)

pub returns-in-None : goal.returns-in-None
returns-in-None c = λ before x knows at.
    let plan = c.args.plan.now in
    let k = c.args.claim in
    let none = subst (IsHolder (frames_of before) k.address) c.in-None.is (c.holder.ensures plan (frames_of before) knows) in
    subst (IsMet plan before c.args.old x k) (sym c.smaller.ensures)
    (met_guess plan before x k at c.args.old c.guessed.result none (c.guessed.ensures (frames_of before) knows))
