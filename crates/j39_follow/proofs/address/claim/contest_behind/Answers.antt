use Rattle.std.proofs.Common.{sym, subst}
use Rattle.j39_follow.specs.Contests.{IsContestBehind}
use Rattle.j39_follow.specs.inside.Contesting.{IsBegun}
use Rattle.j39_follow.proofs.Addresses.Beginning.{contest_begun, contest_kept}
use Rattle.j39_follow.proofs.address.claim.contest_behind.Goals as goal

pub returns-in-Some : goal.returns-in-Some
returns-in-Some c = λ before x knows at.
    contest_begun c.args.plan.now before x c.args.claim at c.args.old c.in-Some.contest
    (subst (IsBegun c.args.plan.now before c.args.old x c.args.claim.address) c.in-Some.is (c.begun.ensures before x knows at))

pub returns-in-None : goal.returns-in-None
returns-in-None c = λ before x knows at.
    subst (IsContestBehind c.args.plan.now before c.args.old x c.args.claim.address) (sym c.contest_left.ensures)
    (contest_kept c.args.plan.now before x c.args.claim at c.args.old
    (subst (IsBegun c.args.plan.now before c.args.old x c.args.claim.address) c.in-None.is (c.begun.ensures before x knows at)))
