use Rattle.j39_follow.proofs.address.claim.contention_behind.Goals as goal

pub returns : goal.returns
returns c = λ before x knows at. record {
  since = c.since_behind.ensures c.args.plan.now before x knows at;
  taken = c.taken_behind-taken.ensures c.args.plan.now before x knows at;
  contest = c.contest_behind-contest.ensures before x knows at;
}
