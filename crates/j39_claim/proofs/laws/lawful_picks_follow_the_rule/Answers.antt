use Rattle.j39_claim.proofs.laws.lawful_picks_follow_the_rule.Goals as goal
use Rattle.j39_claim.proofs.Hearing.{lawful_follows}

pub returns : goal.returns
returns c = lawful_follows
