use Rattle.std.proofs.Common.{rules, sym, subst}
use Rattle.j39_follow.specs.Who.{IsWho}
use Rattle.j39_follow.proofs.Addresses.Contested.{guessed_so}
use Rattle.j39_follow.proofs.address.directory.Directory.guessed.Goals as goal

pub returns : goal.returns
returns c = λ frames knows.
    let plan = c.args.plan.now in
    let a = c.args.address in
    guessed_so plan frames a c.party.result c.likely_name.result
    (subst (IsWho plan frames a) (sym c.party.ensures) (knows.parties a (search rules))) c.likely_name.ensures
