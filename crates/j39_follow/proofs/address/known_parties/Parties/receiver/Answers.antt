use Rattle.std.proofs.Common.{sym, subst}
use Rattle.j39_follow.specs.Contests.{IsTaken}
use Rattle.j39_follow.proofs.address.known_parties.Parties.receiver.Goals as goal

pub returns : goal.returns
returns c = λ plan log shows. subst (IsTaken plan log c.args.ident.ps) (sym c.party.ensures) shows.receiver
