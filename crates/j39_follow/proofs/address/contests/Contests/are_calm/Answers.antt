use Rattle.std.proofs.Common.{sym, ◌∙◌}
use Rattle.j39_follow.specs.LogLines.{moment_of}
use Rattle.j39_follow.specs.inside.Contesting.{contention_at}
use Rattle.j39_follow.proofs.Addresses.Contested.{none_goes_on}
use Rattle.j39_follow.proofs.address.contests.Contests.are_calm.Goals as goal

pub returns-clause-source : goal.returns-clause-source
returns-clause-source c = λ _.
    none_goes_on (contention_at c.args.self.now.table.value c.args.ident.sa).contest (moment_of c.args.time.now)
    (sym c.has_begun-source.ensures ∙ c.if-source.false)

pub returns-clause-receiver : goal.returns-clause-receiver
returns-clause-receiver c = λ _.
    none_goes_on (contention_at c.args.self.now.table.value c.args.ident.ps).contest (moment_of c.args.time.now)
    (sym c.has_begun-receiver.ensures ∙ c.if-receiver.false)
