use Rattle.std.proofs.Common.{ap, ◌∙◌}
use Rattle.j39_claim.specs.ExactAnswer.{noted_addresses}
use Rattle.j39_claim.proofs.NotedAddresses.{noted_are}
use Rattle.j39_claim.proofs.notes.Notes.addresses.Goals as goal

pub returns : goal.returns
returns c = noted_are c.noted.result.now c.self.inside.pairs.items c.self.inside.counts c.self.invariant c.noted.ensures ∙ ap noted_addresses c.self.view_is
