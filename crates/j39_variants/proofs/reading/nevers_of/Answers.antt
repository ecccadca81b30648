use Rattle.j39_variants.specs.DescribedLines.{nevers_faults}
use Rattle.j39_variants.proofs.Lines.{given_room}
use Rattle.j39_variants.proofs.reading.nevers_of.Goals as goal

pub returns : goal.returns
unfolding nevers_faults
returns c =
    let each = rw c.in_ok-values.ensures.gives.1 at c.read_each.ensures.gives in
    rw c.in_ok-values.ensures.gives.0 (given_room _ c.read_each.result _ _ each)
