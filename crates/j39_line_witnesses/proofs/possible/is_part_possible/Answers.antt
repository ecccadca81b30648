use Rattle.std.proofs.Common.{ap, subst, ◌∙◌}
use Rattle.j39_line_witnesses.specs.FirstMeeting.{IsWitnessOf}
use Rattle.j39_line_witnesses.specs.Presences.{conditions_in}
use Rattle.j39_line_witnesses.proofs.PartWitnesses.{by_witness}
use Rattle.j39_line_witnesses.proofs.possible.is_part_possible.Goals as goal

pub returns-clause-possible : goal.returns-clause-possible
returns-clause-possible c =
    by_witness c.args.line.now c.args.part c.in_ok-first.first c.is_some.result c.is_some.ensures
    (subst (λ conditions. IsWitnessOf c.args.line.now conditions c.in_ok-first.first)
    (ap conditions_in c.deref.ensures.value ∙ c.in_ok-conditions.ensures) c.in_ok-first.ensures.first)
