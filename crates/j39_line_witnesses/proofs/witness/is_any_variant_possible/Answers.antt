use Rattle.std.proofs.Common.{ap, subst, ◌∙◌}
use Rattle.j39_line_witnesses.specs.FirstMeeting.{IsWitnessOf}
use Rattle.j39_line_witnesses.specs.Presences.{conditions_in}
use Rattle.j39_line_witnesses.proofs.Meeting.{any_possible}
use Rattle.j39_line_witnesses.proofs.witness.is_any_variant_possible.Goals as goal

pub returns : goal.returns
returns c =
    any_possible c.args.line.now c.in_ok-first.first c.is_some.result c.is_some.ensures
    (subst (λ conditions. IsWitnessOf c.args.line.now conditions c.in_ok-first.first)
    (ap conditions_in c.deref.ensures.value ∙ c.in_ok-conditions.ensures) c.in_ok-first.ensures.first)
