use Rattle.std.proofs.Common.{◌∷◌, ◌++◌, [], Option, sym, subst, arith, append_assoc}
use Rattle.std.specs.Option.{option_to_list}
use Rattle.std.proofs.lemmas.List.{length_push}
use Rattle.j39_follow.specs.declared.message.Sort.{Sort}
use Rattle.j39_follow.specs.inside.Tallies.{IsTally}
use Rattle.j39_follow.proofs.flow.tally.Tally.count_frame.Goals as goal

pub returns-in-Some : goal.returns-in-Some
returns-in-Some c = λ sent few of.
    let plan = c.args.groups.now in
    let first = c.count.ensures sent (omega (arith, few)) of in
    let more = length_push sent c.args.sort in
    let second = c.count-in-Some.ensures (sent ++ c.args.sort ∷ []) (omega (arith, few, more)) first in
    subst (λ (e : Option Sort). IsTally plan c.count-in-Some.new.self (sent ++ c.args.sort ∷ option_to_list e)) (sym c.in-Some.is)
    (subst (IsTally plan c.count-in-Some.new.self) (append_assoc sent (c.args.sort ∷ []) (c.in-Some.ended ∷ [])) second)

pub returns-in-None : goal.returns-in-None
returns-in-None c = λ sent few of.
    subst (λ (e : Option Sort). IsTally c.args.groups.now c.count.new.self (sent ++ c.args.sort ∷ option_to_list e)) (sym c.in-None.is)
    (c.count.ensures sent (omega (arith, few)) of)
