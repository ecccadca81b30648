use Rattle.std.proofs.Common.{◌∷◌, ◌++◌, [], List, refl, sym, subst}
use Rattle.j39_line_witnesses.specs.WitnessedFindings.{AreWitnessed}
use Rattle.j39_line_witnesses.specs.declared.found.FoundByCondition.{FoundByCondition}
use Rattle.j39_line_witnesses.proofs.Reported.{none_more, one_more}
use Rattle.j39_line_witnesses.proofs.found.add_found.Goals as goal

pub returns-in_ok-push-in-Some-clause-added : goal.returns-in_ok-push-in-Some-clause-added
returns-in_ok-push-in-Some-clause-added c findings are =
    let one : FoundByCondition = record { finding = c.args.finding; witness = c.in-Some.witness } in
    subst (λ (reported : List FoundByCondition). AreWitnessed c.args.line.now (findings ++ c.args.finding ∷ []) reported)
    (sym c.in_ok-push-in-Some.ensures.items)
    (one_more c.args.line.now c.args.finding findings c.args.reported.now.items one
    (record { finding_is = refl; witness_is = rw c.in-Some.is at c.in_ok-witness.ensures.first }) are)

pub returns-in-None-clause-added : goal.returns-in-None-clause-added
returns-in-None-clause-added c findings are =
    none_more c.args.line.now c.args.finding findings c.args.reported.now.items (rw c.in-None.is at c.in_ok-witness.ensures.first) are
