use Rattle.std.proofs.Common.{◌≡◌, ◌+◌, ◌∷◌, ◌++◌, [], refl, sym, ap, subst, take, get_or, ◌∙◌}
use Rattle.std.proofs.lemmas.List.{map-append, take_all, take_more}
use Rattle.j39_line_witnesses.specs.FirstMeeting.{IsWitnessOf}
use Rattle.j39_line_witnesses.specs.Presences.{condition_of, conditions_in}
use Rattle.j39_line_witnesses.specs.declared.presence.Presence.{Presence}
use Rattle.j39_line_witnesses.proofs.witness.first_of_any.Goals as goal

pub loop-condition-init : goal.loop-condition-init
loop-condition-init c = record { kept = refl; first = λ v possible. refl }

pub first_meeting-requires : goal.first_meeting-requires
first_meeting-requires c = c.loop-condition.invariant.kept ∙ c.requires

pub loop-condition-preserved : goal.loop-condition-preserved
loop-condition-preserved c =
    let k = c.loop-condition.condition-index in
    let conditions = c.args.conditions.now in
    let one = c.condition-item.result in
    let more : conditions_in (take k conditions) ++ condition_of one ∷ [] ≡ conditions_in (take (k + 1) conditions) =
    ap (λ (x : Presence). conditions_in (take k conditions) ++ condition_of x ∷ []) c.condition-item.is
    ∙ sym (map-append condition_of (take k conditions) (get_or conditions k one ∷ []))
    ∙ ap conditions_in (sym (take_more conditions k one c.loop-condition-test.true)) in
    record {
      kept = c.in_ok-found.ensures.kept ∙ c.loop-condition.invariant.kept;
      first = subst (λ all. IsWitnessOf c.args.line.now all c.earlier_of-first.result) more
          (c.earlier_of-first.ensures c.args.line.now (conditions_in (take k conditions)) (condition_of one ∷ []) c.loop-condition.invariant.first
          c.in_ok-found.ensures.first);
    }

pub returns : goal.returns
returns c =
    let all : take c.loop-condition.condition-index c.args.conditions.now ≡ c.args.conditions.now =
    take_all c.loop-condition.condition-index c.args.conditions.now c.loop-condition-test.false in
    record {
      kept = c.loop-condition.invariant.kept;
      first = subst (λ some. IsWitnessOf c.args.line.now (conditions_in some) c.loop-condition.first) all c.loop-condition.invariant.first;
    }
