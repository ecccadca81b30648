-- Plans without groups that are distinguished by their data.
use Rattle.std.proofs.Common.{◌≡◌, None, sym, subst, ◌∙◌}
use Rattle.std.proofs.lemmas.Option.{none-some}
use Rattle.j39_signal.specs.Selectors.{DifferInValue}
use Rattle.j39_network.specs.PlannedGroups.{HasNoSelectors}
use Rattle.j39_findings.specs.WithoutSelectors.{IsWithoutSelectors}
use Rattle.j39_findings.proofs.Pairs.{pair_with}
use Rattle.j39_network.specs.declared.plan.Plan.{Plan}
use Rattle.j39_search.proofs.Members.{all_at}

pub without_selectors : (plan : Plan) → HasNoSelectors plan → IsWithoutSelectors plan
without_selectors plan none = record {
  outside = λ g v. v.meets (λ w is.
      absurd (none-some _ (sym (all_at (λ group. group.when ≡ None) plan.groups.items none g v.value v.value_is) ∙ is)));
  pairs = λ g h. (
    λ p. pair_with plan.groups.items g h p (p.related.0, p.related.2),
    λ p. pair_with plan.groups.items g h p (
      p.related.0,
      subst (λ w. ¬ DifferInValue w p.second.when)
          (sym (all_at (λ group. group.when ≡ None) plan.groups.items none g p.first p.first_is)) (λ differ. differ),
      p.related.1,
    ),
  );
}
