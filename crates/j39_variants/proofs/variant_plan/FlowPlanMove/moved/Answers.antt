use Rattle.j39_variants.proofs.Places.{made_where_all_are}
use Rattle.j39_variants.proofs.variant_plan.FlowPlanMove.moved.Goals as goal

pub returns : goal.returns
returns c =
    let old = c.args.self.now in
    made_where_all_are old.pause
    (λ p x y z. record old { group = x; sender = y; to = z; pause_positive = p }) _ old.pause_positive _ _ _ _ _ _ c.in_ok-ends.ensures
