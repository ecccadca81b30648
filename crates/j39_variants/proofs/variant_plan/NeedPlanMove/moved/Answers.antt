use Rattle.j39_variants.proofs.Places.{made_where_all_are}
use Rattle.j39_variants.proofs.variant_plan.NeedPlanMove.moved.Goals as goal

pub returns : goal.returns
returns c =
    let old = c.args.self.now in
    let all = rw (c.place_at.ensures, c.place_at-2.ensures, c.moved_from.ensures) at c.in_ok-moved.ensures in
    made_where_all_are old.within (λ p x y z. record old { unit = x; group = y; «from» = z; within_positive = p }) _ old.within_positive _ _ _ _ _ _ all
