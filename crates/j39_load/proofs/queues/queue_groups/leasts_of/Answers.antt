use Rattle.std.proofs.Common.{◌++◌, ◌∷◌, [], ℕ, List, Option, map, sym, ap, ◌∙◌, arith}
use Rattle.std.proofs.lemmas.List.FromFn.{map-range_with_len_more}
use Rattle.std.specs.List.{range_with_len}
use Rattle.j39_load.specs.AnyQueues.{least_of}
use Rattle.j39_load.proofs.queues.queue_groups.leasts_of.Goals as goal

pub loop-unit-preserved : goal.loop-unit-preserved
loop-unit-preserved c =
    let k = c.loop-unit.unit in
    let all = c.args.all.now in
    c.in_ok-push.ensures.items
    ∙ ap (λ (xs : List (Option ℕ)). xs ++ c.least_of.result ∷ []) c.loop-unit.invariant
    ∙ ap (λ (x : Option ℕ). map (least_of all) (range_with_len 0 k) ++ x ∷ []) c.least_of.ensures
    ∙ sym (map-range_with_len_more (least_of all) 0 k k (omega arith))
