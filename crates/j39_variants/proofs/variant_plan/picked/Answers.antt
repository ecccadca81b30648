use Rattle.std.proofs.Common.{◌≡◌, ◌∷◌, [], ◌++◌, true, false, get_or, arith, drop, sym, ◌∙◌}
use Rattle.std.proofs.lemmas.List.{append-nil, drop_all}
use Rattle.j39_variants.specs.VariantPlans.{flag_at}
use Rattle.j39_variants.proofs.Picking.{passes, picked_nothing, picks}
use Rattle.j39_variants.proofs.variant_plan.picked.Goals as goal
use Rattle.j39_variants.proofs.variant_plan.picked.Goals.{then-flag_at+in_ok-push, else-flag_at}

pub loop-index-preserved : goal.loop-index-preserved
loop-index-preserved g c =
    let bs = c.args.flags.now in
    let xs = c.args.values.now in
    let i = c.loop-index.index in
    let x = c.index-values-index.result in
    elim c.if-flag_at.branch [
      | then-flag_at+in_ok-push w ↦
          let flag : flag_at bs i ≡ true = sym c.flag_at.ensures ∙ w.if-flag_at.true in
          let items : c.if-flag_at.picked.items ≡ c.loop-index.picked.items ++ get_or xs i x ∷ [] =
          rw w.picked-is (rw c.index-values-index.is at w.in_ok-push.ensures.items) in
          rw items (picks bs xs c.loop-index.picked.items _ i x (omega arith) flag c.loop-index.invariant)
      | else-flag_at w ↦
          let flag : flag_at bs i ≡ false = sym c.flag_at.ensures ∙ w.if-flag_at.false in
          let items : c.if-flag_at.picked.items ≡ c.loop-index.picked.items = rw w.picked-is in
          rw items (passes bs xs c.loop-index.picked.items _ i x (omega arith) flag c.loop-index.invariant)
    ]

pub returns : goal.returns
returns g c =
    let i = c.loop-index.index in
    let none : drop i c.args.values.now ≡ [] = drop_all i c.args.values.now (omega arith) in
    rw (picked_nothing (drop i c.args.flags.now) (drop i c.args.values.now) none, append-nil c.loop-index.picked.items) at c.loop-index.invariant
