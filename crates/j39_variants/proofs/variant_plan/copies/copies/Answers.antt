use Rattle.std.proofs.Common.{◌≡◌, ◌∷◌, [], ◌++◌, true, false, arith, drop, sym, ◌∙◌}
use Rattle.std.proofs.lemmas.List.{append-nil, drop_all}
use Rattle.j39_variants.specs.VariantPlans.{flag_at}
use Rattle.j39_variants.proofs.Picking.{copies_none, copies_one, picked_nothing}
use Rattle.j39_variants.proofs.variant_plan.copies.copies.Goals as goal
use Rattle.j39_variants.proofs.variant_plan.copies.copies.Goals.{then-flag_at+in_ok-group+in_ok-push, else-flag_at}

pub loop-index-preserved : goal.loop-index-preserved
loop-index-preserved c =
    let bs = c.args.flags.now in
    let gs = c.args.groups.now in
    let i = c.loop-index.index in
    let g = c.index-groups-index.result in
    elim c.if-flag_at.branch [
      | then-flag_at+in_ok-group+in_ok-push w ↦
          let flag : flag_at bs i ≡ true = sym c.flag_at.ensures ∙ w.if-flag_at.true in
          let items : c.if-flag_at.copies.items ≡ c.loop-index.copies.items ++ w.in_ok-group.field-0 ∷ [] = rw w.copies-is w.in_ok-push.ensures.items in
          rw items
          (copies_one bs gs c.loop-index.copies.items i g w.in_ok-group.field-0 (omega arith) flag c.index-groups-index.is w.in_ok-group.ensures
          c.loop-index.invariant)
      | else-flag_at w ↦
          let flag : flag_at bs i ≡ false = sym c.flag_at.ensures ∙ w.if-flag_at.false in
          let items : c.if-flag_at.copies.items ≡ c.loop-index.copies.items = rw w.copies-is in
          rw items (copies_none bs gs c.loop-index.copies.items i g (omega arith) flag c.loop-index.invariant)
    ]

pub returns : goal.returns
returns c =
    let i = c.loop-index.index in
    let none : drop i c.args.groups.now ≡ [] = drop_all i c.args.groups.now (omega arith) in
    let nothing = picked_nothing (drop i c.args.flags.now) (drop i c.args.groups.now) none in
    rw (append-nil c.loop-index.copies.items) at (c.loop-index.invariant [] (rw nothing tt))
