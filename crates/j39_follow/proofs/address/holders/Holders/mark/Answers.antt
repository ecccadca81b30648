use Rattle.std.proofs.Common.{◌≡◌, ◌+◌, ◌<◌, Some, length, refl, sym, subst, ◌∙◌, arith, true}
use Rattle.std.specs.List.{slice_get}
use Rattle.std.proofs.lemmas.List.{length-set}
use Rattle.std.proofs.lemmas.Option.{slice_get_read}
use Rattle.j39_follow.specs.declared.address.holders.Holders.{Holders}
use Rattle.j39_follow.proofs.Addresses.Tables.{IsMarkedBelow, all_marked, mark_not, mark_this}
use Rattle.j39_follow.proofs.address.holders.Holders.mark.Goals as goal
use Rattle.j39_follow.proofs.address.holders.Holders.mark.Goals.{then-is_name_of, else-is_name_of}

pub loop-place-preserved : goal.loop-place-preserved
loop-place-preserved c =
    let plan = c.args.plan.now in
    let units = plan.units.items in
    let k = c.loop-place.place in
    let unit = c.index.result.now in
    let before = c.loop-place.invariant in
    let test = c.loop-place-test.true in
    let count = c.len-place-end.ensures in
    let at : slice_get units k ≡ Some unit = slice_get_read units (length units) k unit refl (omega (arith, test, count)) c.index.ensures in
    elim c.if-is_name_of.branch [
      | then-is_name_of w ↦
          let held = before.3 in
          let few = plan.unit_count in
          let room : k < length c.loop-place.self.heard = omega (arith, held, few, test, count) in
          subst
          (λ (h : Holders). IsMarkedBelow plan c.args.self.now.heard h.heard c.args.name (k + 1) × (h.names ≡ c.args.self.now.names)
          × (h.claimed ≡ c.args.self.now.claimed) × (length h.heard ≡ 128))
          (sym w.self-is) (
            mark_this plan c.args.self.now.heard c.loop-place.self.heard unit c.args.name k room at
                (sym (c.is_name_of.ensures plan c.unit_named-found.ensures) ∙ w.if-is_name_of.true) before.0,
            before.1,
            before.2,
            length-set c.loop-place.self.heard k true ∙ held,
          )
      | else-is_name_of w ↦
          subst
          (λ (h : Holders). IsMarkedBelow plan c.args.self.now.heard h.heard c.args.name (k + 1) × (h.names ≡ c.args.self.now.names)
          × (h.claimed ≡ c.args.self.now.claimed) × (length h.heard ≡ 128))
          (sym w.self-is) (
            mark_not plan c.args.self.now.heard c.loop-place.self.heard unit c.args.name k at
                (sym (c.is_name_of.ensures plan c.unit_named-found.ensures) ∙ w.if-is_name_of.false) before.0,
            before.1,
            before.2,
            before.3,
          )
    ]

pub returns-clause-marked : goal.returns-clause-marked
returns-clause-marked c =
    all_marked c.args.plan.now c.args.self.now c.loop-place.self c.args.name c.loop-place.place
    (let test = c.loop-place-test.false in let count = c.len-place-end.ensures in omega (arith, test, count))
    c.loop-place.invariant.0
