use Rattle.std.proofs.Common.{◌≡◌, ◌<◌, ◌∷◌, ◌+◌, [], ◌++◌, length, drop, get_or, ap, sym, ◌∙◌, subst, List, ℕ, suc, arith}
use Rattle.std.proofs.Math.Seq.{drop-cons}
use Rattle.std.proofs.lemmas.List.{drop_all}
use Rattle.j39_bus.specs.Queued.{changed_in, pair_in}
use Rattle.j39_bus.specs.inside.KeptMessages.{AreUnits, HasRoomTo}
use Rattle.j39_world.specs.Transfers.{added}
use Rattle.j39_bus.proofs.Wires.{added_first, added_none, as_table, room_for_rest, unit_inside, units_dropped}
use Rattle.j39_bus.proofs.wire.post_each.Goals as goal

pub post-requires-clause-to : goal.post-requires-clause-to
post-requires-clause-to c =
    let inside : c.loop-target.target-index < length c.args.targets.now = omega arith in
    let below = unit_inside (length c.args.wire.now.lists) c.args.targets.now c.loop-target.target-index c.requires.targets inside in
    omega (arith, below, c.loop-target.invariant.table.rows)

pub loop-target-preserved : goal.loop-target-preserved
loop-target-preserved c =
    let k = c.loop-target.target-index in
    let vs = c.args.targets.now in
    let v = get_or vs k 0 in
    let rest = drop (k + 1) vs in
    let u = c.args.from in
    let x = c.args.item.now in
    let now = c.loop-target.wire in
    let inside : k < length vs = omega arith in
    let next : suc k ≡ k + 1 = omega arith in
    let at : drop k vs ≡ v ∷ rest = drop-cons vs k 0 inside ∙ ap (λ (j : ℕ). v ∷ drop j vs) next in
    let units : AreUnits (length c.args.wire.now.lists) (v ∷ rest) = subst (AreUnits (length c.args.wire.now.lists)) at
    (units_dropped _ vs k c.requires.targets) in
    let posted = c.post.ensures.lists ∙ ap (λ y. changed_in (pair_in now.lists) u v (pair_in now.lists u v ++ y ∷ [])) c.copy.ensures in
    record {
      table = as_table (length c.args.wire.now.lists) now.lists c.post.new.self.lists c.loop-target.invariant.table c.post.ensures.table;
      lists = ap (λ f. added f u rest x) posted ∙ added_first (pair_in now.lists) u x v rest units.1
          ∙ ap (λ (l : List ℕ). added (pair_in now.lists) u l x) (sym at) ∙ c.loop-target.invariant.lists;
      room = room_for_rest u v rest now c.post.new.self c.post.ensures.room units.1 (subst (HasRoomTo now u) at c.loop-target.invariant.room);
    }

pub returns-clause-lists : goal.returns-clause-lists
returns-clause-lists c =
    let vs = c.args.targets.now in
    let none : drop c.loop-target.target-index vs ≡ [] = drop_all c.loop-target.target-index vs (omega arith) in
    added_none (pair_in c.loop-target.wire.lists) c.args.from c.args.item.now
    ∙ ap (λ (l : List ℕ). added (pair_in c.loop-target.wire.lists) c.args.from l c.args.item.now) (sym none) ∙ c.loop-target.invariant.lists
