use Rattle.std.proofs.Common.{◌≡◌, ◌+◌, ◌<◌, ℕ, Bool, true, false, eqb, length, refl, subst, sym, ◌∙◌, arith}
use Rattle.std.proofs.lemmas.Bool.{and_right, eq-eqb, ne_eqb}
use Rattle.j39_claim.specs.declared.item.Item.{Item}
use Rattle.j39_bus.specs.Queued.{IsTable, Queued, pair_in}
use Rattle.j39_world.specs.World.{is_other_on}
use Rattle.j39_bus.specs.Stations.{station_at}
use Rattle.j39_bus.proofs.Postings.{IsPosted, IsRoomLeft, posted_all, posted_more, posted_past, room_more, room_past}
use Rattle.j39_bus.proofs.WellFormed.{hears_as, hears_none}
use Rattle.j39_bus.proofs.claims.post_to_others.Goals as goal
use Rattle.j39_bus.proofs.claims.post_to_others.Goals.{then-to-from+then-is_started, else-to-from, else-to-from-via-then-to-from+else-is_started}
use Rattle.j39_bus.proofs.claims.post_to_others.Goals.{else-to-from-via-else-to-from}

pub loop-to-preserved : goal.loop-to-preserved
loop-to-preserved c =
    let k = c.loop-to.to in
    let u = c.args.from in
    let cs = c.args.claimers.now in
    let was = c.args.claims.now in
    let now = c.loop-to.claims in
    let x = c.args.item.now in
    let test : ℕ → Bool = is_other_on (station_at cs) u in
    let below : k < length cs = omega arith in
    let heard = hears_as cs u k c.index-claimers-to.result below c.index-claimers-to.is in
    let past : test k ≡ false → record {
      table : IsTable (length was.lists) now.lists;
      posted : IsPosted test u x (pair_in was.lists) (k + 1) (pair_in now.lists);
      room : IsRoomLeft u
          (k + 1) was now;
    } = λ none. record {
      table = c.loop-to.invariant.table;
      posted = posted_past test u x (pair_in was.lists) k (pair_in now.lists) c.loop-to.invariant.posted none;
      room = room_past u k was now c.loop-to.invariant.room;
    } in
    elim c.if-to-from.branch [
      | then-to-from+then-is_started w ↦
          let one : test k ≡ true = heard true false (sym w.is_started.ensures ∙ w.if-is_started.true) (ne_eqb k u w.if-to-from.true) in
          subst (λ (q : Queued Item). record {
            table : IsTable (length was.lists) q.lists;
            posted : IsPosted test u x (pair_in was.lists) (k + 1) (pair_in q.lists);
            room : IsRoomLeft u
                (k + 1) was q;
          }) (sym w.claims-is) (record {
            table = subst (λ n. IsTable n w.post_to.new.claims.lists) c.loop-to.invariant.table.rows w.post_to.ensures.table;
            posted = posted_more test u x (pair_in was.lists) k (pair_in now.lists)
                (pair_in w.post_to.new.claims.lists) c.loop-to.invariant.posted one w.post_to.ensures.lists;
            room = room_more u k was now c.loop-to.invariant.room w.post_to.new.claims w.post_to.ensures.room;
          })
      | else-to-from w ↦
          let none : test k ≡ false = elim w.else-to-from.branch [
            | else-to-from-via-then-to-from+else-is_started v ↦ heard false (eqb k u) (sym v.is_started.ensures ∙ v.if-is_started.false) refl
            | else-to-from-via-else-to-from v ↦ heard c.index-claimers-to.result.state.on true refl (eq-eqb k u v.if-to-from.false)
                ∙ and_right c.index-claimers-to.result.state.on false refl
          ] in
          subst (λ (q : Queued Item). record {
            table : IsTable (length was.lists) q.lists;
            posted : IsPosted test u x (pair_in was.lists) (k + 1) (pair_in q.lists);
            room : IsRoomLeft u
                (k + 1) was q;
          }) (sym w.claims-is) (past none)
    ]

pub returns-clause-lists : goal.returns-clause-lists
returns-clause-lists c =
    posted_all (is_other_on (station_at c.args.claimers.now) c.args.from) c.args.from c.args.item.now (pair_in c.args.claims.now.lists)
    (length c.args.claimers.now) c.loop-to.to (pair_in c.loop-to.claims.lists) (omega arith)
    (λ t past. hears_none c.args.claimers.now c.args.from t past) c.loop-to.invariant.posted
