use Rattle.std.proofs.Common.{◌≡◌, ◌++◌, ◌∷◌, [], List, Option, map, length, length-append, sym, ap, ◌∙◌, arith}
use Rattle.std.proofs.lemmas.List.Elements.{All-append, All-cons}
use Rattle.std.proofs.lemmas.List.FromFn.{map-range_with_len_more}
use Rattle.std.specs.List.{range_with_len}
use Rattle.j39_load.specs.Broadcasts.{broadcasts_by, known_unit_load}
use Rattle.j39_load.specs.SoundLoads.{IsSoundIfSent}
use Rattle.j39_findings.specs.Standing.{stays_of}
use Rattle.j39_load.specs.declared.frames.broadcast.Broadcast.{Broadcast}
use Rattle.j39_load.specs.declared.loads.unit_load.UnitLoad.{UnitLoad}
use Rattle.j39_load.proofs.loads.broadcasts.each_unit_load.Goals as goal

pub loop-unit-preserved : goal.loop-unit-preserved
loop-unit-preserved c =
    let k = c.loop-unit.unit in
    let timing = c.args.bus.now.timing in
    let units = c.args.bus.now.plan.now.units.items in
    let stays = stays_of c.args.bus.now.standing.now in
    let old = c.loop-unit.invariant in
    let sent : c.as_slice.result.now ≡ broadcasts_by k c.args.loads.now = c.as_slice.ensures.value ∙ c.in_ok-broadcasts.ensures.broadcasts in
    let its : c.unit_load.result ≡ known_unit_load timing units stays k (broadcasts_by k c.args.loads.now) =
    c.unit_load.ensures.load ∙ ap (λ (bs : List Broadcast). known_unit_load timing units stays k bs) sent in
    record {
      loads = c.in_ok-push.ensures.items
          ∙ ap (λ (xs : List (Option UnitLoad)). xs ++ c.unit_load.result ∷ []) old.loads
          ∙ ap (λ (x : Option UnitLoad). map (λ u. known_unit_load timing units stays u (broadcasts_by u c.args.loads.now)) (range_with_len 0 k) ++ x ∷ []) its
          ∙ sym (map-range_with_len_more (λ u. known_unit_load timing units stays u (broadcasts_by u c.args.loads.now)) 0 k k (omega arith));
      count = ap length c.in_ok-push.ensures.items
          ∙ omega (arith, length-append c.loop-unit.unit_loads.items (c.unit_load.result ∷ []), old.count);
      sound = rw (c.in_ok-push.ensures.items)
          (All-append IsSoundIfSent c.loop-unit.unit_loads.items (c.unit_load.result ∷ []) old.sound
          (All-cons IsSoundIfSent c.unit_load.result [] c.unit_load.ensures.sound (λ j d below. absurd (omega arith))));
    }
