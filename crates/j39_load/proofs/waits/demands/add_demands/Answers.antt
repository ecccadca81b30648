use Rattle.std.proofs.Common.{ℕ, ◌++◌, ◌∷◌, [], List, map, append_assoc, sym, ap, ◌∙◌, arith}
use Rattle.std.proofs.lemmas.List.{append-nil, map-append}
use Rattle.std.proofs.lemmas.List.Elements.{All-append, All-cons}
use Rattle.std.proofs.lemmas.List.FromFn.{map-range_with_len_more}
use Rattle.std.specs.List.{range_with_len}
use Rattle.j39_load.specs.Demands.{demand_by, wants_of}
use Rattle.j39_timing.specs.Waits.{Demand, IsWanted, as_demand}
use Rattle.j39_load.proofs.waits.demands.add_demands.Goals as goal

pub loop-unit-init : goal.loop-unit-init
loop-unit-init c = record {
  demands = sym (append-nil (map as_demand c.args.demands.now.items));
  sound = c.requires.demands;
}

pub loop-unit-preserved : goal.loop-unit-preserved
loop-unit-preserved c =
    let k = c.loop-unit.unit in
    let old = c.loop-unit.invariant in
    let before = map as_demand c.args.demands.now.items in
    let by = λ (u : ℕ). demand_by c.args.part (wants_of c.args.all.now u) in
    record {
      demands = ap (map as_demand) c.in_ok-push.ensures.items
          ∙ map-append as_demand c.loop-unit.demands.items (c.in_ok-demand.demand ∷ [])
          ∙ ap (λ (ds : List Demand). ds ++ as_demand c.in_ok-demand.demand ∷ []) old.demands
          ∙ append_assoc before (map by (range_with_len 0 k)) (as_demand c.in_ok-demand.demand ∷ [])
          ∙ ap (λ (d : Demand). before ++ (map by (range_with_len 0 k) ++ d ∷ [])) c.in_ok-demand.ensures.demand
          ∙ ap (λ (ds : List Demand). before ++ ds) (sym (map-range_with_len_more by 0 k k (omega arith)));
      sound = rw (c.in_ok-push.ensures.items)
          (All-append IsWanted c.loop-unit.demands.items (c.in_ok-demand.demand ∷ []) old.sound
          (All-cons IsWanted c.in_ok-demand.demand [] c.in_ok-demand.ensures.sound (λ j d below. absurd (omega arith))));
    }
