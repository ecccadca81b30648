use Rattle.std.proofs.Common.{◌≡◌, length, replicate, false, ap, ◌∙◌}
use Rattle.std.proofs.lemmas.List.{length-replicate}
use Rattle.j39_vehicle_findings.proofs.Spreading.{first_spread, row_inside, spread_states}
use Rattle.j39_vehicle_findings.proofs.reaching.comes_back.Goals as goal

pub reach-requires : goal.reach-requires
reach-requires c =
    let rows = c.args.rows.now in
    let old = c.in_ok-reached.reached.items in
    let empty : old ≡ replicate (length rows) false = c.in_ok-reached.ensures.items_if_clones_equal (λ y e. cc) in
    let long : length old ≡ length rows = ap length empty ∙ length-replicate (length rows) false in
    rw c.row_of.ensures (row_inside rows c.args.start (length old) c.requires long)

pub reach_all-requires-clause-spread : goal.reach_all-requires-clause-spread
reach_all-requires-clause-spread c =
    let rows = c.args.rows.now in
    let old = c.in_ok-reached.reached.items in
    let empty : old ≡ replicate (length rows) false = c.in_ok-reached.ensures.items_if_clones_equal (λ y e. cc) in
    let long : length old ≡ length rows = ap length empty ∙ length-replicate (length rows) false in
    first_spread rows c.args.start old c.reach.new.reached.items c.reach.new.waiting.items empty long
    (rw (c.new-waiting.ensures.items, c.row_of.ensures) at c.in_ok-reach.ensures)

pub returns : goal.returns
returns c =
    spread_states c.args.rows.now c.args.start c.reach_all.new.reached.items c.flag_at.result
    (rw c.deref.ensures.value at c.flag_at.ensures) c.in_ok-reach_all.ensures
