use Rattle.std.proofs.Common.{◌≡◌, ◌+◌, length, sym, ap, ◌∙◌, arith}
use Rattle.std.proofs.lemmas.Bool.{eqb-true}
use Rattle.std.proofs.lemmas.List.{length_push}
use Rattle.j39_vehicle_findings.proofs.TableRows.{all_buses, none_feed, one_more_bus}
use Rattle.j39_vehicle_findings.proofs.tables.feeders_of.Goals as goal

pub returns-then-is_empty-clause-rows : goal.returns-then-is_empty-clause-rows
returns-then-is_empty-clause-rows c at =
    let forwards = c.args.vehicle.now.forwards in
    let empty : forwards.len ≡ 0 = eqb-true _ 0 (sym c.is_empty.ensures ∙ c.if-is_empty.true) in
    let none : length forwards.items ≡ 0 = omega (arith, empty) in
    rw c.new-buses.ensures.items (sym (none_feed c.args.vehicle.now at none))

pub buses-preserved : goal.buses-preserved
buses-preserved c =
    let v = c.args.vehicle.now in
    record {
      count = ap length c.in_ok-push.ensures.items ∙ length_push c.buses.buses.items c.in_ok-feeders_on.field-0
          ∙ ap (λ n. n + 1) c.buses.invariant.count;
      each = rw c.in_ok-push.ensures.items
          (one_more_bus v c.buses.buses.items c.in_ok-feeders_on.field-0 c.buses.invariant.each
          (λ flow. rw c.buses.invariant.count (c.in_ok-feeders_on.ensures.rows flow)));
    }

pub returns-clause-rows : goal.returns-clause-rows
returns-clause-rows c = all_buses c.args.vehicle.now c.buses.buses.items (omega arith) c.buses.invariant.each
