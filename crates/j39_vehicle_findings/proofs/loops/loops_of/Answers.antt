use Rattle.std.proofs.Common.{◌+◌, length, ap, ◌∙◌}
use Rattle.std.proofs.lemmas.List.{length_push}
use Rattle.j39_vehicle_findings.proofs.Following.{followers_inside, graph_states, one_more_flag}
use Rattle.j39_vehicle_findings.proofs.loops.loops_of.Goals as goal

pub comes_back-requires : goal.comes_back-requires
comes_back-requires c =
    rw c.deref.ensures.value (followers_inside c.args.vehicle.now c.in_ok-rows.rows.items c.in_ok-rows.ensures.rows)

pub all-preserved : goal.all-preserved
all-preserved c =
    let v = c.args.vehicle.now in
    let decides = graph_states v c.in_ok-rows.rows.items c.all.place c.in_ok-comes_back.field-0 c.in_ok-rows.ensures.rows
    (rw c.deref.ensures.value at c.in_ok-comes_back.ensures) in
    record {
      count = ap length c.in_ok-push.ensures.items ∙ length_push c.all.loops.items c.in_ok-comes_back.field-0
          ∙ ap (λ n. n + 1) c.all.invariant.count;
      each = rw c.in_ok-push.ensures.items
          (one_more_flag v c.all.loops.items c.in_ok-comes_back.field-0 c.all.place c.all.invariant.count c.all.invariant.each decides);
    }
