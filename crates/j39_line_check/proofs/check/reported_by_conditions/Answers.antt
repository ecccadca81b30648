use Rattle.std.proofs.Common.{◌≡◌, List, [], sym, ap}
use Rattle.j39_line_check.specs.inside.AddedFindings.{Pair, pair_of_condition, pair_reported}
use Rattle.j39_line_check.proofs.Adding.{added_at}
use Rattle.j39_line_check.proofs.check.reported_by_conditions.Goals as goal

pub loop-one-preserved : goal.loop-one-preserved
loop-one-preserved c =
    let same : pair_of_condition c.one-item.result ≡ pair_reported (record { finding = c.one-item.result.finding; variant = c.in_ok-variant.variant }) =
    ap (λ (v : List _). (c.one-item.result.finding, v)) (sym (rw c.deref.ensures.value at c.in_ok-variant.ensures)) in
    added_at pair_of_condition [] c.loop-one.one-index c.args.found.now c.one-item.result c.loop-one.reported.items c.add.new.reported.items
    (record { finding = c.one-item.result.finding; variant = c.in_ok-variant.variant }) c.loop-one-test.true c.one-item.is same
    c.loop-one.invariant c.in_ok-add.ensures
