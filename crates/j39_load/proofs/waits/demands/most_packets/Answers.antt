use Rattle.std.proofs.Common.{◌≡◌, ◌∙◌, get_or, max, sym, ap}
use Rattle.j39_load.specs.Demands.{most_packets}
use Rattle.j39_load.proofs.Broadcasting.{no_broadcast}
use Rattle.j39_load.proofs.DemandLaws.{next_most, none_most}
use Rattle.j39_load.proofs.waits.demands.most_packets.Goals as goal

pub loop-broadcast-init : goal.loop-broadcast-init
loop-broadcast-init c = sym none_most

pub loop-broadcast-preserved : goal.loop-broadcast-preserved
loop-broadcast-preserved c =
    let bs = c.args.broadcasts.now in
    let k = c.loop-broadcast.broadcast-index in
    let old : c.loop-broadcast.most ≡ most_packets _ = c.loop-broadcast.invariant in
    let greater : c.max-most.result ≡ max (get_or bs k no_broadcast).packets c.loop-broadcast.most = c.max-most.ensures in
    greater ∙ ap (max (get_or bs k no_broadcast).packets) old ∙ sym (next_most bs k no_broadcast c.loop-broadcast-test.true)
