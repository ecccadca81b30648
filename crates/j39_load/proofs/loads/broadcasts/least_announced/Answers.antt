use Rattle.std.proofs.Common.{ℕ, ◌≡◌, ◌≤◌, ◌∙◌, get_or, min, sym, ap, subst, arith}
use Rattle.j39_load.specs.Broadcasts.{announced_packets, least_announced}
use Rattle.j39_load.proofs.Broadcasting.{first_announced, next_least, no_broadcast, none_announced}
use Rattle.j39_load.proofs.loads.broadcasts.least_announced.Goals as goal

pub loop-broadcast-init : goal.loop-broadcast-init
loop-broadcast-init c = record { least = sym none_announced; some = omega arith }

pub loop-broadcast-preserved : goal.loop-broadcast-preserved
loop-broadcast-preserved c =
    let bs = c.args.broadcasts.now in
    let k = c.loop-broadcast.broadcast-index in
    let its : c.announced_packets.result ≡ announced_packets (get_or bs k no_broadcast) = c.announced_packets.ensures.least in
    next_least announced_packets least_announced none_announced first_announced bs k c.loop-broadcast.least c.min-least.result no_broadcast
    c.loop-broadcast-test.true c.loop-broadcast.invariant (c.min-least.ensures ∙ ap (λ (n : ℕ). min n c.loop-broadcast.least) its)
    (subst (λ (n : ℕ). 1 ≤ n) its c.announced_packets.ensures.some)
