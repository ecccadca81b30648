use Rattle.std.proofs.Common.{arith, map, ◌≤◌}
use Rattle.j39_timing.specs.Waits.{as_demand, lesser_share}
use Rattle.j39_timing.proofs.Needs.{demands-sound, lesser_share-mono}
use Rattle.j39_timing.proofs.lines.stretch_of.Goals as goal

pub returns-then-from-step-clause-below : goal.returns-then-from-step-clause-below
returns-then-from-step-clause-below c =
    rw c.lesser_share.ensures (λ x from _.
    let more : lesser_share (map as_demand c.args.all.now) c.args.span c.args.stream ≤ lesser_share (map as_demand c.args.all.now) x c.args.stream =
    lesser_share-mono (map as_demand c.args.all.now) c.args.span x c.args.stream (demands-sound c.args.all.now c.requires.sound) from c.requires.positive in
    omega (arith, more))
