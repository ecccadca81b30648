use Rattle.std.proofs.Common.{arith, ◌*◌, ◌≤◌, ◌^◌}
use Rattle.j39_timing.specs.LeastShares.{part_of}
use Rattle.j39_timing.specs.Waits.{share}
use Rattle.j39_timing.proofs.LeastShares.{takes-part}
use Rattle.j39_timing.proofs.lines.paced_stretch.Goals as goal

pub returns-clause-below : goal.returns-clause-below
returns-clause-below c = rw c.part_of.ensures.part (λ span x from _.
    let part : part_of c.args.stream * x ≤ 2 ^ 32 * share x c.args.stream = takes-part x c.args.stream c.requires.positive in
    omega (arith, part))
