use Rattle.std.proofs.Common.{arith, ◌+◌, ◌-◌, ◌*◌, ◌/◌, ◌^◌, ◌<◌}
use Rattle.j39_timing.specs.LeastShares.{IsLineBelow, part_of}
use Rattle.j39_timing.specs.Waits.{as_demand, frames_wanted}
use Rattle.j39_timing.proofs.LeastShares.{always-paced, asked-behind, paced-before}
use Rattle.j39_timing.proofs.lines.wanted_stretch.Goals as goal

pub returns-then-asked-paced-clause-below : goal.returns-then-asked-paced-clause-below
returns-then-asked-paced-clause-below c = λ x from _.
    let below : IsLineBelow c.line-asked.result (c.args.span + c.args.stream.jitter) (λ n. frames_wanted n (as_demand c.args.wanted.now) * c.args.stream.bits) =
    rw (← c.from.ensures, ← c.from-2.ensures) c.line-asked.ensures.below in
    let most = always-paced c.args.stream (as_demand c.args.wanted.now) c.line-asked.result c.args.span c.requires.positive below
    (omega (arith, c.part_of.ensures.part, c.if-asked-paced.true)) x from in
    rw c.part_of.ensures.part (omega (arith, most))

pub returns-then-from-until-clause-below : goal.returns-then-from-until-clause-below
returns-then-from-until-clause-below c =
    let below : IsLineBelow c.line-asked.result (c.args.span + c.args.stream.jitter) (λ n. frames_wanted n (as_demand c.args.wanted.now) * c.args.stream.bits) =
    rw (← c.from.ensures, ← c.from-2.ensures) c.line-asked.ensures.below in
    rw (c.from-3.ensures, c.from-4.ensures, c.part_of.ensures.part) (λ x from within.
    let most = paced-before c.args.stream (as_demand c.args.wanted.now) c.line-asked.result c.args.span c.requires.positive below
    (omega (arith, c.part_of.ensures.part, c.if-asked-paced.false)) x from within in
    omega (arith, most))

pub returns-else-from-until-clause-below : goal.returns-else-from-until-clause-below
returns-else-from-until-clause-below c = λ x from _.
    let below : IsLineBelow c.line-asked.result (c.args.span + c.args.stream.jitter) (λ n. frames_wanted n (as_demand c.args.wanted.now) * c.args.stream.bits) =
    rw (← c.from.ensures, ← c.from-2.ensures) c.line-asked.ensures.below in
    let after : c.line-asked.result.known * 2 ^ 32 / (part_of c.args.stream - c.line-asked.result.part) < c.args.span =
    rw (← c.from-5.ensures, ← c.part_of.ensures.part, ← c.from-4.ensures, ← c.from-3.ensures) c.if-from-until.false in
    asked-behind c.args.stream (as_demand c.args.wanted.now) c.line-asked.result c.args.span c.requires.positive below
    (omega (arith, c.part_of.ensures.part, c.if-asked-paced.false)) after x from
