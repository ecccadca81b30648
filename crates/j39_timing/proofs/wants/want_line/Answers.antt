use Rattle.j39_timing.proofs.LeastShares.{wants-before, wants-part}
use Rattle.j39_timing.proofs.wants.want_line.Goals as goal

pub returns-then-from-step-clause-below : goal.returns-then-from-step-clause-below
returns-then-from-step-clause-below c =
    rw (c.frames_of_want.ensures.frames, c.from-then-from-step.ensures) (λ x from. wants-before x c.args.span c.args.bits c.args.want c.requires.want from)

pub returns-clause-below : goal.returns-clause-below
returns-clause-below c = rw (c.from-2.ensures, c.from-3.ensures, c.from-4.ensures, c.from-5.ensures) (λ x from. wants-part x c.args.bits c.args.want c.requires.want)
