use Rattle.std.proofs.Common.{arith, get_or, ◌*◌}
use Rattle.j39_timing.specs.LeastShares.{IsLineBelow}
use Rattle.j39_timing.specs.Waits.{frames_of_want}
use Rattle.j39_timing.specs.declared.wants.Want.{Want}
use Rattle.j39_timing.proofs.LeastShares.{one-more-want}
use Rattle.j39_timing.proofs.wants.line_of_wants.Goals as goal

pub loop-want-preserved : goal.loop-want-preserved
loop-want-preserved c =
    let none : Want = record { frames = 0; period = 0; jitter = 0; more = 0 } in
    let next : IsLineBelow c.want_line-next.result c.args.span (λ x. frames_of_want x (get_or c.args.wants.now c.loop-want.want-index none) * c.args.bits) =
    c.want_line-next.ensures.below in
    let (so_far, known, part) = c.loop-want.invariant in
    let (few, little) = c.want_line-next.ensures.small in (
      one-more-want c.loop-want.line c.want_line-next.result c.args.span c.args.bits c.args.wants.now c.loop-want.want-index none c.loop-want-test.true so_far next,
      omega (arith, known, few),
      omega (arith, part, little),
    )
