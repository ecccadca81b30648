use Rattle.std.proofs.Common.{arith, take, get_or, sum_by, ◌≡◌, ◌≤◌, ◌^◌}
use Rattle.std.proofs.lemmas.List.Sums.{sum_by_more_le, sum_by-take-le}
use Rattle.j39_timing.specs.Waits.{frames_of_want}
use Rattle.j39_timing.specs.declared.wants.Want.{Want}
use Rattle.j39_timing.proofs.Needs.{wants-small}
use Rattle.j39_timing.proofs.wants.frames_of_wants.Goals as goal

pub overflow_add-frames : goal.overflow_add-frames
overflow_add-frames c =
    let none : Want = record { frames = 0; period = 0; jitter = 0; more = 0 } in
    let x : Want = get_or c.args.wants.now c.loop-want.want-index none in
    let this : c.frames_of_want-frames.result ≡ frames_of_want c.args.span x = c.frames_of_want-frames.ensures.frames in
    let sum : c.loop-want.frames ≡ sum_by (frames_of_want c.args.span) (take c.loop-want.want-index c.args.wants.now) = c.loop-want.invariant in
    let whole = sum_by_more_le (frames_of_want c.args.span) c.args.wants.now c.loop-want.want-index none c.loop-want-test.true in
    let small : sum_by (frames_of_want c.args.span) c.args.wants.now ≤ 2 ^ 54 =
    wants-small c.args.span c.args.wants.now c.requires.span c.requires.sound c.requires.few in
    omega (arith, this, sum, whole, small)

pub returns-clause-few : goal.returns-clause-few
returns-clause-few c =
    let sum : c.loop-want.frames ≡ sum_by (frames_of_want c.args.span) (take c.loop-want.want-index c.args.wants.now) = c.loop-want.invariant in
    let part = sum_by-take-le (frames_of_want c.args.span) c.args.wants.now c.loop-want.want-index in
    let small : sum_by (frames_of_want c.args.span) c.args.wants.now ≤ 2 ^ 54 =
    wants-small c.args.span c.args.wants.now c.requires.span c.requires.sound c.requires.few in
    omega (arith, sum, part, small)
