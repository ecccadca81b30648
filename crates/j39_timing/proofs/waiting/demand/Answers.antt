use Rattle.std.proofs.Common.{arith, map, take, get_or, sum_by, ◌≡◌, ◌≤◌, ◌^◌, None}
use Rattle.std.proofs.lemmas.List.Sums.{sum_by_more_le, sum_by-take-le}
use Rattle.j39_timing.specs.Waits.{as_demand, lesser_share}
use Rattle.j39_timing.specs.declared.stream.Stream.{Stream}
use Rattle.j39_timing.proofs.Needs.{shares-small}
use Rattle.j39_timing.proofs.waiting.demand.Goals as goal

pub overflow_add-sum : goal.overflow_add-sum
overflow_add-sum c =
    let none : Stream = record { frames = 0; period = 0; bits = 0; jitter = 0; wanted = None } in
    let x : Stream = get_or c.args.streams.now c.loop-stream.stream-index none in
    let this : c.lesser_share-sum.result ≡ lesser_share (map as_demand c.args.all.now) c.args.span x = c.lesser_share-sum.ensures in
    let sum : c.loop-stream.sum ≡ sum_by (lesser_share (map as_demand c.args.all.now) c.args.span) (take c.loop-stream.stream-index c.args.streams.now) =
    c.loop-stream.invariant in
    let whole = sum_by_more_le (lesser_share (map as_demand c.args.all.now) c.args.span) c.args.streams.now c.loop-stream.stream-index none c.loop-stream-test.true in
    let small : sum_by (lesser_share (map as_demand c.args.all.now) c.args.span) c.args.streams.now ≤ 2 ^ 63 =
    shares-small (map as_demand c.args.all.now) c.args.span c.args.streams.now (omega (arith, c.ranges.span)) c.requires.positive c.requires.few in
    omega (arith, this, sum, whole, small)

pub returns-clause-small : goal.returns-clause-small
returns-clause-small c =
    let sum : c.loop-stream.sum ≡ sum_by (lesser_share (map as_demand c.args.all.now) c.args.span) (take c.loop-stream.stream-index c.args.streams.now) =
    c.loop-stream.invariant in
    let part = sum_by-take-le (lesser_share (map as_demand c.args.all.now) c.args.span) c.args.streams.now c.loop-stream.stream-index in
    let small : sum_by (lesser_share (map as_demand c.args.all.now) c.args.span) c.args.streams.now ≤ 2 ^ 63 =
    shares-small (map as_demand c.args.all.now) c.args.span c.args.streams.now (omega (arith, c.ranges.span)) c.requires.positive c.requires.few in
    omega (arith, sum, part, small)
