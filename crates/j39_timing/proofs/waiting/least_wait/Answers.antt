use Rattle.std.proofs.Common.{arith, map, ◌≡◌, ◌+◌, ◌≤◌, sum_by}
use Rattle.j39_timing.specs.Waits.{as_demand, lesser_share, need}
use Rattle.j39_timing.proofs.Needs.{demands-sound}
use Rattle.j39_timing.proofs.LeastShares.{none_fits_below}
use Rattle.j39_timing.proofs.waiting.least_wait.Goals as goal

pub returns-then-next-from-clause-none : goal.returns-then-next-from-clause-none
returns-then-next-from-clause-none c = λ _.
    let sum : c.demand.result ≡ sum_by (lesser_share (map as_demand c.args.wanted.now) (c.loop-wait.wait + 1)) c.args.streams.now = c.demand.ensures.sum in
    let needed : c.from.result + c.demand.result ≤ need (map as_demand c.args.wanted.now) c.args.blocking c.args.streams.now c.loop-wait.wait =
    omega (arith, sum, c.from.ensures) in
    none_fits_below (map as_demand c.args.wanted.now) c.args.blocking c.args.streams.now c.loop-wait.wait (c.from.result + c.demand.result) c.first_allowed-allowed.result (c.args.most + 1)
    (demands-sound c.args.wanted.now c.requires.sound) c.requires.positive c.loop-wait.invariant.0 needed c.first_allowed-allowed.ensures
    (omega (arith, c.if-next-from.true, c.from-in-loop-wait-4.ensures, c.max-next.ensures, c.from-in-loop-wait-3.ensures))

pub loop-wait-preserved : goal.loop-wait-preserved
loop-wait-preserved c =
    let sum : c.demand.result ≡ sum_by (lesser_share (map as_demand c.args.wanted.now) (c.loop-wait.wait + 1)) c.args.streams.now = c.demand.ensures.sum in
    let needed : c.from.result + c.demand.result ≤ need (map as_demand c.args.wanted.now) c.args.blocking c.args.streams.now c.loop-wait.wait =
    omega (arith, sum, c.from.ensures) in (
      none_fits_below (map as_demand c.args.wanted.now) c.args.blocking c.args.streams.now c.loop-wait.wait (c.from.result + c.demand.result) c.first_allowed-allowed.result
          c.max-next.result (demands-sound c.args.wanted.now c.requires.sound) c.requires.positive c.loop-wait.invariant.0 needed c.first_allowed-allowed.ensures
          (omega (arith, c.max-next.ensures, c.from-in-loop-wait-3.ensures)),
      omega (arith, c.if-next-from.false, c.from-in-loop-wait-4.ensures),
    )
