use Rattle.std.proofs.Common.{◌≡◌, ◌<◌, Some, None, length, arith}
use Rattle.j39_vehicle_findings.specs.Traces.{goes_on, next_forward}
use Rattle.j39_vehicle_text.proofs.WaySteps.{breaks_off, ends_behind_all, ends_here, goes_further}
use Rattle.j39_vehicle_text.proofs.ways.way_back.Goals as goal

pub returns-in_default-clause-way : goal.returns-in_default-clause-way
returns-in_default-clause-way c =
    let v = c.args.routes.now.vehicle.now in
    let none : next_forward v c.trace.point ≡ None = cc in
    ends_here v (length v.forwards.items) c.trace._step c.trace.point c.trace.back.items _ c.trace.invariant none

pub returns-in_default-goes_on-clause-way : goal.returns-in_default-goes_on-clause-way
returns-in_default-goes_on-clause-way c =
    let v = c.args.routes.now.vehicle.now in
    let n = c.in-Some.forward in
    let some : next_forward v c.trace.point ≡ Some n = cc in
    let none : goes_on v c.trace.point n ≡ None = cc in
    let less : c.trace._step < length v.forwards.items = omega arith in
    breaks_off v (length v.forwards.items) c.trace._step c.trace.point c.trace.back.items _ c.trace.invariant n c.push.new.self.items less some
    c.in_ok-push.ensures.items none

pub trace-preserved : goal.trace-preserved
trace-preserved c =
    let v = c.args.routes.now.vehicle.now in
    let n = c.in-Some.forward in
    let q = c.in-Some-goes_on.before in
    let some : next_forward v c.trace.point ≡ Some n = cc in
    let on : goes_on v c.trace.point n ≡ Some q = cc in
    let less : c.trace._step < length v.forwards.items = omega arith in
    goes_further v (length v.forwards.items) c.trace._step c.trace.point c.trace.back.items _ c.trace.invariant n c.push.new.self.items less some
    c.in_ok-push.ensures.items q on

pub returns-clause-way : goal.returns-clause-way
returns-clause-way c =
    let v = c.args.routes.now.vehicle.now in
    let over : c.trace._step ≡ length v.forwards.items = omega arith in
    ends_behind_all v (length v.forwards.items) c.trace._step c.trace.point c.trace.back.items _ c.trace.invariant over
