use Rattle.std.proofs.Common.{◌≡◌, ◌-◌, ◌<◌, length, true, false, Some, None, sym, ap, ◌∙◌, arith}
use Rattle.j39_vehicle_findings.specs.Traces.{goes_on, next_forward}
use Rattle.j39_vehicle_times.specs.Times.{sum_known, timing_on}
use Rattle.j39_vehicle_times.specs.inside.Aging.{aged_by, ends_here}
use Rattle.j39_vehicle_times.proofs.Hops.{old_breaks_off, old_ends, old_first, old_further, old_last, old_unknown, old_without_age}
use Rattle.j39_vehicle_times.proofs.ages.old.Goals as goal

pub trace-init : goal.trace-init
trace-init c = record {
  sum = old_first c.args.routes.now.vehicle.now c.args.delays.now (length c.args.routes.now.vehicle.now.forwards.items) c.args.start;
  few = omega arith;
}

pub returns-in_default-clause-value : goal.returns-in_default-clause-value
returns-in_default-clause-value c =
    let v = c.args.routes.now.vehicle.now in
    let none : timing_on v.buses.items c.trace.point.at.bus ≡ None = cc in
    sym (ap (sum_known (Some c.trace.sum)) (old_unknown v c.args.delays.now (length v.forwards.items - c.trace._step) c.trace.point none))
    ∙ c.trace.invariant.sum

pub returns-in_default-next_forward-clause-value : goal.returns-in_default-next_forward-clause-value
returns-in_default-next_forward-clause-value c =
    let v = c.args.routes.now.vehicle.now in
    let t = c.in-Some._timing in
    let is : timing_on v.buses.items c.trace.point.at.bus ≡ Some t = cc in
    let none : next_forward v c.trace.point ≡ None = cc in
    sym (old_ends v c.args.delays.now (length v.forwards.items - c.trace._step) c.trace.sum c.trace.point t is none) ∙ c.trace.invariant.sum

pub returns-in_default-goes_on-clause-value : goal.returns-in_default-goes_on-clause-value
returns-in_default-goes_on-clause-value c =
    let v = c.args.routes.now.vehicle.now in
    let t = c.in-Some._timing in
    let n = c.in-Some-next_forward.forward in
    let is : timing_on v.buses.items c.trace.point.at.bus ≡ Some t = cc in
    let some : next_forward v c.trace.point ≡ Some n = cc in
    let none : goes_on v c.trace.point n ≡ None = cc in
    let less : c.trace._step < length v.forwards.items = omega arith in
    sym (old_breaks_off v c.args.delays.now (length v.forwards.items) c.trace._step c.trace.sum c.trace.point t n less is some none)
    ∙ c.trace.invariant.sum

pub returns-in_default-aged_by-clause-value : goal.returns-in_default-aged_by-clause-value
returns-in_default-aged_by-clause-value c =
    let v = c.args.routes.now.vehicle.now in
    let t = c.in-Some._timing in
    let n = c.in-Some-next_forward.forward in
    let q = c.in-Some-goes_on.before in
    let is : timing_on v.buses.items c.trace.point.at.bus ≡ Some t = cc in
    let some : next_forward v c.trace.point ≡ Some n = cc in
    let on : goes_on v c.trace.point n ≡ Some q = cc in
    let none : aged_by v c.args.delays.now n q.at ≡ None = cc in
    let less : c.trace._step < length v.forwards.items = omega arith in
    sym (old_without_age v c.args.delays.now (length v.forwards.items) c.trace._step c.trace.sum c.trace.point q t n less is some on none)
    ∙ c.trace.invariant.sum

pub trace-preserved : goal.trace-preserved
trace-preserved c =
    let v = c.args.routes.now.vehicle.now in
    let t = c.in-Some._timing in
    let n = c.in-Some-next_forward.forward in
    let q = c.in-Some-goes_on.before in
    let aged = c.in-Some-aged_by.aged in
    let is : timing_on v.buses.items c.trace.point.at.bus ≡ Some t = cc in
    let some : next_forward v c.trace.point ≡ Some n = cc in
    let on : goes_on v c.trace.point n ≡ Some q = cc in
    let by : aged_by v c.args.delays.now n q.at ≡ Some aged = cc in
    let less : c.trace._step < length v.forwards.items = omega arith in
    record {
      sum = old_further v c.args.delays.now (length v.forwards.items) c.trace._step c.trace.sum aged c.trace.point q t n less is some on by
          ∙ c.trace.invariant.sum;
      few = let few = c.trace.invariant.few in let short = c.in-Some-aged_by.ensures.few in omega arith;
    }

pub returns-then-ends_here-clause-value : goal.returns-then-ends_here-clause-value
returns-then-ends_here-clause-value c =
    let v = c.args.routes.now.vehicle.now in
    let over : length v.forwards.items - c.trace._step ≡ 0 = omega arith in
    let ends : ends_here v c.trace.point ≡ true = cc in
    sym (old_last v c.args.delays.now (length v.forwards.items - c.trace._step) c.trace.sum c.trace.point true over ends) ∙ c.trace.invariant.sum

pub returns-else-ends_here-clause-value : goal.returns-else-ends_here-clause-value
returns-else-ends_here-clause-value c =
    let v = c.args.routes.now.vehicle.now in
    let over : length v.forwards.items - c.trace._step ≡ 0 = omega arith in
    let ends : ends_here v c.trace.point ≡ false = cc in
    sym (old_last v c.args.delays.now (length v.forwards.items - c.trace._step) c.trace.sum c.trace.point false over ends) ∙ c.trace.invariant.sum
