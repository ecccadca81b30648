use Rattle.std.proofs.Common.{◌≡◌, ◌-◌, ◌<◌, Some, None, length, sym, ◌∙◌, ap, arith}
use Rattle.j39_vehicle_findings.specs.Traces.{goes_on, next_forward, trace_end}
use Rattle.j39_vehicle_findings.proofs.Tracing.{breaks_off, ends_here, goes_further, goes_on_too_often}
use Rattle.j39_vehicle_findings.proofs.routes.Routes.origin.Goals as goal

pub returns-in_default : goal.returns-in_default
returns-in_default c =
    let v = c.args.self.now.vehicle.now in
    let none : next_forward v c.trace.point ≡ None = cc in
    sym (ends_here v (length v.forwards.items - c.trace._step) c.trace.point none) ∙ c.trace.invariant

pub returns-in_default-goes_on : goal.returns-in_default-goes_on
returns-in_default-goes_on c =
    let v = c.args.self.now.vehicle.now in
    let n = c.in-Some.forward in
    let some : next_forward v c.trace.point ≡ Some n = cc in
    let none : goes_on v c.trace.point n ≡ None = cc in
    let less : c.trace._step < length v.forwards.items = omega arith in
    sym (breaks_off v (length v.forwards.items) c.trace._step c.trace.point n less some none) ∙ c.trace.invariant

pub trace-preserved : goal.trace-preserved
trace-preserved c =
    let v = c.args.self.now.vehicle.now in
    let n = c.in-Some.forward in
    let q = c.in-Some-goes_on.before in
    let some : next_forward v c.trace.point ≡ Some n = cc in
    let on : goes_on v c.trace.point n ≡ Some q = cc in
    let less : c.trace._step < length v.forwards.items = omega arith in
    goes_further v (length v.forwards.items) c.trace._step c.trace.point q n less some on ∙ c.trace.invariant

pub returns-in-None : goal.returns-in-None
returns-in-None c =
    let v = c.args.self.now.vehicle.now in
    let none : next_forward v c.trace.point ≡ None = cc in
    sym (ends_here v (length v.forwards.items - c.trace._step) c.trace.point none) ∙ c.trace.invariant

pub returns-in-Some-next_forward : goal.returns-in-Some-next_forward
returns-in-Some-next_forward c =
    let v = c.args.self.now.vehicle.now in
    let n = c.in-Some-next_forward._forward in
    let some : next_forward v c.trace.point ≡ Some n = cc in
    let over : length v.forwards.items - c.trace._step ≡ 0 = omega arith in
    sym (ap (λ k. trace_end v k c.trace.point) over ∙ goes_on_too_often v c.trace.point n some) ∙ c.trace.invariant
