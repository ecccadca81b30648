use Rattle.std.proofs.Common.{◌≡◌, ◌+◌, ℕ, Bool, Option, Some, true, false, cond, min, sym, subst, arith}
use Rattle.std.specs.Prelude.{nat_lt}
use Rattle.std.proofs.lemmas.Bool.{le-ltb, lt-ltb}
use Rattle.std.proofs.lemmas.Result.{IfOk-weaker}
use Rattle.j39_network.specs.declared.plan.timing.Timing.{Timing}
use Rattle.j39_audit.specs.BegunBroadcasts.{announced_to_all, broadcasts_behind, broadcasts_with_frame, with_sent}
use Rattle.j39_audit.specs.Moments.{long_before}
use Rattle.j39_audit.specs.Settings.{units_planned}
use Rattle.j39_audit.specs.inside.Recalling.{RecallsBroadcasts, known_by, settings_of}
use Rattle.j39_audit.proofs.Begun.{framed}
use Rattle.j39_audit.proofs.broadcasts.BegunBroadcasts.take.Goals as goal

pub returns-in_default : goal.returns-in_default
unfolding broadcasts_behind
returns-in_default c = λ b recalls.
    subst (λ (t : Option Timing). RecallsBroadcasts (settings_of c.args.basis.now) c.args.self.now
    (broadcasts_with_frame (settings_of c.args.basis.now)
    (known_by c.args.known.now) t c.args.unit c.args.frame.now c.args.announced c.args.time c.args.idle c.args.line b))
    (sym c.in_default.is) recalls

pub returns-in_default-unit : goal.returns-in_default-unit
unfolding broadcasts_behind
returns-in_default-unit c = λ b recalls.
    let s = settings_of c.args.basis.now in
    let k = known_by c.args.known.now in
    let kept = c.args.self.now in
    let f = c.args.frame.now in
    subst (λ (t : Option Timing). RecallsBroadcasts s kept (broadcasts_with_frame s k t c.args.unit f c.args.announced c.args.time c.args.idle c.args.line b))
    (sym c.in-Some.is)
    (subst (λ (u : Option ℕ). RecallsBroadcasts s kept (broadcasts_with_frame s k
    (Some c.in-Some.timing) u f c.args.announced c.args.time c.args.idle c.args.line b))
    (sym c.in_default-unit.is) recalls)

pub returns-in_default-time : goal.returns-in_default-time
unfolding broadcasts_behind
returns-in_default-time c = λ b recalls.
    let s = settings_of c.args.basis.now in
    let k = known_by c.args.known.now in
    let kept = c.args.self.now in
    let f = c.args.frame.now in
    let t = c.in-Some.timing in
    subst (λ (t : Option Timing). RecallsBroadcasts s kept (broadcasts_with_frame s k t c.args.unit f c.args.announced c.args.time c.args.idle c.args.line b))
    (sym c.in-Some.is)
    (subst (λ (u : Option ℕ). RecallsBroadcasts s kept (broadcasts_with_frame s k (Some t) u f c.args.announced c.args.time c.args.idle c.args.line b))
    (sym c.in-Some-unit.is)
    (subst (λ (o : Option ℕ). RecallsBroadcasts s kept (broadcasts_with_frame s k (Some t)
    (Some c.in-Some-unit.unit) f c.args.announced o c.args.idle c.args.line b))
    (sym c.in_default-time.is) recalls))

pub returns-then-unit-len : goal.returns-then-unit-len
unfolding broadcasts_behind
returns-then-unit-len c = λ b recalls.
    let s = settings_of c.args.basis.now in
    let k = known_by c.args.known.now in
    let kept = c.args.self.now in
    let f = c.args.frame.now in
    let u = c.in-Some-unit.unit in
    let size = recalls.size in
    let count = c.len.ensures in
    let past = c.if-unit-len.true in
    let moment : ℕ = c.in-Some-time.time + long_before + (min s.stamps 1000000) in
    let is : nat_lt u (units_planned s) ≡ false = le-ltb u (units_planned s) (omega (arith, size, count, past)) in
    framed s kept k c.args.basis.now.plan.now.timing c.args.unit f c.args.announced c.args.time c.args.idle c.args.line b c.in-Some.timing u c.in-Some-time.time
    c.in-Some.is c.in-Some-unit.is c.in-Some-time.is
    (subst (λ (i : Bool). RecallsBroadcasts s kept
    (cond i (with_sent s k c.in-Some.timing u f c.args.idle moment c.args.line (announced_to_all u f c.args.announced) (b.begun u) b) b)) (sym is) recalls)

pub returns : goal.returns
unfolding broadcasts_behind
returns c =
    IfOk-weaker c.take_sent.result _ _
    (λ _ took. λ b recalls.
    let s = settings_of c.args.basis.now in
    let k = known_by c.args.known.now in
    let kept = c.take_sent.new.self in
    let f = c.args.frame.now in
    let u = c.in-Some-unit.unit in
    let size = recalls.size in
    let count = c.len.ensures in
    let inside = c.if-unit-len.false in
    let line = c.args.line in
    let t = c.in-Some.timing in
    let moment : ℕ → ℕ = λ e. c.in-Some-time.time + long_before + e in
    let is : nat_lt u (units_planned s) ≡ true = lt-ltb u (units_planned s) (omega (arith, size, count, inside)) in
    framed s kept k c.args.basis.now.plan.now.timing c.args.unit f c.args.announced c.args.time c.args.idle line b t u c.in-Some-time.time
    c.in-Some.is c.in-Some-unit.is c.in-Some-time.is
    (subst (λ (i : Bool). RecallsBroadcasts s kept
    (cond i (with_sent s k t u f c.args.idle (moment (min s.stamps 1000000)) line (announced_to_all u f c.args.announced) (b.begun u) b) b)) (sym is)
    (subst (λ (e : ℕ). RecallsBroadcasts s kept (with_sent s k t u f c.args.idle (moment e) line (announced_to_all u f c.args.announced) (b.begun u) b))
    c.logger_error.ensures.value (took b recalls))))
    c.take_sent.ensures
