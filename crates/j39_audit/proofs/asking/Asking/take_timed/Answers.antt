use Rattle.std.proofs.Common.{ℕ, ◌+◌, Option, sym, subst}
use Rattle.j39_audit.specs.Asking.{asked_at, asked_with}
use Rattle.j39_audit.specs.Moments.{long_before}
use Rattle.j39_audit.specs.inside.Recalling.{RecallsAsking, known_by, settings_of}
use Rattle.j39_audit.proofs.asking.Asking.take_timed.Goals as goal

pub returns-in-Some : goal.returns-in-Some
returns-in-Some c = λ a recalls.
    let s = settings_of c.args.basis.now in
    let k = known_by c.args.known.now in
    let f = c.args.frame.now in
    let new = c.take_request.new.self in
    subst (λ (o : Option ℕ). RecallsAsking s new (asked_at s k f o c.args.line a)) (sym c.in-Some.is)
    (subst (λ (e : ℕ). RecallsAsking s new (asked_with s k f (record { moment = c.in-Some.time + long_before + e; line = c.args.line }) a))
    c.logger_error.ensures.value (c.take_request.ensures a recalls))
