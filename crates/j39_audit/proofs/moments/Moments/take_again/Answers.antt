use Rattle.std.proofs.Common.{◌+◌, ℕ, Option, Some, refl, sym, subst}
use Rattle.j39_audit.specs.Again.{moments_again, newest_later}
use Rattle.j39_audit.specs.Moments.{long_before}
use Rattle.j39_audit.specs.inside.Recalling.{RecallsMoments, settings_of}
use Rattle.j39_audit.proofs.moments.Moments.take_again.Goals as goal

pub returns-in-Some-clause-moments : goal.returns-in-Some-clause-moments
returns-in-Some-clause-moments c = λ m recalls.
    let new = c.put_off_of.new.self in
    let place = c.in-Some.place in
    let time = c.args.time in
    subst (λ (f : Option ℕ). RecallsMoments new (moments_again (settings_of c.args.basis.now) f time m)) (sym c.in-Some.is)
    (subst (λ (e : ℕ). RecallsMoments new (record m { before = Some time; newest = newest_later place (time + long_before + e) (m.newest place) m.newest }))
    c.logger_error.ensures.value
    (c.put_off_of.ensures.moments (record m { before = Some time }) (record {
      before = refl;
      since = recalls.since;
      earliest = recalls.earliest;
      counted = recalls.counted;
      pauses = record { newest = recalls.pauses.newest; last = recalls.pauses.last };
    })))
