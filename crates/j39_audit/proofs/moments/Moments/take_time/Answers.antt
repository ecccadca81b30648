use Rattle.std.proofs.Common.{ℕ, Option, refl, ap, ◌∙◌}
use Rattle.j39_audit.specs.Moments.{since_behind}
use Rattle.j39_audit.specs.inside.Recalling.{settings_of}
use Rattle.j39_audit.proofs.moments.Moments.take_time.Goals as goal

pub returns-clause-moments : goal.returns-clause-moments
returns-clause-moments c = λ m recalls.
    let s = settings_of c.args.basis.now in
    record {
      before = refl;
      since = c.since_behind-self.ensures.value
          ∙ ap (λ (b : Option ℕ). since_behind s c.args.timing c.args.gap c.args.bytes c.args.time b c.args.self.now.since) recalls.before
          ∙ ap (λ (i : Option ℕ). since_behind s c.args.timing c.args.gap c.args.bytes c.args.time m.before i) recalls.since;
      earliest = recalls.earliest;
      counted = recalls.counted;
      pauses = record { newest = recalls.pauses.newest; last = recalls.pauses.last };
    }
