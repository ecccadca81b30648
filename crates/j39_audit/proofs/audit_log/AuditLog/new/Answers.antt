use Rattle.std.proofs.Common.{refl, sym, ap, subst, arith}
use Rattle.j39_log.specs.LineCounting.{AreWithin}
use Rattle.j39_log.specs.declared.line_counts.LineCounts.{LineCounts}
use Rattle.j39_audit.specs.AuditPasts.{nothing_read}
use Rattle.j39_audit.proofs.audit_log.AuditLog.new.Goals as goal

pub returns-clause-nothing : goal.returns-clause-nothing
returns-clause-nothing c =
    let none = c.new-8.ensures in
    record {
      past = nothing_read;
      read = refl;
      recalls = record {
        follows = record {
          knows = c.in_ok-known.ensures;
          counted = c.new-6.ensures;
          newest_is = refl;
          before_is = refl;
          moments = c.in_ok-moments.ensures.moments;
          by_load = c.in_ok-by_load.ensures.moments;
          asking = c.in_ok-asking.ensures;
          broadcasts = c.in_ok-broadcasts.ensures;
          sessions = c.new-7.ensures;
        };
        number_is = refl;
        interface_is = refl;
        taken_is = refl;
        again_is = refl;
        frames_are = ap (λ (k : LineCounts). k.frames) none;
        skipped_are = ap (λ (k : LineCounts). k.skipped) none;
        bad_are = ap (λ (k : LineCounts). k.bad) none;
        elsewhere_are = ap (λ (k : LineCounts). k.elsewhere) none;
      };
      number_is = refl;
      settings_are = refl;
    }

pub returns-clause-within : goal.returns-clause-within
returns-clause-within c = record {
  number = omega arith;
  counts = subst (λ (k : LineCounts). AreWithin k 0) (sym c.new-8.ensures)
      (record { frames = omega arith; skipped = omega arith; bad = omega arith; elsewhere = omega arith });
  near = record { by_bus = c.in_ok-moments.ensures.near; by_load = c.in_ok-by_load.ensures.near };
}
