use Rattle.std.proofs.Common.{◌≡◌, ◌+◌, ◌++◌, ℕ, Bool, refl, ap, subst, ◌∙◌}
use Rattle.std.specs.Prelude.{nat_lt}
use Rattle.j39_audit.specs.Looking.{noted_if}
use Rattle.j39_audit.specs.SentMessages.{noted_at}
use Rattle.j39_audit.specs.declared.mark.Mark.{Mark}
use Rattle.j39_audit.specs.declared.mark.Word.TheVariants.{Short}
use Rattle.j39_audit.specs.inside.Recalling.{AreCounted}
use Rattle.j39_audit.proofs.audit_log.AuditLog.take_short.Goals as goal

pub returns-clause-fault : goal.returns-clause-fault
returns-clause-fault c = λ past recalls.
    let new = c.note_if.new.tally in
    let number = c.args.self.now.number in
    let frames : c.has_frames.result ≡ nat_lt 0 past.frames = c.has_frames.ensures ∙ ap (λ (n : ℕ). nat_lt 0 n) recalls.frames_are in
    record {
      follows = record {
        knows = recalls.follows.knows;
        counted = subst (λ (n : ℕ). AreCounted new (past.noted ++ noted_if (nat_lt 0 past.frames) (noted_at n Short 0 0))) recalls.number_is
            (subst (λ (k : Mark). AreCounted new (past.noted ++ noted_if (nat_lt 0 past.frames)
            (record { mark = k; line = number; detail = 0 }))) c.make_mark.ensures
            (subst (λ (b : Bool). AreCounted new (past.noted ++ noted_if b (record { mark = c.make_mark.result; line = number; detail = 0 }))) frames
            (c.in_ok-note_if.ensures.counts past.noted recalls.follows.counted)));
        newest_is = recalls.follows.newest_is;
        before_is = recalls.follows.before_is;
        moments = c.pass_over.ensures.moments past.moments recalls.follows.moments;
        by_load = c.pass_over-2.ensures.moments past.by_load recalls.follows.by_load;
        asking = recalls.follows.asking;
        broadcasts = recalls.follows.broadcasts;
        sessions = recalls.follows.sessions;
      };
      number_is = recalls.number_is;
      interface_is = recalls.interface_is;
      taken_is = refl;
      again_is = recalls.again_is;
      frames_are = recalls.frames_are;
      skipped_are = ap (λ (n : ℕ). n + 1) recalls.skipped_are;
      bad_are = recalls.bad_are;
      elsewhere_are = recalls.elsewhere_are;
    }
