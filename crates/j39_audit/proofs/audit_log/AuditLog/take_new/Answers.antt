use Rattle.std.proofs.Common.{◌≡◌, ◌+◌, ℕ, List, Option, ap, ◌∙◌}
use Rattle.std.specs.Option.{option_copied}
use Rattle.std.specs.declared.alloc.Global.{Global}
use Rattle.std.specs.declared.vec.Vec.{Vec}
use Rattle.j39_log.specs.declared.line_counts.LineCounts.{LineCounts}
use Rattle.j39_follow.specs.LogLines.{interface_behind}
use Rattle.j39_follow.specs.inside.FollowedSoFar.{interface_of}
use Rattle.j39_audit.specs.Again.{taken_frame}
use Rattle.j39_audit.specs.AuditPasts.{past_with_frame}
use Rattle.j39_audit.specs.declared.tally.Sighting.{Sighting}
use Rattle.j39_audit.proofs.Hearing.{follows_still}
use Rattle.j39_audit.proofs.audit_log.AuditLog.take_new.Goals as goal

pub returns-clause-frame : goal.returns-clause-frame
unfolding past_with_frame
returns-clause-frame c = λ past recalls.
    let timed = c.in_ok-take_timed.ensures in
    let named : Option (List ℕ) = option_copied c.args.named in
    let took = timed.frame past named recalls.follows recalls.number_is in
    let number : c.take_timed.new.self.number ≡ past.number = timed.number ∙ recalls.number_is in
    record {
      packet = took.packet;
      packet_is = took.packet_is;
      recalls = record {
        follows = follows_still c.take_timed.new.self _ took.follows;
        number_is = number;
        interface_is = c.in_ok-keep_interface.ensures ∙ ap (λ (i : Option (List ℕ)). interface_behind i named)
            (ap (λ (i : Option (Vec ℕ Global)). interface_of i) timed.interface ∙ recalls.interface_is);
        taken_is = c.taken_frame-self.ensures
            ∙ ap (λ (n : ℕ). taken_frame c.args.time c.args.frame n c.take_timed.new.self.tally.sighting) number
            ∙ ap (λ (w : Sighting). taken_frame c.args.time c.args.frame past.number w) took.sights;
        again_is = timed.again ∙ recalls.again_is;
        frames_are = ap (λ (k : LineCounts). k.frames + 1) timed.counts ∙ ap (λ (n : ℕ). n + 1) recalls.frames_are;
        skipped_are = ap (λ (k : LineCounts). k.skipped) timed.counts ∙ recalls.skipped_are;
        bad_are = ap (λ (k : LineCounts). k.bad) timed.counts ∙ recalls.bad_are;
        elsewhere_are = ap (λ (k : LineCounts). k.elsewhere) timed.counts ∙ recalls.elsewhere_are;
      };
    }
