-- The planned broadcasts that are kept behind a frame.
use Rattle.std.proofs.Common.{◌≡◌, ℕ, Option, Some, sym, subst}
use Rattle.j39_id.specs.declared.frame.Frame.{Frame}
use Rattle.j39_network.specs.declared.plan.timing.Timing.{Timing}
use Rattle.j39_audit.specs.BegunBroadcasts.{BegunBroadcasts, broadcasts_with_frame}
use Rattle.j39_audit.specs.Claiming.{Knowledge}
use Rattle.j39_audit.specs.Settings.{Settings}
use Rattle.j39_audit.specs.declared.announcements.Announcement.{Announcement}
use Rattle.j39_audit.specs.declared.broadcasts.BegunBroadcasts.{BegunBroadcasts as KeptBroadcasts}
use Rattle.j39_audit.specs.inside.Recalling.{RecallsBroadcasts}

-- behind a frame that counts for a unit and has a time
pub framed : (s : Settings) (kept : KeptBroadcasts) (k : Knowledge) (timing : Option Timing) (unit : Option ℕ) (f : Frame) (announced : Option Announcement)
    (time idle : Option ℕ) (line : ℕ) (b : BegunBroadcasts) (t : Timing) (u at : ℕ) → timing ≡ Some t → unit ≡ Some u → time ≡ Some at
    → RecallsBroadcasts s kept (broadcasts_with_frame s k (Some t) (Some u) f announced (Some at) idle line b)
    → RecallsBroadcasts s kept (broadcasts_with_frame s k timing unit f announced time idle line b)
framed s kept k timing unit f announced time idle line b t u at timing_is unit_is time_is is =
    subst (λ (o : Option Timing). RecallsBroadcasts s kept (broadcasts_with_frame s k o unit f announced time idle line b)) (sym timing_is)
    (subst (λ (o : Option ℕ). RecallsBroadcasts s kept (broadcasts_with_frame s k (Some t) o f announced time idle line b)) (sym unit_is)
    (subst (λ (o : Option ℕ). RecallsBroadcasts s kept (broadcasts_with_frame s k (Some t) (Some u) f announced o idle line b)) (sym time_is) is))
