-- In each world of a run reports are sound, acknowledged messages were reported, and frames that were sent alone are reported as they were
-- sent; of a plan that isn't live nothing is undelivered that could move an address while a message is sent or such a frame lies.
use Rattle.std.proofs.Common.{◌≡◌, false}
use Rattle.std.proofs.lemmas.List.Elements.{All-contains, All-from_recursion}
use Rattle.j39_network.specs.declared.plan.Plan.{Plan}
use Rattle.j39_world.specs.declared.wired.Wired.TheVariants.{Alone}
use Rattle.j39_world.specs.Sound.{AreAllDelivered, AreReportsSound, AreSentFramesSound, DoesOneLie, IsAcknowledgedReported}
use Rattle.j39_world.specs.SoundPlan.{Always, IsSending}
use Rattle.j39_run_laws.proofs.Reports.SentFrames.{sent_in_order}
use Rattle.j39_run_laws.proofs.Reports.SoundReports as reports
use Rattle.j39_run_laws.proofs.Transfers.Accounted.{IsSettledFor}
use Rattle.j39_run_laws.proofs.Transfers.AccountedSteps.{all_kept}

pub reports_sound : (plan : Plan) → Always plan AreReportsSound
reports_sound plan steps w run = reports.reports_sound plan w (all_kept plan steps w run).transfers

pub delivered_while : (plan : Plan) → plan.live ≡ false → Always plan (λ w. IsSending w → AreAllDelivered w.claims)
delivered_while plan quiet steps w run = reports.delivered_while plan w (all_kept plan steps w run).transfers quiet

pub acknowledged_reported : (plan : Plan) → Always plan IsAcknowledgedReported
acknowledged_reported plan steps w run = reports.acknowledged_reported plan w (all_kept plan steps w run).transfers

pub sent_frames_sound : (plan : Plan) → Always plan AreSentFramesSound
sent_frames_sound plan steps w run = record { sent = sent_in_order plan steps w run }

pub delivered_beside : (plan : Plan) → plan.live ≡ false → Always plan (λ w. DoesOneLie w → AreAllDelivered w.claims)
delivered_beside plan quiet steps w run (u, v, f, bytes, lies) =
    let settled : IsSettledFor plan.live w.stations w.claims u v (Alone f bytes) =
    All-contains (IsSettledFor plan.live w.stations w.claims u v) (w.wire u v) (Alone f bytes)
    (All-from_recursion (IsSettledFor plan.live w.stations w.claims u v) (w.wire u v) ((all_kept plan steps w run).accounted.alone u v)) lies in
    settled.2 quiet
