-- In each world of a run a step that is not refused leads to some world.
use Rattle.std.proofs.Common.{◌≡◌, ℕ, true, false, List, [], ◌∷◌, ◌++◌, length, refl, sym, subst, Option, Some, None}
use Rattle.std.specs.Option.{is_some}
use Rattle.std.specs.Prelude.{slice_get}
use Rattle.std.proofs.lemmas.Bool.{not-false}
use Rattle.j39_tp.specs.Carried.{Carried}
use Rattle.j39_tp.specs.Sender as sender
use Rattle.j39_tp.specs.Receiver.{is_complete}
use Rattle.j39_tp.specs.declared.packet.Packet.{Packet}
use Rattle.j39_tp.specs.declared.receiving.heard.Heard.{Heard}
use Rattle.j39_tp.specs.declared.receiving.heard.Heard.TheVariants as heards
use Rattle.j39_tp.specs.declared.receiving.manner.Manner.TheVariants.{Answering}
use Rattle.j39_tp.specs.declared.sending.stage.Stage.{Stage}
use Rattle.j39_tp.specs.declared.sending.stage.Stage.TheVariants.{Sending, Waiting, Resting}
use Rattle.j39_tp.proofs.Gathering.{completes_carried}
use Rattle.j39_claim.specs.declared.item.Item.{Item}
use Rattle.j39_network.specs.declared.plan.Plan.{Plan}
use Rattle.j39_network.specs.declared.steps.Step.TheVariants.{Up, Down, Give, Ask, Begin, Send, Emit, Take, Lose, LateSender, LateReceiver, Rest}
use Rattle.j39_world.specs.declared.flow.Flow.{Flow}
use Rattle.j39_world.specs.declared.wired.Wired.{Wired}
use Rattle.j39_world.specs.declared.wired.Wired.TheVariants as wired
use Rattle.j39_world.specs.ClaimSteps.{GivenFrom, heard_and_answered}
use Rattle.j39_world.specs.Leading.{LeadsOn}
use Rattle.j39_world.specs.Flows.{flows_of, windows_of, window_at}
use Rattle.j39_network.specs.PlannedUnits.{units_of, unit_at}
use Rattle.j39_world.specs.Run.{count_of, begin_refusal, send_refusal, can_emit, is_waiting, is_waiting_at, is_empty}
use Rattle.j39_world.specs.SoundPlan.{Always}
use Rattle.j39_world.specs.Transfers.{Outgoing, Reported}
use Rattle.j39_world.specs.TransferSteps.{BeginsAt, begins, SendsAt, sends_alone, Emits, SenderTimesOut, hearing, report, ReportsOne, Reports, TakenFrom}
use Rattle.j39_world.specs.TransferSteps.{LostFrom}
use Rattle.j39_world.specs.TransferSteps.{packet_taken}
use Rattle.j39_world.specs.World.{World}
use Rattle.j39_run_laws.proofs.Runs.Conditions.{none_refuses}
use Rattle.j39_run_laws.proofs.Settling.SettlingRuns.{reacted}
use Rattle.j39_run_laws.proofs.Transfers.Fitting.{HasGathered}
use Rattle.j39_run_laws.proofs.Transfers.FitSteps.{IsWorldFit, worlds_fit}

-- ---- what a sender has to send

next_data : (bytes : List ℕ) (stage : Stage) → is_some (sender.next_number stage) ≡ true → (p : Packet) × (sender.data_next bytes stage ≡ Some p)
next_data bytes (Sending next last) can = (_, refl)
next_data bytes Waiting can = absurd (cc can)
next_data bytes (Resting outcome) can = absurd (cc can)

late_packet : (pgn : ℕ) (stage : Stage) → is_waiting_at stage ≡ true → (p : Packet) × (sender.timeout_packet pgn stage ≡ Some p)
late_packet pgn Waiting is = (_, refl)
late_packet pgn (Sending next last) is = absurd (cc is)
late_packet pgn (Resting outcome) is = absurd (cc is)

module _ (plan : Plan) (w : World) (inv : IsWorldFit w) where
  gives : (u v : ℕ) (list : List Item) → is_empty list ≡ false → (new : World) × GivenFrom (units_of plan) w u v list new
  gives u v [] some = absurd (cc some)
  gives u v (item ∷ rest) some =
      let (says, s, answers) = reacted (unit_at (units_of plan) v) (w.stations v) (unit_at (units_of plan) u).name item in
      (heard_and_answered (units_of plan) w u v rest says s, (says, s, answers, refl))

  begun : (f : ℕ) (o : Option Flow) (bytes : List ℕ) → begin_refusal plan.live (count_of plan) w o bytes ≡ None
      → (new : World) × BeginsAt (count_of plan) w f o bytes new
  begun f None bytes allowed = absurd (cc allowed)
  begun f (Some flow) bytes allowed = (begins (count_of plan) w f flow bytes, refl)

  sends : (f : ℕ) (o : Option Flow) (bytes : List ℕ) → send_refusal plan.live (count_of plan) w o bytes ≡ None
      → (new : World) × SendsAt (count_of plan) w f o bytes new
  sends f None bytes allowed = absurd (cc allowed)
  sends f (Some flow) bytes allowed = (sends_alone (count_of plan) w f flow bytes, refl)

  emits : (u : ℕ) (o : Option Outgoing) → w.sessions u ≡ o → can_emit o ≡ true → (new : World) × Emits w u new
  emits u None is can = absurd (cc can)
  emits u (Some s) is can = let (p, next) = next_data s.bytes s.stage can in (_, (s, p, is, next, refl))

  times_out : (u : ℕ) (o : Option Outgoing) → w.sessions u ≡ o → is_waiting o ≡ true → (new : World) × SenderTimesOut w u new
  times_out u None is waits = absurd (cc waits)
  times_out u (Some s) is waits = let (p, late) = late_packet s.pgn s.stage waits in (_, (s, p, is, late, refl))

  loses : (u v : ℕ) (list : List Wired) → is_empty list ≡ false → (new : World) × LostFrom w u v list new
  loses u v [] some = absurd (cc some)
  loses u v (item ∷ rest) some = (_, refl)

  -- ---- what is taken

  module _ (windows : List ℕ) (u v : ℕ) where
    carried : (p : Packet) → is_complete (hearing windows w u v p).1 ≡ true
        → (pgn : ℕ) × (bytes : List ℕ) × Carried (w.taken v u ++ p ∷ []) (length (w.taken v u)) pgn bytes
    carried p stated =
        let g : HasGathered (w.taken v u) (w.receivers v u) = inv.gathered v u in
        let holds = completes_carried (w.taken v u)
        (record { manner = Answering (window_at windows v); progress = w.receivers v u; bytes = g.0 }) p g.1 stated in
        (holds.pgn, _, holds.carried)

    reports_one : (p : Packet) → is_complete (hearing windows w u v p).1 ≡ true → (reports : List Reported) × ReportsOne w u v p reports
    reports_one p stated = let (pgn, bytes, is) = carried p stated in (report w u v bytes ∷ [], (pgn, bytes, is, refl))

    reported : (p : Packet) (h : Heard) → (hearing windows w u v p).1 ≡ h → (reports : List Reported) × Reports w u v p h reports
    reported p heards.Complete is = reports_one p (subst (λ (x : Heard). is_complete x ≡ true) (sym is) refl)
    reported p (heards.CompleteReply q) is = reports_one p (subst (λ (x : Heard). is_complete x ≡ true) (sym is) refl)
    reported p heards.Nothing is = ([], refl)
    reported p heards.Closed is = ([], refl)
    reported p (heards.Reply q) is = ([], refl)

    takes : (list : List Wired) → is_empty list ≡ false → (new : World) × TakenFrom windows w u v list new
    takes [] some = absurd (cc some)
    takes (wired.Short bytes ∷ rest) some = (_, refl)
    takes (wired.Alone f bytes ∷ rest) some = (_, refl)
    takes (wired.Packet p ∷ rest) some =
        let (reports, is) = reported p (hearing windows w u v p).1 refl in (packet_taken windows w u v rest p reports, (reports, is, refl))

  -- ---- each step

  pub leads_on : LeadsOn plan w
  leads_on (Up u) allowed = (_, refl)
  leads_on (Down u) allowed = (_, refl)
  leads_on (Give u v) allowed = let (known, (on, (some, none))) = none_refuses plan w (Give u v) allowed in gives u v (w.claims u v) some
  leads_on (Ask u) allowed = (_, refl)
  leads_on (Begin f bytes) allowed = begun f (slice_get (flows_of plan) f) bytes.items allowed
  leads_on (Send f bytes) allowed = sends f (slice_get (flows_of plan) f) bytes.items allowed
  leads_on (Emit u) allowed =
      let (known, (on, (can, none))) = none_refuses plan w (Emit u) allowed in
      emits u (w.sessions u) refl (not-false (can_emit (w.sessions u)) can)
  leads_on (Take u v) allowed =
      let (known, (on, (some, none))) = none_refuses plan w (Take u v) allowed in takes (windows_of plan) u v (w.wire u v) some
  leads_on (Lose u v) allowed = let (known, (on, (some, none))) = none_refuses plan w (Lose u v) allowed in loses u v (w.wire u v) some
  leads_on (LateSender u) allowed =
      let (known, (on, (waits, none))) = none_refuses plan w (LateSender u) allowed in
      times_out u (w.sessions u) refl (not-false (is_waiting (w.sessions u)) waits)
  leads_on (LateReceiver u v) allowed = (_, refl)
  leads_on (Rest u) allowed = (_, refl)

pub steps_lead : (plan : Plan) → Always plan (LeadsOn plan)
steps_lead plan steps w run = leads_on plan w (worlds_fit plan steps w run)
