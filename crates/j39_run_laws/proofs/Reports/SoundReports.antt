-- The steps of units that claim addresses keep what holds of messages in every world: reports are sound, and acknowledged messages were
-- reported.
use Rattle.std.proofs.Common.{Some, ◌≡◌, ◌≢◌, ◌⊎◌, inl, inr, ℕ, true, false, cond, not, ◌&&◌, ltb, List, [], ◌∷◌, length, refl, sym, ap, ◌∙◌, subst, Option}
use Rattle.std.proofs.Common.{None}
use Rattle.std.proofs.lemmas.Bool.{and_parts, not-false, true≢false}
use Rattle.std.specs.Option.{is_some}
use Rattle.std.specs.Prelude.{slice_get}
use Rattle.j39_claim.specs.declared.item.Item.{Item}
use Rattle.j39_claim.specs.ClaimRule.{claim_of, off, said_by, started}
use Rattle.j39_network.specs.declared.plan.Plan.{Plan}
use Rattle.j39_network.specs.declared.steps.Step.{Step}
use Rattle.j39_network.specs.declared.steps.Step.TheVariants.{Up, Down, Give, Ask, Begin, Send, Emit, Take, Lose, LateSender, LateReceiver, Rest}
use Rattle.j39_network.specs.PlannedUnits.{units_of, unit_at}
use Rattle.j39_world.specs.ClaimSteps.{switched_on, asked, asking_items, first_items, GivenFrom, sent_to_others, without_lists_to, answer_items}
use Rattle.j39_world.specs.SwitchingOff.{is_either, session_without, sessions_without, switched_off}
use Rattle.j39_world.specs.Flows.{flows_of, windows_of}
use Rattle.j39_world.specs.Run.{StepsTo, count_of, is_a_transfer_open, is_none_sending, is_no_transfer_open, is_nothing_undelivered, refusal}
use Rattle.j39_world.specs.Sound.{AreAllDelivered, AreReportsSound, IsAcknowledgedReported, reported}
use Rattle.j39_world.specs.SoundPlan.{IsSending}
use Rattle.j39_tp.specs.declared.receiving.progress.Progress.TheVariants.{Closed}
use Rattle.j39_tp.specs.declared.sending.outcome.Outcome.TheVariants.{Acked, GaveUp}
use Rattle.j39_tp.specs.declared.sending.stage.Stage.TheVariants.{Resting}
use Rattle.j39_world.specs.Transfers.{Outgoing, Begun}
use Rattle.j39_world.specs.declared.wired.Wired.{Wired}
use Rattle.j39_world.specs.World.{World, Stations, Undelivered, all_off, changed, changed_pair}
use Rattle.j39_run_laws.proofs.Reports.Exchanges.{Pair, pair_of, Message, message_for, message_to, Exchange}
use Rattle.j39_run_laws.proofs.Reports.ExchangeSteps.{is_part}
use Rattle.j39_run_laws.proofs.Reports.Orderly.{DeliveredBefore, IsOrderly, PlannedAt, none_sends, none_sends_while, claims_keep, less_between}
use Rattle.j39_run_laws.proofs.Reports.ReceiverSteps.{lose_keeps, late_receiver_keeps, take_keeps}
use Rattle.j39_run_laws.proofs.Reports.Reporting.{AckedAt}
use Rattle.j39_run_laws.proofs.Reports.SenderSteps.{begin_keeps, send_keeps, emit_keeps, late_sender_keeps, rest_keeps}
use Rattle.j39_run_laws.proofs.Reports.TransferInvariant.{TransferInvariant}
use Rattle.j39_run_laws.proofs.Runs.Changed.{changed_elsewhere, changed_here}
use Rattle.j39_run_laws.proofs.Runs.SwitchedOff.{either_cases, nothing_dropped, sessions_each, stage_left, targets_less, targets_none, targets_same}
use Rattle.j39_run_laws.proofs.Runs.SwitchedOff.{unless_live}
use Rattle.j39_run_laws.proofs.Runs.Conditions.{is_unit, none_refuses, units_known}
use Rattle.j39_run_laws.proofs.Runs.Units.{AreUnitsOn, AreBetweenUnits, units_all, units_on, without_lists_empty, stated_between}

pub at_first : (plan : Plan) → TransferInvariant plan all_off
at_first plan = record {
  order = record {
    units = λ u on. absurd (true≢false (sym on));
    between = λ s t _. refl;
    planned = λ u. tt;
    delivered = λ quiet u. tt;
  };
  exchanges = λ s t. record { wire = tt; closed = refl; back = tt; part = tt };
  acknowledged = λ s t. tt;
}

-- ---- the steps of units that claim addresses

-- nothing is left between a unit that is switched off and another one
gone : (o : Option Message) (pair : Pair) → Exchange o pair → Exchange None (record pair { wire = []; back = []; receiver = Closed })
gone o pair e = record { wire = tt; closed = refl; back = tt; part = is_part o pair e }

-- a message that isn't sent to u is still the same
message_left : (u : ℕ) (o : Option Outgoing) (t : ℕ) → t ≢ u → message_to (session_without u o) t ≡ message_to o t
message_left u None t other = refl
message_left u (Some s) t other = ap (λ b. message_for b s) (targets_same u s.targets t other)

message_gone : (u : ℕ) (o : Option Outgoing) → message_to (session_without u o) u ≡ None
message_gone u None = refl
message_gone u (Some s) = ap (λ b. message_for b s) (targets_none u s.targets)

planned_left : (plan : Plan) (u x : ℕ) (o : Option Outgoing) → PlannedAt plan x o → PlannedAt plan x (session_without u o)
planned_left plan u x None planned = tt
planned_left plan u x (Some s) planned = record {
  unit = planned.unit;
  others = λ v among. planned.others v (targets_less u s.targets v among).0;
  one = λ v y to among. planned.one v y to (targets_less u s.targets y among).0;
}

delivered_left : (u : ℕ) (claims : Undelivered) (o : Option Outgoing) → DeliveredBefore claims o
    → DeliveredBefore (without_lists_to u claims) (session_without u o)
delivered_left u claims None all = tt
delivered_left u claims (Some s) all = λ s' t'. without_lists_empty claims u s' t' (all s' t')

acked_left : (u t : ℕ) (o : Option Outgoing) (reports : List Begun) → AckedAt o t reports → AckedAt (session_without u o) t reports
acked_left u t None reports acked = tt
acked_left u t (Some s) reports acked = λ stage. elim (stage_left u s.to s.stage) [
  | inl same ↦ let is = acked (sym same ∙ stage) in record { one = is.one; ends = is.ends }
  | inr gave_up ↦ absurd (let e : Resting GaveUp ≡ Resting Acked = sym gave_up ∙ stage in cc e)
]

module _ (plan : Plan) (w : World) (inv : TransferInvariant plan w) where
  -- where a plan that isn't live refuses no step for what is open
  pub none_open : (not plan.live && is_a_transfer_open (count_of plan) w) ≡ false → plan.live ≡ false → (u : ℕ) → w.sessions u ≡ None
  none_open idle quiet =
      let closed : is_no_transfer_open (count_of plan) w ≡ true = not-false _ (unless_live plan.live (is_a_transfer_open (count_of plan) w) quiet idle) in
      none_sends plan w.stations w.claims w.sessions inv.order
      (units_all plan (λ v. not (is_some (w.sessions v)))
      (and_parts (is_none_sending (count_of plan) w) (is_nothing_undelivered (count_of plan) w.wire) closed).0)

  -- what units claim changes while no message is sent, unless the plan is live
  orderly : (plan.live ≡ false → (u : ℕ) → w.sessions u ≡ None) → (new : Stations) → AreUnitsOn plan new → (claims : Undelivered) → AreBetweenUnits plan claims
      → IsOrderly plan new claims w.sessions
  orderly = claims_keep plan w.stations w.claims w.sessions inv.order

  -- what was undelivered to u is gone
  without_between : (u : ℕ) → AreBetweenUnits plan (without_lists_to u w.claims)
  without_between u s t outside = without_lists_empty w.claims u s t (inv.order.between s t outside)

  -- as a unit is switched on nothing lies to it
  on_exchanges : (u : ℕ) → ((s : ℕ) → w.wire s u ≡ []) → (s t : ℕ)
      → Exchange (message_to (w.sessions s) t) (record (pair_of w s t) { wire = without_lists_to u w.wire s t; back = without_lists_to u w.wire t s })
  on_exchanges u none s t =
      subst (λ (xs : List Wired). Exchange (message_to (w.sessions s) t) (record (pair_of w s t) { wire = xs; back = without_lists_to u w.wire t s }))
      (nothing_dropped w.wire u none s t)
      (subst (λ (xs : List Wired). Exchange (message_to (w.sessions s) t) (record (pair_of w s t) { back = xs })) (nothing_dropped w.wire u none t s)
      (inv.exchanges s t))

  -- as one is switched off nothing is left between it and any other
  off_exchanges : (u s t : ℕ) → Exchange (message_to (sessions_without u w.sessions s) t) (pair_of (switched_off w u) s t)
  off_exchanges u s t = elim (either_cases u s t) [
    | inl (here, back, which) ↦
        subst (λ (m : Option Message). Exchange m (pair_of (switched_off w u) s t)) (sym (none which))
        (subst (λ b. Exchange None (record (pair_of w s t) {
          wire = cond b [] (w.wire s t);
          back = cond (is_either u t s) [] (w.wire t s);
          receiver = cond (is_either u t s) Closed (w.receivers t s);
        })) (sym here)
        (subst (λ b. Exchange None (record (pair_of w s t) { wire = []; back = cond b [] (w.wire t s); receiver = cond b Closed (w.receivers t s) })) (sym back)
        (gone (message_to (w.sessions s) t) (pair_of w s t) (inv.exchanges s t))))
    | inr (here, back, other_s, other_t) ↦
        subst (λ (m : Option Message). Exchange m (pair_of (switched_off w u) s t)) (sym (same other_s other_t))
        (subst (λ b. Exchange (message_to (w.sessions s) t) (record (pair_of w s t) {
          wire = cond b [] (w.wire s t);
          back = cond (is_either u t s) [] (w.wire t s);
          receiver = cond (is_either u t s) Closed (w.receivers t s);
        })) (sym here)
        (subst (λ b. Exchange (message_to (w.sessions s) t) (record (pair_of w s t) {
          back = cond b [] (w.wire t s);
          receiver = cond b Closed (w.receivers t s);
        })) (sym back) (inv.exchanges s t)))
  ]
    where
      none : (s ≡ u) ⊎ (t ≡ u) → message_to (sessions_without u w.sessions s) t ≡ None
      none (inl is) = ap (λ k. message_to (sessions_without u w.sessions k) t) is
          ∙ ap (λ (o : Option Outgoing). message_to o t) (changed_here (λ x. session_without u (w.sessions x)) u None)
      none (inr is) = ap (message_to (sessions_without u w.sessions s)) is
          ∙ sessions_each u (λ _ (o : Option Outgoing). message_to o u ≡ None) w.sessions refl (λ x _. message_gone u (w.sessions x)) s

      same : s ≢ u → t ≢ u → message_to (sessions_without u w.sessions s) t ≡ message_to (w.sessions s) t
      same other_s other_t =
          ap (λ (o : Option Outgoing). message_to o t) (changed_elsewhere (λ x. session_without u (w.sessions x)) u None s other_s)
          ∙ message_left u (w.sessions s) t other_t

  up_keeps : (u : ℕ) → is_unit plan u ≡ true → (not plan.live && is_a_transfer_open (count_of plan) w) ≡ false → ((s : ℕ) → w.wire s u ≡ [])
      → TransferInvariant plan (switched_on (units_of plan) w u)
  up_keeps u unit idle none =
      let now : Stations = changed w.stations u (started (unit_at (units_of plan) u)) in
      let on : AreUnitsOn plan now = units_on plan w.stations u (started (unit_at (units_of plan) u)) unit inv.order.units in
      let mid : Undelivered = without_lists_to u w.claims in
      let stated : List Item = first_items (unit_at (units_of plan) u) in
      record {
        order = orderly (none_open idle) now on (sent_to_others now mid u stated) (stated_between plan now on mid (without_between u) u unit stated);
        exchanges = on_exchanges u none;
        acknowledged = inv.acknowledged;
      }

  down_keeps : (u : ℕ) → is_unit plan u ≡ true → TransferInvariant plan (switched_off w u)
  down_keeps u unit =
      let on : AreUnitsOn plan (changed w.stations u off) = units_on plan w.stations u off unit inv.order.units in
      record {
        order = record {
          units = on;
          between = without_between u;
          planned = sessions_each u (PlannedAt plan) w.sessions tt (λ x _. planned_left plan u x (w.sessions x) (inv.order.planned x));
          delivered = λ quiet. sessions_each u (λ _ (o : Option Outgoing). DeliveredBefore (without_lists_to u w.claims) o) w.sessions tt
              (λ x _. delivered_left u w.claims (w.sessions x) (inv.order.delivered quiet x));
        };
        exchanges = off_exchanges u;
        acknowledged = sessions_each u (λ s (o : Option Outgoing). (t : ℕ) → AckedAt o t (reported w.reports t s)) w.sessions (λ t. tt)
            (λ s _ t. acked_left u t (w.sessions s) (reported w.reports t s) (inv.acknowledged s t));
      }

  ask_keeps : (u : ℕ) → is_unit plan u ≡ true → (not plan.live && is_a_transfer_open (count_of plan) w) ≡ false
      → TransferInvariant plan (asked (units_of plan) w u)
  ask_keeps u unit idle =
      let stated : List Item = asking_items (said_by (unit_at (units_of plan) u) (claim_of (w.stations u).address)) in
      record {
        order = orderly (none_open idle) w.stations inv.order.units (sent_to_others w.stations w.claims u stated)
            (stated_between plan w.stations inv.order.units w.claims inv.order.between u unit stated);
        exchanges = inv.exchanges;
        acknowledged = inv.acknowledged;
      }

  give_keeps : (u v : ℕ) → is_unit plan u ≡ true → is_unit plan v ≡ true → ltb 0 (length (w.claims u v)) ≡ true
      → (list : List Item) → (new : World) → GivenFrom (units_of plan) w u v list new → TransferInvariant plan new
  give_keeps u v unit_u unit_v some [] new never = absurd never
  give_keeps u v unit_u unit_v some (item ∷ rest) new (says, s, answers, e) =
      let now : Stations = changed w.stations v s in
      let on : AreUnitsOn plan now = units_on plan w.stations v s unit_v inv.order.units in
      let mid : Undelivered = changed_pair w.claims u v rest in
      let less : AreBetweenUnits plan mid = less_between plan w.stations w.claims w.sessions inv.order u v rest unit_u unit_v in
      subst (TransferInvariant plan) (sym e) (record {
        order = orderly (λ quiet. none_sends_while plan w.stations w.claims w.sessions inv.order quiet u v some) now on
            (sent_to_others now mid v (answer_items says)) (stated_between plan now on mid less v unit_v (answer_items says));
        exchanges = inv.exchanges;
        acknowledged = inv.acknowledged;
      })

-- ---- each step

-- to a unit that is off nothing lies
abbrev pub AreUntaken : World → Type 0
AreUntaken w = (s t : ℕ) → (w.stations t).on ≡ false → w.wire s t ≡ []

module _ (plan : Plan) (w : World) (inv : TransferInvariant plan w) (untaken : AreUntaken w) where
  pub steps_keep : (step : Step) → refusal plan w step ≡ None → (new : World) → StepsTo plan w step new → TransferInvariant plan new
  steps_keep (Up u) allowed new e =
      let (known, (off_is, (idle, none))) = none_refuses plan w (Up u) allowed in
      subst (TransferInvariant plan) (sym e) (up_keeps plan w inv u (not-false _ known) idle (λ s. untaken s u off_is))
  steps_keep (Down u) allowed new e =
      let (known, more) = none_refuses plan w (Down u) allowed in
      subst (TransferInvariant plan) (sym e) (down_keeps plan w inv u (not-false _ known))
  steps_keep (Give u v) allowed new leads =
      let (known, (on, (some, none))) = none_refuses plan w (Give u v) allowed in
      let units = units_known plan u v known in
      give_keeps plan w inv u v units.0 units.1 (not-false _ some) (w.claims u v) new leads
  steps_keep (Ask u) allowed new e =
      let (known, (on, (idle, none))) = none_refuses plan w (Ask u) allowed in
      subst (TransferInvariant plan) (sym e) (ask_keeps plan w inv u (not-false _ known) idle)
  steps_keep (Begin f bytes) allowed new leads = begin_keeps plan w inv f (slice_get (flows_of plan) f) bytes.items allowed new leads
  steps_keep (Send f bytes) allowed new leads = send_keeps plan w inv f (slice_get (flows_of plan) f) bytes.items new leads
  steps_keep (Emit u) allowed new leads = emit_keeps plan w inv u new leads
  steps_keep (Take u v) allowed new leads = take_keeps plan w inv (windows_of plan) u v (w.wire u v) refl new leads
  steps_keep (Lose u v) allowed new leads = lose_keeps plan w inv u v (w.wire u v) refl new leads
  steps_keep (LateSender u) allowed new leads = late_sender_keeps plan w inv u new leads
  steps_keep (LateReceiver u v) allowed new e =
      let (known, (on, (hears, none))) = none_refuses plan w (LateReceiver u v) allowed in
      subst (TransferInvariant plan) (sym e) (late_receiver_keeps plan w inv (windows_of plan) u v (not-false _ hears))
  steps_keep (Rest u) allowed new e =
      let (known, (on, (over, none))) = none_refuses plan w (Rest u) allowed in
      subst (TransferInvariant plan) (sym e) (rest_keeps plan w inv u (not-false _ over))

-- ---- what this says of a world

module _ (plan : Plan) (w : World) (inv : TransferInvariant plan w) where
  pub reports_sound : AreReportsSound w
  reports_sound = record { begun = λ v u. is_part (message_to (w.sessions u) v) (pair_of w u v) (inv.exchanges u v) }

  -- of a plan that isn't live
  pub delivered_while : plan.live ≡ false → IsSending w → AreAllDelivered w.claims
  delivered_while quiet (u, o, is) = subst (DeliveredBefore w.claims) is (inv.order.delivered quiet u)

  pub acknowledged_reported : IsAcknowledgedReported w
  acknowledged_reported u s is acked =
      let at : (v : ℕ) → AckedAt (Some s) v (reported w.reports v u) =
      λ v. subst (λ (o : Option Outgoing). AckedAt o v (reported w.reports v u)) is (inv.acknowledged u v) in
      let one = (at 0 acked).one in
      let ends = (at one.0 acked).ends one.1 in
      (one.0, one.1, ends.0, ends.1)
