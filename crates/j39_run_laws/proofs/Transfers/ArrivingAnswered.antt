-- In each world of a run a message of several frames to one unit that is begun there arrives where nothing of it is lost, and its receiver
-- sends its sender none of its group.
use Rattle.std.proofs.Common.{◌≡◌, ◌≢◌, ℕ, zero, suc, ◌<◌, inl, inr, true, false, ◌&&◌, eqb, List, [], ◌∷◌, ◌++◌, length, refl, sym, ap, ◌∙◌, subst, arith}
use Rattle.std.proofs.Common.{Option, Some, None}
use Rattle.std.specs.Bool.{MatchBool}
use Rattle.std.specs.Prelude.{map, slice_get, slice_index_or}
use Rattle.std.specs.List.{All, AllByRecursion}
use Rattle.std.specs.Option.{is_some}
use Rattle.std.proofs.lemmas.Bool.{and_from, cond-true, cond-false, eq-eqb, leb-false, true≢false}
use Rattle.std.proofs.lemmas.List.Elements.{All-head, All-tail}
use Rattle.j39_tp.specs.Sender as sender
use Rattle.j39_tp.specs.declared.packet.Packet.TheVariants.{Rts, Cts, EndAck, Bam, Abort, Dt}
use Rattle.j39_tp.specs.declared.sending.outcome.Outcome.TheVariants.{Sent, Acked}
use Rattle.j39_tp.specs.declared.sending.stage.Stage.TheVariants.{Waiting, Resting}
use Rattle.j39_network.specs.declared.plan.Plan.{Plan}
use Rattle.j39_network.specs.declared.plan.to.To.{To}
use Rattle.j39_network.specs.declared.plan.to.To.TheVariants as tos
use Rattle.j39_network.specs.declared.plan.unit_plan.UnitPlan.{UnitPlan}
use Rattle.j39_network.specs.declared.steps.Step.{Step}
use Rattle.j39_network.specs.declared.steps.Step.TheVariants.{Up, Down, Give, Ask, Begin, Send, Emit, Take, Lose, LateSender, LateReceiver, Rest}
use Rattle.j39_world.proofs.Refusals.{none_hold}
use Rattle.j39_world.specs.declared.step_error.StepError.{StepError}
use Rattle.j39_world.specs.declared.wired.Wired.{Wired}
use Rattle.j39_world.specs.declared.wired.Wired.TheVariants as wired
use Rattle.j39_world.specs.Arriving.{SparesBetween, SparingRun, IsThroughBetween, Answered, SendsOther, BeginsOther, IsAlone, HasArrivedAnswered}
use Rattle.j39_world.specs.Arriving.{ArrivesAnswered}
use Rattle.j39_claim.specs.declared.item.Item.{Item}
use Rattle.j39_world.specs.ClaimSteps.{GivenFrom, asked, heard_and_answered, switched_on}
use Rattle.j39_network.specs.PlannedUnits.{units_of}
use Rattle.j39_world.specs.Flows.{flows_of, windows_of, dest_of, is_short}
use Rattle.j39_world.specs.Passage.{Passage}
use Rattle.j39_world.specs.Run.{count_of, begin_refusals, refusal, StepsTo, Follows}
use Rattle.j39_world.specs.Sound.{reported}
use Rattle.j39_world.specs.SoundPlan.{Always}
use Rattle.j39_world.specs.Transfers.{Outgoing, Begun, Sessions, is_among}
use Rattle.j39_world.specs.TransferSteps.{targets_of, outgoing, first_item, begins}
use Rattle.j39_world.specs.World.{World}
use Rattle.j39_run_laws.proofs.Reports.Exchanges.{pair_of, message_to, begun_of, IsIdle, Exchange}
use Rattle.j39_run_laws.proofs.Reports.Exchanges as exchanges
use Rattle.j39_run_laws.proofs.Reports.Orderly.{IsPlanned, PlannedAt}
use Rattle.j39_run_laws.proofs.Reports.SenderSteps.{among_one, no_session}
use Rattle.j39_run_laws.proofs.Runs.Changed.{changed_here, changed_elsewhere}
use Rattle.j39_run_laws.proofs.Runs.Conditions.{none_refuses, not_refused}
use Rattle.j39_run_laws.proofs.Runs.Elements.{all_both}
use Rattle.j39_run_laws.proofs.Transfers.Accounted.{SendsTo, IsAccounted}
use Rattle.j39_run_laws.proofs.Transfers.AccountedSteps.{begin_kept, wire_same}
use Rattle.j39_run_laws.proofs.Transfers.Answered as answered
use Rattle.j39_run_laws.proofs.Transfers.AnsweredTaken as taken
use Rattle.j39_run_laws.proofs.Transfers.Answered.{to_other, at_stage, IsOnItsWay, IsAnswering}
use Rattle.j39_run_laws.proofs.Transfers.Beside.{IsBesideForth, IsBesideBack, Holds, holds_none, holds_own}
use Rattle.j39_run_laws.proofs.Transfers.Between.{IsAt, over}
use Rattle.j39_run_laws.proofs.Transfers.Coming.{added_elsewhere}
use Rattle.j39_run_laws.proofs.Transfers.Ending.{item_ready, emit_allowed}
use Rattle.j39_run_laws.proofs.Transfers.Flights.{packet_count}
use Rattle.j39_run_laws.proofs.Transfers.Named.{IsNamed, begin_named, IsKeptNamed, keeps_named, all_named}
use Rattle.j39_run_laws.proofs.Transfers.Naming.{IsTo}

-- ---- each unit lets packets be sent to it

window_some : (units : List UnitPlan) (v : ℕ) → 0 < slice_index_or (map (λ (p : UnitPlan). p.window) units) v 1
window_some [] v = omega arith
window_some (p ∷ units) zero = (let positive = p.window_positive in omega (arith, positive))
window_some (p ∷ units) (suc v) = window_some units v

-- ---- what is undelivered between two where neither sends the other the group alone

module _ (sessions : Sessions) (u v own : ℕ) (idle : sessions u ≡ None) (other : SendsOther (sessions v) u own) where
  never_to : (t pgn : ℕ) → IsTo (sessions u) t pgn → ⊥
  never_to t pgn is = subst (λ (o : Option Outgoing). IsTo o t pgn) idle is

  never_sends : SendsTo (sessions u) v → ⊥
  never_sends is = subst (λ (o : Option Outgoing). SendsTo o v) idle is

  forth_beside : (item : Wired) → exchanges.IsAnswering item → IsNamed sessions u v item → IsBesideForth own item
  forth_beside (wired.Short bytes) answers named = answers
  forth_beside (wired.Packet (Rts size limit pgn)) answers named = answers
  forth_beside (wired.Packet (Cts count start pgn)) answers named = tt
  forth_beside (wired.Packet (EndAck size pgn)) answers named = tt
  forth_beside (wired.Packet (Bam size pgn)) answers named = answers
  forth_beside (wired.Packet (Abort reason pgn)) answers named = elim named [
    | inl here ↦ absurd (never_to v pgn here)
    | inr there ↦ to_other (sessions v) u own pgn other there
  ]
  forth_beside (wired.Packet (Dt number seven)) answers named = answers
  forth_beside (wired.Alone f bytes) answers named = tt

  back_beside : (item : Wired) → IsAccounted sessions v u item → IsNamed sessions v u item → IsBesideBack own item
  back_beside (wired.Short bytes) accounted named = tt
  back_beside (wired.Packet (Rts size limit pgn)) accounted named = to_other (sessions v) u own pgn other named
  back_beside (wired.Packet (Cts count start pgn)) accounted named = elim accounted [
    | inl here ↦ true≢false (sym here.0)
    | inr (inl there) ↦ never_sends there.1
    | inr (inr alone) ↦ true≢false (sym alone)
  ]
  back_beside (wired.Packet (EndAck size pgn)) accounted named = elim accounted [
    | inl here ↦ true≢false (sym here.0)
    | inr (inl there) ↦ never_sends there.1
    | inr (inr alone) ↦ true≢false (sym alone)
  ]
  back_beside (wired.Packet (Bam size pgn)) accounted named = tt
  back_beside (wired.Packet (Abort reason pgn)) accounted named = elim named [
    | inl here ↦ to_other (sessions v) u own pgn other here
    | inr there ↦ absurd (never_to v pgn there)
  ]
  back_beside (wired.Packet (Dt number seven)) accounted named = tt
  back_beside (wired.Alone f bytes) accounted named = tt

-- ---- steps that spare it

module _ (plan : Plan) (u v : ℕ) (o : Outgoing) (before : List Begun) (apart : u ≢ v) (one : o.to ≡ tos.One v) (alone : o.targets ≡ v ∷ [])
    (long : 0 < packet_count o) where
  abbrev OnWay : World → Type 0
  OnWay w = IsAnswering plan u v o before apart one alone w

  module _ (w : World) (kept : IsKeptNamed plan w) (now : OnWay w) where
    abbrev session_now : Outgoing
    session_now = at_stage plan u v o before apart one alone now.stage

    up_keeps : (x : ℕ) → (w.stations x).on ≡ false → OnWay (switched_on (units_of plan) w x)
    up_keeps x off_is = answered.stated_keeps plan u v o before apart one alone w kept now (switched_on (units_of plan) w x) refl
        (wire_same plan w kept.kept.transfers kept.kept.accounted x off_is) refl refl

    give_keeps : (x y : ℕ) (list : List Item) (new : World) → GivenFrom (units_of plan) w x y list new → OnWay new
    give_keeps x y [] new never = absurd never
    give_keeps x y (item ∷ rest) new (says, s, reacts, e) = subst OnWay (sym e)
        (answered.stated_keeps plan u v o before apart one alone w kept now (heard_and_answered (units_of plan) w x y rest says s) refl refl refl refl)

    step_keeps : (step : Step) → SparesBetween plan w u v step → BeginsOther plan v u o.pgn step → refusal plan w step ≡ None → (new : World)
        → StepsTo plan w step new → OnWay new
    step_keeps (Up x) spares begins_other allowed new e =
        let (known, (off_is, more)) = none_refuses plan w (Up x) allowed in
        subst OnWay (sym e) (up_keeps x off_is)
    step_keeps (Down x) spares begins_other allowed new e =
        let away = spares allowed in
        subst OnWay (sym e) (answered.off_keeps plan u v o before apart one alone w kept now x away.0 away.1)
    step_keeps (Ask x) spares begins_other allowed new e =
        subst OnWay (sym e) (answered.stated_keeps plan u v o before apart one alone w kept now (asked (units_of plan) w x) refl refl refl refl)
    step_keeps (Give x y) spares begins_other allowed new leads = give_keeps x y (w.claims x y) new leads
    step_keeps (Begin f bytes) spares begins_other allowed new leads =
        answered.begin_keeps_on plan u v o before apart one alone w kept now f (slice_get (flows_of plan) f) bytes.items allowed begins_other new leads
    step_keeps (Send f bytes) spares begins_other allowed new leads =
        answered.send_keeps plan u v o before apart one alone w kept now f (slice_get (flows_of plan) f) bytes.items new leads
    step_keeps (Emit s) spares begins_other allowed new leads = answered.emit_keeps plan u v o before apart one alone w kept now s new leads
    step_keeps (Take x y) spares begins_other allowed new leads =
        taken.take_keeps plan u v o before apart one alone w kept now (windows_of plan) (window_some plan.units.items v) long x y (w.wire x y) refl new leads
    step_keeps (Lose x y) spares begins_other allowed new leads =
        answered.lose_keeps plan u v o before apart one alone w kept now x y spares (w.wire x y) refl new leads
    step_keeps (LateSender s) spares begins_other allowed new leads = answered.late_keeps plan u v o before apart one alone w kept now s new spares leads
    step_keeps (LateReceiver x y) spares begins_other allowed new e =
        subst OnWay (sym e) (answered.late_receiver_keeps plan u v o before apart one alone w kept now (windows_of plan) x y spares)
    step_keeps (Rest s) spares begins_other allowed new e = subst OnWay (sym e) (answered.rest_keeps plan u v o before apart one alone w kept now s spares)

    -- a world that follows, by a step that is refused or not
    next_keeps : (step : Step) → SparesBetween plan w u v step → BeginsOther plan v u o.pgn step → (new : World) → Follows plan w step new
        → IsKeptNamed plan new × OnWay new
    next_keeps step spares begins_other new =
        elim (refusal plan w step)
        as (λ (x : Option StepError). refusal plan w step ≡ x → MatchBool (is_some x) (new ≡ w) (StepsTo plan w step new) → IsKeptNamed plan new × OnWay new) [
          | Some e ↦ λ _ same. (subst (IsKeptNamed plan) (sym same) kept, subst OnWay (sym same) now)
          | None ↦ λ allowed leads. (keeps_named plan w kept step allowed new leads, step_keeps step spares begins_other allowed new leads)
        ] refl

    -- ---- nothing is left of it

    none_wired : (s t : ℕ) → refusal plan w (Take s t) ≢ None → (list : List Wired) → w.wire s t ≡ list → list ≡ []
    none_wired s t taken [] is = refl
    none_wired s t taken (item ∷ rest) is =
        absurd (taken (not_refused plan w (Take s t) (item_ready plan w kept.kept s t (record { item = item; rest = rest; is = is }))))

    at_end : IsThroughBetween plan w u v → (now.stage ≡ Resting Acked) × (reported w.reports v u ≡ before ++ begun_of o ∷ [])
    at_end through =
        let way = now.way in
        let forth : w.wire u v ≡ [] = none_wired u v through.taken (w.wire u v) refl in
        let back : w.wire v u ≡ [] = none_wired v u through.answered (w.wire v u) refl in
        let coming : way.coming ≡ [] = subst (λ (zs : List Wired). Holds (IsBesideForth o.pgn) zs way.coming) forth way.wire in
        let answering : way.answering ≡ [] = subst (λ (zs : List Wired). Holds (IsBesideBack o.pgn) zs way.answering) back way.answers in
        over o before now.stage (w.receivers v u) (reported w.reports v u)
        (subst (λ (zs : List Wired). IsAt o before now.stage zs [] (w.receivers v u) (reported w.reports v u)) coming
        (subst (λ (zs : List Wired). IsAt o before now.stage way.coming zs (w.receivers v u) (reported w.reports v u)) answering way.at))
        (λ next last sends. through.sent (emit_allowed plan w kept.kept u session_now now.session next last sends))

  run_keeps : (steps : List Step) (w new : World) → IsKeptNamed plan w → OnWay w → All (BeginsOther plan v u o.pgn) steps → SparingRun plan u v w steps new
      → IsKeptNamed plan new × OnWay new
  run_keeps [] w new kept now others same = (subst (IsKeptNamed plan) (sym same) kept, subst OnWay (sym same) now)
  run_keeps (step ∷ steps) w new kept now others (spares, (mid, follows, more)) =
      let next = next_keeps w kept now step spares (All-head (BeginsOther plan v u o.pgn) step steps others) mid follows in
      run_keeps steps mid new next.0 next.1 (All-tail (BeginsOther plan v u o.pgn) step steps others) more

-- ---- it is begun

module _ (plan : Plan) (w : World) (kept : IsKeptNamed plan w) (m : Answered plan w) (free_of : IsAlone plan w m) where
  abbrev p : Passage plan
  p = m.passage

  abbrev u : ℕ
  u = p.flow.sender

  abbrev v : ℕ
  v = p.receiver

  abbrev message : Outgoing
  message = outgoing (count_of plan) w.stations p.place p.flow p.bytes

  abbrev begun : World
  begun = begins (count_of plan) w p.place p.flow p.bytes

  abbrev earlier : List Begun
  earlier = reported w.reports v u

  begun_kept : IsKeptNamed plan begun
  begun_kept = record {
    kept = begin_kept plan w kept.kept p.place p.flow p.bytes m.allowed;
    named = begin_named plan w kept.kept kept.named p.place (Some p.flow) p.bytes m.allowed begun refl;
  }

  idle : w.sessions u ≡ None
  idle =
      let (sendable, (on, (stated, (addressed, (free, rest))))) = none_hold (begin_refusals plan.live (count_of plan) w (Some p.flow) p.bytes) m.allowed in
      no_session (w.sessions u) free

  long : 0 < packet_count message
  long = (let above : 8 < length p.bytes = leb-false (length p.bytes) 8 m.several in omega (arith, above))

  alone : message.targets ≡ v ∷ []
  alone = ap (targets_of (count_of plan) w.stations u) m.one

  session : begun.sessions u ≡ Some message
  session = changed_here w.sessions u (Some message)

  apart : u ≢ v
  apart same =
      let planned : IsPlanned plan u message.to message.targets = subst (PlannedAt plan u) session (begun_kept.kept.transfers.order.planned u) in
      let among : is_among message.targets v ≡ true =
      ap (λ (targets : List ℕ). is_among targets v) alone ∙ (let e : eqb v v ≡ true = eq-eqb v v refl in rw e refl) in
      (planned.others v among).1 (sym same)

  stage_is : message.stage ≡ Waiting
  stage_is = cond-false (is_short (length p.bytes)) (Resting Sent) (sender.begun (dest_of p.flow.to) (length p.bytes)) m.several
      ∙ ap (λ (to : To). sender.begun (dest_of to) (length p.bytes)) m.one

  item_is : first_item p.flow p.bytes ≡ wired.Packet (Rts (length p.bytes) 255 p.flow.pgn)
  item_is =
      cond-false (is_short (length p.bytes)) (wired.Short p.bytes) (wired.Packet (sender.announcement (dest_of p.flow.to) p.flow.pgn (length p.bytes)))
      m.several
      ∙ ap (λ (to : To). wired.Packet (sender.announcement (dest_of to) p.flow.pgn (length p.bytes))) m.one

  none_before : IsIdle (pair_of w u v)
  none_before = subst (λ (x : Option Outgoing). Exchange (message_to x v) (pair_of w u v)) idle (kept.kept.transfers.exchanges u v)

  forth_before : AllByRecursion (IsBesideForth p.flow.pgn) (w.wire u v)
  forth_before = all_both exchanges.IsAnswering (IsNamed w.sessions u v) (IsBesideForth p.flow.pgn)
      (forth_beside w.sessions u v p.flow.pgn idle free_of.first) (w.wire u v) none_before.wire (kept.named.wire u v)

  back_before : AllByRecursion (IsBesideBack p.flow.pgn) (w.wire v u)
  back_before = all_both (IsAccounted w.sessions v u) (IsNamed w.sessions v u) (IsBesideBack p.flow.pgn)
      (back_beside w.sessions u v p.flow.pgn idle free_of.first) (w.wire v u) (kept.kept.accounted.wire v u) (kept.named.wire v u)

  begun_on_its_way : IsOnItsWay plan u v message earlier apart m.one alone message.stage (begun.wire u v) (begun.wire v u) (w.receivers v u) earlier
  begun_on_its_way =
      let item : Wired = first_item p.flow p.bytes in
      let forth : begun.wire u v ≡ w.wire u v ++ item ∷ [] =
      cond-true (eqb u u && is_among message.targets v) (w.wire u v ++ item ∷ []) (w.wire u v)
      (and_from (eqb u u) (is_among message.targets v) (eq-eqb u u refl)
      (ap (λ (targets : List ℕ). is_among targets v) alone ∙ (let e : eqb v v ≡ true = eq-eqb v v refl in rw e refl))) in
      let back : begun.wire v u ≡ w.wire v u = added_elsewhere w.wire u message.targets item v u (λ e. apart (sym e)) in
      record {
        coming = item ∷ [];
        answering = [];
        wire = subst (λ (zs : List Wired). Holds (IsBesideForth p.flow.pgn) zs (item ∷ [])) (sym forth)
            (holds_own (IsBesideForth p.flow.pgn) (w.wire u v) [] (item ∷ []) (holds_none (IsBesideForth p.flow.pgn) (w.wire u v) forth_before));
        answers = subst (λ (zs : List Wired). Holds (IsBesideBack p.flow.pgn) zs []) (sym back)
            (holds_none (IsBesideBack p.flow.pgn) (w.wire v u) back_before);
        at = inl (record {
          waits = stage_is;
          wire = ap (λ (x : Wired). x ∷ []) item_is;
          answers = refl;
          closed = none_before.closed;
          same = refl;
        });
      }

  begun_answering : IsAnswering plan u v message earlier apart m.one alone begun
  begun_answering = record {
    stage = message.stage;
    session = session;
    other =
        subst (λ (x : Option Outgoing). SendsOther x u p.flow.pgn) (sym (changed_elsewhere w.sessions u (Some message) v (λ e. apart (sym e)))) free_of.first;
    way = begun_on_its_way;
  }

  has_arrived : HasArrivedAnswered plan w m
  has_arrived =
      let (here, now) = run_keeps plan u v message earlier apart m.one alone long p.steps begun p.after begun_kept begun_answering free_of.since m.runs in
      let end = at_end plan u v message earlier apart m.one alone long p.after here now m.through in
      record {
        rests = (at_stage plan u v message earlier apart m.one alone now.stage, now.session, end.0);
        reports = λ x among.
            let same : x ≡ v = among_one v x among in
            subst (λ k. reported p.after.reports k u ≡ reported w.reports k u ++ begun_of message ∷ []) (sym same) end.1;
      }

pub arrives_answered : (plan : Plan) → Always plan (ArrivesAnswered plan)
arrives_answered plan before w run m alone = has_arrived plan w (all_named plan before w run) m alone
