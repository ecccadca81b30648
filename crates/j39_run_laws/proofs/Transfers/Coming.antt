-- A message that no receiver answers is coming: what each step keeps of it that spares it.
use Rattle.std.proofs.Common.{◌≡◌, ◌≢◌, ℕ, zero, suc, ◌+◌, ◌<◌, ◌≤◌, ◌⊎◌, inl, inr, true, false, ◌&&◌, eqb, List, [], ◌∷◌, ◌++◌, length, refl, sym, ap, ◌∙◌}
use Rattle.std.proofs.Common.{subst, arith}
use Rattle.std.proofs.Common.{append-nil, Option, Some, None}
use Rattle.std.specs.Prelude.{nat_lt}
use Rattle.std.specs.List.{AllByRecursion, filter}
use Rattle.std.proofs.lemmas.Bool.{and_from, and_left, cases_eq, cond_both, cond-true, cond-false, eq-eqb, ltb-true, ltb-false, ne_eqb, or_from, true≢false}
use Rattle.j39_tp.specs.Chunks.{chunk}
use Rattle.j39_tp.specs.Sender as sender
use Rattle.j39_tp.specs.declared.packet.Packet.{Packet}
use Rattle.j39_tp.specs.declared.packet.Packet.TheVariants.{Rts, Cts, EndAck, Bam, Abort, Dt}
use Rattle.j39_tp.specs.declared.receiving.heard.Heard.{Heard}
use Rattle.j39_tp.specs.declared.receiving.heard.Heard.TheVariants as heards
use Rattle.j39_tp.specs.declared.receiving.progress.Progress.{Progress}
use Rattle.j39_tp.specs.declared.receiving.progress.Progress.TheVariants.{Closed}
use Rattle.j39_tp.specs.declared.sending.dest.Dest.{Dest}
use Rattle.j39_tp.specs.declared.sending.dest.Dest.TheVariants as dests
use Rattle.j39_tp.specs.declared.sending.outcome.Outcome.{Outcome}
use Rattle.j39_tp.specs.declared.sending.outcome.Outcome.TheVariants.{Sent}
use Rattle.j39_tp.specs.declared.sending.reaction.Reaction.{Reaction}
use Rattle.j39_tp.specs.declared.sending.stage.Stage.{Stage}
use Rattle.j39_tp.specs.declared.sending.stage.Stage.TheVariants.{Sending, Waiting, Resting}
use Rattle.j39_tp.proofs.Answering.{HoldsNothing, ReportsMessage}
use Rattle.j39_network.specs.declared.plan.Plan.{Plan}
use Rattle.j39_network.specs.declared.plan.to.To.{To}
use Rattle.j39_network.specs.declared.plan.to.To.TheVariants as tos
use Rattle.j39_world.proofs.Refusals.{none_hold}
use Rattle.j39_world.specs.declared.flow.Flow.{Flow}
use Rattle.j39_world.specs.declared.wired.Wired.{Wired}
use Rattle.j39_world.specs.declared.wired.Wired.TheVariants as wired
use Rattle.j39_world.specs.Flows.{window_at, dest_of}
use Rattle.j39_world.specs.Run.{count_of, begin_refusal, begin_refusals}
use Rattle.j39_world.specs.Sound.{reported}
use Rattle.j39_world.specs.Transfers.{Outgoing, Begun, Reported, Sessions, Wire, is_among, added}
use Rattle.j39_world.specs.TransferSteps.{targets_of, outgoing, first_item, begins, BeginsAt, SendsAt, sent_to_receivers, outgoing_hears}
use Rattle.j39_world.specs.TransferSteps.{flow_in, hearing, ReportsOne, Reports}
use Rattle.j39_world.specs.TransferSteps.{Emits, SenderTimesOut, rested}
use Rattle.j39_world.specs.SwitchingOff.{is_either, session_without, stage_without, switched_off, without_lists_of}
use Rattle.j39_world.specs.World.{World, changed, changed_pair}
use Rattle.j39_run_laws.proofs.Reports.ExchangeTaken as taking
use Rattle.j39_run_laws.proofs.Reports.Exchanges.{Message, pair_of, message_for, message_to, begun_of, IsAnswering}
use Rattle.j39_run_laws.proofs.Reports.Reporting.{reported_none, reported_here, reported_elsewhere}
use Rattle.j39_run_laws.proofs.Reports.SenderSteps.{no_session}
use Rattle.j39_run_laws.proofs.Reports.TransferInvariant.{TransferInvariant}
use Rattle.j39_run_laws.proofs.Runs.Changed.{IsElsewhere, changed_here, changed_elsewhere, pair_each}
use Rattle.j39_run_laws.proofs.Runs.SwitchedOff.{ended_stays, is_left, targets_same}
use Rattle.j39_run_laws.proofs.Transfers.Accounted.{AllAccounted}
use Rattle.j39_run_laws.proofs.Transfers.Flights.{is_whole, packet_count, item_count, IsItem, flight_next, Grown, HasSent}
use Rattle.j39_run_laws.proofs.Transfers.Flights.{IsUnderWay, grown_under_way}

-- ---- answers make lists longer

pub answers_grow : (wire : Wire) (v u : ℕ) (items : List Wired) → AllByRecursion IsAnswering items → (s t : ℕ)
    → Grown (wire s t) (changed_pair wire v u (wire v u ++ items) s t)
answers_grow wire v u items all =
    pair_each (λ s t (list : List Wired). Grown (wire s t) list) wire v u (wire v u ++ items) (items, all, refl) (λ s t. ([], tt, sym (append-nil (wire s t))))

-- ---- reports

module _ (w : World) (x y : ℕ) (p : Packet) (rs : List Reported) where
  pub reports_nothing : (h : Heard) → HoldsNothing h → Reports w x y p h rs → rs ≡ []
  reports_nothing heards.Complete nothing r = absurd nothing
  reports_nothing (heards.CompleteReply q) nothing r = absurd nothing
  reports_nothing (heards.Reply q) nothing r = r
  reports_nothing heards.Nothing nothing r = r
  reports_nothing heards.Closed nothing r = r

  pub reports_message : (h : Heard) → ReportsMessage h → Reports w x y p h rs → ReportsOne w x y p rs
  reports_message heards.Complete message r = r
  reports_message (heards.CompleteReply q) message r = r
  reports_message (heards.Reply q) message r = absurd message
  reports_message heards.Nothing message r = absurd message
  reports_message heards.Closed message r = absurd message

  pub not_both : (h : Heard) → HoldsNothing h → ReportsMessage h → ⊥
  not_both heards.Complete nothing message = nothing
  not_both (heards.CompleteReply q) nothing message = nothing
  not_both (heards.Reply q) nothing message = message
  not_both heards.Nothing nothing message = message
  not_both heards.Closed nothing message = message

  -- of other pairs nothing is reported
  pub none_apart : (s t : ℕ) → rs ≡ [] → reported (w.reports ++ rs) t s ≡ reported w.reports t s
  none_apart s t none = ap (λ (xs : List Reported). reported (w.reports ++ xs) t s) none ∙ reported_none w.reports t s

  one_apart : (s t : ℕ) → IsElsewhere x y s t → ReportsOne w x y p rs → reported (w.reports ++ rs) t s ≡ reported w.reports t s
  one_apart s t apart (pgn, bytes, carried, is) =
      ap (λ (xs : List Reported). reported (w.reports ++ xs) t s) is ∙ reported_elsewhere w.reports x y (flow_in (w.sessions x)) bytes s t apart

  pub reports_apart : (h : Heard) (s t : ℕ) → IsElsewhere x y s t → Reports w x y p h rs → reported (w.reports ++ rs) t s ≡ reported w.reports t s
  reports_apart heards.Complete s t apart r = one_apart s t apart r
  reports_apart (heards.CompleteReply q) s t apart r = one_apart s t apart r
  reports_apart (heards.Reply q) s t apart r = none_apart s t r
  reports_apart heards.Nothing s t apart r = none_apart s t r
  reports_apart heards.Closed s t apart r = none_apart s t r

-- what is complete is the message that is sent
pub message_reported : (plan : Plan) (w : World) → TransferInvariant plan w → (x y : ℕ) (s : Outgoing) → w.sessions x ≡ Some s → is_among s.targets y ≡ true
    → (windows : List ℕ) (p : Packet) (rest : List Wired) → w.wire x y ≡ wired.Packet p ∷ rest → (rs : List Reported)
    → Reports w x y p (hearing windows w x y p).1 rs → ReportsMessage (hearing windows w x y p).1
    → reported (w.reports ++ rs) y x ≡ reported w.reports y x ++ begun_of s ∷ []
message_reported plan w inv x y s session among windows p rest is rs stated message =
    let heard : Heard = (hearing windows w x y p).1 in
    let (pgn, bytes, carried, one) = reports_message w x y p rs heard message stated in
    let sends : message_to (w.sessions x) y ≡ Some (record { pgn = s.pgn; begun = begun_of s }) =
    ap (λ (z : Option Outgoing). message_to z y) session ∙ ap (λ b. message_for b s) among in
    let bytes_are : bytes ≡ s.bytes =
    elim (taking.packet_taken (message_to (w.sessions x) y) (window_at windows y) (pair_of w x y) p rest is (inv.exchanges x y)) [
      | inl on ↦ absurd (not_both w x y p rs heard on.stated message)
      | inr c ↦
          let is_one = c.is in
          let same_message : c.message ≡ record { pgn = s.pgn; begun = begun_of s } = cc (is_one, sends) in
          c.carried pgn bytes carried ∙ ap (λ (m : Message). m.begun.bytes) same_message
    ] in
    ap (λ (xs : List Reported). reported (w.reports ++ xs) y x) one
    ∙ (reported_here w.reports x y (flow_in (w.sessions x)) bytes
    ∙ (λ i. reported w.reports y x ++ record { flow = flow_in (session i); bytes = bytes_are i } ∷ []))

-- ---- what a unit sends, another doesn't

pub added_elsewhere : (wire : Wire) (s : ℕ) (targets : List ℕ) (item : Wired) (x y : ℕ) → x ≢ s → added wire s targets item x y ≡ wire x y
added_elsewhere wire s targets item x y other =
    cond-false (eqb x s && is_among targets y) (wire x y ++ item ∷ []) (wire x y) (and_left (eqb x s) (is_among targets y) (ne_eqb x s other))

-- ---- a sender that rests hears nothing

pub resting_hears : (dest : Dest) (own size : ℕ) (outcome : Outcome) (p : Packet) → (sender.stage_hears dest own size (Resting outcome) p).0 ≡ Resting outcome
resting_hears dests.All own size outcome p = refl
resting_hears dests.One own size outcome (Cts count first pgn) =
    cond_both (eqb pgn own) _ _ (λ (x : Stage × Reaction). x.0 ≡ Resting outcome) (λ _. refl) (λ _. refl)
resting_hears dests.One own size outcome (EndAck received pgn) =
    cond_both (eqb pgn own && eqb received size) _ _ (λ (x : Stage × Reaction). x.0 ≡ Resting outcome) (λ _. refl) (λ _. refl)
resting_hears dests.One own size outcome (Abort reason pgn) =
    cond_both (eqb pgn own) _ _ (λ (x : Stage × Reaction). x.0 ≡ Resting outcome) (λ _. refl) (λ _. refl)
resting_hears dests.One own size outcome (Rts announced limit pgn) = refl
resting_hears dests.One own size outcome (Bam announced pgn) = refl
resting_hears dests.One own size outcome (Dt number seven) = refl

-- ---- the message of u to those of its receivers that are meant, with what each had reported of u before it

module _ (plan : Plan) (u : ℕ) (o : Outgoing) (meant : List ℕ) (before : ℕ → List Begun) (unanswered : (o.to ≡ tos.All) ⊎ (is_whole o ≡ true)) where
  abbrev pub at_stage : List ℕ → Stage → Outgoing
  at_stage targets stage = record o { targets = targets; stage = stage }

  abbrev pub IsOnItsWay : ℕ → World → ℕ → Type 0
  IsOnItsWay sent w v = IsUnderWay o sent (w.wire u v) (w.receivers v u) (reported w.reports v u) (before v)

  pub record IsComing (w : World) : Type 0 where
    pub targets : List ℕ
    pub stage : Stage
    pub sent : ℕ
    pub session : w.sessions u ≡ Some (at_stage targets stage)
    pub still : (v : ℕ) → is_among meant v ≡ true → is_among targets v ≡ true
    pub sends : HasSent o stage sent
    pub ways : (v : ℕ) → is_among meant v ≡ true → IsOnItsWay sent w v

  -- of reports it speaks of those of messages that were begun
  pub reports_beside : (w : World) (rs : List Reported) → ((t s : ℕ) → reported rs t s ≡ reported w.reports t s) → IsComing w
      → IsComing (record w { reports = rs })
  reports_beside w rs same coming = record {
    targets = coming.targets;
    stage = coming.stage;
    sent = coming.sent;
    session = coming.session;
    still = coming.still;
    sends = coming.sends;
    ways = λ v among. subst (λ (xs : List Begun). IsUnderWay o coming.sent (w.wire u v) (w.receivers v u) xs (before v)) (sym (same v u))
        (coming.ways v among);
  }

  to_all : is_whole o ≡ false → o.to ≡ tos.All
  to_all long = elim unanswered [ inl all ↦ all | inr whole ↦ absurd (true≢false (sym whole ∙ long)) ]

  -- what it hears changes nothing of it
  pub stage_kept : (targets : List ℕ) (stage : Stage) (sent x : ℕ) (p : Packet) → HasSent o stage sent
      → (outgoing_hears (at_stage targets stage) x p).0 ≡ stage
  stage_kept targets stage sent x p sends =
      cond_both (is_among targets x) _ _ (λ (z : Stage × Reaction). z.0 ≡ stage) (λ _. hears_nothing stage sends) (λ _. refl)
    where
      long_hears : (st : Stage) → is_whole o ≡ false → (sender.stage_hears (dest_of o.to) o.pgn (length o.bytes) st p).0 ≡ st
      long_hears st long = subst (λ (to : To). (sender.stage_hears (dest_of to) o.pgn (length o.bytes) st p).0 ≡ st) (sym (to_all long)) refl

      hears_nothing : (st : Stage) → HasSent o st sent → (sender.stage_hears (dest_of o.to) o.pgn (length o.bytes) st p).0 ≡ st
      hears_nothing (Sending next last) is = long_hears (Sending next last) is.0
      hears_nothing Waiting is = absurd is
      hears_nothing (Resting outcome) is = resting_hears (dest_of o.to) o.pgn (length o.bytes) outcome p

  -- ---- others send

  module _ (w : World) (inv : TransferInvariant plan w) (old : AllAccounted plan w) (coming : IsComing w) where
    pub session_elsewhere : (s : ℕ) (x : Option Outgoing) → s ≢ u → changed w.sessions s x u ≡ Some (at_stage coming.targets coming.stage)
    session_elsewhere s x other = changed_elsewhere w.sessions s x u (λ e. other (sym e)) ∙ coming.session

    -- another unit sends, or rests
    others_send : (s : ℕ) (x : Option Outgoing) (targets : List ℕ) (item : Wired) → s ≢ u → (new : World) → new.sessions ≡ changed w.sessions s x
        → new.wire ≡ added w.wire s targets item → new.receivers ≡ w.receivers → new.reports ≡ w.reports → IsComing new
    others_send s x targets item other new sessions wire receivers reports = record {
      targets = coming.targets;
      stage = coming.stage;
      sent = coming.sent;
      session = ap (λ (f : Sessions). f u) sessions ∙ session_elsewhere s x other;
      still = coming.still;
      sends = coming.sends;
      ways =
          λ v among.
          let list : new.wire u v ≡ w.wire u v = ap (λ (f : Wire). f u v) wire ∙ added_elsewhere w.wire s targets item u v (λ e. other (sym e)) in
          subst (λ (xs : List Wired). IsUnderWay o coming.sent xs (new.receivers v u) (reported new.reports v u) (before v)) (sym list)
          (subst (λ (f : ℕ → ℕ → Progress). IsUnderWay o coming.sent (w.wire u v) (f v u) (reported new.reports v u) (before v)) (sym receivers)
          (subst (λ (rs : List Reported). IsUnderWay o coming.sent (w.wire u v) (w.receivers v u) (reported rs v u) (before v)) (sym reports)
          (coming.ways v among)));
    }

    pub rest_keeps : (s : ℕ) → s ≢ u → IsComing (rested w s)
    rest_keeps s other = record {
      targets = coming.targets;
      stage = coming.stage;
      sent = coming.sent;
      session = session_elsewhere s None other;
      still = coming.still;
      sends = coming.sends;
      ways = coming.ways;
    }

    -- nothing of messages is changed
    pub stated_keeps : (new : World) → new.sessions ≡ w.sessions → new.wire ≡ w.wire → new.receivers ≡ w.receivers → new.reports ≡ w.reports → IsComing new
    stated_keeps new sessions wire receivers reports = record {
      targets = coming.targets;
      stage = coming.stage;
      sent = coming.sent;
      session = ap (λ (f : Sessions). f u) sessions ∙ coming.session;
      still = coming.still;
      sends = coming.sends;
      ways = λ v among.
          let e : IsOnItsWay coming.sent new v ≡ IsOnItsWay coming.sent w v =
          λ i. IsUnderWay o coming.sent (wire i u v) (receivers i v u) (reported (reports i) v u) (before v) in
          subst (λ (X : Type 0). X) (sym e) (coming.ways v among);
    }

    -- another unit is switched off, which is none of those that are meant
    pub off_keeps : (x : ℕ) → x ≢ u → is_among meant x ≡ false → IsComing (switched_off w x)
    off_keeps x other none = record {
      targets = filter (is_left x) coming.targets;
      stage = coming.stage;
      sent = coming.sent;
      session = changed_elsewhere (λ y. session_without x (w.sessions y)) x None u (λ e. other (sym e))
          ∙ ap (session_without x) coming.session
          ∙ ap (λ (st : Stage). Some (at_stage (filter (is_left x) coming.targets) st)) (stage_same coming.stage coming.sends);
      still = λ v among. targets_same x coming.targets v (apart v among) ∙ coming.still v among;
      sends = coming.sends;
      ways = λ v among.
          let e : eqb u x ≡ false = ne_eqb u x (λ same. other (sym same)) in
          let f : eqb v x ≡ false = ne_eqb v x (apart v among) in
          subst (λ (pr : Progress). IsUnderWay o coming.sent (without_lists_of x w.wire u v) pr (reported w.reports v u) (before v))
          (sym (cond-false (is_either x v u) Closed (w.receivers v u) (or_from (eqb v x) (eqb u x) f e)))
          (subst (λ (xs : List Wired). IsUnderWay o coming.sent xs (w.receivers v u) (reported w.reports v u) (before v))
          (sym (cond-false (is_either x u v) [] (w.wire u v) (or_from (eqb u x) (eqb v x) e f))) (coming.ways v among));
    }
      where
        apart : (v : ℕ) → is_among meant v ≡ true → v ≢ x
        apart v among same = true≢false (sym among ∙ (ap (is_among meant) same ∙ none))

        stage_same : (st : Stage) → HasSent o st coming.sent → stage_without x o.to st ≡ st
        stage_same (Sending next last) sends = subst (λ (to : To). stage_without x to (Sending next last) ≡ Sending next last) (sym (to_all sends.0)) refl
        stage_same Waiting never = absurd never
        stage_same (Resting outcome) sends = ended_stays x o.to outcome

    pub begin_keeps : (f : ℕ) (flow : Option Flow) (bytes : List ℕ) → begin_refusal plan.live (count_of plan) w flow bytes ≡ None → (new : World)
        → BeginsAt (count_of plan) w f flow bytes new → IsComing new
    begin_keeps f None bytes allowed new never = absurd never
    begin_keeps f (Some flow) bytes allowed new e =
        let (sendable, (on, (stated, (addressed, (free, rest))))) = none_hold (begin_refusals plan.live (count_of plan) w (Some flow) bytes) allowed in
        let idle : w.sessions flow.sender ≡ None = no_session (w.sessions flow.sender) free in
        let other : flow.sender ≢ u = λ same. (let session : w.sessions flow.sender ≡ Some (at_stage coming.targets coming.stage) =
        ap w.sessions same ∙ coming.session in cc (idle, session)) in
        let begun : Outgoing = outgoing (count_of plan) w.stations f flow bytes in
        subst IsComing (sym e)
        (others_send flow.sender (Some begun) begun.targets (first_item flow bytes) other (begins (count_of plan) w f flow bytes) refl refl refl refl)

    -- a frame is sent alone, by whomever
    pub send_keeps : (f : ℕ) (flow : Option Flow) (bytes : List ℕ) (new : World) → SendsAt (count_of plan) w f flow bytes new → IsComing new
    send_keeps f None bytes new never = absurd never
    send_keeps f (Some flow) bytes new e =
        let item : Wired = wired.Alone f bytes in
        let targets : List ℕ = targets_of (count_of plan) w.stations flow.sender flow.to in
        let more : (v : ℕ) → Grown (w.wire u v) (added w.wire flow.sender targets item u v) =
        λ v. cond_both (eqb u flow.sender && is_among targets v) (w.wire u v ++ item ∷ []) (w.wire u v) (λ (list : List Wired). Grown (w.wire u v) list)
        (λ _. (item ∷ [], (tt, tt), refl)) (λ _. ([], tt, sym (append-nil (w.wire u v)))) in
        subst IsComing (sym e) (record {
          targets = coming.targets;
          stage = coming.stage;
          sent = coming.sent;
          session = coming.session;
          still = coming.still;
          sends = coming.sends;
          ways = λ v among. grown_under_way o coming.sent (w.wire u v) (added w.wire flow.sender targets item u v) (w.receivers v u)
              (reported w.reports v u) (before v) (more v) (coming.ways v among);
        })

    -- ---- it is sent on

    abbrev sends_next : Outgoing → Packet → Stage → World
    sends_next s p stage = record (sent_to_receivers w u s p) { sessions = changed w.sessions u (Some (record s { stage = stage })) }

    sent_here : (v : ℕ) (item : Wired) → is_among meant v ≡ true → added w.wire u coming.targets item u v ≡ w.wire u v ++ item ∷ []
    sent_here v item among = cond-true (eqb u u && is_among coming.targets v) (w.wire u v ++ item ∷ []) (w.wire u v)
        (and_from (eqb u u) (is_among coming.targets v) (eq-eqb u u refl) (coming.still v among))

    emit_on : (next last : ℕ) (p : Packet) → HasSent o (Sending next last) coming.sent → p ≡ Dt next (chunk o.bytes next)
        → HasSent o (sender.after_packet (dest_of o.to) (Sending next last)) (suc coming.sent) × IsItem o coming.sent (wired.Packet p)
    emit_on next last p (long, last_is, next_is, some, most) is = (
      subst (λ (to : To). HasSent o (sender.after_packet (dest_of to) (Sending next last)) (suc coming.sent)) (sym (to_all long))
          (cond_both (nat_lt next last) (Sending (next + 1) last) (Resting Sent) (λ (x : Stage). HasSent o x (suc coming.sent))
          (λ more. let less : next < last = ltb-true next last more in
          (long, last_is, omega (arith, next_is), omega arith, omega (arith, less, last_is, next_is)))
          (λ done. let least : last ≤ next = ltb-false next last done in (
            refl,
            (let items : item_count o ≡ suc (packet_count o) = cond-false (is_whole o) 1 (suc (packet_count o)) long in
                omega (arith, least, last_is, next_is, most, items)),
          ))),
      item_at coming.sent next_is some,
    )
      where
        item_at : (k : ℕ) → next ≡ k → 1 ≤ k → IsItem o k (wired.Packet p)
        item_at zero e positive = absurd (omega arith)
        item_at (suc k) e positive = (chunk o.bytes next, ap wired.Packet (is ∙ ap (λ (number : ℕ). Dt number (chunk o.bytes next)) e))

    emit_stage : (stage : Stage) (p : Packet) → HasSent o stage coming.sent → sender.data_next o.bytes stage ≡ Some p
        → HasSent o (sender.after_packet (dest_of o.to) stage) (suc coming.sent) × IsItem o coming.sent (wired.Packet p)
    emit_stage (Sending next last) p sends is = emit_on next last p sends (let same : Dt next (chunk o.bytes next) ≡ p = cc is in sym same)
    emit_stage Waiting p never is = absurd never
    emit_stage (Resting outcome) p sends is = absurd (cc is)

    emit_here : (p : Packet) → sender.data_next o.bytes coming.stage ≡ Some p
        → IsComing (sends_next (at_stage coming.targets coming.stage) p (sender.after_packet (dest_of o.to) coming.stage))
    emit_here p next =
        let on = emit_stage coming.stage p coming.sends next in
        record {
          targets = coming.targets;
          stage = sender.after_packet (dest_of o.to) coming.stage;
          sent = suc coming.sent;
          session = changed_here w.sessions u (Some (at_stage coming.targets (sender.after_packet (dest_of o.to) coming.stage)));
          still = coming.still;
          sends = on.0;
          ways =
              λ v among.
              let way : IsOnItsWay coming.sent w v = coming.ways v among in
              subst (λ (xs : List Wired). IsUnderWay o (suc coming.sent) xs (w.receivers v u) (reported w.reports v u) (before v))
              (sym (sent_here v (wired.Packet p) among))
              (record {
                taken = way.taken;
                flight = flight_next o (w.wire u v)
                    (wired.Packet p) way.taken coming.sent on.1 way.flight;
                receiver = way.receiver;
              });
        }

    pub emit_keeps : (s : ℕ) (new : World) → Emits w s new → IsComing new
    emit_keeps s new (sending, p, is, next, e) = subst IsComing (sym e) (elim (cases_eq s u) [
      | inl same ↦
          let at_u : w.sessions u ≡ Some sending = ap w.sessions (sym same) ∙ is in
          let here : at_stage coming.targets coming.stage ≡ sending = (let session = coming.session in cc (session, at_u)) in
          subst (λ k. IsComing (record (sent_to_receivers w k sending p) {
            sessions = changed w.sessions k (Some (record sending { stage = sender.after_packet (dest_of sending.to) sending.stage }));
          })) (sym same)
          (subst (λ (x : Outgoing). sender.data_next x.bytes x.stage ≡ Some p → IsComing (sends_next x p (sender.after_packet (dest_of x.to) x.stage))) here
          (emit_here p) next)
      | inr other ↦ others_send s _ sending.targets (wired.Packet p) other _ refl refl refl refl
    ])

    never_late : (stage : Stage) (p : Packet) → HasSent o stage coming.sent → sender.timeout_packet o.pgn stage ≡ Some p → ⊥
    never_late (Sending next last) p sends is = cc is
    never_late Waiting p never is = never
    never_late (Resting outcome) p sends is = cc is

    pub late_keeps : (s : ℕ) (new : World) → SenderTimesOut w s new → IsComing new
    late_keeps s new (sending, p, is, late, e) = subst IsComing (sym e) (elim (cases_eq s u) [
      | inl same ↦
          let at_u : w.sessions u ≡ Some sending = ap w.sessions (sym same) ∙ is in
          let here : sending ≡ at_stage coming.targets coming.stage = (let session = coming.session in cc (session, at_u)) in
          absurd (never_late coming.stage p coming.sends (subst (λ (x : Outgoing). sender.timeout_packet x.pgn x.stage ≡ Some p) here late))
      | inr other ↦ others_send s _ sending.targets (wired.Packet p) other _ refl refl refl refl
    ])
