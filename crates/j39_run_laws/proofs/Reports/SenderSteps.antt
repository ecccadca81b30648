-- The steps of senders keep what holds in every world.
use Rattle.j39_id.specs.Pgn.{is_pdu2}
use Rattle.std.proofs.Common.{◌≡◌, ◌≢◌, ℕ, Bool, true, false, cond, not, ◌&&◌, ◌||◌, eqb, List, [], ◌∷◌, ◌++◌, length, refl, sym, ap, ◌∙◌, subst}
use Rattle.std.proofs.Common.{inl, inr, Option, Some, None}
use Rattle.std.proofs.lemmas.Bool.{cond_both, and_parts, cases_eq, eqb-true, eq-eqb, ne_eqb, not-false}
use Rattle.std.specs.Prelude.{nat_lt}
use Rattle.std.specs.Option.{is_some}
use Rattle.std.specs.List.{filter, list_all, range_with_len}
use Rattle.j39_tp.specs.Sender as sender
use Rattle.j39_tp.specs.Chunks.{chunk}
use Rattle.j39_tp.specs.declared.sending.dest.Dest.{Dest}
use Rattle.j39_tp.specs.declared.sending.dest.Dest.TheVariants as dests
use Rattle.j39_tp.specs.declared.sending.outcome.Outcome.TheVariants.{Acked}
use Rattle.j39_tp.specs.declared.packet.Packet.{Packet}
use Rattle.j39_tp.specs.declared.packet.Packet.TheVariants.{Dt, Abort}
use Rattle.j39_tp.specs.declared.sending.stage.Stage.{Stage}
use Rattle.j39_tp.specs.declared.sending.stage.Stage.TheVariants.{Sending, Waiting, Resting}
use Rattle.j39_network.specs.declared.plan.Plan.{Plan}
use Rattle.j39_network.specs.declared.plan.to.To.{To}
use Rattle.j39_network.specs.declared.plan.to.To.TheVariants.{All, One}
use Rattle.j39_world.specs.declared.wired.Wired.{Wired}
use Rattle.j39_world.specs.declared.wired.Wired.TheVariants as wired
use Rattle.j39_world.specs.Flows.{dest_of, is_short, can_go_to}
use Rattle.j39_world.specs.declared.flow.Flow.{Flow}
use Rattle.j39_world.specs.Resting.{can_rest, is_over_with}
use Rattle.j39_world.proofs.Refusals.{none_hold}
use Rattle.j39_world.specs.Run.{count_of, is_on, at_ends, begin_refusal, begin_refusals}
use Rattle.j39_world.specs.Transfers.{Outgoing, Wire, outcome_in, is_among, added}
use Rattle.j39_world.specs.TransferSteps.{targets_of, sent_to_receivers, begun_stage, outgoing, first_item, begins, BeginsAt, SendsAt, Emits, SenderTimesOut}
use Rattle.j39_world.specs.TransferSteps.{rested}
use Rattle.j39_world.specs.World.{World, changed, is_other_on}
use Rattle.j39_world.specs.Sound.{reported}
use Rattle.j39_tp.specs.HonestPackets.{GoesOn}
use Rattle.j39_run_laws.proofs.Reports.Orderly.{IsPlanned, PlannedAt, DeliveredBefore, delivered_at, sessions_keep}
use Rattle.j39_run_laws.proofs.Runs.Changed.{changed_each}
use Rattle.j39_run_laws.proofs.Runs.Conditions.{is_unit}
use Rattle.j39_run_laws.proofs.Runs.Units.{units_all}
use Rattle.j39_run_laws.proofs.Reports.Exchanges.{Pair, pair_of, Message, message_for, message_to, begun_of, IsUnacknowledging, Begins, Exchange}
use Rattle.j39_run_laws.proofs.Reports.ExchangeSteps.{answers_keep, begins_keeps, goes_on_keeps, back_keeps}
use Rattle.j39_run_laws.proofs.Reports.ExchangeTaken.{rests_keeps}
use Rattle.j39_run_laws.proofs.Reports.Reporting.{same_messages, AckedAt}
use Rattle.j39_run_laws.proofs.Reports.TransferInvariant.{AreExchanges, TransferInvariant}

abbrev message_of : Outgoing → Message
message_of s = record { pgn = s.pgn; begun = begun_of s }

-- an item that u sends is behind those that a sender has still to take
back_sent : (o : Option Message) (pair : Pair) (b : Bool) (item : Wired) → IsUnacknowledging item → Exchange o pair
    → Exchange o (record pair { back = cond b (pair.back ++ item ∷ []) pair.back })
back_sent o pair true item other e = back_keeps o pair (item ∷ []) (other, tt) e
back_sent o pair false item other e = e

-- ---- a message is begun

begun_to : (b : Bool) (s : Outgoing) (pair : Pair) (item : Wired) → Begins (message_of s) item → Exchange None pair
    → Exchange (message_for b s) (record pair { wire = cond b (pair.wire ++ item ∷ []) pair.wire; begun = cond b (pair.begun ++ begun_of s ∷ []) pair.begun })
begun_to true s pair item begins e = begins_keeps (message_of s) pair item begins e
begun_to false s pair item begins e = e

module _ (w : World) (old : AreExchanges w) (u : ℕ) (o : Outgoing) (item : Wired) (idle : w.sessions u ≡ None) (begins : Begins (message_of o) item)
    (other : IsUnacknowledging item) where
  -- all that u sends, and what it began
  abbrev Begun : ℕ → ℕ → Type 0
  Begun s t = Exchange (message_to (changed w.sessions u (Some o) s) t)
      (record (pair_of w s t) { wire = added w.wire u o.targets item s t; begun = added w.begun u o.targets (begun_of o) s t })

  begun_here : (t : ℕ) → Begun u t
  begun_here t =
      let e : eqb u u ≡ true = eq-eqb u u refl in
      let none : Exchange None (pair_of w u t) = subst (λ (x : Option Outgoing). Exchange (message_to x t) (pair_of w u t)) idle (old u t) in
      rw e (begun_to (is_among o.targets t) o (pair_of w u t) item begins none)

  begun_forth : (s t : ℕ) → Begun s t
  begun_forth s t = elim (cases_eq s u) [
    | inl same ↦ subst (λ k. Begun k t) (sym same) (begun_here t)
    | inr apart ↦ let e : eqb s u ≡ false = ne_eqb s u apart in rw e (old s t)
  ]

  begun_exchanges : (s t : ℕ) → Exchange (message_to (changed w.sessions u (Some o) s) t)
      (record (pair_of w s t) {
        wire = added w.wire u o.targets item s t;
        back = added w.wire u o.targets item t s;
        begun = added w.begun u o.targets (begun_of o) s t;
      })
  begun_exchanges s t = back_sent (message_to (changed w.sessions u (Some o) s) t)
      (record (pair_of w s t) { wire = added w.wire u o.targets item s t; begun = added w.begun u o.targets (begun_of o) s t })
      (eqb t u && is_among o.targets s) item other (begun_forth s t)

announcement_other : (dest : Dest) (pgn size : ℕ) → IsUnacknowledging (wired.Packet (sender.announcement dest pgn size))
announcement_other dests.All pgn size = tt
announcement_other dests.One pgn size = tt

first_begins : (flow : Flow) (bytes : List ℕ) (m : Message) → m.pgn ≡ flow.pgn → m.begun.bytes ≡ bytes → Begins m (first_item flow bytes)
first_begins flow bytes m pgn is =
    cond_both (is_short (length bytes)) (wired.Short bytes) (wired.Packet (sender.announcement (dest_of flow.to) flow.pgn (length bytes))) (Begins m)
    (λ _. sym is) (λ _. (dest_of flow.to, λ i. sender.announcement (dest_of flow.to) (sym pgn i) (length (sym is i))))

first_other : (flow : Flow) (bytes : List ℕ) → IsUnacknowledging (first_item flow bytes)
first_other flow bytes =
    cond_both (is_short (length bytes)) (wired.Short bytes) (wired.Packet (sender.announcement (dest_of flow.to) flow.pgn (length bytes))) IsUnacknowledging
    (λ _. tt) (λ _. announcement_other (dest_of flow.to) flow.pgn (length bytes))

begun_unacked : (dest : Dest) (size : ℕ) → sender.begun dest size ≡ Resting Acked → ⊥
begun_unacked dests.All size e = cc e
begun_unacked dests.One size e = cc e

stage_unacked : (flow : Flow) (bytes : List ℕ) → begun_stage flow bytes ≡ Resting Acked → ⊥
stage_unacked flow bytes =
    cond_both (is_short (length bytes)) _ (sender.begun (dest_of flow.to) (length bytes)) (λ (x : Stage). x ≡ Resting Acked → ⊥)
    (λ _ e. cc e) (λ _. begun_unacked (dest_of flow.to) (length bytes))

-- ---- its receivers

pub among_filtered : (test : ℕ → Bool) (xs : List ℕ) (v : ℕ) → is_among (filter test xs) v ≡ true → test v ≡ true
among_filtered test [] v is = absurd (cc is)
among_filtered test (x ∷ xs) v is =
    elim (test x) as (λ b. test x ≡ b → is_among (cond b (x ∷ filter test xs) (filter test xs)) v ≡ true → test v ≡ true) [
      | true ↦ λ passes both. elim (eqb v x) as (λ b. eqb v x ≡ b → (b || is_among (filter test xs) v) ≡ true → test v ≡ true) [
        | true ↦ λ same _. ap test (eqb-true v x same) ∙ passes
        | false ↦ λ _ more. among_filtered test xs v more
      ] refl both
      | false ↦ λ _ more. among_filtered test xs v more
    ] refl is

pub among_one : (v x : ℕ) → is_among (v ∷ []) x ≡ true → x ≡ v
among_one v x is =
    elim (eqb x v) as (λ b. eqb x v ≡ b → (b || false) ≡ true → x ≡ v) [
      | true ↦ λ same _. eqb-true x v same
      | false ↦ λ _ e. absurd (cc e)
    ] refl is

other_place : (x u : ℕ) → not (eqb x u) ≡ true → x ≢ u
other_place x u e same = let is : eqb x u ≡ true = eq-eqb x u same in let no_more : not true ≡ true = subst (λ b. not b ≡ true) is e in absurd (cc no_more)

same_one : (v x : ℕ) → One v ≡ One x → v ≡ x
same_one v x e = cc e

planned_to : (plan : Plan) (w : World) → ((x : ℕ) → is_on w.stations x ≡ true → is_unit plan x ≡ true) → (flow : Flow) (count : ℕ) (to : To)
    → at_ends (is_on w.stations) flow.sender to ≡ true → can_go_to flow to ≡ true
    → IsPlanned plan flow.sender to (targets_of count w.stations flow.sender to)
planned_to plan w units flow count All on can = record {
  unit = units flow.sender on;
  others = λ v among. let hearing = and_parts (w.stations v).on (not (eqb v flow.sender))
      (among_filtered (is_other_on w.stations flow.sender) (range_with_len 0 count) v among) in
      (units v hearing.0, other_place v flow.sender hearing.1);
  one = λ v x e. absurd (cc e);
}
planned_to plan w units flow count (One x) on can =
    let ends = and_parts (is_on w.stations flow.sender) (is_on w.stations x) on in
    let other = and_parts (not (eqb x flow.sender)) (not (is_pdu2 flow.pgn && is_short flow.most)) can in
    record {
      unit = units flow.sender ends.0;
      others = λ v among. let same : x ≡ v = sym (among_one x v among) in
          subst (λ k. (is_unit plan k ≡ true) × (k ≢ flow.sender)) same (units x ends.1, other_place x flow.sender other.0);
      one = λ v y e among. among_one x y among ∙ same_one x v e;
    }

pub no_session : (o : Option Outgoing) → is_some o ≡ false → o ≡ None
no_session None is = refl
no_session (Some s) is = absurd (cc is)

module _ (plan : Plan) (w : World) (inv : TransferInvariant plan w) where
  begins_keep : (f : ℕ) (flow : Flow) (bytes : List ℕ) → begin_refusal plan.live (count_of plan) w (Some flow) bytes ≡ None
      → TransferInvariant plan (begins (count_of plan) w f flow bytes)
  begins_keep f flow bytes allowed =
      let (sendable, (on, (stated, (addressed, (free, rest))))) = none_hold (begin_refusals plan.live (count_of plan) w (Some flow) bytes) allowed in
      let o : Outgoing = outgoing (count_of plan) w.stations f flow bytes in
      record {
        order = sessions_keep plan w.stations w.claims w.sessions inv.order flow.sender (Some o)
            (planned_to plan w inv.order.units flow (count_of plan) flow.to (not-false _ on) (not-false _ sendable))
            (delivered_at plan w.stations w.claims w.sessions inv.order stated);
        exchanges = begun_exchanges w inv.exchanges flow.sender o (first_item flow bytes) (no_session (w.sessions flow.sender) free)
            (first_begins flow bytes (message_of o) refl refl) (first_other flow bytes);
        acknowledged = changed_each (λ s (x : Option Outgoing). (t : ℕ) → AckedAt x t (reported w.reports t s)) w.sessions flow.sender (Some o)
            (λ t acked. absurd (stage_unacked flow bytes acked)) inv.acknowledged;
      }

  pub begin_keeps : (f : ℕ) (flow : Option Flow) (bytes : List ℕ) → begin_refusal plan.live (count_of plan) w flow bytes ≡ None → (new : World)
      → BeginsAt (count_of plan) w f flow bytes new → TransferInvariant plan new
  begin_keeps f None bytes allowed new never = absurd never
  begin_keeps f (Some flow) bytes allowed new e = subst (TransferInvariant plan) (sym e) (begins_keep f flow bytes allowed)

  -- ---- a frame is sent alone

  alone_exchanges : (u f : ℕ) (targets bytes : List ℕ) (s t : ℕ)
      → Exchange (message_to (w.sessions s) t) (record (pair_of w s t) {
        wire = added w.wire u targets (wired.Alone f bytes) s t;
        back = added w.wire u targets (wired.Alone f bytes) t s;
      })
  alone_exchanges u f targets bytes s t =
      let item : Wired = wired.Alone f bytes in
      let forth : Exchange (message_to (w.sessions s) t) (record (pair_of w s t) { wire = added w.wire u targets item s t }) =
      cond_both (eqb s u && is_among targets t) (w.wire s t ++ item ∷ []) (w.wire s t)
      (λ (list : List Wired). Exchange (message_to (w.sessions s) t) (record (pair_of w s t) { wire = list }))
      (λ _. answers_keep (message_to (w.sessions s) t) (pair_of w s t) (item ∷ []) (tt, tt) (inv.exchanges s t)) (λ _. inv.exchanges s t) in
      back_sent (message_to (w.sessions s) t) (record (pair_of w s t) { wire = added w.wire u targets item s t }) (eqb t u && is_among targets s) item tt forth

  pub send_keeps : (f : ℕ) (flow : Option Flow) (bytes : List ℕ) (new : World) → SendsAt (count_of plan) w f flow bytes new → TransferInvariant plan new
  send_keeps f None bytes new never = absurd never
  send_keeps f (Some flow) bytes new e = subst (TransferInvariant plan) (sym e) (record {
    order = inv.order;
    exchanges = alone_exchanges flow.sender f (targets_of (count_of plan) w.stations flow.sender flow.to) bytes;
    acknowledged = inv.acknowledged;
  })

  -- ---- the sender goes on

  -- u sends those that its message goes to a packet that may come after what it began with, and is not acknowledged by that
  module _ (u : ℕ) (o : Outgoing) (stage : Stage) (p : Packet) (is : w.sessions u ≡ Some o) (goes : GoesOn o.bytes p)
      (other : IsUnacknowledging (wired.Packet p)) (unacked : stage ≡ Resting Acked → ⊥) where
    abbrev then : Option Outgoing
    then = Some (record o { stage = stage })

    abbrev wire_then : Wire
    wire_then = added w.wire u o.targets (wired.Packet p)

    sent_at : (s t : ℕ) → eqb s u ≡ true → is_among o.targets t ≡ true → message_to (w.sessions s) t ≡ Some (message_of o)
    sent_at s t same among =
        ap (λ x. message_to (w.sessions x) t) (eqb-true s u same)
        ∙ (ap (λ (x : Option Outgoing). message_to x t) is ∙ ap (λ b. message_for b o) among)

    sent_forth : (s t : ℕ) → Exchange (message_to (w.sessions s) t) (record (pair_of w s t) { wire = wire_then s t })
    sent_forth s t =
        cond_both (eqb s u && is_among o.targets t) (w.wire s t ++ wired.Packet p ∷ []) (w.wire s t)
        (λ (list : List Wired). Exchange (message_to (w.sessions s) t) (record (pair_of w s t) { wire = list }))
        (λ both. let parts = and_parts (eqb s u) (is_among o.targets t) both in
        let sends : message_to (w.sessions s) t ≡ Some (message_of o) = sent_at s t parts.0 parts.1 in
        subst (λ (m : Option Message). Exchange m (record (pair_of w s t) { wire = w.wire s t ++ wired.Packet p ∷ [] })) (sym sends)
        (goes_on_keeps (message_of o) (pair_of w s t) (wired.Packet p ∷ []) (goes, tt)
        (subst (λ (m : Option Message). Exchange m (pair_of w s t)) sends (inv.exchanges s t))))
        (λ _. inv.exchanges s t)

    sent_exchanges : (s t : ℕ) → Exchange (message_to (changed w.sessions u then s) t) (record (pair_of w s t) { wire = wire_then s t; back = wire_then t s })
    sent_exchanges s t =
        let same = same_messages w.sessions u then (λ x. sym (ap (λ (y : Option Outgoing). message_to y x) is)) s t in
        subst (λ (m : Option Message). Exchange m (record (pair_of w s t) { wire = wire_then s t; back = wire_then t s })) (sym same)
        (back_sent (message_to (w.sessions s) t) (record (pair_of w s t) { wire = wire_then s t })
        (eqb t u && is_among o.targets s) (wired.Packet p) other (sent_forth s t))

    sent_keeps : TransferInvariant plan (record (sent_to_receivers w u o p) { sessions = changed w.sessions u then })
    sent_keeps = record {
      order = sessions_keep plan w.stations w.claims w.sessions inv.order u then
          (subst (PlannedAt plan u) is (inv.order.planned u)) (λ quiet. subst (DeliveredBefore w.claims) is (inv.order.delivered quiet u));
      exchanges = sent_exchanges;
      acknowledged = changed_each (λ s (x : Option Outgoing). (t : ℕ) → AckedAt x t (reported w.reports t s)) w.sessions u then
          (λ t acked. absurd (unacked acked)) inv.acknowledged;
    }

  pub emit_keeps : (u : ℕ) (new : World) → Emits w u new → TransferInvariant plan new
  emit_keeps u new (o, p, is, next, e) =
      let data_is = next_data o.bytes o.stage p next in
      subst (TransferInvariant plan) (sym e) (sent_keeps u o (sender.after_packet (dest_of o.to) o.stage) p is data_is.0 data_is.1
      (after_unacked (dest_of o.to) o.bytes o.stage p next))
    where
      next_data : (bytes : List ℕ) (stage : Stage) (q : Packet) → sender.data_next bytes stage ≡ Some q → GoesOn bytes q × IsUnacknowledging (wired.Packet q)
      next_data bytes (Sending next last) q same =
          let here : Dt next (chunk bytes next) ≡ q = cc same in subst (λ (x : Packet). GoesOn bytes x × IsUnacknowledging (wired.Packet x)) here (refl, tt)
      next_data bytes Waiting q same = absurd (cc same)
      next_data bytes (Resting outcome) q same = absurd (cc same)

      after_unacked : (dest : Dest) (bytes : List ℕ) (stage : Stage) (q : Packet) → sender.data_next bytes stage ≡ Some q
          → sender.after_packet dest stage ≡ Resting Acked → ⊥
      after_unacked dest bytes (Sending next last) q same =
          cond_both (nat_lt next last) _ (sender.spent dest) (λ (x : Stage). x ≡ Resting Acked → ⊥) (λ _ f. cc f) (λ _. spent_unacked dest)
        where
          spent_unacked : (d : Dest) → sender.spent d ≡ Resting Acked → ⊥
          spent_unacked dests.All f = cc f
          spent_unacked dests.One f = cc f
      after_unacked dest bytes Waiting q same = absurd (cc same)
      after_unacked dest bytes (Resting outcome) q same = absurd (cc same)

  pub late_sender_keeps : (u : ℕ) (new : World) → SenderTimesOut w u new → TransferInvariant plan new
  late_sender_keeps u new (o, p, is, late, e) =
      let abort = late_packet o.pgn o.bytes o.stage p late in
      subst (TransferInvariant plan) (sym e) (sent_keeps u o (sender.after_timeout o.stage) p is abort.0 abort.1 (late_unacked o.pgn o.stage p late))
    where
      late_packet : (pgn : ℕ) (bytes : List ℕ) (stage : Stage) (q : Packet) → sender.timeout_packet pgn stage ≡ Some q
          → GoesOn bytes q × IsUnacknowledging (wired.Packet q)
      late_packet pgn bytes Waiting q same =
          let here : Abort 3 pgn ≡ q = cc same in subst (λ (x : Packet). GoesOn bytes x × IsUnacknowledging (wired.Packet x)) here (tt, tt)
      late_packet pgn bytes (Sending next last) q same = absurd (cc same)
      late_packet pgn bytes (Resting outcome) q same = absurd (cc same)

      late_unacked : (pgn : ℕ) (stage : Stage) (q : Packet) → sender.timeout_packet pgn stage ≡ Some q → sender.after_timeout stage ≡ Resting Acked → ⊥
      late_unacked pgn Waiting q same f = cc f
      late_unacked pgn (Sending next last) q same f = cc f
      late_unacked pgn (Resting outcome) q same f = absurd (cc same)

  -- ---- the sender rests

  not_sent : (u t : ℕ) (o : Option Outgoing) → PlannedAt plan u o → is_unit plan t ≡ false → message_to o t ≡ None
  not_sent u t None planned outside = refl
  not_sent u t (Some s) planned outside =
      elim (is_among s.targets t) as (λ b. is_among s.targets t ≡ b → message_for b s ≡ None) [
        | true ↦ λ among. let inside = (planned.others t among).0 in absurd (cc (inside, outside))
        | false ↦ λ _. refl
      ] refl

  rested_here : (u : ℕ) → can_rest (count_of plan) w u ≡ true → (t : ℕ) → Exchange None (pair_of w u t)
  rested_here u can t =
      let parts = and_parts (is_some (outcome_in (w.sessions u))) (list_all (is_over_with w u) (range_with_len 0 (count_of plan))) can in
      elim (is_unit plan t) as (λ b. is_unit plan t ≡ b → Exchange None (pair_of w u t)) [
        | true ↦ λ inside. rests_keeps (message_to (w.sessions u) t) (pair_of w u t) (units_all plan (is_over_with w u) parts.1 t inside) (inv.exchanges u t)
        | false ↦ λ outside. subst (λ (m : Option Message). Exchange m (pair_of w u t)) (not_sent u t (w.sessions u) (inv.order.planned u) outside)
            (inv.exchanges u t)
      ] refl

  pub rest_keeps : (u : ℕ) → can_rest (count_of plan) w u ≡ true → TransferInvariant plan (rested w u)
  rest_keeps u can = record {
    order = sessions_keep plan w.stations w.claims w.sessions inv.order u None tt (λ _. tt);
    exchanges = λ s t. changed_each (λ x (y : Option Outgoing). (z : ℕ) → Exchange (message_to y z) (pair_of w x z)) w.sessions u None
        (rested_here u can) inv.exchanges s t;
    acknowledged =
        λ s t. changed_each (λ x (y : Option Outgoing). (z : ℕ) → AckedAt y z (reported w.reports z x)) w.sessions u None (λ z. tt) inv.acknowledged s t;
  }
