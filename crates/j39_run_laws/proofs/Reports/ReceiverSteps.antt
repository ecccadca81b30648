-- The steps at which something is taken or lost, or a receiver hears nothing in time, keep what holds in every world.
use Rattle.std.proofs.Common.{◌≡◌, ◌≢◌, ℕ, true, false, List, [], ◌∷◌, ◌++◌, refl, sym, ap, ◌∙◌, subst, inl, inr, Option, Some, None}
use Rattle.std.specs.Prelude.{map}
use Rattle.std.specs.List.{AllByRecursion}
use Rattle.j39_tp.specs.Receiver as receiver
use Rattle.j39_tp.specs.Receiver.{is_open_at}
use Rattle.j39_tp.specs.declared.receiving.heard.Heard.{Heard}
use Rattle.j39_tp.specs.declared.receiving.heard.Heard.TheVariants as heard
use Rattle.j39_tp.specs.declared.receiving.manner.Manner.TheVariants.{Answering}
use Rattle.j39_tp.specs.declared.packet.Packet.{Packet}
use Rattle.j39_tp.specs.declared.packet.Packet.TheVariants.{Rts, Cts, EndAck, Bam, Abort, Dt}
use Rattle.j39_tp.specs.declared.receiving.progress.Progress.{Progress}
use Rattle.j39_network.specs.declared.plan.Plan.{Plan}
use Rattle.j39_world.specs.declared.wired.Wired.{Wired}
use Rattle.j39_world.specs.declared.wired.Wired.TheVariants as wired
use Rattle.j39_world.specs.Flows.{window_at}
use Rattle.j39_world.specs.Transfers.{Outgoing, Begun, Reported, Wire, is_among, closed_if_complete}
use Rattle.j39_world.specs.TransferSteps.{alone_report, session_after, reaction_of, receiver_replies, sender_replies, flow_in, report, hearing, ReportsOne}
use Rattle.j39_world.specs.TransferSteps.{Reports, packet_taken, TakenFrom, LostFrom, packets_in, receiver_timed_out}
use Rattle.j39_world.specs.World.{World, changed, changed_pair}
use Rattle.j39_world.specs.Sound.{reported}
use Rattle.j39_run_laws.proofs.Runs.Elements.{all-append}
use Rattle.j39_run_laws.proofs.Reports.Hearings as hearings
use Rattle.j39_run_laws.proofs.Reports.Hearings.{session_acked, directed_to}
use Rattle.j39_tp.proofs.Answering.{IsAside, IsAnswer, HoldsNothing, ReportsMessage, Acknowledges, timed_out_aside}
use Rattle.j39_run_laws.proofs.Reports.Orderly.{PlannedAt, DeliveredBefore, IsOrderly, sessions_keep}
use Rattle.j39_run_laws.proofs.Runs.Changed.{IsElsewhere, changed_each, pair_here_or_elsewhere, pair_here, pair_elsewhere, pair_each}
use Rattle.j39_run_laws.proofs.Reports.Exchanges.{Pair, pair_of, Message, message_for, message_to, begun_of, IsAnswering, IsUnacknowledging, EndsWith, Exchange}
use Rattle.j39_run_laws.proofs.Reports.ExchangeSteps.{asides_unacknowledging, asides_answer, answers_answering, acknowledged_reported, lost_keeps, late_keeps}
use Rattle.j39_run_laws.proofs.Reports.ExchangeTaken as taking
use Rattle.j39_run_laws.proofs.Reports.ExchangeTaken.{ReportsShort, TakesOn, Completes, short_taken}
use Rattle.j39_run_laws.proofs.Reports.Reporting.{reported_beside, reported_none, reported_here, reported_elsewhere, reported_message, same_messages}
use Rattle.j39_run_laws.proofs.Reports.Reporting.{message_after}
use Rattle.j39_run_laws.proofs.Reports.Reporting.{AckedAt, acked_now}
use Rattle.j39_run_laws.proofs.Reports.TransferInvariant.{TransferInvariant, reports_beside, ExchangesBy, back_taken, answered}

-- every pair
abbrev Anywhere : ℕ → ℕ → Type 0
Anywhere s t = Unit {0}

module _ (plan : Plan) (w : World) (inv : TransferInvariant plan w) where
  abbrev message : ℕ → ℕ → Option Message
  message s t = message_to (w.sessions s) t

  -- ---- something is lost

  pub lose_keeps : (u v : ℕ) (list : List Wired) → w.wire u v ≡ list → (new : World) → LostFrom w u v list new → TransferInvariant plan new
  lose_keeps u v [] is new never = absurd never
  lose_keeps u v (item ∷ rest) is new e =
      let forth : ExchangesBy message (pair_of w) Anywhere (changed_pair w.wire u v rest) w.wire =
      λ s t _. pair_each (λ s' t' (list : List Wired). Exchange (message s' t') (record (pair_of w s' t') { wire = list })) w.wire u v rest
      (lost_keeps (message u v) (pair_of w u v) item rest is (inv.exchanges u v)) inv.exchanges s t in
      subst (TransferInvariant plan) (sym e) (record {
        order = inv.order;
        exchanges = λ s t. back_taken message (pair_of w) Anywhere w.wire u v item rest is (changed_pair w.wire u v rest) forth s t tt;
        acknowledged = inv.acknowledged;
      })

  -- ---- a receiver hears nothing in time

  pub late_receiver_keeps : (windows : List ℕ) (u v : ℕ) → is_open_at (w.receivers v u) ≡ true → TransferInvariant plan (receiver_timed_out windows w u v)
  late_receiver_keeps windows u v open_is =
      let late = receiver.timed_out (Answering (window_at windows v)) (w.receivers v u) in
      let then : Progress = closed_if_complete late.0 in
      let sent : List Packet = packets_in late.1 in
      let aside : AllByRecursion IsAside sent = hearings.packets_aside late.1 (timed_out_aside (window_at windows v) (w.receivers v u)) in
      let base : ℕ → ℕ → Pair = λ s t. record (pair_of w s t) { receiver = changed_pair w.receivers v u then t s } in
      let start : ExchangesBy message base Anywhere w.wire w.wire =
      λ s t _. pair_each (λ t' s' (r : Progress). Exchange (message s' t') (record (pair_of w s' t') { receiver = r })) w.receivers v u then
      (late_keeps (message u v) (pair_of w u v) then open_is (inv.exchanges u v)) (λ t' s'. inv.exchanges s' t') t s in
      record {
        order = inv.order;
        exchanges = λ s t. answered message base Anywhere w.wire u v (map wired.Packet sent)
            (answers_answering sent (asides_answer sent aside)) (λ _. asides_unacknowledging sent aside) start s t tt;
        acknowledged = inv.acknowledged;
      }

  -- ---- a message of one frame is taken

  module _ (u v : ℕ) (bytes : List ℕ) (rest : List Wired) (is : w.wire u v ≡ wired.Short bytes ∷ rest) where
    abbrev short_report : Reported
    short_report = report w u v bytes

    abbrev short_base : ℕ → ℕ → Pair
    short_base s t = record (pair_of w s t) { reports = reported (w.reports ++ short_report ∷ []) t s }

    short : ReportsShort (message u v) (pair_of w u v) bytes rest
    short = short_taken (message u v) (pair_of w u v) bytes rest is (inv.exchanges u v)

    short_reported : reported (w.reports ++ short_report ∷ []) v u ≡ reported w.reports v u ++ short.message.begun ∷ []
    short_reported =
        reported_here w.reports u v (flow_in (w.sessions u)) bytes
        ∙ (ap (λ (xs : List ℕ). reported w.reports v u ++ record { flow = flow_in (w.sessions u); bytes = xs } ∷ []) short.bytes_are
        ∙ ap (λ (x : Begun). reported w.reports v u ++ x ∷ []) (reported_message (w.sessions u) v short.message short.is))

    short_forth : (s t : ℕ) → Exchange (message s t) (record (short_base s t) { wire = changed_pair w.wire u v rest s t })
    short_forth = pair_here_or_elsewhere (λ s t. Exchange (message s t) (record (short_base s t) { wire = changed_pair w.wire u v rest s t })) u v
        (let e : record (short_base u v) { wire = changed_pair w.wire u v rest u v }
        ≡ record (pair_of w u v) { wire = rest; reports = reported w.reports v u ++ short.message.begun ∷ [] } =
        λ i. record (pair_of w u v) { wire = pair_here w.wire u v rest i; reports = short_reported i } in
        subst (λ (pair : Pair). Exchange (message u v) pair) (sym e) short.keeps)
        (λ s t apart. let e : record (short_base s t) { wire = changed_pair w.wire u v rest s t } ≡ pair_of w s t =
        λ i. record (pair_of w s t) {
          wire = pair_elsewhere w.wire u v rest s t apart i;
          reports = reported_elsewhere w.reports u v (flow_in (w.sessions u)) bytes s t apart i;
        } in
        subst (λ (pair : Pair). Exchange (message s t) pair) (sym e) (inv.exchanges s t))

    short_acknowledged : (s t : ℕ) → AckedAt (w.sessions s) t (reported (w.reports ++ short_report ∷ []) t s)
    short_acknowledged = pair_here_or_elsewhere (λ s t. AckedAt (w.sessions s) t (reported (w.reports ++ short_report ∷ []) t s)) u v
        (subst (λ (xs : List Begun). AckedAt (w.sessions u) v xs) (sym short_reported)
        (acked_now (w.sessions u) v short.message (reported w.reports v u) short.is (inv.acknowledged u v)))
        (λ s t apart. subst (λ (xs : List Begun). AckedAt (w.sessions s) t xs)
        (sym (reported_elsewhere w.reports u v (flow_in (w.sessions u)) bytes s t apart)) (inv.acknowledged s t))

    short_keeps : TransferInvariant plan (record w { wire = changed_pair w.wire u v rest; reports = w.reports ++ short_report ∷ [] })
    short_keeps = record {
      order = inv.order;
      exchanges = λ s t. back_taken message short_base Anywhere w.wire u v (wired.Short bytes) rest is (changed_pair w.wire u v rest)
          (λ s' t' _. short_forth s' t') s t tt;
      acknowledged = short_acknowledged;
    }

  -- ---- a packet is taken

  module _ (windows : List ℕ) (u v : ℕ) (p : Packet) (rest : List Wired) (is : w.wire u v ≡ wired.Packet p ∷ rest) where
    abbrev window : ℕ
    window = window_at windows v

    abbrev stated : Progress × Heard
    stated = hearing windows w u v p

    abbrev then : Option Outgoing
    then = session_after (w.sessions v) u p

    abbrev sent : List Packet
    sent = receiver_replies stated.1 ++ sender_replies (reaction_of (w.sessions v) u p)

    -- the wire without the packet, and with what it is answered by
    abbrev less : Wire
    less = changed_pair w.wire u v rest

    abbrev more : Wire
    more = changed_pair less v u (less v u ++ map wired.Packet sent)

    abbrev base : List Reported → ℕ → ℕ → Pair
    base reports s t = record {
      wire = [];
      back = [];
      receiver = changed_pair w.receivers v u (closed_if_complete stated.0) t s;
      taken = changed_pair w.taken v u (w.taken v u ++ p ∷ []) t s;
      begun = w.begun s t;
      reports = reported (w.reports ++ reports) t s;
    }

    abbrev elsewhere : (s t : ℕ) → IsElsewhere u v s t → IsElsewhere v u t s
    elsewhere s t apart = λ a b. apart b a

    -- of the sender that hears it
    same_message : (s t : ℕ) → message_to (changed w.sessions v then s) t ≡ message s t
    same_message = same_messages w.sessions v then (message_after (w.sessions v) u p)

    answers : AllByRecursion IsAnswer (receiver_replies stated.1) → AllByRecursion IsAnswering (map wired.Packet sent)
    answers replies =
        let reacted : List Packet = sender_replies (reaction_of (w.sessions v) u p) in
        answers_answering sent (all-append IsAnswer (receiver_replies stated.1) reacted replies
        (asides_answer reacted (hearings.reaction_aside (w.sessions v) u p)))

    asides : AllByRecursion IsAside (receiver_replies stated.1) → AllByRecursion IsUnacknowledging (map wired.Packet sent)
    asides replies =
        let reacted : List Packet = sender_replies (reaction_of (w.sessions v) u p) in
        asides_unacknowledging sent (all-append IsAside (receiver_replies stated.1) reacted replies (hearings.reaction_aside (w.sessions v) u p))

    -- a pair that the packet isn't taken from, but for its lists
    apart_forth : (reports : List Reported) (s t : ℕ) → reported (w.reports ++ reports) t s ≡ reported w.reports t s → IsElsewhere u v s t
        → Exchange (message s t) (record (base reports s t) { wire = less s t; back = w.wire t s })
    apart_forth reports s t same apart =
        let e : record (base reports s t) { wire = less s t; back = w.wire t s } ≡ pair_of w s t =
        λ i. record (pair_of w s t) {
          wire = pair_elsewhere w.wire u v rest s t apart i;
          receiver = pair_elsewhere w.receivers v u (closed_if_complete stated.0) t s (elsewhere s t apart) i;
          taken = pair_elsewhere w.taken v u (w.taken v u ++ p ∷ []) t s (elsewhere s t apart) i;
          reports = same i;
        } in
        subst (λ (pair : Pair). Exchange (message s t) pair) (sym e) (inv.exchanges s t)

    -- nothing is complete
    takes_on_exchanges : TakesOn (message u v) window (pair_of w u v) p rest → (s t : ℕ)
        → Exchange (message s t) (record (base [] s t) { wire = more s t; back = more t s })
    takes_on_exchanges on s t =
        let none : (s' t' : ℕ) → reported (w.reports ++ []) t' s' ≡ reported w.reports t' s' = λ s' t'. reported_none w.reports t' s' in
        let here : Exchange (message u v) (record (base [] u v) { wire = less u v; back = w.wire v u }) =
        (let e : record (base [] u v) { wire = less u v; back = w.wire v u }
        ≡ record (pair_of w u v) { wire = rest; receiver = closed_if_complete stated.0; taken = w.taken v u ++ p ∷ [] } =
        λ i. record (pair_of w u v) {
          wire = pair_here w.wire u v rest i;
          receiver = pair_here w.receivers v u (closed_if_complete stated.0) i;
          taken = pair_here w.taken v u (w.taken v u ++ p ∷ []) i;
          reports = none u v i;
        } in
        subst (λ (pair : Pair). Exchange (message u v) pair) (sym e) on.keeps) in
        let forth : ExchangesBy message (base []) Anywhere less w.wire =
        λ s' t' _. pair_here_or_elsewhere (λ x y. Exchange (message x y) (record (base [] x y) { wire = less x y; back = w.wire y x })) u v here
        (λ x y apart. apart_forth [] x y (none x y) apart) s' t' in
        let replies : AllByRecursion IsAside (receiver_replies stated.1) = hearings.replies_aside stated.1 on.stated in
        answered message (base []) Anywhere less u v (map wired.Packet sent) (answers (asides_answer (receiver_replies stated.1) replies)) (λ _. asides replies)
        (back_taken message (base []) Anywhere w.wire u v (wired.Packet p) rest is less forth) s t tt

    -- the message is complete
    module _ (c : Completes (message u v) window (pair_of w u v) p rest) (bytes : List ℕ) (bytes_are : bytes ≡ c.message.begun.bytes) where
      abbrev one : List Reported
      one = report w u v bytes ∷ []

      aimed_other : (o : Option Outgoing) → PlannedAt plan u o → message_to o v ≡ Some c.message → u ≢ v
      aimed_other None planned e = absurd (cc e)
      aimed_other (Some s) planned e =
          elim (is_among s.targets v) as (λ b. is_among s.targets v ≡ b → message_for b s ≡ Some c.message → u ≢ v) [
            | true ↦ λ among _. λ same. (planned.others v among).1 (sym same)
            | false ↦ λ _ f. absurd (cc f)
          ] refl e

      other : u ≢ v
      other = aimed_other (w.sessions u) (inv.order.planned u) c.is

      one_reported : reported (w.reports ++ one) v u ≡ reported w.reports v u ++ c.message.begun ∷ []
      one_reported =
          reported_here w.reports u v (flow_in (w.sessions u)) bytes
          ∙ (ap (λ (xs : List ℕ). reported w.reports v u ++ record { flow = flow_in (w.sessions u); bytes = xs } ∷ []) bytes_are
          ∙ ap (λ (x : Begun). reported w.reports v u ++ x ∷ []) (reported_message (w.sessions u) v c.message c.is))

      one_elsewhere : (s t : ℕ) → IsElsewhere u v s t → reported (w.reports ++ one) t s ≡ reported w.reports t s
      one_elsewhere s t apart = reported_elsewhere w.reports u v (flow_in (w.sessions u)) bytes s t apart

      completes_here : Exchange (message u v) (record (base one u v) { wire = more u v; back = more v u })
      completes_here =
          let wire_is : more u v ≡ rest = pair_elsewhere less v u (less v u ++ map wired.Packet sent) u v (λ same _. other same) ∙ pair_here w.wire u v rest in
          let e : record (base one u v) { wire = more u v; back = more v u }
          ≡ record (pair_of w u v) {
            wire = rest;
            back = more v u;
            receiver = closed_if_complete stated.0;
            taken = w.taken v u ++ p ∷ [];
            reports = reported w.reports v u ++ c.message.begun ∷ [];
          } =
          λ i. record (pair_of w u v) {
            wire = wire_is i;
            back = more v u;
            receiver = pair_here w.receivers v u (closed_if_complete stated.0) i;
            taken = pair_here w.taken v u (w.taken v u ++ p ∷ []) i;
            reports = one_reported i;
          } in
          subst (λ (pair : Pair). Exchange (message u v) pair) (sym e) (c.keeps (more v u))

      completes_elsewhere : (s t : ℕ) → IsElsewhere u v s t → Exchange (message s t) (record (base one s t) { wire = more s t; back = more t s })
      completes_elsewhere =
          let replies : AllByRecursion IsAnswer (receiver_replies stated.1) = hearings.replies_answer stated.1 c.stated in
          answered message (base one) (IsElsewhere u v) less u v (map wired.Packet sent) (answers replies) (λ apart. absurd (apart refl refl))
          (back_taken message (base one) (IsElsewhere u v) w.wire u v (wired.Packet p) rest is less
          (λ s t apart. apart_forth one s t (one_elsewhere s t apart) apart))

      completes_exchanges : (s t : ℕ) → Exchange (message s t) (record (base one s t) { wire = more s t; back = more t s })
      completes_exchanges = pair_here_or_elsewhere
          (λ s t. Exchange (message s t) (record (base one s t) { wire = more s t; back = more t s })) u v completes_here completes_elsewhere

    -- ---- what is acknowledged

    acknowledgement : (q : Packet) → Acknowledges q → (size : ℕ) × (pgn : ℕ) × (q ≡ EndAck size pgn)
    acknowledgement (Rts size limit pgn) a = absurd a
    acknowledgement (Cts count first pgn) a = absurd a
    acknowledgement (EndAck size pgn) a = (size, pgn, refl)
    acknowledgement (Bam size pgn) a = absurd a
    acknowledgement (Abort reason pgn) a = absurd a
    acknowledgement (Dt number seven) a = absurd a

    -- the sender that takes an acknowledgement was reported
    acked_by : (o : Outgoing) → w.sessions v ≡ Some o → Acknowledges p → is_among o.targets u ≡ true → EndsWith (reported w.reports u v) (begun_of o)
    acked_by o open_is acks among =
        let ack = acknowledgement p acks in
        let m : Message = record { pgn = o.pgn; begun = begun_of o } in
        let sends : message v u ≡ Some m = ap (λ (x : Option Outgoing). message_to x u) open_is ∙ ap (λ b. message_for b o) among in
        acknowledged_reported m (pair_of w v u) ack.0 ack.1 rest (subst (λ (x : Option Message). Exchange x (pair_of w v u)) sends (inv.exchanges v u))
        (is ∙ ap (λ (q : Packet). wired.Packet q ∷ rest) ack.2)

    acked_at : (o : Option Outgoing) → w.sessions v ≡ o → (t : ℕ) → AckedAt (session_after o u p) t (reported w.reports t v)
    acked_at None open_is t = tt
    acked_at (Some o) open_is t = λ stage. elim (session_acked o u p stage) [
      | inl was ↦ subst (λ (x : Option Outgoing). AckedAt x t (reported w.reports t v)) open_is (inv.acknowledged v t) was
      | inr now ↦ record {
        one = directed_to o.to now.directed;
        ends = λ to.
            let planned : PlannedAt plan v (Some o) = subst (PlannedAt plan v) open_is (inv.order.planned v) in
            let same : u ≡ t = planned.one t u to now.among in
            subst (λ x. EndsWith (reported w.reports x v) (begun_of o)) same (acked_by o open_is now.acknowledges now.among);
      }
    ]

    acknowledged_then : (s t : ℕ) → AckedAt (changed w.sessions v then s) t (reported w.reports t s)
    acknowledged_then s t = changed_each (λ x (o : Option Outgoing). (y : ℕ) → AckedAt o y (reported w.reports y x)) w.sessions v then
        (acked_at (w.sessions v) refl) inv.acknowledged s t

    -- ---- what it leads to

    after_planned : (o : Option Outgoing) → PlannedAt plan v o → PlannedAt plan v (session_after o u p)
    after_planned None planned = planned
    after_planned (Some o) planned = planned

    after_delivered : (o : Option Outgoing) → DeliveredBefore w.claims o → DeliveredBefore w.claims (session_after o u p)
    after_delivered None delivered = delivered
    after_delivered (Some o) delivered = delivered

    order_then : IsOrderly plan w.stations w.claims (changed w.sessions v then)
    order_then = sessions_keep plan w.stations w.claims w.sessions inv.order v then (after_planned (w.sessions v) (inv.order.planned v))
        (λ quiet. after_delivered (w.sessions v) (inv.order.delivered quiet v))

    taken_keeps : (reports : List Reported)
        → ((s t : ℕ) → Exchange (message s t) (record (base reports s t) { wire = more s t; back = more t s }))
        → ((s t : ℕ) → AckedAt (changed w.sessions v then s) t (reported (w.reports ++ reports) t s))
        → TransferInvariant plan (packet_taken windows w u v rest p reports)
    taken_keeps reports exchanges acknowledged = record {
      order = order_then;
      exchanges = λ s t. subst (λ (m : Option Message). Exchange m (record (base reports s t) { wire = more s t; back = more t s }))
          (sym (same_message s t)) (exchanges s t);
      acknowledged = acknowledged;
    }

    reports_none : (h : Heard) → HoldsNothing h → (reports : List Reported) → Reports w u v p h reports → reports ≡ []
    reports_none heard.Complete nothing reports r = absurd nothing
    reports_none (heard.CompleteReply q) nothing reports r = absurd nothing
    reports_none (heard.Reply q) nothing reports r = r
    reports_none heard.Nothing nothing reports r = r
    reports_none heard.Closed nothing reports r = r

    reports_one : (h : Heard) → ReportsMessage h → (reports : List Reported) → Reports w u v p h reports → ReportsOne w u v p reports
    reports_one heard.Complete message_is reports r = r
    reports_one (heard.CompleteReply q) message_is reports r = r
    reports_one (heard.Reply q) message_is reports r = absurd message_is
    reports_one heard.Nothing message_is reports r = absurd message_is
    reports_one heard.Closed message_is reports r = absurd message_is

    takes_on_keeps : TakesOn (message u v) window (pair_of w u v) p rest → TransferInvariant plan (packet_taken windows w u v rest p [])
    takes_on_keeps on = taken_keeps [] (takes_on_exchanges on)
        (λ s t. subst (λ (xs : List Begun). AckedAt (changed w.sessions v then s) t xs) (sym (reported_none w.reports t s)) (acknowledged_then s t))

    completes_keeps : (c : Completes (message u v) window (pair_of w u v) p rest) (bytes : List ℕ) → bytes ≡ c.message.begun.bytes
        → TransferInvariant plan (packet_taken windows w u v rest p (report w u v bytes ∷ []))
    completes_keeps c bytes bytes_are = taken_keeps (report w u v bytes ∷ []) (completes_exchanges c bytes bytes_are)
        (pair_here_or_elsewhere (λ s t. AckedAt (changed w.sessions v then s) t (reported (w.reports ++ report w u v bytes ∷ []) t s)) u v
        (subst (λ (xs : List Begun). AckedAt (changed w.sessions v then u) v xs) (sym (one_reported c bytes bytes_are))
        (acked_now (changed w.sessions v then u) v c.message (reported w.reports v u) (same_message u v ∙ c.is) (acknowledged_then u v)))
        (λ s t apart. subst (λ (xs : List Begun). AckedAt (changed w.sessions v then s) t xs) (sym (one_elsewhere c bytes bytes_are s t apart))
        (acknowledged_then s t)))

    packet_keeps : (reports : List Reported) → Reports w u v p stated.1 reports → TransferInvariant plan (packet_taken windows w u v rest p reports)
    packet_keeps reports r = elim (taking.packet_taken (message u v) window (pair_of w u v) p rest is (inv.exchanges u v)) [
      | inl on ↦ subst (λ (xs : List Reported). TransferInvariant plan (packet_taken windows w u v rest p xs)) (sym (reports_none stated.1 on.stated reports r))
          (takes_on_keeps on)
      | inr c ↦
          let one_is = reports_one stated.1 c.stated reports r in
          subst (λ (xs : List Reported). TransferInvariant plan (packet_taken windows w u v rest p xs)) (sym one_is.3)
          (completes_keeps c one_is.1 (c.carried one_is.0 one_is.1 one_is.2))
    ]

  pub take_keeps : (windows : List ℕ) (u v : ℕ) (list : List Wired) → w.wire u v ≡ list → (new : World) → TakenFrom windows w u v list new
      → TransferInvariant plan new
  take_keeps windows u v [] is new never = absurd never
  take_keeps windows u v (wired.Short bytes ∷ rest) is new e = subst (TransferInvariant plan) (sym e) (short_keeps u v bytes rest is)
  take_keeps windows u v (wired.Packet p ∷ rest) is new leads =
      subst (TransferInvariant plan) (sym leads.2) (packet_keeps windows u v p rest is leads.0 leads.1)
  take_keeps windows u v (wired.Alone f bytes ∷ rest) is new e =
      let less : World = record w { wire = changed_pair w.wire u v rest } in
      subst (TransferInvariant plan) (sym e)
      (reports_beside plan less (w.reports ++ alone_report u v f bytes ∷ []) (reported_beside w.reports u v f bytes)
      (lose_keeps u v (wired.Alone f bytes ∷ rest) is less refl))
