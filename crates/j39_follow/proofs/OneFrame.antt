-- What is written at a frame is one text.
use Rattle.std.proofs.Common.{◌≡◌, ◌⊎◌, ℕ, Bool, List, [], ◌∷◌, ◌++◌, codes, length, if◌then◌else◌, Option, Some, None, inl, inr, refl, sym, ap, subst, ◌∙◌}
use Rattle.std.proofs.Common.{append_assoc}
use Rattle.std.proofs.lemmas.Bool.{cases_order}
use Rattle.std.proofs.lemmas.List.{same_from_push}
use Rattle.std.proofs.lemmas.Option.{none-some, same_Some}
use Rattle.j39_id.specs.declared.frame.Frame.{Frame}
use Rattle.j39_id.specs.declared.ident.Ident.{Ident}
use Rattle.j39_network.specs.declared.plan.Plan.{Plan}
use Rattle.j39_network.specs.declared.plan.group_plan.GroupPlan.{GroupPlan}
use Rattle.j39_log.proofs.OneText.{one_packet}
use Rattle.j39_log.specs.LogPairs.{Seen, heard}
use Rattle.j39_log.specs.NamedReports.{named_reading_lines}
use Rattle.j39_id.specs.FrameMeaning.{requested_group}
use Rattle.j39_tp.proofs.Tracking.{one_message, one_pgn}
use Rattle.j39_tp.specs.declared.packet.Packet.{Packet}
use Rattle.j39_tp.specs.declared.packet.Packet.TheVariants.{Rts, Cts, EndAck, Bam, Abort, Dt}
use Rattle.j39_follow.specs.Contests.{Timed}
use Rattle.j39_follow.specs.Fits.{IsSentGroup, fitting_flow}
use Rattle.j39_follow.specs.FollowReports.{AreEventsOf, IsAnswerWay, IsAsked, IsBareText, IsGroupOfMessage, IsGrouped, IsMessageReport, IsNotice, IsSendingOf}
use Rattle.j39_follow.specs.FollowReports.{IsWay, Message, aim_at, answer_way_text, bare_text, frame_line, in_frame, is_to_all, message_line, notice_text}
use Rattle.j39_follow.specs.FollowReports.{ended_message, frame_events}
use Rattle.j39_follow.specs.FollowText.{HeardSince, IsCarriedReport, IsFollowedAs, IsInOrderReport, IsPacketReport, IsReceivedReport, OneChangesHands}
use Rattle.j39_follow.specs.Received.{turned, way_packets}
use Rattle.j39_follow.proofs.Pairs.InOrder.{one_received}
use Rattle.j39_follow.specs.LoggedRequests.{asked_request, asker_or_source}
use Rattle.j39_follow.specs.Who.{unit_of, who_text}
use Rattle.j39_follow.specs.declared.request.event.Event.{Event}
use Rattle.j39_follow.specs.declared.message.Sort.{Sort}
use Rattle.j39_follow.specs.declared.flow.sending.Aim.{Aim}
use Rattle.j39_follow.specs.declared.flow.sending.Aim.TheVariants as aims
use Rattle.j39_follow.specs.declared.flow.sending.Sending.{Sending}
use Rattle.j39_follow.specs.declared.address.who.Who.{Who}
use Rattle.j39_follow.proofs.Addresses.Holding.{ending}
use Rattle.j39_follow.proofs.Addresses.Contested.{one_taken}

-- ---- from whom to whom

one_way : (plan : Plan) (log : List Timed) (i : Ident) (t u : List ℕ) → IsWay plan log i t → IsWay plan log i u → t ≡ u
one_way plan log i t u a b =
    let sender = one_taken plan log i.sa a.sender b.sender a.sender_is b.sender_is in
    let receiver = one_taken plan log i.ps a.receiver b.receiver a.receiver_is b.receiver_is in
    a.text_is
    ∙ ap (λ (w : Who). codes " from " ++ (who_text plan w i.sa
    ++ (codes " to " ++ (if is_to_all i then codes "all" else who_text plan a.receiver i.ps)))) sender
    ∙ ap (λ (w : Who). codes " from " ++ (who_text plan b.sender i.sa
    ++ (codes " to " ++ (if is_to_all i then codes "all" else who_text plan w i.ps)))) receiver
    ∙ sym b.text_is

-- ---- messages

same_sending : (a b : Sending) → a.sender ≡ b.sender → a.aim ≡ b.aim → a.unaddressed ≡ b.unaddressed → a ≡ b
same_sending a b first second third =
    let one : a ≡ record a { sender = b.sender } = ap (λ (x : Option ℕ). record a { sender = x }) first in
    let two : record a { sender = b.sender } ≡ record b { unaddressed = a.unaddressed } =
    ap (λ (x : Aim). record { sender = b.sender; aim = x; unaddressed = a.unaddressed }) second in
    one ∙ two ∙ ap (λ (x : Bool). record b { unaddressed = x }) third

one_sending : (plan : Plan) (log : List Timed) (m : Message) (s t : Sending) → IsSendingOf plan log m s → IsSendingOf plan log m t → s ≡ t
one_sending plan log m s t a b =
    let sender = one_taken plan log m.ident.sa a.sender b.sender a.sender_is b.sender_is in
    let receiver = one_taken plan log m.ident.ps a.receiver b.receiver a.receiver_is b.receiver_is in
    same_sending s t (a.sender_unit ∙ ap unit_of sender ∙ sym b.sender_unit)
    (a.aim_is ∙ ap (λ (w : Who). if is_to_all m.ident then aims.All else aim_at (unit_of w)) receiver ∙ sym b.aim_is)
    (a.unaddressed_is ∙ sym b.unaddressed_is)

-- ---- what is reported first

one_answer_way : (plan : Plan) (log : List Timed) (f : Frame) (t u : List ℕ) → IsAnswerWay plan log f t → IsAnswerWay plan log f u → t ≡ u
one_answer_way plan log f t u a b =
    let there = asker_or_source plan f in
    let sender = one_taken plan log f.ident.sa a.sender b.sender a.sender_is b.sender_is in
    let asker = one_taken plan log there a.asker b.asker a.asker_is b.asker_is in
    a.text_is
    ∙ ap (λ (w : Who). answer_way_text plan w f.ident.sa a.asker there) sender
    ∙ ap (λ (w : Who). answer_way_text plan b.sender f.ident.sa w there) asker
    ∙ sym b.text_is

one_asked : (plan : Plan) (log : List Timed) (f : Frame) (a b : Option ℕ) → IsAsked plan log f a → IsAsked plan log f b → a ≡ b
one_asked plan log f a b x y =
    let same = one_sending plan log (in_frame f) x.0 y.0 x.1 y.1 in
    x.2 ∙ ap (λ (s : Sending). asked_request plan (requested_group f) s) same ∙ sym y.2

pub one_notice : (plan : Plan) (log : List Timed) (front : List ℕ) (f : Frame) (t u : List ℕ)
    → IsNotice plan log front f t → IsNotice plan log front f u → t ≡ u
one_notice plan log front f t u a b =
    let way = one_way plan log f.ident a.way b.way a.way_is b.way_is in
    let asked = one_asked plan log f a.asked b.asked a.asked_is b.asked_is in
    let back = one_answer_way plan log f a.back b.back a.back_is b.back_is in
    a.text_is
    ∙ ap (λ (w : List ℕ). notice_text plan front f w a.asked a.back) way
    ∙ ap (λ (o : Option ℕ). notice_text plan front f b.way o a.back) asked
    ∙ ap (λ (w : List ℕ). notice_text plan front f b.way b.asked w) back
    ∙ sym b.text_is

-- a frame has one line of its own, or none
pub one_bare : (plan : Plan) (all_frames : Bool) (log : List Timed) (front : List ℕ) (f : Frame) (written t u : List ℕ)
    → IsBareText plan all_frames log front f written t → IsBareText plan all_frames log front f written u → t ≡ u
one_bare plan all_frames log front f written t u a b =
    a.2 ∙ ap (λ (w : List ℕ). bare_text all_frames written (frame_line front w f)) (one_way plan log f.ident a.0 b.0 a.1 b.1) ∙ sym b.2

-- what a frame reports of requests is one list
pub one_stated : (plan : Plan) (log : List Timed) (f : Frame) (sorts : List Sort) (a b : List Event)
    → AreEventsOf plan log f sorts a → AreEventsOf plan log f sorts b → a ≡ b
one_stated plan log f sorts a b x y =
    let sent = one_sending plan log (in_frame f) x.sent y.sent x.sent_is y.sent_is in
    let asker = one_taken plan log (asker_or_source plan f) x.asker y.asker x.asker_is y.asker_is in
    let ended = one_sending plan log (ended_message f) x.ended y.ended x.ended_is y.ended_is in
    x.events_are
    ∙ ap (λ (s : Sending). frame_events plan f s x.ended x.asker sorts) sent
    ∙ ap (λ (s : Sending). frame_events plan f y.sent s x.asker sorts) ended
    ∙ ap (λ (w : Who). frame_events plan f y.sent y.ended w sorts) asker
    ∙ sym y.events_are

-- ---- groups

one_group : (plan : Plan) (pgn : ℕ) (bytes : List ℕ) (sent : Sending) (a b : Option ℕ) → IsSentGroup plan pgn bytes sent a → IsSentGroup plan pgn bytes sent b
    → a ≡ b
one_group plan pgn bytes sent (Some g) (Some h) x y = elim (cases_order g h) [
  | inl same ↦ ap Some same
  | inr (inl less) ↦ absurd (y.1 g less x.0)
  | inr (inr more) ↦ absurd (x.1 h more y.0)
]
one_group plan pgn bytes sent (Some g) None x y = absurd (y g x.0)
one_group plan pgn bytes sent None (Some h) x y = absurd (x h y.0)
one_group plan pgn bytes sent None None x y = refl

one_group_of_message : (plan : Plan) (log : List Timed) (m : Message) (a b : Option ℕ) → IsGroupOfMessage plan log m a
    → IsGroupOfMessage plan log m b → a ≡ b
one_group_of_message plan log m a b x y =
    let same = one_sending plan log m x.0 y.0 x.1 y.1 in
    one_group plan m.pgn m.bytes y.0 a b (subst (λ (s : Sending). IsSentGroup plan m.pgn m.bytes s a) same x.2) y.2

one_grouped : (plan : Plan) (log : List Timed) (front : List ℕ) (m : Message) (sent : Sending) (group : Option ℕ) (s z : Sort) (t u : List ℕ)
    → IsGrouped plan log front m sent group s t → IsGrouped plan log front m sent group z u → (s ≡ z) × (t ≡ u)
one_grouped plan log front m sent None s z t u a b = (a.0 ∙ sym b.0, a.1 ∙ sym b.1)
one_grouped plan log front m sent (Some g) s z t u a b =
    let way = one_way plan log m.ident a.1 b.1 a.2 b.2 in
    let group = same_Some a.3.value b.3.value (sym a.3.value_is ∙ b.3.value_is) in (
      a.0 ∙ sym b.0,
      a.3.meets
          ∙ ap (λ (w : List ℕ). message_line a.3.value front w (fitting_flow plan g sent) m ++ named_reading_lines plan a.3.value m.bytes) way
          ∙ ap (λ (x : GroupPlan). message_line x front b.1 (fitting_flow plan g sent) m ++ named_reading_lines plan x m.bytes) group
          ∙ sym b.3.meets,
    )

pub one_message_report : (plan : Plan) (log : List Timed) (front : List ℕ) (m : Message) (s z : Sort) (t u : List ℕ)
    → IsMessageReport plan log front m s t → IsMessageReport plan log front m z u → (s ≡ z) × (t ≡ u)
one_message_report plan log front m s z t u a b =
    let sent = one_sending plan log m a.0 b.0 a.2 b.2 in
    let of = subst (λ (x : Sending). IsSentGroup plan m.pgn m.bytes x a.1) sent a.3 in
    let group = one_group plan m.pgn m.bytes b.0 a.1 b.1 of b.3 in
    one_grouped plan log front m b.0 b.1 s z t u
    (subst (λ (g : Option ℕ). IsGrouped plan log front m b.0 g s t) group
    (subst (λ (x : Sending). IsGrouped plan log front m x a.1 s t) sent a.4)) b.4

pub one_heard_as : (plan : Plan) (log : List Timed) (f : Frame) (p q : Option Packet) → IsFollowedAs plan log f p → IsFollowedAs plan log f q → p ≡ q
one_heard_as plan log f (Some p) (Some q) a b = ap Some (one_packet f p q a.1 b.1)
one_heard_as plan log f (Some p) None a (inl none) = absurd (none p a.1)
one_heard_as plan log f (Some p) None a (inr group) =
    absurd (none-some group.0 (one_group_of_message plan log (in_frame f) None (Some group.0) a.0 group.1))
one_heard_as plan log f None (Some q) (inl none) b = absurd (none q b.1)
one_heard_as plan log f None (Some q) (inr group) b =
    absurd (none-some group.0 (one_group_of_message plan log (in_frame f) None (Some group.0) b.0 group.1))
one_heard_as plan log f None None a b = refl

-- ---- what a pair heard

-- of two ways to cut a list one cuts later
cut_later : (a b c d : List Seen) → a ++ b ≡ c ++ d
    → ((m : List Seen) × (c ≡ a ++ m) × (b ≡ m ++ d)) ⊎ ((m : List Seen) × (a ≡ c ++ m) × (d ≡ m ++ b))
cut_later [] b c d e = inl (c, refl, e)
cut_later (x ∷ a) b [] d e = inr (x ∷ a, refl, sym e)
cut_later (x ∷ a) b (y ∷ c) d e =
    let head : x ≡ y = cc in
    let tail : a ++ b ≡ c ++ d = cc in
    elim (cut_later a b c d tail) [
      | inl later ↦ inl (later.0, ap (λ (z : Seen). z ∷ c) (sym head) ∙ ap (λ (t : List Seen). x ∷ t) later.1, later.2)
      | inr later ↦ inr (later.0, ap (λ (z : Seen). z ∷ a) head ∙ ap (λ (t : List Seen). y ∷ t) later.1, later.2)
    ]

no_end : {A : Type 0} (front : List A) (x : A) → [] ≡ front ++ x ∷ [] → ⊥
no_end [] x e = cc
no_end (y ∷ front) x e = cc

-- a list that begins anew later doesn't, where none of the two addresses changes hands between
not_later : (plan : Plan) (seen : List Seen) (s d : ℕ) (h k : List Packet) (a : HeardSince plan seen s d h) (b : HeardSince plan seen s d k)
    (m : List Seen) → b.before ≡ a.before ++ m → a.since ≡ m ++ b.since → m ≡ []
not_later plan seen s d h k a b m later rest = elim (ending m) [
  | inl none ↦ none
  | inr end ↦
      let row : b.before ≡ (a.before ++ end.0) ++ end.1 ∷ [] =
      later ∙ ap (λ (t : List Seen). a.before ++ t) end.2 ∙ sym (append_assoc a.before end.0 (end.1 ∷ [])) in
      let between : a.since ≡ end.0 ++ end.1 ∷ b.since =
      rest ∙ ap (λ (t : List Seen). t ++ b.since) end.2 ∙ append_assoc end.0 (end.1 ∷ []) b.since in
      elim b.anew [
        | inl first ↦ absurd (no_end (a.before ++ end.0) end.1 (sym first ∙ row))
        | inr parting ↦
            let same = same_from_push (a.before ++ end.0) parting.0 end.1 parting.1 (sym row ∙ parting.2) in
            absurd (a.steady end.0 end.1 b.since between
            (subst (λ (x : Seen). OneChangesHands plan (a.before ++ end.0) x s d) (sym same.1)
            (subst (λ (t : List Seen). OneChangesHands plan t parting.1 s d) (sym same.0) parting.3)))
      ]
]

same_since : (plan : Plan) (seen : List Seen) (s d : ℕ) (h k : List Packet) (a : HeardSince plan seen s d h) (b : HeardSince plan seen s d k)
    → a.since ≡ b.since
same_since plan seen s d h k a b = elim (cut_later a.before a.since b.before b.since (sym a.row ∙ b.row)) [
  | inl later ↦
      let none = not_later plan seen s d h k a b later.0 later.1 later.2 in
      later.2 ∙ ap (λ (t : List Seen). t ++ b.since) none
  | inr later ↦
      let none = not_later plan seen s d k h b a later.0 later.1 later.2 in
      sym (later.2 ∙ ap (λ (t : List Seen). t ++ a.since) none)
]

pub one_since : (plan : Plan) (seen : List Seen) (s d : ℕ) (h k : List Packet) → HeardSince plan seen s d h → HeardSince plan seen s d k → h ≡ k
one_since plan seen s d h k a b = a.packets_are ∙ ap (heard s d) (same_since plan seen s d h k a b) ∙ sym b.packets_are

one_carried : (plan : Plan) (log : List Timed) (front : List ℕ) (h : List Packet) (place : ℕ) (f : Frame) (s z : List Sort) (t u : List ℕ)
    → IsCarriedReport plan log front h place f s t → IsCarriedReport plan log front h place f z u → (s ≡ z) × (t ≡ u)
one_carried plan log front h place f s z t u (inl a) (inl b) =
    let pgn : a.0 ≡ b.0 = one_pgn h place a.0 b.0 a.1 b.1 a.3 b.3 in
    let bytes : a.1 ≡ b.1 = one_message h place a.0 b.0 a.1 b.1 a.3 b.3 in
    let there = subst
    (λ (x : List ℕ). IsMessageReport plan log front (record { pgn = b.0; bytes = x; ident = f.ident; framed = None }) a.2 t) bytes
    (subst (λ (n : ℕ). IsMessageReport plan log front (record { pgn = n; bytes = a.1; ident = f.ident; framed = None }) a.2 t) pgn a.4) in
    let same = one_message_report plan log front (record { pgn = b.0; bytes = b.1; ident = f.ident; framed = None }) a.2 b.2 t u there b.4 in
    (a.5 ∙ ap (λ (x : Sort). x ∷ []) same.0 ∙ sym b.5, same.1)
one_carried plan log front h place f s z t u (inl a) (inr b) = absurd (b.0 a.0 a.1 a.3)
one_carried plan log front h place f s z t u (inr a) (inl b) = absurd (a.0 b.0 b.1 b.3)
one_carried plan log front h place f s z t u (inr a) (inr b) = (a.1 ∙ sym b.1, a.2 ∙ sym b.2)

one_in_order : (plan : Plan) (before : List Seen) (log : List Timed) (front : List ℕ) (f : Frame) (p : Packet) (s z : List Sort) (t u : List ℕ)
    → IsInOrderReport plan before log front f p s t → IsInOrderReport plan before log front f p z u → (s ≡ z) × (t ≡ u)
one_in_order plan before log front f p s z t u a b =
    let same = one_since plan before f.ident.sa f.ident.ps a.0 b.0 a.1 b.1 in
    one_carried plan log front (b.0 ++ p ∷ []) (length b.0) f s z t u
    (subst (λ (h : List Packet). IsCarriedReport plan log front (h ++ p ∷ []) (length h) f s t) same a.2) b.2

one_receipt : (plan : Plan) (log : List Timed) (front : List ℕ) (h : List Packet) (size pgn : ℕ) (f : Frame) (s z : List Sort) (t u : List ℕ)
    → IsReceivedReport plan log front h size pgn f s t → IsReceivedReport plan log front h size pgn f z u → (s ≡ z) × (t ≡ u)
one_receipt plan log front h size pgn f s z t u (inl a) (inl b) =
    let i : Ident = turned f.ident in
    let bytes : a.0 ≡ b.0 = one_received h size pgn a.0 b.0 a.2 b.2 in
    let there = subst (λ (x : List ℕ). IsMessageReport plan log front (record { pgn = pgn; bytes = x; ident = i; framed = None }) a.1 t) bytes a.3 in
    let same = one_message_report plan log front (record { pgn = pgn; bytes = b.0; ident = i; framed = None }) a.1 b.1 t u there b.3 in
    (a.4 ∙ ap (λ (x : Sort). x ∷ []) same.0 ∙ sym b.4, same.1)
one_receipt plan log front h size pgn f s z t u (inl a) (inr b) = absurd (b.0 a.0 a.2)
one_receipt plan log front h size pgn f s z t u (inr a) (inl b) = absurd (a.0 b.0 b.2)
one_receipt plan log front h size pgn f s z t u (inr a) (inr b) = (a.1 ∙ sym b.1, a.2 ∙ sym b.2)

pub one_packet_report : (plan : Plan) (before : List Seen) (log : List Timed) (front : List ℕ) (f : Frame) (p : Option Packet) (s z : List Sort) (t u : List ℕ)
    → IsPacketReport plan before log front f p s t → IsPacketReport plan before log front f p z u → (s ≡ z) × (t ≡ u)
one_packet_report plan before log front f None s z t u a b = (a.0 ∙ sym b.0, a.1 ∙ sym b.1)
one_packet_report plan before log front f (Some (EndAck size pgn)) s z t u a b =
    let i = f.ident in
    let same = ap (way_packets i.ps i.sa) (same_since plan before i.ps i.sa a.0 b.0 a.1 b.1) in
    one_receipt plan log front (way_packets i.ps i.sa b.1.since) size pgn f s z t u
    (subst (λ (h : List Packet). IsReceivedReport plan log front h size pgn f s t) same a.2) b.2
one_packet_report plan before log front f (Some (Rts size limit pgn)) s z t u a b = one_in_order plan before log front f (Rts size limit pgn) s z t u a b
one_packet_report plan before log front f (Some (Cts count first pgn)) s z t u a b = one_in_order plan before log front f (Cts count first pgn) s z t u a b
one_packet_report plan before log front f (Some (Bam size pgn)) s z t u a b = one_in_order plan before log front f (Bam size pgn) s z t u a b
one_packet_report plan before log front f (Some (Abort reason pgn)) s z t u a b = one_in_order plan before log front f (Abort reason pgn) s z t u a b
one_packet_report plan before log front f (Some (Dt number chunk)) s z t u a b = one_in_order plan before log front f (Dt number chunk) s z t u a b
