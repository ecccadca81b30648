-- What a frame reports of requests.
use Rattle.std.proofs.Common.{◌≡◌, ◌≤◌, ◌+◌, ◌&&◌, ℕ, Bool, true, false, if◌then◌else◌, List, [], ◌∷◌, ◌++◌, length, map, Option, Some, None, inl, inr, refl}
use Rattle.std.proofs.Common.{sym, ap}
use Rattle.std.proofs.Common.{subst, ◌∙◌, arith, append_assoc}
use Rattle.std.specs.Prelude.{option_map, is_some}
use Rattle.std.specs.Option.{option_to_list}
use Rattle.std.proofs.lemmas.Bool.{cases_Bool}
use Rattle.std.proofs.lemmas.List.{length-append}
use Rattle.std.proofs.lemmas.Option.{slice_get_within}
use Rattle.j39_id.specs.Pgn.{is_pdu2}
use Rattle.j39_id.specs.declared.frame.Frame.{Frame}
use Rattle.j39_id.specs.declared.ident.Ident.{Ident}
use Rattle.j39_network.specs.declared.plan.Plan.{Plan}
use Rattle.j39_id.specs.FrameMeaning.{requested_group, requests_group}
use Rattle.j39_follow.specs.Contests.{IsTaken, Timed}
use Rattle.j39_follow.specs.FollowReports.{AreEventsOf, IsAnswerWay, IsAsked, IsSendingOf, aim_at, answer_aim, answer_way_text, in_frame, is_to_all}
use Rattle.j39_follow.specs.FollowReports.{Message, ended_ident, ended_message, frame_events, message_events, notice_events, reply_of, reports_receipt}
use Rattle.j39_follow.specs.Received.{turned}
use Rattle.j39_follow.specs.LoggedRequests.{acknowledged_group, acknowledges, asked_request, asker_address, is_refusal, counted_number as number_of}
use Rattle.j39_follow.specs.LoggedRequests.{asker_or_source}
use Rattle.j39_follow.specs.Who.{unit_of}
use Rattle.j39_follow.specs.declared.request.event.Event.{Event}
use Rattle.j39_follow.specs.declared.request.event.Event.TheVariants.{Asked, Brought, Refused}
use Rattle.j39_follow.specs.declared.request.exchanges.Exchanges.{Exchanges}
use Rattle.j39_follow.specs.declared.address.known_parties.Parties.{Parties}
use Rattle.j39_follow.specs.declared.message.Sort.{Sort}
use Rattle.j39_follow.specs.declared.flow.sending.Aim.TheVariants as aims
use Rattle.j39_follow.specs.declared.flow.sending.Sending.{Sending}
use Rattle.j39_follow.specs.declared.address.who.Who.{Who}
use Rattle.j39_follow.specs.inside.Contesting.{ShowsAsker, ShowsParties}
use Rattle.j39_follow.specs.inside.Exchanging.{AreNoted}
use Rattle.j39_follow.specs.inside.Recounting.{party_at}

-- ---- what there is of each frame

-- the other way round too
pub shows_turned : (plan : Plan) (parties : Parties) (log : List Timed) (i : Ident) → ShowsParties plan parties log i
    → ShowsParties plan parties log (turned i)
shows_turned plan parties log i shows = record { source = shows.receiver; receiver = shows.source; names = shows.names }

pub shows_ended : (plan : Plan) (parties : Parties) (log : List Timed) (f : Frame) → ShowsParties plan parties log f.ident
    → ShowsParties plan parties log (ended_ident f)
shows_ended plan parties log f shows = elim (cases_Bool (reports_receipt f)) [
  | inl other ↦
      let same : ended_ident f ≡ turned f.ident = ap (λ (b : Bool). if b then turned f.ident else f.ident) other in
      subst (ShowsParties plan parties log) (sym same) (shows_turned plan parties log f.ident shows)
  | inr its_own ↦
      let same : ended_ident f ≡ f.ident = ap (λ (b : Bool). if b then turned f.ident else f.ident) its_own in
      subst (ShowsParties plan parties log) (sym same) shows
]

sending_there : (plan : Plan) (parties : Parties) (log : List Timed) (m : Message) → ShowsParties plan parties log m.ident
    → (sent : Sending) × IsSendingOf plan log m sent
sending_there plan parties log m shows =
    let sender = party_at parties.all m.ident.sa in
    let receiver = party_at parties.all m.ident.ps in (
      record {
        sender = unit_of sender;
        aim = if is_to_all m.ident then aims.All else aim_at (unit_of receiver);
        unaddressed = is_some m.framed && is_pdu2 m.pgn;
      },
      record {
        sender = sender;
        receiver = receiver;
        sender_is = shows.source;
        receiver_is = shows.receiver;
        sender_unit = refl;
        aim_is = refl;
        unaddressed_is = refl;
      },
    )

a_sending : (plan : Plan) (parties : Parties) (log : List Timed) (f : Frame) → ShowsParties plan parties log f.ident
    → (sent : Sending) × IsSendingOf plan log (in_frame f) sent
a_sending plan parties log f shows = sending_there plan parties log (in_frame f) shows

-- a frame asks some request or none
pub an_asked : (plan : Plan) (parties : Parties) (log : List Timed) (f : Frame) → ShowsParties plan parties log f.ident
    → (asked : Option ℕ) × IsAsked plan log f asked
an_asked plan parties log f shows =
    let one = a_sending plan parties log f shows in (
      asked_request plan (requested_group f) one.0,
      (one.0, one.1, refl),
    )

-- an acknowledgement has a way
pub an_answer_way : (plan : Plan) (parties : Parties) (log : List Timed) (f : Frame) → ShowsParties plan parties log f.ident
    → ShowsAsker plan parties log f → (way : List ℕ) × IsAnswerWay plan log f way
an_answer_way plan parties log f shows asks =
    let there = asker_or_source plan f in
    let sender = party_at parties.all f.ident.sa in
    let asker = party_at parties.all there in (
      answer_way_text plan sender f.ident.sa asker there,
      record { sender = sender; asker = asker; sender_is = shows.source; asker_is = asks; text_is = refl },
    )

-- a frame that is no acknowledgement speaks of its source
pub asks_itself : (plan : Plan) (parties : Parties) (log : List Timed) (f : Frame) → acknowledges plan f ≡ false
    → ShowsParties plan parties log f.ident → ShowsAsker plan parties log f
asks_itself plan parties log f none shows =
    let there : asker_or_source plan f ≡ f.ident.sa = ap (λ (b : Bool). if b then asker_address f else f.ident.sa) none in
    subst (λ (a : ℕ). IsTaken plan log a (party_at parties.all a)) (sym there) shows.source

-- ---- what it reports of requests

-- in a plan without requests there is nothing to note
pub none_noted : (plan : Plan) (parties : Parties) (log : List Timed) (f : Frame) (sorts : List Sort) (events : List Event) (kept : Exchanges)
    → length plan.requests.items ≡ 0 → ShowsParties plan parties log f.ident → ShowsAsker plan parties log f → AreNoted plan log f sorts events kept
none_noted plan parties log f sorts events kept none shows asks =
    let one = a_sending plan parties log f shows in
    let ended = sending_there plan parties log (ended_message f) (shows_ended plan parties log f shows) in
    let asker = party_at parties.all (asker_or_source plan f) in record {
      more = frame_events plan f one.0 ended.0 asker sorts;
      are_events = record { sent = one.0; ended = ended.0; asker = asker; ended_is = ended.1; sent_is = one.1; asker_is = asks; events_are = refl };
      exchanges = λ place r at.
          let within = slice_get_within plan.requests.items place r at in
          absurd (omega (arith, within, none));
    }

pub one_at_most : {A : Type 0} (o : Option A) → length (option_to_list o) ≤ 1
one_at_most None = omega arith
one_at_most (Some x) = omega arith

if_one : (b : Bool) (e : Event) → length (if b then e ∷ [] else []) ≤ 1
if_one true e = omega arith
if_one false e = omega arith

if_either : (b : Bool) (x y : List Event) → length x ≤ 1 → length y ≤ 1 → length (if b then x else y) ≤ 1
if_either true x y first second = first
if_either false x y first second = second

one_notice_event : (plan : Plan) (f : Frame) (sent : Sending) (asker : Who) → length (notice_events plan f sent asker) ≤ 1
one_notice_event plan f sent asker =
    if_either (requests_group f) _ _ (one_at_most (option_map Asked (asked_request plan (requested_group f) sent)))
    (if_either (acknowledges plan f) _ [] (if_one (is_refusal f)
    (Refused (reply_of (acknowledged_group f) sent.sender (answer_aim (asker_or_source plan f) asker)))) (omega arith))

two_messages : (plan : Plan) (sent way : Sending) (sort : Sort) (ended : Option Sort)
    → length (message_events plan sent way (sort ∷ option_to_list ended)) ≤ 2
two_messages plan sent way sort None = omega arith
two_messages plan sent way sort (Some s) = omega arith

mapped : (g : Sort → Event) (o : Option Sort) → option_to_list (option_map g o) ≡ map g (option_to_list o)
mapped g None = refl
mapped g (Some s) = refl

-- one event behind another
pub joined_events : (events first : List Event) (one : Event) (g : Sort → Event) (ended : Option Sort)
    → ((events ++ first) ++ one ∷ []) ++ option_to_list (option_map g ended) ≡ events ++ (first ++ one ∷ map g (option_to_list ended))
joined_events events first one g ended =
    append_assoc (events ++ first) (one ∷ []) (option_to_list (option_map g ended))
    ∙ append_assoc events first (one ∷ option_to_list (option_map g ended))
    ∙ ap (λ (t : List Event). events ++ (first ++ one ∷ t)) (mapped g ended)

-- a frame reports three events at most
pub few_events : (plan : Plan) (log : List Timed) (f : Frame) (sort : Sort) (ended : Option Sort) (events : List Event)
    → AreEventsOf plan log f (sort ∷ option_to_list ended) events → length events ≤ 3
few_events plan log f sort ended events stated =
    let first : List Event = notice_events plan f stated.sent stated.asker in
    let rest : List Event = message_events plan stated.sent stated.ended (sort ∷ option_to_list ended) in
    let one : length first ≤ 1 = one_notice_event plan f stated.sent stated.asker in
    let two : length rest ≤ 2 = two_messages plan stated.sent stated.ended sort ended in
    let all : length events ≡ length first + length rest = ap length stated.events_are ∙ length-append first rest in
    omega (arith, one, two, all)
