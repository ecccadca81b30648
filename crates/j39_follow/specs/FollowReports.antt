-- The lines that report what a frame reports, and what was sent.
use Rattle.std.specs.Prelude.{◌≡◌, ℕ, ◌==◌, ◌||◌, ◌&&◌, ◌%◌, ◌^◌, Bool, if◌then◌else◌, List, []}
use Rattle.std.specs.Prelude.{◌∷◌, ◌++◌, codes, decimal, length, map, is_some, option_map, slice_index, Option, Some, None}
use Rattle.std.specs.Option.{option_map_or, option_to_list}
use Rattle.hex.specs.Hex.{encode_upper}
use Rattle.j39_id.specs.Addresses.{global_address}
use Rattle.j39_id.specs.Ident.{pgn_of}
use Rattle.j39_id.specs.Pgn.{is_pdu2}
use Rattle.j39_id.specs.Services.{connection_management}
use Rattle.j39_tp.specs.Packets.{end_control}
use Rattle.j39_id.specs.declared.frame.Frame.{Frame}
use Rattle.j39_id.specs.declared.ident.Ident.{Ident}
use Rattle.j39_search.specs.ListPlaces.{ValueAt}
use Rattle.j39_network.specs.declared.plan.Plan.{Plan}
use Rattle.j39_network.specs.declared.plan.group_plan.GroupPlan.{GroupPlan}
use Rattle.j39_log.specs.NamedReports.{named_reading_lines}
use Rattle.j39_id.specs.FrameMeaning.{cannot_claim, claims_address, name_in, requested_group, requests_group}
use Rattle.j39_text.specs.Labels.{unit_label}
use Rattle.j39_text.specs.Texts.{field, place_field}
use Rattle.j39_follow.specs.Contests.{IsTaken, Timed}
use Rattle.j39_follow.specs.Fits.{IsSentGroup, fitting_flow}
use Rattle.j39_follow.specs.LoggedRequests.{acknowledged_group, acknowledges, asked_request, asked_text, control_of, control_word, is_refusal}
use Rattle.j39_follow.specs.LoggedRequests.{counted_number as number_of, asker_or_source}
use Rattle.j39_follow.specs.Received.{turned}
use Rattle.j39_follow.specs.Who.{is_of_any, name_text, unit_of_name, unit_of, who_text}
use Rattle.j39_follow.specs.declared.request.event.Event.{Event}
use Rattle.j39_follow.specs.declared.request.event.Event.TheVariants.{Asked, Brought, Refused}
use Rattle.j39_follow.specs.declared.request.event.Reply.{Reply}
use Rattle.j39_follow.specs.declared.message.Sort.{Sort}
use Rattle.j39_follow.specs.declared.message.Sort.TheVariants.{Grouped, Other}
use Rattle.j39_follow.specs.declared.flow.sending.Aim.{Aim}
use Rattle.j39_follow.specs.declared.flow.sending.Aim.TheVariants as aims
use Rattle.j39_follow.specs.declared.flow.sending.Sending.{Sending}
use Rattle.j39_follow.specs.declared.address.who.Who.{Who}

-- what stands before a report: the number of the line, and its time
unfoldable pub stamp : ℕ → List ℕ → List ℕ
stamp number time = decimal number ++ (codes " " ++ (time ++ codes " "))

-- ---- claims

-- a unit by its NAME
unfoldable pub named_text : Plan → ℕ → List ℕ
named_text plan name = option_map_or (unit_label plan) (unit_of_name plan name) (name_text name)

-- the serial number of a box, where its unit is of any
unfoldable pub identity_text : Plan → ℕ → List ℕ
identity_text plan name = if is_of_any plan (unit_of_name plan name) then field (codes " identity ") (name % 2 ^ 21) else []

unfoldable pub claim_text : Plan → List ℕ → ℕ → ℕ → List ℕ
claim_text plan front name address =
    front ++ (codes "claim " ++ (named_text plan name ++ (field (codes "@") address ++ (identity_text plan name ++ 10 ∷ []))))

abbrev pub claim_line : Plan → List ℕ → Frame → List ℕ
claim_line plan front f = claim_text plan front (name_in f) f.ident.sa

unfoldable pub cannot_text : Plan → List ℕ → ℕ → List ℕ
cannot_text plan front name = front ++ (codes "cannot " ++ (named_text plan name ++ (identity_text plan name ++ 10 ∷ [])))

abbrev pub cannot_line : Plan → List ℕ → Frame → List ℕ
cannot_line plan front f = cannot_text plan front (name_in f)

-- the frame goes to all
abbrev pub is_to_all : Ident → Bool
is_to_all i = is_pdu2 (pgn_of i) || i.ps == global_address

-- from whom to whom, by what these lines report at the last of them
pub record IsWay (plan : Plan) (log : List Timed) (i : Ident) (text : List ℕ) : Type 0 where
  pub sender : Who
  pub receiver : Who
  pub sender_is : IsTaken plan log i.sa sender
  pub receiver_is : IsTaken plan log i.ps receiver
  pub text_is : text ≡ codes " from " ++ (who_text plan sender i.sa
      ++ (codes " to " ++ (if is_to_all i then codes "all" else who_text plan receiver i.ps)))

-- ---- messages

-- a message: its group's number and its bytes, the identifier of its last frame, and the priority of the frame where it came in one
pub record Message : Type 0 where
  pub pgn : ℕ
  pub bytes : List ℕ
  pub ident : Ident
  pub framed : Option ℕ

abbrev pub aim_at : Option ℕ → Aim
aim_at (Some u) = aims.One u
aim_at None = aims.Neither

-- who sent it to whom, by what these lines report at the last of them
pub record IsSendingOf (plan : Plan) (log : List Timed) (m : Message) (sent : Sending) : Type 0 where
  pub sender : Who
  pub receiver : Who
  pub sender_is : IsTaken plan log m.ident.sa sender
  pub receiver_is : IsTaken plan log m.ident.ps receiver
  pub sender_unit : sent.sender ≡ unit_of sender
  pub aim_is : sent.aim ≡ (if is_to_all m.ident then aims.All else aim_at (unit_of receiver))
  pub unaddressed_is : sent.unaddressed ≡ (is_some m.framed && is_pdu2 m.pgn)

-- the message that came in one frame
abbrev pub in_frame : Frame → Message
in_frame f = record { pgn = pgn_of f.ident; bytes = f.payload.items; ident = f.ident; framed = Some f.ident.priority }

-- ---- requests, and what units answer beside the groups

-- the request of the plan that a frame asks, if one fits
abbrev pub IsAsked : Plan → List Timed → Frame → Option ℕ → Type 0
IsAsked plan log f asked =
    (sent : Sending) × IsSendingOf plan log (in_frame f) sent × (asked ≡ asked_request plan (requested_group f) sent)

unfoldable pub asked_line : List ℕ → Frame → List ℕ → Option ℕ → List ℕ
asked_line front f way asked =
    front ++ (field (codes "request ") (requested_group f) ++ (way ++ (asked_text asked ++ 10 ∷ [])))

-- from whom an acknowledgement is, and who asked
unfoldable pub answer_way_text : Plan → Who → ℕ → Who → ℕ → List ℕ
answer_way_text plan sender source asker address =
    codes " from " ++ (who_text plan sender source
    ++ (codes " to " ++ (if address == global_address then codes "all" else who_text plan asker address)))

pub record IsAnswerWay (plan : Plan) (log : List Timed) (f : Frame) (text : List ℕ) : Type 0 where
  pub sender : Who
  pub asker : Who
  pub sender_is : IsTaken plan log f.ident.sa sender
  pub asker_is : IsTaken plan log (asker_or_source plan f) asker
  pub text_is : text ≡ answer_way_text plan sender f.ident.sa asker (asker_or_source plan f)

unfoldable pub answer_text : List ℕ → List ℕ → Frame → List ℕ → List ℕ
answer_text front word f way = front ++ (field word (acknowledged_group f) ++ (way ++ 10 ∷ []))

-- what is known of a control byte is written
abbrev pub answer_line : List ℕ → Frame → List ℕ → List ℕ
answer_line front f way = option_map_or (λ (word : List ℕ). answer_text front word f way) (control_word (control_of f)) []

-- what is written first at a frame: what it reports of addresses, what it asks for, or what it answers beside a group
abbrev pub notice_text : Plan → List ℕ → Frame → List ℕ → Option ℕ → List ℕ → List ℕ
notice_text plan front f way asked back =
    if claims_address f then claim_line plan front f
    else if cannot_claim f then cannot_line plan front f
    else if requests_group f then asked_line front f way asked
    else if acknowledges plan f then answer_line front f back
    else []

-- these being the lines up to it
pub record IsNotice (plan : Plan) (log : List Timed) (front : List ℕ) (f : Frame) (text : List ℕ) : Type 0 where
  pub way : List ℕ
  pub back : List ℕ
  pub asked : Option ℕ
  pub way_is : IsWay plan log f.ident way
  pub back_is : IsAnswerWay plan log f back
  pub asked_is : IsAsked plan log f asked
  pub text_is : text ≡ notice_text plan front f way asked back

abbrev pub reply_of : ℕ → Option ℕ → Aim → Reply
reply_of number sender aim = record { number = number; sender = sender; aim = aim }

-- for whom an acknowledgement is that names this address, behind which this one stands
abbrev pub answer_aim : ℕ → Who → Aim
answer_aim address asker = if address == global_address then aims.All else aim_at (unit_of asker)

-- what an acknowledgement refuses
abbrev pub refusal_events : Plan → Frame → Sending → Who → List Event
refusal_events plan f sent asker =
    if is_refusal f then Refused (reply_of (acknowledged_group f) sent.sender (answer_aim (asker_or_source plan f) asker)) ∷ [] else []

-- what a frame asks or refuses
abbrev pub notice_events : Plan → Frame → Sending → Who → List Event
notice_events plan f sent asker =
    if requests_group f then option_to_list (option_map Asked (asked_request plan (requested_group f) sent))
    else if acknowledges plan f then refusal_events plan f sent asker else []

abbrev pub brought_by : Plan → Sending → Sort → Event
brought_by plan sent sort = Brought (reply_of (number_of plan sort) sent.sender sent.aim)

-- the message that a frame is, and that which it ends, as these were sent
abbrev pub message_events : Plan → Sending → Sending → List Sort → List Event
message_events plan sent ended [] = []
message_events plan sent ended (sort ∷ sorts) = brought_by plan sent sort ∷ map (brought_by plan ended) sorts

abbrev pub frame_events : Plan → Frame → Sending → Sending → Who → List Sort → List Event
frame_events plan f sent ended asker sorts = notice_events plan f sent asker ++ message_events plan sent ended sorts

-- by the frame the receiver of a message says that it has it whole (SAE J1939-21, end of message acknowledgement)
abbrev pub reports_receipt : Frame → Bool
reports_receipt f = pgn_of f.ident == connection_management && slice_index f.payload.items 0 == end_control

-- the message that a frame ends goes the way of the frame, or the other way round where its receiver says so
abbrev pub ended_ident : Frame → Ident
ended_ident f = if reports_receipt f then turned f.ident else f.ident

abbrev pub ended_message : Frame → Message
ended_message f = record { pgn = pgn_of f.ident; bytes = []; ident = ended_ident f; framed = None }

-- what a frame reports of requests: what it asks or refuses, and then the messages that it is and ends
pub record AreEventsOf (plan : Plan) (log : List Timed) (f : Frame) (sorts : List Sort) (events : List Event) : Type 0 where
  pub sent : Sending
  pub ended : Sending
  pub asker : Who
  pub ended_is : IsSendingOf plan log (ended_message f) ended
  pub sent_is : IsSendingOf plan log (in_frame f) sent
  pub asker_is : IsTaken plan log (asker_or_source plan f) asker
  pub events_are : events ≡ frame_events plan f sent ended asker sorts

-- ---- groups

unfoldable pub flow_word : Option ℕ → List ℕ
flow_word None = codes " no flow"
flow_word (Some flow) = place_field (codes " flow ") flow

-- the priority of its frame, where it isn't the group's
unfoldable pub priority_text : ℕ → Option ℕ → List ℕ
priority_text planned None = []
priority_text planned (Some p) = if p == planned then [] else field (codes " priority ") p

unfoldable pub sent_text : GroupPlan → Option ℕ → Message → List ℕ
sent_text group flow m =
    flow_word flow ++ (priority_text group.priority m.framed ++ (codes " bytes " ++ (encode_upper m.bytes ++ 10 ∷ [])))

unfoldable pub message_line : GroupPlan → List ℕ → List ℕ → Option ℕ → Message → List ℕ
message_line group front way flow m = front ++ (codes "group " ++ (group.label.bytes ++ (way ++ sent_text group flow m)))

-- the message is reported so, and counts as this
abbrev pub IsGrouped : Plan → List Timed → List ℕ → Message → Sending → Option ℕ → Sort → List ℕ → Type 0
IsGrouped plan log front m sent (Some g) sort text =
    (sort ≡ Grouped g (fitting_flow plan g sent)) × (way : List ℕ) × IsWay plan log m.ident way
    × ValueAt (λ (group : GroupPlan). text ≡ message_line group front way (fitting_flow plan g sent) m ++ named_reading_lines plan group m.bytes)
    plan.groups.items g
IsGrouped plan log front m sent None sort text = (sort ≡ Other m.pgn) × (text ≡ [])

-- the group of a message, as what was sent reports it
abbrev pub IsGroupOfMessage : Plan → List Timed → Message → Option ℕ → Type 0
IsGroupOfMessage plan log m group =
    (sent : Sending) × IsSendingOf plan log m sent × IsSentGroup plan m.pgn m.bytes sent group

abbrev pub IsMessageReport : Plan → List Timed → List ℕ → Message → Sort → List ℕ → Type 0
IsMessageReport plan log front m sort text =
    (sent : Sending) × (group : Option ℕ) × IsSendingOf plan log m sent × IsSentGroup plan m.pgn m.bytes sent group
    × IsGrouped plan log front m sent group sort text

-- ---- frames of no planned group

-- the priority of a frame and its bytes
unfoldable pub priority_and_bytes : Frame → List ℕ
priority_and_bytes f = field (codes " priority ") f.ident.priority ++ (codes " bytes " ++ (encode_upper f.payload.items ++ 10 ∷ []))

-- a frame by the number of its group, from whom to whom it goes, its priority and its bytes
unfoldable pub frame_line : List ℕ → List ℕ → Frame → List ℕ
frame_line front way f = front ++ (field (codes "frame ") (pgn_of f.ident) ++ (way ++ priority_and_bytes f))

-- where all frames are reported, one of which nothing else is written has a line of its own
abbrev pub bare_text : Bool → List ℕ → List ℕ → List ℕ
bare_text all_frames written line = if all_frames && length written == 0 then line else []

abbrev pub IsBareText : Plan → Bool → List Timed → List ℕ → Frame → List ℕ → List ℕ → Type 0
IsBareText plan all_frames log front f written text =
    (way : List ℕ) × IsWay plan log f.ident way × (text ≡ bare_text all_frames written (frame_line front way f))
