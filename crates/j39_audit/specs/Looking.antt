-- What is noted at a frame.
use Rattle.std.specs.Prelude.{ℕ, nat_le, nat_lt, ◌==◌, ◌||◌, ◌&&◌, not, Bool, true, false, if◌then◌else◌, List, [], ◌∷◌, ◌++◌, length, Option, Some, None, is_some}
use Rattle.std.specs.FinSet.{contains}
use Rattle.std.specs.List.{slice_get}
use Rattle.std.specs.Option.{option_map_or}
use Rattle.j39_id.specs.Addresses.{in_pool, is_address, null_address}
use Rattle.j39_id.specs.FrameMeaning.{cannot_claim, claims_address, name_in, requested_group, requests_group}
use Rattle.j39_id.specs.Ident.{pgn_of}
use Rattle.j39_id.specs.Name.{is_arbitrary}
use Rattle.j39_id.specs.Pgn.{is_pdu2}
use Rattle.j39_id.specs.Services.{address_claimed, connection_management, data_transfer, request}
use Rattle.j39_id.specs.declared.frame.Frame.{Frame}
use Rattle.j39_network.specs.declared.plan.timing.Timing.{Timing}
use Rattle.j39_network.specs.declared.plan.unit_plan.UnitPlan.{UnitPlan}
use Rattle.j39_follow.specs.Who.{unit_of_name}
use Rattle.j39_log.specs.LogFrames.{IsPacket}
use Rattle.j39_tp.specs.declared.packet.Packet.{Packet}
use Rattle.j39_tp.specs.declared.packet.Packet.TheVariants.{Rts, Bam}
use Rattle.j39_audit.specs.Claiming.{HeardClaims, Heard, Knowledge, gives_way, has_strangers, is_address_of, knowledge, sender_at, was_asked_for, with_claim}
use Rattle.j39_audit.specs.Counting.{Noted}
use Rattle.j39_audit.specs.SentMessages.{SentMessage, deviation, first_group, flows_noted, noted_at, requests_noted}
use Rattle.j39_audit.specs.Settings.{Settings}
use Rattle.j39_audit.specs.declared.mark.Mark.{Mark}
use Rattle.j39_audit.specs.declared.mark.Word.{Word}
use Rattle.j39_audit.specs.declared.mark.Word.TheVariants.{Stranger, Nobody as NobodyThere, Address, Cannot, NoFlow, Urgent, Counted, Unsure, Break, Answered, Answers, Besides}
use Rattle.j39_audit.specs.declared.messages.Test.TheVariants.{Any}
use Rattle.j39_audit.specs.declared.senders.SureSender.{SureSender}
use Rattle.j39_audit.specs.declared.senders.SureSender.TheVariants.{Unit as OfUnit, Nobody, Unknown}

-- the transport packet of a frame, if it is one
abbrev pub IsPacketOf : Frame → Option Packet → Type 0
IsPacketOf f (Some p) = IsPacket f p
IsPacketOf f None = (p : Packet) → ¬ IsPacket f p

abbrev pub noted_if : Bool → Noted → List Noted
noted_if true n = n ∷ []
noted_if false n = []

abbrev pub mark_noted : ℕ → Option Mark → List Noted
mark_noted line None = []
mark_noted line (Some m) = record { mark = m; line = line; detail = 0 } ∷ []

-- ---- urgent frames

-- the priority is above that of all that isn't planned
abbrev pub is_above_unplanned : Settings → Frame → Bool
is_above_unplanned s f = option_map_or (λ (t : Timing). nat_lt f.ident.priority t.unplanned_priority) s.plan.timing false

-- frames of long messages may have the priority of these
abbrev pub may_be_transport : Settings → Frame → Bool
may_be_transport s f = option_map_or (λ (t : Timing). nat_le t.transport_priority f.ident.priority) s.plan.timing false

abbrev pub is_of_transport : Settings → Frame → Bool
is_of_transport s f = (pgn_of f.ident == connection_management || pgn_of f.ident == data_transfer) && may_be_transport s f

-- ---- claims

-- a unit of the plan claims
abbrev pub is_claiming : Settings → ℕ → Bool
is_claiming s u = option_map_or (λ (unit : UnitPlan). unit.claims) (slice_get s.plan.units.items u) false

abbrev pub noted_with : ℕ → Word → ℕ → ℕ → Noted
noted_with line word subject detail = record { mark = record { word = word; subject = subject; group = 0 }; line = line; detail = detail }

-- a unit that claims, by this NAME, has to give way to others that claimed before
abbrev pub has_to_give_way : Settings → Knowledge → ℕ → ℕ → Bool
has_to_give_way s k name u = is_claiming s u && gives_way s k u name

-- then it says that it can't claim an address, where its NAME doesn't let it choose
abbrev pub has_to_say_cannot : Settings → Knowledge → ℕ → ℕ → Bool
has_to_say_cannot s k name u = not (is_arbitrary name) && has_to_give_way s k name u

-- and else it may claim each of 128 to 247 that isn't kept free
abbrev pub may_move_to : Settings → Knowledge → ℕ → ℕ → ℕ → Bool
may_move_to s k name u a = is_arbitrary name && ((in_pool a && not (contains s.plan.keep_free a)) && has_to_give_way s k name u)

-- or it claims one of its own
abbrev pub may_claim : Settings → Knowledge → ℕ → ℕ → ℕ → Bool
may_claim s k name u a = (is_address_of s u a && is_claiming s u) || may_move_to s k name u a

-- a claim of a unit: it says that it can't, or claims where it may not or without leave, though it needn't; and its priority
abbrev pub claim_place : Settings → Knowledge → Frame → ℕ → ℕ → List Noted
claim_place s k f line u =
    if f.ident.sa == null_address then noted_if (not (has_to_say_cannot s k (name_in f) u)) (noted_at line Cannot u 0)
    else noted_if (not (may_claim s k (name_in f) u f.ident.sa)) (noted_with line Address u f.ident.sa)

abbrev pub claim_of_unit : Settings → Knowledge → Frame → ℕ → ℕ → List Noted
claim_of_unit s k f line u = claim_place s k f line u ++ noted_if (is_above_unplanned s f) (noted_at line Urgent u 0)

abbrev pub claim_noted : Settings → Knowledge → Frame → ℕ → Option ℕ → List Noted
claim_noted s k f line None = noted_if (not (has_strangers s)) (noted_with line Stranger f.ident.sa (name_in f))
claim_noted s k f line (Some u) = claim_of_unit s k f line u

-- ---- other frames

-- all but those of the network itself and of long messages
abbrev pub is_single : ℕ → Bool
is_single pgn = not (pgn == address_claimed || (pgn == request || (pgn == connection_management || pgn == data_transfer)))

abbrev pub single : ℕ → Frame → SentMessage
single u f = record {
  unit = u;
  source = f.ident.sa;
  number = pgn_of f.ident;
  destination = f.ident.ps;
  unaddressed = is_pdu2 (pgn_of f.ident);
  priority = Some f.ident.priority;
  size = length f.payload.items;
  bytes = Some f.payload.items;
}

-- a message of this size and number that is announced
abbrev pub announced_message : ℕ → Frame → ℕ → ℕ → SentMessage
announced_message u f size pgn = record {
  unit = u;
  source = f.ident.sa;
  number = pgn;
  destination = f.ident.ps;
  unaddressed = false;
  priority = None;
  size = size;
  bytes = None;
}

-- an announcement to one announces nothing but to another address up to 253
abbrev pub goes_to_another : Frame → Bool
goes_to_another f = is_address f.ident.ps && not (f.ident.ps == f.ident.sa)

abbrev pub announced_by : ℕ → Frame → Option Packet → Option SentMessage
announced_by u f (Some (Rts size limit pgn)) = if goes_to_another f then Some (announced_message u f size pgn) else None
announced_by u f (Some (Bam size pgn)) = Some (announced_message u f size pgn)
announced_by u f _ = None

-- the message that a frame is, or announces
abbrev pub message_sent : ℕ → Frame → Option Packet → Option SentMessage
message_sent u f packet = if is_single (pgn_of f.ident) then Some (single u f) else announced_by u f packet

abbrev pub requested : ℕ → Frame → SentMessage
requested u f = announced_message u f 0 (requested_group f)

-- a message that no flow may bring there, and that was asked for, answers; so it isn't told how it differs
abbrev pub is_no_flow : Word → Bool
is_no_flow NoFlow = true
is_no_flow _ = false

abbrev pub is_answer : Bool → Option Mark → Bool
is_answer asked None = false
is_answer asked (Some m) = asked && is_no_flow m.word

unfoldable pub answers_request : Settings → Knowledge → SentMessage → Bool
answers_request s k m = is_answer (was_asked_for s k false m.number m.source) (deviation s k m)

abbrev pub told_of : Bool → Option Mark → Option Mark
told_of answers mark = if answers then None else mark

abbrev pub told : Settings → Knowledge → SentMessage → Option Mark
told s k m = told_of (answers_request s k m) (deviation s k m)

-- but that it does, and from which group
abbrev pub answer_of : ℕ → Option Mark → List Noted
answer_of line None = []
answer_of line (Some m) = noted_at line Answered m.subject m.group ∷ noted_at line Answers m.subject 0 ∷ []

abbrev pub answer_noted : ℕ → Bool → Option Mark → List Noted
answer_noted line answers mark = if answers then answer_of line mark else []

-- what was asked for by none of the plan's requests
abbrev pub besides_noted : Settings → Knowledge → SentMessage → ℕ → List Noted
besides_noted s k m line = noted_if (was_asked_for s k true m.number m.source) (noted_at line Besides 0 0)

abbrev pub asked_noted : Settings → Knowledge → SentMessage → ℕ → List Noted
asked_noted s k m line = answer_noted line (answers_request s k m) (deviation s k m) ++ besides_noted s k m line

abbrev pub message_noted : Settings → Knowledge → ℕ → Option SentMessage → List Noted
message_noted s k line None = []
message_noted s k line (Some m) = mark_noted line (told s k m) ++ (flows_noted s k m line ++ asked_noted s k m line)

abbrev pub request_noted : Settings → Knowledge → ℕ → Frame → ℕ → List Noted
request_noted s k u f line = if requests_group f then requests_noted s k (requested u f) line else []

-- a priority above that of all that isn't planned is for planned groups, and for frames of long messages
abbrev pub is_of_own_group : Settings → ℕ → Frame → Bool
is_of_own_group s u f = is_single (pgn_of f.ident) && is_some (first_group s (single u f) Any)

abbrev pub is_urgent : Settings → ℕ → Frame → Bool
is_urgent s u f = is_above_unplanned s f && (not (is_of_transport s f) && not (is_of_own_group s u f))

-- a frame that counts for a unit
unfoldable pub counted : Settings → Knowledge → Frame → Option Packet → ℕ → ℕ → List Noted
counted s k f packet line u =
    ((noted_at line Counted u 0 ∷ []
    ++ message_noted s k line (message_sent u f packet))
    ++ request_noted s k u f line) ++ noted_if (is_urgent s u f) (noted_at line Urgent u 0)

abbrev pub sent_noted : Settings → Knowledge → Frame → Option Packet → ℕ → SureSender → List Noted
sent_noted s k f packet line (OfUnit u) = counted s k f packet line u
sent_noted s k f packet line Nobody = noted_at line NobodyThere f.ident.sa 0 ∷ []
sent_noted s k f packet line Unknown = noted_at line Unsure 0 0 ∷ []

-- ---- a frame

abbrev pub is_claim : Frame → Bool
is_claim f = claims_address f || cannot_claim f

abbrev pub claimant : Settings → Frame → Heard
claimant s f = record { unit = unit_of_name s.plan (name_in f); source = f.ident.sa; name = name_in f }

-- the claims behind a frame
abbrev pub claims_behind : Settings → Frame → HeardClaims → HeardClaims
claims_behind s f claims = if is_claim f then with_claim (claimant s f) claims else claims

-- what is noted at a frame, these being the claims before it
abbrev pub frame_noted : Settings → HeardClaims → Frame → Option Packet → ℕ → List Noted
frame_noted s claims f packet line =
    if is_claim f then claim_noted s (knowledge s claims) f line (unit_of_name s.plan (name_in f))
    else if is_address f.ident.sa then sent_noted s (knowledge s claims) f packet line (sender_at s (knowledge s claims) f.ident.sa)
    else []

-- the log breaks off just before it
abbrev pub break_noted : ℕ → Bool → List Noted
break_noted line broken = noted_if broken (noted_at line Break 0 0)
