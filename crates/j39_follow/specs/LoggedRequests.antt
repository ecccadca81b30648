-- Requests of a plan in a log, and what answers them (SAE J1939-21, request and acknowledgement).
use Rattle.std.specs.Prelude.{ℕ, ◌==◌, ◌&&◌, ◌||◌, nat_lt, not, Bool, true, false, if◌then◌else◌}
use Rattle.std.specs.Prelude.{List, [], codes, count_by, drop, length, map, slice_index, slice_index_or, Option, Some, None}
use Rattle.std.specs.List.{filter, position, zip}
use Rattle.j39_id.specs.Ident.{pgn_of}
use Rattle.j39_id.specs.Pgn.{number_from}
use Rattle.j39_id.specs.Services.{acknowledgement}
use Rattle.j39_id.specs.declared.frame.Frame.{Frame}
use Rattle.j39_network.specs.declared.plan.Plan.{Plan}
use Rattle.j39_network.specs.declared.plan.group_plan.GroupPlan.{GroupPlan}
use Rattle.j39_network.specs.declared.plan.request_plan.RequestPlan.{RequestPlan}
use Rattle.j39_network.specs.declared.plan.to.To.{To}
use Rattle.j39_network.specs.declared.plan.to.To.TheVariants.{All as ToAll, One as ToOne}
use Rattle.j39_text.specs.Texts.{place_field}
use Rattle.j39_follow.specs.Fits.{is_unit}
use Rattle.j39_follow.specs.declared.request.event.Event.{Event}
use Rattle.j39_follow.specs.declared.request.event.Event.TheVariants.{Asked, Brought, Refused}
use Rattle.j39_follow.specs.declared.request.event.Reply.{Reply}
use Rattle.j39_follow.specs.declared.message.Sort.{Sort}
use Rattle.j39_follow.specs.declared.message.Sort.TheVariants.{Grouped, Other}
use Rattle.j39_follow.specs.declared.flow.sending.Aim.{Aim}
use Rattle.j39_follow.specs.declared.flow.sending.Aim.TheVariants.{All, One}
use Rattle.j39_follow.specs.declared.flow.sending.Sending.{Sending}

-- the number of the group at a place
abbrev pub number_of_group : Plan → ℕ → ℕ
number_of_group plan place = slice_index_or (map (λ (g : GroupPlan). g.pgn) plan.groups.items) place 0

-- that of the group that a request asks for
abbrev pub asked_number : Plan → RequestPlan → ℕ
asked_number plan r = number_of_group plan r.group

-- ---- asking

-- to all, or to this one unit
abbrev pub is_aimed_so : To → Aim → Bool
is_aimed_so ToAll All = true
is_aimed_so (ToOne unit) (One receiver) = unit == receiver
is_aimed_so _ _ = false

-- a request of the plan fits a frame that asks for this number: it is from its unit, to its unit or to all
abbrev pub is_asked_by : Plan → ℕ → Sending → RequestPlan → Bool
is_asked_by plan number sent r = asked_number plan r == number && (is_unit sent.sender r.sender && is_aimed_so r.to sent.aim)

-- the first that fits
abbrev pub asked_request : Plan → ℕ → Sending → Option ℕ
asked_request plan number sent = position (is_asked_by plan number sent) plan.requests.items

-- it stands behind the line of the frame
unfoldable pub asked_text : Option ℕ → List ℕ
asked_text None = []
asked_text (Some place) = place_field (codes " request ") place

-- ---- acknowledgements

-- eight bytes of the group of acknowledgements on data page 0
abbrev pub is_acknowledgement : Frame → Bool
is_acknowledgement f = f.ident.edp == 0 && (pgn_of f.ident == acknowledgement && length f.payload.items == 8)

-- one in the log of a plan that has requests
abbrev pub acknowledges : Plan → Frame → Bool
acknowledges plan f = nat_lt 0 (length plan.requests.items) && is_acknowledgement f

-- the control byte
abbrev pub control_of : Frame → ℕ
control_of f = slice_index f.payload.items 0

-- what it says, if anything is known of it
unfoldable pub control_word : ℕ → Option (List ℕ)
control_word control =
    if control == 0 then Some (codes "acknowledged ") else if control == 1 then Some (codes "refused ")
    else if control == 2 then Some (codes "denied ") else if control == 3 then Some (codes "busy ") else None

-- it says that the group doesn't come
abbrev pub is_refusal : Frame → Bool
is_refusal f = nat_lt 0 (control_of f) && nat_lt (control_of f) 4

-- the address of who asked
abbrev pub asker_address : Frame → ℕ
asker_address f = slice_index f.payload.items 4

-- the address of which the frame speaks beside its own ones; of another frame it is the source
abbrev pub asker_or_source : Plan → Frame → ℕ
asker_or_source plan f = if acknowledges plan f then asker_address f else f.ident.sa

-- the group that was asked for
abbrev pub acknowledged_group : Frame → ℕ
acknowledged_group f = number_from f.payload.items 5

-- ---- what concerns requests

-- the number of what a message counts as
abbrev pub counted_number : Plan → Sort → ℕ
counted_number plan (Grouped group flow) = number_of_group plan group
counted_number plan (Other pgn) = pgn

-- this unit was asked: of a request to all each other one
abbrev pub was_asked : To → ℕ → ℕ → Bool
was_asked ToAll asker unit = not (unit == asker)
was_asked (ToOne asked) asker unit = unit == asked

abbrev pub is_of_asked : RequestPlan → Option ℕ → Bool
is_of_asked r None = false
is_of_asked r (Some unit) = was_asked r.to r.sender unit

-- the asker gets it
abbrev pub reaches_asker : RequestPlan → Aim → Bool
reaches_asker r All = true
reaches_asker r (One unit) = unit == r.sender
reaches_asker r _ = false

-- it is of the group that is asked for, from a unit that was asked, for the asker
abbrev pub replies_to : Plan → RequestPlan → Reply → Bool
replies_to plan r reply =
    reply.number == asked_number plan r && (is_of_asked r reply.sender && reaches_asker r reply.aim)

abbrev pub is_for_one_unit : To → Bool
is_for_one_unit ToAll = false
is_for_one_unit (ToOne unit) = true

-- the event asks the request at this place
abbrev pub asks_request : ℕ → Event → Bool
asks_request place (Asked asked) = asked == place
asks_request place _ = false

-- it brings what is asked for
abbrev pub answers : Plan → RequestPlan → Event → Bool
answers plan r (Brought reply) = replies_to plan r reply
answers plan r _ = false

-- it refuses it; a request to all can't be refused
abbrev pub refuses : Plan → RequestPlan → Event → Bool
refuses plan r (Refused reply) = is_for_one_unit r.to && replies_to plan r reply
refuses plan r _ = false

abbrev pub concerns : Plan → ℕ → RequestPlan → Event → Bool
concerns plan place r e = asks_request place e || (answers plan r e || refuses plan r e)

-- each two events that follow one another among those that concern a request
abbrev pub turns : Plan → ℕ → RequestPlan → List Event → List (Event × Event)
turns plan place r events =
    let own = filter (concerns plan place r) events in
    zip own (drop 1 own)

-- how often it was asked; and how often what came next was an answer, or a refusal
abbrev pub times_asked : ℕ → List Event → ℕ
times_asked place events = count_by (asks_request place) events

abbrev pub times_answered : Plan → ℕ → RequestPlan → List Event → ℕ
times_answered plan place r events = count_by (λ (t : Event × Event). asks_request place t.0 && answers plan r t.1) (turns plan place r events)

abbrev pub times_refused : Plan → ℕ → RequestPlan → List Event → ℕ
times_refused plan place r events = count_by (λ (t : Event × Event). asks_request place t.0 && refuses plan r t.1) (turns plan place r events)
