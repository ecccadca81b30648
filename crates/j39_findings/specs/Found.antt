-- The findings of a plan as a list: a test for each statement, and the list of all that pass.
use Rattle.std.specs.Prelude.{ℕ, ◌+◌, ◌-◌, ◌*◌, ◌/◌, List, [], ◌++◌, Bool, true, false, not, ◌&&◌, ◌||◌, ◌==◌, nat_le, nat_lt, if◌then◌else◌, count_by, Option}
use Rattle.std.specs.Prelude.{Some, None}
use Rattle.std.specs.List.{slice_get, list_any}
use Rattle.std.specs.Option.{option_map_or}
use Rattle.std.specs.Str.{bytes_eq}
use Rattle.std.specs.FinSet.{FinSet, contains}
use Rattle.std.specs.Ordering.{nat_cmp}
use Rattle.j39_claim.specs.AddressSets.{free_count, is_free}
use Rattle.j39_id.specs.Addresses.{in_pool}
use Rattle.j39_id.specs.Limits.{frame_bytes}
use Rattle.j39_id.specs.Name.{is_arbitrary}
use Rattle.j39_id.specs.Pgn.{is_pgn, is_pdu2, extended_page}
use Rattle.j39_id.specs.Proprietary.{is_proprietary}
use Rattle.j39_id.specs.Services.{is_service}
use Rattle.j39_signal.specs.Selectors.{differ_in_value, selector_end}
use Rattle.j39_signal.specs.declared.signal_parts.SignalParts.{SignalParts}
use Rattle.j39_signal.specs.Places.{width_fits, is_inside, shares_bit, end_of, further}
use Rattle.j39_network.specs.Kinds.{may_be_one}
use Rattle.j39_search.specs.ListPlaces.{found_if, each, pairs, in_each}
use Rattle.j39_network.specs.Records.{record_count}
use Rattle.j39_network.specs.SignalPlaces.{room_of_signal}
use Rattle.j39_network.specs.TextPlaces.{last_byte}
use Rattle.j39_network.specs.declared.plan.Plan.{Plan}
use Rattle.j39_network.specs.declared.plan.unit_plan.UnitPlan.{UnitPlan}
use Rattle.j39_network.specs.declared.plan.group_plan.GroupPlan.{GroupPlan}
use Rattle.j39_network.specs.declared.plan.flow_plan.FlowPlan.{FlowPlan}
use Rattle.j39_network.specs.declared.plan.need_plan.NeedPlan.{NeedPlan}
use Rattle.j39_network.specs.declared.plan.request_plan.RequestPlan.{RequestPlan}
use Rattle.j39_network.specs.declared.plan.text_plan.TextPlan.{TextPlan}
use Rattle.j39_network.specs.declared.plan.to.To.{To}
use Rattle.j39_network.specs.declared.plan.to.To.TheVariants.{All, One}
use Rattle.j39_findings.specs.declared.checking.finding.Finding.{Finding}
use Rattle.j39_findings.specs.declared.checking.finding.Finding.TheVariants.{SameName, SameFixedAddress, TooFewAddresses, BadPgn, SamePgn, SignalWidth}
use Rattle.j39_findings.specs.declared.checking.finding.Finding.TheVariants.{SignalOutside, SignalOverlap, FlowToOne, FlowToSelf, FlowRepeated, KeptAddress}
use Rattle.j39_findings.specs.declared.checking.finding.Finding.TheVariants.{PrivateUnsent, RecordOverlap, TextOutside, NeedUnmet, RequestUnanswered}
use Rattle.j39_findings.specs.declared.checking.finding.Finding.TheVariants.{RequestUnheard, AnswerAstray, WhenOutside, RequestRepeated, SilentAddress}
use Rattle.j39_findings.specs.declared.checking.finding.Finding.TheVariants.{SilentInPool, FlowContested}
use Rattle.j39_network.specs.Serving.{is_to_one, is_to, have_same_receiver, serves, is_served, meets}

-- ---- units

abbrev pub is_fixed : UnitPlan → Bool
is_fixed unit = not (is_arbitrary unit.name)

abbrev pub have_same_fixed_address : UnitPlan → UnitPlan → Bool
have_same_fixed_address u v = is_fixed u && (is_fixed v && (u.address == v.address && (u.claims && v.claims)))

-- whether a unit needs an address of the pool that isn't kept free, and how many are needed
abbrev pub needs_pool_address : FinSet nat_cmp → UnitPlan → Bool
needs_pool_address kept unit = is_arbitrary unit.name || (in_pool unit.address && is_free kept unit.address)

-- with so many strangers, each of which needs one too
abbrev pub needed_addresses : FinSet nat_cmp → ℕ → List UnitPlan → ℕ
needed_addresses kept strangers units = count_by (needs_pool_address kept) units + strangers

abbrev pub too_few_addresses : FinSet nat_cmp → ℕ → List UnitPlan → List Finding
too_few_addresses kept strangers units =
    found_if (nat_lt (free_count kept) (needed_addresses kept strangers units)) (TooFewAddresses (needed_addresses kept strangers units))

unfoldable pub unit_findings : FinSet nat_cmp → ℕ → List UnitPlan → List Finding
unit_findings kept strangers units =
    pairs may_be_one SameName units ++ (pairs have_same_fixed_address SameFixedAddress units ++ too_few_addresses kept strangers units)

-- ---- units at addresses that are kept free

abbrev pub prefers_kept : FinSet nat_cmp → UnitPlan → Bool
prefers_kept kept unit = is_arbitrary unit.name && contains kept unit.address

unfoldable pub kept_findings : FinSet nat_cmp → List UnitPlan → List Finding
kept_findings kept units = each (prefers_kept kept) KeptAddress 0 units

-- ---- groups

abbrev pub is_for_no_plan : ℕ → Bool
is_for_no_plan pgn = not (is_pgn pgn) || (nat_le extended_page pgn || is_service pgn)

abbrev pub is_wrongly_private : GroupPlan → Bool
is_wrongly_private group = (not group.private && is_proprietary group.pgn) || (group.private && not (is_proprietary group.pgn))

abbrev pub has_bad_pgn : GroupPlan → Bool
has_bad_pgn group = is_for_no_plan group.pgn || is_wrongly_private group

-- each message of the group, or some, is sent in one frame that names no destination
abbrev pub is_one_frame_to_all : GroupPlan → Bool
is_one_frame_to_all group = is_pdu2 group.pgn && nat_le group.most frame_bytes

abbrev pub may_be_one_frame_to_all : GroupPlan → Bool
may_be_one_frame_to_all group = is_pdu2 group.pgn && nat_le group.length frame_bytes

abbrev pub is_group_of : (GroupPlan → Bool) → Option GroupPlan → Bool
is_group_of test None = false
is_group_of test (Some group) = test group

abbrev pub sends : List GroupPlan → GroupPlan → FlowPlan → Bool
sends groups group flow = is_group_of (λ sent. bytes_eq sent.label.bytes group.label.bytes) (slice_get groups flow.group)

abbrev pub do_receivers_meet : GroupPlan → GroupPlan → FlowPlan → FlowPlan → Bool
do_receivers_meet g h f k =
    not (is_to_one f.to) || (not (is_to_one k.to) || (have_same_receiver f.to k.to || (may_be_one_frame_to_all g && may_be_one_frame_to_all h)))

-- whether the second flow sends the other group from the same unit to receivers that meet those of the first
abbrev pub sends_beside : List GroupPlan → GroupPlan → GroupPlan → FlowPlan → FlowPlan → Bool
sends_beside groups g h f k = k.sender == f.sender && (sends groups h k && do_receivers_meet g h f k)

abbrev pub is_sent_beside : List GroupPlan → List FlowPlan → GroupPlan → GroupPlan → FlowPlan → Bool
is_sent_beside groups flows g h f = list_any (sends_beside groups g h f) flows

abbrev pub sends_first : List GroupPlan → List FlowPlan → GroupPlan → GroupPlan → FlowPlan → Bool
sends_first groups flows g h f = sends groups g f && is_sent_beside groups flows g h f

abbrev pub are_sent_together : List GroupPlan → List FlowPlan → GroupPlan → GroupPlan → Bool
are_sent_together groups flows g h = list_any (sends_first groups flows g h) flows

abbrev pub have_same_pgn : List GroupPlan → List FlowPlan → GroupPlan → GroupPlan → Bool
have_same_pgn groups flows g h =
    g.pgn == h.pgn && (not (differ_in_value g.when h.when) && (not g.private || (not h.private || are_sent_together groups flows g h)))

unfoldable pub group_findings : List GroupPlan → List FlowPlan → List Finding
group_findings groups flows = each has_bad_pgn BadPgn 0 groups ++ pairs (have_same_pgn groups flows) SamePgn groups

-- ---- private groups that nobody sends

abbrev pub is_sent : List GroupPlan → List FlowPlan → GroupPlan → Bool
is_sent groups flows group = list_any (sends groups group) flows

abbrev pub is_private_unsent : List GroupPlan → List FlowPlan → GroupPlan → Bool
is_private_unsent groups flows group = group.private && not (is_sent groups flows group)

unfoldable pub unsent_findings : List GroupPlan → List FlowPlan → List Finding
unsent_findings groups flows = each (is_private_unsent groups flows) PrivateUnsent 0 groups

-- ---- signals

abbrev pub has_other_width : SignalParts → Bool
has_other_width signal = not (width_fits signal.kind signal.start signal.bits)

abbrev pub ends_outside : ℕ → ℕ → SignalParts → Bool
ends_outside length most signal = not (is_inside (room_of_signal length most signal) signal)

abbrev pub width_findings : ℕ → GroupPlan → List Finding
width_findings g group = each has_other_width (SignalWidth g) 0 group.signals.items

abbrev pub outside_findings : ℕ → GroupPlan → List Finding
outside_findings g group = each (ends_outside group.length group.most) (SignalOutside g) 0 group.signals.items

abbrev pub overlap_findings : ℕ → GroupPlan → List Finding
overlap_findings g group = pairs shares_bit (SignalOverlap g) group.signals.items

unfoldable pub signal_findings : List GroupPlan → List Finding
signal_findings groups = in_each width_findings 0 groups ++ (in_each outside_findings 0 groups ++ in_each overlap_findings 0 groups)

-- ---- records

-- the first record behind the first one in which s ends behind the first bit of t
abbrev pub first_near : ℕ → SignalParts → SignalParts → ℕ
first_near every s t = (t.start - end_of s) / (8 * every) + 1

-- a later record comes onto t only where this one does: each further one has left behind what this one hasn't reached
abbrev pub comes_onto : ℕ → ℕ → SignalParts → SignalParts → Bool
comes_onto every count s t = nat_lt (first_near every s t) count && shares_bit (further (every * first_near every s t) s) t

abbrev pub do_records_meet : ℕ → ℕ → ℕ → ℕ → SignalParts → SignalParts → Bool
do_records_meet every count i j s t =
    if t.repeated then nat_le i j && (comes_onto every count s t || comes_onto every count t s) else comes_onto every count s t

-- what is found of the signal at place s of the g-th group, against each of the group's signals
abbrev pub overlaps_of : ℕ → ℕ → ℕ → List SignalParts → ℕ → SignalParts → List Finding
overlaps_of every count g signals s signal =
    if signal.repeated
    then in_each (λ t other. found_if (do_records_meet every count s t signal other) (RecordOverlap g s t)) 0 signals
    else []

abbrev pub group_overlaps : ℕ → GroupPlan → List Finding
group_overlaps g group =
    option_map_or (λ every. in_each (overlaps_of every (record_count group group.most) g group.signals.items) 0 group.signals.items) group.every []

unfoldable pub record_findings : List GroupPlan → List Finding
record_findings groups = in_each group_overlaps 0 groups

-- ---- texts

abbrev pub lies_outside : GroupPlan → TextPlan → Bool
lies_outside group text = nat_lt (group.length + 1) text.byte || nat_lt group.most (last_byte text)

abbrev pub outside_text_findings : ℕ → GroupPlan → List Finding
outside_text_findings g group = each (lies_outside group) (TextOutside g) 0 group.texts.items

unfoldable pub text_findings : List GroupPlan → List Finding
text_findings groups = in_each outside_text_findings 0 groups

-- ---- flows

abbrev pub cannot_go_to_one : List GroupPlan → FlowPlan → Bool
cannot_go_to_one groups flow = is_to_one flow.to && is_group_of is_one_frame_to_all (slice_get groups flow.group)

abbrev pub goes_to_its_sender : FlowPlan → Bool
goes_to_its_sender flow = is_to flow.to flow.sender

abbrev pub are_one_flow : FlowPlan → FlowPlan → Bool
are_one_flow f h = f.group == h.group && (f.sender == h.sender && have_same_receiver f.to h.to)

unfoldable pub flow_findings : List GroupPlan → List FlowPlan → List Finding
flow_findings groups flows =
    each (cannot_go_to_one groups) FlowToOne 0 flows ++ (each goes_to_its_sender FlowToSelf 0 flows ++ pairs are_one_flow FlowRepeated flows)

-- ---- requests

abbrev pub serves_one : RequestPlan → FlowPlan → Bool
serves_one request flow = serves request flow && is_to_one flow.to

abbrev pub serves_all : RequestPlan → FlowPlan → Bool
serves_all request flow = serves request flow && not (is_to_one flow.to)

abbrev pub is_served_to_one : List FlowPlan → RequestPlan → Bool
is_served_to_one flows request = list_any (serves_one request) flows

abbrev pub is_served_to_all : List FlowPlan → RequestPlan → Bool
is_served_to_all flows request = list_any (serves_all request) flows

abbrev pub goes_unanswered : List FlowPlan → RequestPlan → Bool
goes_unanswered flows request = is_to_one request.to && not (is_served flows request)

abbrev pub goes_unheard : List FlowPlan → RequestPlan → Bool
goes_unheard flows request = not (is_to_one request.to) && not (is_served flows request)

abbrev pub may_name_receiver : List GroupPlan → RequestPlan → Bool
may_name_receiver groups request = is_group_of (λ group. not (is_one_frame_to_all group)) (slice_get groups request.group)

-- one is asked, and it is answered to all only; or all are asked, and answered to one each only
abbrev pub is_one_astray : List GroupPlan → List FlowPlan → RequestPlan → Bool
is_one_astray groups flows request =
    is_to_one request.to && (may_name_receiver groups request && (is_served_to_all flows request && not (is_served_to_one flows request)))

abbrev pub is_all_astray : List FlowPlan → RequestPlan → Bool
is_all_astray flows request = not (is_to_one request.to) && (is_served_to_one flows request && not (is_served_to_all flows request))

abbrev pub is_answered_astray : List GroupPlan → List FlowPlan → RequestPlan → Bool
is_answered_astray groups flows request = is_one_astray groups flows request || is_all_astray flows request

abbrev pub ask_for_one_number : List GroupPlan → RequestPlan → RequestPlan → Bool
ask_for_one_number groups r s = is_group_of (λ g. is_group_of (λ h. g.pgn == h.pgn) (slice_get groups s.group)) (slice_get groups r.group)

abbrev pub ask_the_same : List GroupPlan → RequestPlan → RequestPlan → Bool
ask_the_same groups r s = ask_for_one_number groups r s && (r.sender == s.sender && have_same_receiver r.to s.to)

-- the bits of a group's selector end behind its shortest messages
abbrev pub is_selector_outside : GroupPlan → Bool
is_selector_outside group = option_map_or (λ w. nat_lt (8 * group.length) (selector_end w)) group.when false

-- of requests, and among them by its number of groups whose selectors end outside
unfoldable pub request_findings : List GroupPlan → List FlowPlan → List RequestPlan → List Finding
request_findings groups flows requests =
    each (goes_unanswered flows) RequestUnanswered 0 requests
    ++ (each (goes_unheard flows) RequestUnheard 0 requests
    ++ (each (is_answered_astray groups flows) AnswerAstray 0 requests
    ++ (each is_selector_outside WhenOutside 0 groups ++ pairs (ask_the_same groups) RequestRepeated requests)))

-- ---- needs that no flow meets

abbrev pub is_unmet : List RequestPlan → List FlowPlan → NeedPlan → Bool
is_unmet requests flows need = not (list_any (meets requests need) flows)

unfoldable pub need_findings : List RequestPlan → List FlowPlan → List NeedPlan → List Finding
need_findings requests flows needs = each (is_unmet requests flows) NeedUnmet 0 needs

-- ---- units that never claim

abbrev pub have_silent_address : UnitPlan → UnitPlan → Bool
have_silent_address u v = u.address == v.address && not (u.claims && v.claims)

abbrev pub is_silent_in_pool : FinSet nat_cmp → ℕ → UnitPlan → Bool
is_silent_in_pool kept strangers unit = not unit.claims && (in_pool unit.address && (not (contains kept unit.address) || nat_lt 0 strangers))

unfoldable pub silent_findings : FinSet nat_cmp → ℕ → List UnitPlan → List Finding
silent_findings kept strangers units = pairs have_silent_address SilentAddress units ++ each (is_silent_in_pool kept strangers) SilentInPool 0 units

-- ---- ends of flows on a live bus

-- more than one unit is planned at an address
abbrev pub is_shared : List UnitPlan → ℕ → Bool
is_shared units address = nat_lt 1 (count_by (λ unit. unit.address == address) units)

-- a unit may have to move: it may choose, and one of smaller NAME is planned at its address
abbrev pub has_to_move : List UnitPlan → UnitPlan → Bool
has_to_move units unit = is_arbitrary unit.name && list_any (λ other. other.address == unit.address && nat_lt other.name unit.name) units

-- whether a unit is alone at its address
abbrev pub is_unit_alone : FinSet nat_cmp → ℕ → List UnitPlan → UnitPlan → Bool
is_unit_alone kept strangers units unit =
    not (is_shared units unit.address)
    && (not (in_pool unit.address) || (not (nat_lt 0 strangers) && (contains kept unit.address || not (list_any (has_to_move units) units))))

-- whether an end of a flow isn't, where this says who is
abbrev pub is_end_contested : (UnitPlan → Bool) → List UnitPlan → ℕ → Bool
is_end_contested alone units u = option_map_or (λ unit. not (alone unit)) (slice_get units u) true

abbrev pub is_receiver_contested : (UnitPlan → Bool) → List UnitPlan → To → Bool
is_receiver_contested alone units All = false
is_receiver_contested alone units (One receiver) = is_end_contested alone units receiver

abbrev pub is_contested : (UnitPlan → Bool) → List UnitPlan → FlowPlan → Bool
is_contested alone units flow = is_end_contested alone units flow.sender || is_receiver_contested alone units flow.to

unfoldable pub contested_findings : Bool → FinSet nat_cmp → ℕ → List UnitPlan → List FlowPlan → List Finding
contested_findings live kept strangers units flows =
    if live then each (is_contested (is_unit_alone kept strangers units) units) FlowContested 0 flows else []

-- ---- the whole list

unfoldable pub found : Plan → List Finding
found plan =
    unit_findings plan.keep_free plan.strangers plan.units.items ++ (group_findings plan.groups.items plan.flows.items ++ (signal_findings plan.groups.items
    ++ (flow_findings plan.groups.items plan.flows.items ++ (kept_findings plan.keep_free plan.units.items
    ++ (unsent_findings plan.groups.items plan.flows.items
    ++ (record_findings plan.groups.items ++ (text_findings plan.groups.items
    ++ (need_findings plan.requests.items plan.flows.items plan.needs.items
    ++ (request_findings plan.groups.items plan.flows.items plan.requests.items
    ++ (silent_findings plan.keep_free plan.strangers plan.units.items
    ++ contested_findings plan.live plan.keep_free plan.strangers plan.units.items plan.flows.items))))))))))
