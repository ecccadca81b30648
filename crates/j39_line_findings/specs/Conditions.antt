-- On which conditions a variant has a finding that doesn't count what is there: something is there, and something else isn't.
use Rattle.std.specs.Prelude.{ℕ, ◌==◌, List, [], ◌∷◌, Bool, true, false, ◌&&◌, not, if◌then◌else◌, is_some, length}
use Rattle.std.specs.List.{list_all, list_any, range_with_len, slice_get}
use Rattle.std.specs.Option.{option_map_or}
use Rattle.j39_findings.specs.Found.{may_name_receiver, sends, sends_beside, serves_all, serves_one}
use Rattle.j39_findings.specs.declared.checking.finding.Finding.{Finding}
use Rattle.j39_findings.specs.declared.checking.finding.Finding.TheVariants.{SameName, SameFixedAddress, TooFewAddresses, BadPgn, SamePgn, SignalWidth}
use Rattle.j39_findings.specs.declared.checking.finding.Finding.TheVariants.{SignalOutside, SignalOverlap, FlowToOne, FlowToSelf, FlowRepeated, KeptAddress}
use Rattle.j39_findings.specs.declared.checking.finding.Finding.TheVariants.{PrivateUnsent, RecordOverlap, TextOutside, NeedUnmet, RequestUnanswered}
use Rattle.j39_findings.specs.declared.checking.finding.Finding.TheVariants.{RequestUnheard, AnswerAstray, WhenOutside, RequestRepeated, SilentAddress}
use Rattle.j39_findings.specs.declared.checking.finding.Finding.TheVariants.{SilentInPool, FlowContested}
use Rattle.j39_load.specs.LineLists.{lines_of_each}
use Rattle.j39_load.specs.declared.findings.load_finding.LoadFinding.{LoadFinding}
use Rattle.j39_load.specs.declared.findings.load_finding.LoadFinding.TheVariants.{NoPeriod}
use Rattle.j39_network.specs.Serving.{is_to_one, serves}
use Rattle.j39_network.specs.declared.plan.flow_plan.FlowPlan.{FlowPlan}
use Rattle.j39_network.specs.declared.plan.group_plan.GroupPlan.{GroupPlan}
use Rattle.j39_network.specs.declared.plan.need_plan.NeedPlan.{NeedPlan}
use Rattle.j39_network.specs.declared.plan.request_plan.RequestPlan.{RequestPlan}
use Rattle.j39_variants.specs.declared.line.ProductLine.{ProductLine}
use Rattle.j39_line_findings.specs.FlowEnds.{are_at_one_address, has_end_in_pool, is_end}
use Rattle.j39_line_findings.specs.FullVariants.{provides}
use Rattle.j39_line_findings.specs.MissedNeeds.{is_group_there, is_need_asked_for, is_unit_there}
use Rattle.j39_line_findings.specs.There.{is_flow_there, is_request_there}
use Rattle.j39_line_findings.specs.declared.line_finding.LineFinding.{LineFinding}
use Rattle.j39_line_findings.specs.declared.line_finding.LineFinding.TheVariants.{OfPlan, OfLoad}
use Rattle.j39_line_findings.specs.declared.part.LinePart.{LinePart}
use Rattle.j39_line_findings.specs.declared.part.LinePart.TheVariants.{Unit as AUnit, Group, Flow, Need, Request}

-- all of these parts are there together, and of each of those lists some part isn't
pub record Condition : Type 0 where
  pub together : List LinePart
  pub lacking : List (List LinePart)

-- ---- whether a variant meets a condition

-- a need is there where it is asked for
abbrev pub is_part_there : ProductLine → List ℕ → LinePart → Bool
is_part_there line variant (AUnit u) = is_unit_there line variant u
is_part_there line variant (Group g) = is_group_there line variant g
is_part_there line variant (Flow f) = is_flow_there line variant f
is_part_there line variant (Need d) = is_need_asked_for line variant d
is_part_there line variant (Request r) = is_request_there line variant r

abbrev pub are_there : ProductLine → List ℕ → List LinePart → Bool
are_there line variant parts = list_all (is_part_there line variant) parts

abbrev pub meets_condition : ProductLine → List ℕ → Condition → Bool
meets_condition line variant condition =
    are_there line variant condition.together && not (list_any (are_there line variant) condition.lacking)

abbrev pub meets_any : ProductLine → List ℕ → List Condition → Bool
meets_any line variant conditions = list_any (meets_condition line variant) conditions

-- ---- lists of parts

-- these together, whatever else is there
abbrev pub where_together : List LinePart → List Condition
where_together parts = record { together = parts; lacking = [] } ∷ []

-- the flows of the file that pass a test, each by itself
abbrev pub flow_where : (FlowPlan → Bool) → ℕ → FlowPlan → List (List LinePart)
flow_where test f flow = if test flow then (Flow f ∷ []) ∷ [] else []

abbrev pub flows_where : ProductLine → (FlowPlan → Bool) → List (List LinePart)
flows_where line test = lines_of_each (flow_where test) 0 line.plan.flows.items

-- ---- of two groups of one number

-- both are there; of two private ones, and two flows by which one unit sends both to receivers that meet
abbrev pub sent_with : ProductLine → ℕ → ℕ → GroupPlan → GroupPlan → ℕ → FlowPlan → ℕ → FlowPlan → List Condition
sent_with line g h group other f flow k beside = if sends_beside line.plan.groups.items group other flow beside
    then where_together (Group g ∷ Group h ∷ Flow f ∷ Flow k ∷ []) else []

abbrev pub sent_with_any : ProductLine → ℕ → ℕ → GroupPlan → GroupPlan → ℕ → FlowPlan → List Condition
sent_with_any line g h group other f flow = if sends line.plan.groups.items group flow
    then lines_of_each (sent_with line g h group other f flow) 0 line.plan.flows.items else []

abbrev pub sent_together : ProductLine → ℕ → ℕ → GroupPlan → GroupPlan → List Condition
sent_together line g h group other = lines_of_each (sent_with_any line g h group other) 0 line.plan.flows.items

abbrev pub is_private : ProductLine → ℕ → Bool
is_private line g = option_map_or (λ group. group.private) (slice_get line.plan.groups.items g) false

abbrev pub conditions_of_groups : ProductLine → ℕ → ℕ → List Condition
conditions_of_groups line g h = if is_private line g && is_private line h
    then option_map_or (λ group. option_map_or (sent_together line g h group) (slice_get line.plan.groups.items h) []) (slice_get line.plan.groups.items g) []
    else where_together (Group g ∷ Group h ∷ [])

-- ---- what isn't there

-- a private group is there, and no flow of it
abbrev pub unsent_condition : ProductLine → ℕ → GroupPlan → List Condition
unsent_condition line g group = if group.private
    then record { together = Group g ∷ []; lacking = flows_where line (sends line.plan.groups.items group) } ∷ [] else []

-- a need is asked for, and no flow that brings what is needed is there, with a request where it is only asked for
abbrev pub answer_with : ℕ → FlowPlan → ℕ → RequestPlan → List (List LinePart)
answer_with f flow r request = if serves request flow then (Flow f ∷ Request r ∷ []) ∷ [] else []

abbrev pub source_parts : ProductLine → NeedPlan → ℕ → FlowPlan → List (List LinePart)
source_parts line need f flow = if not (provides need flow) then []
    else if flow.on_request then lines_of_each (answer_with f flow) 0 line.plan.requests.items else (Flow f ∷ []) ∷ []

abbrev pub sources_of : ProductLine → NeedPlan → List (List LinePart)
sources_of line need = lines_of_each (source_parts line need) 0 line.plan.flows.items

abbrev pub unmet_condition : ProductLine → ℕ → NeedPlan → List Condition
unmet_condition line d need = record { together = Need d ∷ []; lacking = sources_of line need } ∷ []

-- a request is there, and no flow that answers it
abbrev pub unserved_condition : ProductLine → ℕ → RequestPlan → List Condition
unserved_condition line r request = record { together = Request r ∷ []; lacking = flows_where line (serves request) } ∷ []

-- a request and a flow that answers it in one way, and none that does in the other
abbrev pub astray_by : ProductLine → ℕ → (FlowPlan → Bool) → (FlowPlan → Bool) → ℕ → FlowPlan → List Condition
astray_by line r one other f flow =
    if one flow then record { together = Request r ∷ Flow f ∷ []; lacking = flows_where line other } ∷ [] else []

abbrev pub astray_conditions : ProductLine → ℕ → RequestPlan → List Condition
astray_conditions line r request = if is_to_one request.to
    then (if may_name_receiver line.plan.groups.items request
    then lines_of_each (astray_by line r (serves_all request) (serves_one request)) 0 line.plan.flows.items else [])
    else lines_of_each (astray_by line r (serves_one request) (serves_all request)) 0 line.plan.flows.items

-- ---- ends of flows on a live bus

-- another unit is planned at the address of an end
abbrev pub is_beside_end : ProductLine → FlowPlan → ℕ → Bool
is_beside_end line flow u =
    list_any (λ v. is_end flow v && (not (u == v) && are_at_one_address line u v)) (range_with_len 0 (length line.plan.units.items))

abbrev pub contested_by : ProductLine → ℕ → FlowPlan → ℕ → List Condition
contested_by line f flow u = if is_beside_end line flow u then where_together (Flow f ∷ AUnit u ∷ []) else []

-- where units move to no end of the flow
abbrev pub contested_conditions : ProductLine → ℕ → FlowPlan → List Condition
contested_conditions line f flow =
    if line.plan.live && not (has_end_in_pool line f) then lines_of_each (λ u _. contested_by line f flow u) 0 line.plan.units.items else []

-- ---- of each finding

-- of those that count what is there none
abbrev pub conditions_of_plan : ProductLine → Finding → List Condition
conditions_of_plan line (SameName i j) = where_together (AUnit i ∷ AUnit j ∷ [])
conditions_of_plan line (SameFixedAddress i j) = where_together (AUnit i ∷ AUnit j ∷ [])
conditions_of_plan line (TooFewAddresses n) = []
conditions_of_plan line (BadPgn g) = where_together (Group g ∷ [])
conditions_of_plan line (SamePgn g h) = conditions_of_groups line g h
conditions_of_plan line (SignalWidth g s) = where_together (Group g ∷ [])
conditions_of_plan line (SignalOutside g s) = where_together (Group g ∷ [])
conditions_of_plan line (SignalOverlap g s t) = where_together (Group g ∷ [])
conditions_of_plan line (FlowToOne f) = where_together (Flow f ∷ [])
conditions_of_plan line (FlowToSelf f) = where_together (Flow f ∷ [])
conditions_of_plan line (FlowRepeated f h) = where_together (Flow f ∷ Flow h ∷ [])
conditions_of_plan line (KeptAddress i) = where_together (AUnit i ∷ [])
conditions_of_plan line (PrivateUnsent g) = option_map_or (unsent_condition line g) (slice_get line.plan.groups.items g) []
conditions_of_plan line (RecordOverlap g s t) = where_together (Group g ∷ [])
conditions_of_plan line (TextOutside g t) = where_together (Group g ∷ [])
conditions_of_plan line (NeedUnmet d) = option_map_or (unmet_condition line d) (slice_get line.plan.needs.items d) []
conditions_of_plan line (RequestUnanswered r) =
    option_map_or (λ request. if is_to_one request.to then unserved_condition line r request else []) (slice_get line.plan.requests.items r) []
conditions_of_plan line (RequestUnheard r) =
    option_map_or (λ request. if is_to_one request.to then [] else unserved_condition line r request) (slice_get line.plan.requests.items r) []
conditions_of_plan line (AnswerAstray r) = option_map_or (astray_conditions line r) (slice_get line.plan.requests.items r) []
conditions_of_plan line (WhenOutside g) = where_together (Group g ∷ [])
conditions_of_plan line (RequestRepeated r s) = where_together (Request r ∷ Request s ∷ [])
conditions_of_plan line (SilentAddress u v) = where_together (AUnit u ∷ AUnit v ∷ [])
conditions_of_plan line (SilentInPool u) = where_together (AUnit u ∷ [])
conditions_of_plan line (FlowContested f) = option_map_or (contested_conditions line f) (slice_get line.plan.flows.items f) []

-- a flow that has no period, where something is known of the bus
abbrev pub no_period_conditions : ProductLine → ℕ → FlowPlan → List Condition
no_period_conditions line f flow = if is_some line.plan.timing && not (is_some flow.pace) then where_together (Flow f ∷ []) else []

abbrev pub conditions_of_load : ProductLine → LoadFinding → List Condition
conditions_of_load line (NoPeriod f) = option_map_or (no_period_conditions line f) (slice_get line.plan.flows.items f) []
conditions_of_load line _ = []

abbrev pub conditions_of : ProductLine → LineFinding → List Condition
conditions_of line (OfPlan finding) = conditions_of_plan line finding
conditions_of line (OfLoad finding) = conditions_of_load line finding

-- ---- which findings go by conditions

-- those that count what is there don't: too few addresses, too high a load, a late flow, an old need, and who is contested at an address to
-- which units move
abbrev pub goes_by_conditions : ProductLine → LineFinding → Bool
goes_by_conditions line (OfPlan (TooFewAddresses n)) = false
goes_by_conditions line (OfPlan (FlowContested f)) = not (has_end_in_pool line f)
goes_by_conditions line (OfPlan finding) = true
goes_by_conditions line (OfLoad (NoPeriod f)) = true
goes_by_conditions line (OfLoad finding) = false
