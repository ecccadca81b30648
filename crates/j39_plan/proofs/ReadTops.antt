-- What was read of the arrays of a top table, in the terms of the file's tree.
use Rattle.std.proofs.Common.{◌≡◌, [], ℕ, List, Result}
use Rattle.toml.specs.Data.{Data, Items, Members}
use Rattle.toml.specs.View.{items_view}
use Rattle.j39_network.specs.declared.plan.unit_plan.UnitPlan.{UnitPlan}
use Rattle.j39_network.specs.declared.plan.group_plan.GroupPlan.{GroupPlan}
use Rattle.j39_network.specs.declared.plan.flow_plan.FlowPlan.{FlowPlan}
use Rattle.j39_network.specs.declared.plan.need_plan.NeedPlan.{NeedPlan}
use Rattle.j39_network.specs.declared.plan.request_plan.RequestPlan.{RequestPlan}
use Rattle.j39_plan.specs.declared.reading.top_table.TopTable.{TopTable}
use Rattle.j39_plan.specs.declared.reading.version.Version.{Version}
use Rattle.j39_plan.specs.PlanErrors.{PlanError, PlanFault}
use Rattle.j39_plan.specs.Schema.{tables_of}
use Rattle.j39_toml.specs.InOrder.{each_faults, Each, NeverGrows, EachGrows}
use Rattle.j39_toml.specs.Outcome.{GivesGrowing}
use Rattle.j39_plan.specs.LabelsSeen.{label_in}
use Rattle.j39_plan.specs.UnitTables.{unit_faults, unit_label_in, IsUnitOf}
use Rattle.j39_plan.specs.GroupTables.{group_faults, IsGroupOf}
use Rattle.j39_plan.specs.FlowTables.{flow_faults, IsFlowOf}
use Rattle.j39_plan.specs.NeedTables.{need_faults, IsNeedOf}
use Rattle.j39_plan.specs.RequestTables.{request_faults, IsRequestOf}
use Rattle.j39_plan.specs.PlanFaults.{version_of, units_rule, groups_rule, flows_rule, need_tables, request_tables, unit_labels, group_labels, group_signals}
use Rattle.j39_plan.specs.PlanFaults.{no_label, units_faults, groups_faults}
use Rattle.j39_plan.specs.Described.{DescribesTop}
use Rattle.j39_plan.proofs.ReadPlans.{unit_texts, group_texts, unit_texts_stated, group_texts_stated}
use Rattle.j39_plan.proofs.ReadNeeds.{signals_texts, signals_texts_stated}

-- the units and the groups of the top table are read
pub record AreRead (tree : Members) (top : TopTable) (version : Version) (us : List UnitPlan) (gs : List GroupPlan) : Type 0 where
  pub is_top : DescribesTop tree top
  pub is_version : version ≡ version_of tree
  pub units : (each_faults (unit_faults version) unit_label_in 0 [] (items_view top.units.now) ≡ []) × Each (IsUnitOf version) (items_view top.units.now) us
  pub groups : (each_faults (group_faults version) label_in 0 [] (items_view top.groups.now) ≡ [])
      × Each (IsGroupOf version) (items_view top.groups.now) gs

pub are_read : {tree : Members} {top : TopTable} {version : Version} {us : List UnitPlan} {gs : List GroupPlan} → DescribesTop tree top
    → version ≡ version_of tree
    → (each_faults (unit_faults version) unit_label_in 0 [] (items_view top.units.now) ≡ []) × Each (IsUnitOf version) (items_view top.units.now) us
    → (each_faults (group_faults version) label_in 0 [] (items_view top.groups.now) ≡ []) × Each (IsGroupOf version) (items_view top.groups.now) gs
    → AreRead tree top version us gs
are_read is_top is_version units groups = record { is_top = is_top; is_version = is_version; units = units; groups = groups }

pub units_read : {tree : Members} {top : TopTable} {version : Version} (us : List UnitPlan) → DescribesTop tree top → version ≡ version_of tree
    → (each_faults (unit_faults version) unit_label_in 0 [] (items_view top.units.now) ≡ []) × Each (IsUnitOf version) (items_view top.units.now) us
    → (units_faults tree ≡ []) × Each (IsUnitOf (version_of tree)) (tables_of units_rule tree) us
units_read us is_top is_version stated = rw (is_top.has_units, is_version) at stated

pub units_stated : {tree : Members} {top : TopTable} {version : Version} {us : List UnitPlan} {gs : List GroupPlan} → AreRead tree top version us gs
    → (units_faults tree ≡ []) × Each (IsUnitOf (version_of tree)) (tables_of units_rule tree) us
units_stated {tree} {top} {version} {us} read = units_read us read.is_top read.is_version read.units

pub groups_stated : {tree : Members} {top : TopTable} {version : Version} {us : List UnitPlan} {gs : List GroupPlan} → AreRead tree top version us gs
    → (groups_faults tree ≡ []) × Each (IsGroupOf (version_of tree)) (tables_of groups_rule tree) gs
groups_stated read = rw (read.is_top.has_groups, read.is_version) at read.groups

-- ---- their labels, by which flows, needs and requests name them

unit_labels_read : {tree : Members} {top : TopTable} {version : Version} {us : List UnitPlan} {gs : List GroupPlan} → AreRead tree top version us gs
    → unit_texts us ≡ unit_labels tree
unit_labels_read {tree} {top} {version} {us} read = rw (read.is_top.has_units) at (unit_texts_stated version _ us read.units.1)

group_labels_read : {tree : Members} {top : TopTable} {version : Version} {us : List UnitPlan} {gs : List GroupPlan} → AreRead tree top version us gs
    → group_texts gs ≡ group_labels tree
group_labels_read {tree} {top} {version} {us} {gs} read = rw (read.is_top.has_groups) at (group_texts_stated version _ gs read.groups.1)

group_signals_read : {tree : Members} {top : TopTable} {version : Version} {us : List UnitPlan} {gs : List GroupPlan} → AreRead tree top version us gs
    → signals_texts gs ≡ group_signals tree
group_signals_read {tree} {top} {version} {us} {gs} read = rw (read.is_top.has_groups) at (signals_texts_stated version _ gs read.groups.1)

-- ---- flows, needs and requests

-- the elements of an array, of which each is such a value, are read, or the first fault is reported
abbrev pub GivesEach : {T : Type 0} → (ℕ → Data → List PlanFault) → (Data → T → Type 0) → Items → Result (List T) PlanError → Type 0
GivesEach faults Is ds result = GivesGrowing (EachGrows (λ i seen. faults i) (NeverGrows {L = List ℕ}) ds) result
    (each_faults (λ i seen. faults i) no_label 0 [] ds) (Each Is ds)

pub flows_given : {tree : Members} {top : TopTable} {version : Version} {us : List UnitPlan} {gs : List GroupPlan} → AreRead tree top version us gs
    → (result : Result (List FlowPlan) PlanError)
    → GivesEach (flow_faults version (group_texts gs) (unit_texts us)) (IsFlowOf version (group_texts gs) (unit_texts us)) (items_view top.flows.now) result
    → GivesEach (flow_faults (version_of tree) (group_labels tree) (unit_labels tree)) (IsFlowOf (version_of tree) (group_labels tree) (unit_labels tree))
    (tables_of flows_rule tree) result
flows_given read result stated = rw (group_labels_read read, unit_labels_read read, read.is_top.has_flows, read.is_version) at stated

pub needs_given : {tree : Members} {top : TopTable} {version : Version} {us : List UnitPlan} {gs : List GroupPlan} → AreRead tree top version us gs
    → (result : Result (List NeedPlan) PlanError)
    → GivesEach (need_faults (group_texts gs) (signals_texts gs) (unit_texts us)) (IsNeedOf (group_texts gs) (signals_texts gs) (unit_texts us))
    (items_view top.later.needs.now) result
    → GivesEach (need_faults (group_labels tree) (group_signals tree) (unit_labels tree))
    (IsNeedOf (group_labels tree) (group_signals tree) (unit_labels tree)) (need_tables tree) result
needs_given read result stated = rw (group_labels_read read, group_signals_read read, unit_labels_read read, read.is_top.has_needs) at stated

pub requests_given : {tree : Members} {top : TopTable} {version : Version} {us : List UnitPlan} {gs : List GroupPlan} → AreRead tree top version us gs
    → (result : Result (List RequestPlan) PlanError)
    → GivesEach (request_faults (group_texts gs) (unit_texts us)) (IsRequestOf (group_texts gs) (unit_texts us)) (items_view top.later.requests.now) result
    → GivesEach (request_faults (group_labels tree) (unit_labels tree)) (IsRequestOf (group_labels tree) (unit_labels tree)) (request_tables tree) result
requests_given read result stated = rw (group_labels_read read, unit_labels_read read, read.is_top.has_requests) at stated
