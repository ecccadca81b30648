-- Which plan a file describes, and what reading it answers.
use Rattle.std.specs.Prelude.{◌≡◌, [], if◌then◌else◌, Option, Result}
use Rattle.std.specs.FinSet.{FinSet, empty}
use Rattle.std.specs.Ordering.{nat_cmp}
use Rattle.toml.specs.Data.{Members}
use Rattle.toml.specs.View.{items_view}
use Rattle.j39_plan.specs.declared.reading.top_table.TopTable.{TopTable}
use Rattle.j39_network.specs.declared.plan.Plan.{Plan}
use Rattle.j39_plan.specs.PlanErrors.{PlanError}
use Rattle.j39_plan.specs.Schema.{addresses_of, tables_of}
use Rattle.j39_toml.specs.InOrder.{Each}
use Rattle.j39_toml.specs.FileTrees.{ReadsTree}
use Rattle.j39_plan.specs.Since.{is_known}
use Rattle.j39_plan.specs.declared.reading.version.Version.{Version}
use Rattle.j39_plan.specs.declared.reading.version.Version.TheVariants.{Second}
use Rattle.j39_plan.specs.UnitTables.{IsUnitOf}
use Rattle.j39_plan.specs.GroupTables.{IsGroupOf}
use Rattle.j39_plan.specs.FlowTables.{IsFlowOf}
use Rattle.j39_plan.specs.NeedTables.{IsNeedOf}
use Rattle.j39_plan.specs.RequestTables.{IsRequestOf}
use Rattle.j39_plan.specs.TimingTables.{DescribesTiming}
use Rattle.j39_plan.specs.PlanFaults.{faults, version_of, keep_free_rule, timing_table, units_rule, groups_rule, flows_rule}
use Rattle.j39_plan.specs.PlanFaults.{strangers_of, live_of, need_tables, request_tables, unit_labels, group_labels, group_signals}

-- the addresses that a tree keeps free: none in a version that keeps none
abbrev pub kept_of : Version → Members → FinSet nat_cmp
kept_of version tree = if is_known Second version then addresses_of keep_free_rule tree else empty

abbrev pub keep_free_of : Members → FinSet nat_cmp
keep_free_of tree = kept_of (version_of tree) tree

-- what stands at the keys of the top table, the elements of its arrays as they stand there
pub record DescribesTop (tree : Members) (t : TopTable) : Type 0 where
  pub has_keep_free : t.keep_free ≡ keep_free_of tree
  pub has_strangers : t.strangers ≡ strangers_of (version_of tree) tree
  pub has_live : t.live ≡ live_of (version_of tree) tree
  pub has_timing : DescribesTiming (version_of tree) (timing_table tree) t.timing
  pub has_units : items_view t.units.now ≡ tables_of units_rule tree
  pub has_groups : items_view t.groups.now ≡ tables_of groups_rule tree
  pub has_flows : items_view t.flows.now ≡ tables_of flows_rule tree
  pub has_needs : items_view t.later.needs.now ≡ need_tables tree
  pub has_requests : items_view t.later.requests.now ≡ request_tables tree

-- what the plan keeps free, how many strangers it has, whether its bus is live, what it knows of the bus, its units, groups, flows, needs and
-- requests are those of the tree
pub record DescribesPlan (tree : Members) (p : Plan) : Type 0 where
  pub has_keep_free : p.keep_free ≡ keep_free_of tree
  pub has_strangers : p.strangers ≡ strangers_of (version_of tree) tree
  pub has_live : p.live ≡ live_of (version_of tree) tree
  pub has_timing : DescribesTiming (version_of tree) (timing_table tree) p.timing
  pub has_units : Each (IsUnitOf (version_of tree)) (tables_of units_rule tree) p.units.items
  pub has_groups : Each (IsGroupOf (version_of tree)) (tables_of groups_rule tree) p.groups.items
  pub has_flows : Each (IsFlowOf (version_of tree) (group_labels tree) (unit_labels tree)) (tables_of flows_rule tree) p.flows.items
  pub has_needs : Each (IsNeedOf (group_labels tree) (group_signals tree) (unit_labels tree)) (need_tables tree) p.needs.items
  pub has_requests : Each (IsRequestOf (group_labels tree) (unit_labels tree)) (request_tables tree) p.requests.items

-- the tree has no fault, and the plan is what it reports
abbrev pub Described : Members → Plan → Type 0
Described tree p = (faults tree ≡ []) × DescribesPlan tree p

-- the plan that the tree describes, or its first fault, or that there is no tree, unless memory ran out
abbrev pub Reads : Result Plan PlanError → Option Members → Type 0
Reads = ReadsTree faults DescribesPlan
