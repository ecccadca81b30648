-- Every fault of a plan file's tree, in the order in which they are looked for.
use Rattle.std.specs.Prelude.{◌≡◌, ℕ, ◌==◌, List, [], ◌∷◌, ◌++◌, Bool, false, if◌then◌else◌, Option, Some, None}
use Rattle.std.specs.Option.{option_map_or}
use Rattle.toml.specs.Data.{Data, Items, no_items, Members}
use Rattle.j39_id.specs.Addresses.{pool_size}
use Rattle.j39_id.specs.Limits.{unit_limit}
use Rattle.j39_network.specs.PlanLimits.{flow_limit, group_limit, need_limit, request_limit}
use Rattle.j39_plan.specs.declared.reading.key.Key.{Key}
use Rattle.j39_plan.specs.declared.reading.key.Key.TheVariants as key
use Rattle.j39_plan.specs.declared.reading.place.Table.TheVariants as at
use Rattle.j39_plan.specs.PlanErrors.{PlanFault}
use Rattle.j39_plan.specs.Schema.{PlanRule, number, flag, addresses, tables, optional_table, table_of, tables_of}
use Rattle.j39_toml.specs.Rules.{number_of, flag_of}
use Rattle.j39_toml.specs.TableFaults.{unknown_faults}
use Rattle.j39_plan.specs.Words.{word_of}
use Rattle.j39_plan.specs.Since.{Since, since, is_known, known, rules_of, keys_of, known_keys, known_faults, since_faults}
use Rattle.j39_plan.specs.declared.reading.version.Version.{Version}
use Rattle.j39_plan.specs.declared.reading.version.Version.TheVariants.{First, Second, Third, Fourth}
use Rattle.j39_toml.specs.InOrder.{each_faults, labels_of}
use Rattle.j39_plan.specs.LabelsSeen.{label_in}
use Rattle.j39_plan.specs.UnitTables.{unit_faults, unit_label_in}
use Rattle.j39_plan.specs.GroupTables.{group_faults}
use Rattle.j39_plan.specs.FlowTables.{flow_faults}
use Rattle.j39_plan.specs.NeedTables.{need_faults, signals_of_groups}
use Rattle.j39_plan.specs.RequestTables.{request_faults}
use Rattle.j39_plan.specs.TimingTables.{timing_table_faults}

abbrev pub version_rule : PlanRule
version_rule = number key.Version 1 4 None

-- the version of a number: of one that is none's the first
abbrev pub version_numbered : ℕ → Version
version_numbered n = if n == 2 then Second else if n == 3 then Third else if n == 4 then Fourth else First

-- the version that the tree is of
unfoldable pub version_of : Members → Version
version_of tree = version_numbered (number_of version_rule tree)

-- the addresses that no arbitrary unit may hold
abbrev pub keep_free_rule : PlanRule
keep_free_rule = addresses key.KeepFree pool_size

-- how many units that stand in no plan may come
abbrev pub strangers_rule : PlanRule
strangers_rule = number key.Strangers 0 pool_size (Some 0)

-- whether transfers begin at any time, and units go off in the midst of one
abbrev pub live_rule : PlanRule
live_rule = flag key.Live false

-- what is known of the bus itself
abbrev pub timing_rule : PlanRule
timing_rule = optional_table key.Timing

abbrev pub units_rule : PlanRule
units_rule = tables key.Unit unit_limit

abbrev pub groups_rule : PlanRule
groups_rule = tables key.Group group_limit

abbrev pub flows_rule : PlanRule
flows_rule = tables key.Flow flow_limit

abbrev pub needs_rule : PlanRule
needs_rule = tables key.Need need_limit

abbrev pub requests_rule : PlanRule
requests_rule = tables key.Request request_limit

-- the keys of the top table: its head, then the bus and its strangers, then the arrays
abbrev pub head_rules : List Since
head_rules =
    since First version_rule
    ∷ since Second keep_free_rule
    ∷ []

abbrev pub bus_rules : List Since
bus_rules =
    since Fourth strangers_rule
    ∷ since Fourth live_rule
    ∷ since Third timing_rule
    ∷ []

abbrev pub later_array_rules : List Since
later_array_rules =
    since Fourth needs_rule
    ∷ since Fourth requests_rule
    ∷ []

abbrev pub array_rules : List Since
array_rules =
    since First units_rule
    ∷ since First groups_rule
    ∷ since First flows_rule
    ∷ later_array_rules

abbrev pub top_rules : List Since
top_rules = head_rules ++ (bus_rules ++ array_rules)

-- the keys of choices and of what isn't built, at which is looked behind all else of a file
abbrev pub choice_keys : List (Key × Version)
choice_keys = (key.Choice, Fourth) ∷ (key.Never, Fourth) ∷ []

-- before the fourth version the arrays are those of units, groups and flows
abbrev pub OlderArrays : Type 0
OlderArrays = (version : Version) → is_known Fourth version ≡ false → rules_of (known version array_rules) ≡ units_rule ∷ groups_rule ∷ flows_rule ∷ []

-- how many strangers a tree reports of: none in a version that doesn't know them
abbrev pub strangers_of : Version → Members → ℕ
strangers_of version tree = if is_known Fourth version then number_of strangers_rule tree else 0

-- whether the bus of a tree is live: none is in a version that doesn't know them
abbrev pub live_of : Version → Members → Bool
live_of version tree = if is_known Fourth version then flag_of live_rule tree else false

-- before the fourth version there are no strangers and no live buses
abbrev pub OlderBus : Type 0
OlderBus = (version : Version) (tree : Members) → is_known Fourth version ≡ false
    → (strangers_of version tree ≡ 0) × (live_of version tree ≡ false)

-- the table of the bus itself: none in a version that doesn't know it
abbrev pub timing_table_of : Version → Members → Option Members
timing_table_of version tree = if is_known Third version then table_of timing_rule tree else None

abbrev pub timing_table : Members → Option Members
timing_table tree = timing_table_of (version_of tree) tree

-- the tables of needs: none in a version that doesn't know them
abbrev pub need_tables_of : Version → Members → Items
need_tables_of version tree = if is_known Fourth version then tables_of needs_rule tree else no_items

abbrev pub need_tables : Members → Items
need_tables tree = need_tables_of (version_of tree) tree

-- and those of requests
abbrev pub request_tables_of : Version → Members → Items
request_tables_of version tree = if is_known Fourth version then tables_of requests_rule tree else no_items

abbrev pub request_tables : Members → Items
request_tables tree = request_tables_of (version_of tree) tree

abbrev pub unit_labels : Members → List (List ℕ)
unit_labels tree = labels_of unit_label_in (tables_of units_rule tree)

abbrev pub group_labels : Members → List (List ℕ)
group_labels tree = labels_of label_in (tables_of groups_rule tree)

abbrev pub group_signals : Members → List (List (List ℕ))
group_signals tree = signals_of_groups (tables_of groups_rule tree)

-- a flow, a need and a request have no label that another may not repeat
abbrev pub no_label : Data → List ℕ
no_label d = []

abbrev pub units_faults : Members → List PlanFault
units_faults tree = each_faults (unit_faults (version_of tree)) unit_label_in 0 [] (tables_of units_rule tree)

abbrev pub groups_faults : Members → List PlanFault
groups_faults tree = each_faults (group_faults (version_of tree)) label_in 0 [] (tables_of groups_rule tree)

abbrev pub flows_faults : Members → List PlanFault
flows_faults tree =
    each_faults (λ i seen. flow_faults (version_of tree) (group_labels tree) (unit_labels tree) i) no_label 0 [] (tables_of flows_rule tree)

abbrev pub needs_faults : Members → List PlanFault
needs_faults tree = each_faults (λ i seen. need_faults (group_labels tree) (group_signals tree) (unit_labels tree) i) no_label 0 [] (need_tables tree)

abbrev pub requests_faults : Members → List PlanFault
requests_faults tree = each_faults (λ i seen. request_faults (group_labels tree) (unit_labels tree) i) no_label 0 [] (request_tables tree)

-- a key that no rule names, and what stands at the version and at the addresses to keep free
abbrev pub head_faults : Members → List PlanFault
head_faults tree =
    unknown_faults word_of at.Top (known_keys (version_of tree) (keys_of top_rules ++ choice_keys)) tree ++ known_faults at.Top (version_of tree) tree head_rules

-- what stands at the key of strangers
abbrev pub strangers_faults : Members → List PlanFault
strangers_faults tree = since_faults at.Top (version_of tree) tree (since Fourth strangers_rule)

-- and at that of live buses
abbrev pub live_faults : Members → List PlanFault
live_faults tree = since_faults at.Top (version_of tree) tree (since Fourth live_rule)

-- what stands at the key of the bus itself, and then the faults of its table
abbrev pub timing_faults : Members → List PlanFault
timing_faults tree =
    since_faults at.Top (version_of tree) tree (since Third timing_rule)
    ++ option_map_or (timing_table_faults (version_of tree)) (timing_table tree) []

abbrev pub top_faults : Members → List PlanFault
top_faults tree =
    head_faults tree
    ++ (strangers_faults tree ++ (live_faults tree ++ (timing_faults tree ++ known_faults at.Top (version_of tree) tree array_rules)))

-- the top table's keys, then the units, the groups, the flows, the needs and the requests, each in order
abbrev pub faults : Members → List PlanFault
faults tree =
    top_faults tree ++ (units_faults tree ++ (groups_faults tree ++ (flows_faults tree ++ (needs_faults tree ++ requests_faults tree))))
