-- Where reading a plan file asks for room: behind an element that was read. Want of memory is answered nowhere else.
use Rattle.std.specs.Prelude.{◌≡◌, ◌⊎◌, ℕ, List, [], Bool}
use Rattle.toml.specs.Data.{Data, Members}
use Rattle.j39_plan.specs.declared.reading.version.Version.{Version}
use Rattle.j39_plan.specs.declared.reading.place.Table.TheVariants as at
use Rattle.j39_plan.specs.Schema.{tables_of}
use Rattle.j39_toml.specs.InOrder.{inside, EachGrows, NeverGrows}
use Rattle.j39_plan.specs.SignalTables.{signal_faults, signal_table_faults}
use Rattle.j39_plan.specs.UnitTables.{unit_faults}
use Rattle.j39_plan.specs.GroupTables.{group_keys_faults, has_records, signal_rule, signal_labels, signals_faults, text_tables_of, group_faults}
use Rattle.j39_plan.specs.TextTables.{text_faults}
use Rattle.j39_plan.specs.FlowTables.{flow_faults}
use Rattle.j39_plan.specs.NeedTables.{need_faults}
use Rattle.j39_plan.specs.RequestTables.{request_faults}
use Rattle.j39_plan.specs.PlanFaults.{top_faults, units_rule, groups_rule, flows_rule, units_faults, groups_faults, flows_faults, needs_faults, need_tables}
use Rattle.j39_plan.specs.PlanFaults.{request_tables}
use Rattle.j39_plan.specs.PlanFaults.{group_labels, group_signals, unit_labels, version_of}

-- behind a signal whose table has no fault, for the names of its raw numbers
abbrev pub SignalGrows : Version → Bool → ℕ → ℕ → List (List ℕ) → Data → Type 0
SignalGrows version records g i seen d = signal_table_faults version records (at.Signal g i) (inside d) ≡ []

-- in a group, whose keys have no fault, among its signals, or behind these among its texts
abbrev pub GroupGrows : Version → ℕ → Members → Type 0
GroupGrows version g ms = (group_keys_faults version g ms ≡ [])
    × (EachGrows (signal_faults version (has_records version ms) g) (SignalGrows version (has_records version ms) g) (tables_of signal_rule ms)
    ⊎ ((signals_faults version g ms ≡ []) × EachGrows (text_faults (signal_labels ms) g) (NeverGrows {L = List ℕ}) (text_tables_of version ms)))

abbrev pub GroupElementGrows : Version → ℕ → List (List ℕ) → Data → Type 0
GroupElementGrows version g seen d = GroupGrows version g (inside d)

-- in a plan, whose top table has no fault, among its units, behind these among its groups, behind these among its flows, behind these
-- among its needs, or behind these among its requests
abbrev pub PlanGrows : Members → Type 0
PlanGrows tree = (top_faults tree ≡ [])
    × (EachGrows (unit_faults (version_of tree)) (NeverGrows {L = List ℕ}) (tables_of units_rule tree)
    ⊎ ((units_faults tree ≡ []) × (EachGrows (group_faults (version_of tree)) (GroupElementGrows (version_of tree)) (tables_of groups_rule tree)
    ⊎ ((groups_faults tree ≡ []) × (EachGrows (λ i seen. flow_faults (version_of tree) (group_labels tree) (unit_labels tree) i)
    (NeverGrows {L = List ℕ}) (tables_of flows_rule tree)
    ⊎ ((flows_faults tree ≡ []) × (EachGrows (λ i seen. need_faults (group_labels tree) (group_signals tree) (unit_labels tree) i)
    (NeverGrows {L = List ℕ}) (need_tables tree)
    ⊎ ((needs_faults tree ≡ []) × EachGrows (λ i seen. request_faults (group_labels tree) (unit_labels tree) i)
    (NeverGrows {L = List ℕ}) (request_tables tree)))))))))
