-- The tables of units, and of their NAMEs (SAE J1939-81, NAME fields). Since the fourth version units are known whose controllers
-- keep no order, units that never claim, and units of any serial number.
use Rattle.std.specs.Prelude.{◌≡◌, ℕ, List, [], ◌∷◌, ◌++◌, Bool, true, false, not, ◌&&◌, if◌then◌else◌, Some, None, unwrap_or, codes}
use Rattle.std.specs.Str.{bytes_eq}
use Rattle.std.specs.Option.{option_map_or}
use Rattle.toml.specs.Data.{Data, Members, no_members, as_table}
use Rattle.j39_id.specs.declared.name_fields.NameFields.{NameFields}
use Rattle.j39_id.specs.Name.{name_number, is_arbitrary}
use Rattle.j39_network.specs.declared.plan.queue.Queue.{Queue}
use Rattle.j39_network.specs.declared.plan.queue.Queue.TheVariants.{Any, Priority}
use Rattle.j39_network.specs.declared.plan.way.Way.{Way}
use Rattle.j39_network.specs.declared.plan.way.Way.TheVariants.{Lowest, Upward}
use Rattle.j39_network.specs.declared.plan.unit_plan.UnitPlan.{UnitPlan}
use Rattle.j39_toml.specs.declared.cause.Cause.TheVariants.{Range}
use Rattle.j39_plan.specs.declared.reading.key.Key.TheVariants as key
use Rattle.j39_plan.specs.declared.reading.place.Table.TheVariants as at
use Rattle.j39_plan.specs.PlanErrors.{PlanFault}
use Rattle.j39_plan.specs.declared.reading.text_kind.TextKind.TheVariants as texts
use Rattle.j39_plan.specs.Schema.{PlanRule, has_key, number, flag, text, inner_table, table_of}
use Rattle.j39_toml.specs.Rules.{number_of, flag_of, text_of}
use Rattle.j39_toml.specs.TableFaults.{table_faults, table_only_faults, fault}
use Rattle.j39_toml.specs.InOrder.{inside}
use Rattle.j39_plan.specs.LabelsSeen.{repeated_faults}
use Rattle.j39_plan.specs.Words.{word_of}
use Rattle.j39_plan.specs.Since.{Since, since, is_known, known, rules_of, faults_beside, with_key}
use Rattle.j39_plan.specs.declared.reading.version.Version.{Version}
use Rattle.j39_plan.specs.declared.reading.version.Version.TheVariants.{First, Fourth}

-- ---- the NAME

-- the identity number is each box's own: since the fourth version a plan may leave it open, and then it counts as 0
abbrev pub identity_rule : Version → PlanRule
identity_rule version = number key.Identity 0 2097151 (if is_known Fourth version then Some 0 else None)

abbrev pub lacks_identity : Version → Members → Bool
lacks_identity version ms = is_known Fourth version && not (has_key key.Identity ms)

abbrev pub manufacturer_rule : PlanRule
manufacturer_rule = number key.Manufacturer 0 2047 (Some 0)

abbrev pub ecu_rule : PlanRule
ecu_rule = number key.Ecu 0 7 (Some 0)

abbrev pub function_instance_rule : PlanRule
function_instance_rule = number key.FunctionInstance 0 31 (Some 0)

abbrev pub function_rule : PlanRule
function_rule = number key.Function 0 255 (Some 0)

abbrev pub system_rule : PlanRule
system_rule = number key.System 0 127 (Some 0)

abbrev pub system_instance_rule : PlanRule
system_instance_rule = number key.SystemInstance 0 15 (Some 0)

abbrev pub industry_rule : PlanRule
industry_rule = number key.Industry 0 7 (Some 0)

abbrev pub arbitrary_rule : PlanRule
arbitrary_rule = flag key.Arbitrary false

abbrev pub name_rules : Version → List PlanRule
name_rules version = identity_rule version ∷ manufacturer_rule ∷ ecu_rule ∷ function_instance_rule ∷ function_rule
    ∷ system_rule ∷ system_instance_rule ∷ industry_rule ∷ arbitrary_rule ∷ []

-- the fields that a table reports; the reserved bit of a planned NAME is 0
unfoldable pub name_fields_of : Version → Members → NameFields
name_fields_of version ms = record {
  identity = number_of (identity_rule version) ms;
  manufacturer = number_of manufacturer_rule ms;
  ecu = number_of ecu_rule ms;
  function_instance = number_of function_instance_rule ms;
  function = number_of function_rule ms;
  reserved = 0;
  system = number_of system_rule ms;
  system_instance = number_of system_instance_rule ms;
  industry = number_of industry_rule ms;
  arbitrary = if flag_of arbitrary_rule ms then 1 else 0;
}

unfoldable pub name_faults : Version → ℕ → Members → List PlanFault
name_faults version i = table_faults word_of (at.UnitName i) (name_rules version)

-- ---- the unit

abbrev pub unit_label_rule : PlanRule
unit_label_rule = text key.Label texts.UnitLabel None

abbrev pub address_rule : PlanRule
address_rule = number key.Address 0 253 None

abbrev pub chooser_rule : PlanRule
chooser_rule = text key.Chooser texts.Chooser (Some (codes "lowest"))

abbrev pub window_rule : PlanRule
window_rule = number key.Window 1 255 (Some 255)

-- whether its controller keeps order among frames that wait
abbrev pub queue_rule : PlanRule
queue_rule = text key.Queue texts.Queue (Some (codes "priority"))

abbrev pub name_rule : PlanRule
name_rule = inner_table key.Name

-- whether it claims its address
abbrev pub claims_rule : PlanRule
claims_rule = flag key.Claims true

abbrev pub unit_rules : List Since
unit_rules =
    since First unit_label_rule
    ∷ since First address_rule
    ∷ since First chooser_rule
    ∷ since First window_rule
    ∷ since Fourth queue_rule
    ∷ since First name_rule
    ∷ since Fourth claims_rule
    ∷ []

-- before the fourth version a unit has these keys
abbrev pub OlderUnitRules : Type 0
OlderUnitRules = (version : Version) → is_known Fourth version ≡ false
    → rules_of (known version unit_rules) ≡ unit_label_rule ∷ address_rule ∷ chooser_rule ∷ window_rule ∷ name_rule ∷ []

abbrev pub way_of : List ℕ → Way
way_of t = if bytes_eq t (codes "upward") then Upward else Lowest

abbrev pub queue_in : List ℕ → Queue
queue_in t = if bytes_eq t (codes "any") then Any else Priority

-- a controller keeps order in a version that knows no other
abbrev pub queue_of : Version → Members → Queue
queue_of version ms = if is_known Fourth version then queue_in (text_of queue_rule ms) else Priority

-- a unit claims in a version that knows no other
abbrev pub claims_of : Version → Members → Bool
claims_of version ms = if is_known Fourth version then flag_of claims_rule ms else true

-- the NAME that the inner table reports
abbrev pub name_of : Version → Members → ℕ
name_of version ms = name_number (name_fields_of version (unwrap_or (table_of name_rule ms) no_members))

-- a unit whose NAME has no identity number is of any
abbrev pub any_identity_of : Version → Members → Bool
any_identity_of version ms = option_map_or (lacks_identity version) (table_of name_rule ms) false

-- the unit that a table reports
pub record DescribesUnit (version : Version) (ms : Members) (u : UnitPlan) : Type 0 where
  pub has_label : u.label.bytes ≡ text_of unit_label_rule ms
  pub has_address : u.address ≡ number_of address_rule ms
  pub has_way : u.way ≡ way_of (text_of chooser_rule ms)
  pub has_window : u.window ≡ number_of window_rule ms
  pub has_name : u.name ≡ name_of version ms
  pub has_number : u.any_identity ≡ any_identity_of version ms
  pub has_queue : u.queue ≡ queue_of version ms
  pub has_claims : u.claims ≡ claims_of version ms

abbrev pub IsUnitOf : Version → Data → UnitPlan → Type 0
IsUnitOf version d u = DescribesUnit version (inside d) u

abbrev pub unit_label_in : Data → List ℕ
unit_label_in d = text_of unit_label_rule (inside d)

-- a unit that doesn't claim, and whose NAME says that it may choose another address
unfoldable pub silent_faults : ℕ → Bool → ℕ → List PlanFault
silent_faults i claims name = if not claims && is_arbitrary name then fault Range (at.Unit i) (Some key.Claims) ∷ [] else []

unfoldable pub unit_table_faults : Version → ℕ → Members → List PlanFault
unit_table_faults version i ms = faults_beside with_key (at.Unit i) version unit_rules ms
    ++ (option_map_or (name_faults version i) (table_of name_rule ms) []
    ++ silent_faults i (claims_of version ms) (name_of version ms))

-- the faults of the i-th unit, behind those with the labels seen
unfoldable pub unit_faults : Version → ℕ → List (List ℕ) → Data → List PlanFault
unit_faults version i seen d = table_only_faults (at.Unit i) d
    ++ option_map_or (unit_table_faults version i) (as_table d) []
    ++ repeated_faults (at.Unit i) texts.UnitLabel seen (unit_label_in d)
