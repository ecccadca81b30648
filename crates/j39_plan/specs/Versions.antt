-- A plan in which nothing stands that an older version doesn't know is read as one of this version.
use Rattle.std.specs.Prelude.{◌≡◌, ◌≢◌, ◌↔◌, ℕ, pos, List, [], ◌∷◌, All, Bool, true, false, ◌||◌, if◌then◌else◌, IfSome, Some, Result, codes}
use Rattle.std.specs.Str.{bytes_eq}
use Rattle.toml.specs.Data.{integer, Items, no_items, item, Members, no_members, member}
use Rattle.j39_network.specs.declared.plan.Plan.{Plan}
use Rattle.j39_plan.specs.PlanErrors.{PlanError}
use Rattle.j39_plan.specs.declared.reading.key.Key.{Key}
use Rattle.j39_plan.specs.declared.reading.key.Key.TheVariants as key
use Rattle.j39_plan.specs.declared.reading.version.Version.TheVariants.{Third, Fourth}
use Rattle.j39_plan.specs.Words.{word_of}
use Rattle.j39_plan.specs.Schema.{has_key, table_of, tables_of}
use Rattle.j39_toml.specs.Rules.{number_of, text_of}
use Rattle.j39_toml.specs.InOrder.{inside}
use Rattle.j39_plan.specs.SignalTables.{kind_rule}
use Rattle.j39_plan.specs.GroupTables.{signal_rule}
use Rattle.j39_plan.specs.TimingTables.{bitrate_rule}
use Rattle.j39_plan.specs.UnitTables.{name_rule}
use Rattle.j39_plan.specs.PlanFaults.{version_rule, timing_rule, units_rule, groups_rule, flows_rule}
use Rattle.j39_plan.specs.Described.{Reads}

-- the same tree with this number at the version
unfoldable pub with_version : ℕ → Members → Members
with_version n no_members = no_members
with_version n (member k d ms) = member k (if bytes_eq (word_of key.Version) k then integer (pos n) else d) (with_version n ms)

-- nothing stands at these keys
abbrev pub Lacks : List Key → Members → Type 0
Lacks keys ms = All (λ k. has_key k ms ≡ false) keys

-- of each table among the elements this holds
unfoldable pub EachTable : (Members → Type 0) → Items → Type 0
EachTable Holds no_items = Unit {0}
EachTable Holds (item d ds) = Holds (inside d) × EachTable Holds ds

-- one and the same is answered for both trees
abbrev pub ReadAlike : Members → Members → Type 0
ReadAlike s t = (answer : Result Plan PlanError) → Reads answer (Some s) ↔ Reads answer (Some t)

-- ---- what the fourth version alone knows

abbrev pub fourth_bus_keys : List Key
fourth_bus_keys = key.UnplannedPriority ∷ key.TransportPriority ∷ key.BroadcastGap ∷ key.BroadcastGapMost ∷ key.Drift ∷ key.Errors ∷ []

-- nothing of it stands in the table of the bus
pub record IsThirdBus (ms : Members) : Type 0 where
  pub keys : Lacks fourth_bus_keys ms
  pub not_slowest : number_of (bitrate_rule Fourth) ms ≢ 125000
  pub not_fastest : number_of (bitrate_rule Fourth) ms ≢ 1000000

-- nor in the table of a unit, whose NAME has an identity number
pub record IsThirdUnit (ms : Members) : Type 0 where
  pub keys : Lacks (key.Queue ∷ key.Claims ∷ key.With ∷ []) ms
  pub number : IfSome (table_of name_rule ms) (λ inner. has_key key.Identity inner ≡ true)

-- nor in that of a signal
abbrev pub IsThirdSignal : Members → Type 0
IsThirdSignal = Lacks (key.Optional ∷ key.Spn ∷ key.Values ∷ [])

-- nor in that of a group
pub record IsThirdGroup (ms : Members) : Type 0 where
  pub keys : Lacks (key.When ∷ key.With ∷ []) ms
  pub signals : EachTable IsThirdSignal (tables_of signal_rule ms)

-- nor in the table of a flow
abbrev pub fourth_flow_keys : List Key
fourth_flow_keys = key.Jitter ∷ key.Pause ∷ key.OnRequest ∷ key.With ∷ []

abbrev pub IsThirdFlow : Members → Type 0
IsThirdFlow = Lacks fourth_flow_keys

abbrev pub fourth_top_keys : List Key
fourth_top_keys = key.Strangers ∷ key.Live ∷ key.Need ∷ key.Request ∷ key.Choice ∷ key.Never ∷ []

-- nor in a plan
pub record IsThirdPlan (tree : Members) : Type 0 where
  pub keys : Lacks fourth_top_keys tree
  pub bus : IfSome (table_of timing_rule tree) IsThirdBus
  pub units : EachTable IsThirdUnit (tables_of units_rule tree)
  pub groups : EachTable IsThirdGroup (tables_of groups_rule tree)
  pub flows : EachTable IsThirdFlow (tables_of flows_rule tree)

-- such a plan of version 4 is read as the same plan of version 3
abbrev pub FourthReadsAsThird : Type 0
FourthReadsAsThird = (tree : Members) → number_of version_rule tree ≡ 4 → IsThirdPlan tree → ReadAlike tree (with_version 3 tree)

-- ---- what the third version knows and the second doesn't

-- a kind of signal that the first two versions don't know
abbrev pub is_later_kind : List ℕ → Bool
is_later_kind t = bytes_eq t (codes "states") || (bytes_eq t (codes "signed") || bytes_eq t (codes "dtc"))

-- nothing of it stands in the table of a signal
pub record IsSecondSignal (ms : Members) : Type 0 where
  pub keys : Lacks (key.Per ∷ key.Repeated ∷ []) ms
  pub kind : is_later_kind (text_of (kind_rule Third) ms) ≡ false

abbrev pub third_group_keys : List Key
third_group_keys = key.Private ∷ key.Most ∷ key.Every ∷ key.Text ∷ []

-- nor in that of a group
pub record IsSecondGroup (ms : Members) : Type 0 where
  pub keys : Lacks third_group_keys ms
  pub signals : EachTable IsSecondSignal (tables_of signal_rule ms)

abbrev pub IsSecondFlow : Members → Type 0
IsSecondFlow = Lacks (key.Period ∷ key.Deadline ∷ [])

-- nor in a plan
pub record IsSecondPlan (tree : Members) : Type 0 where
  pub keys : Lacks (key.Timing ∷ []) tree
  pub groups : EachTable IsSecondGroup (tables_of groups_rule tree)
  pub flows : EachTable IsSecondFlow (tables_of flows_rule tree)

-- such a plan of version 3 is read as the same plan of version 2
abbrev pub ThirdReadsAsSecond : Type 0
ThirdReadsAsSecond = (tree : Members) → number_of version_rule tree ≡ 3 → IsSecondPlan tree → ReadAlike tree (with_version 2 tree)
