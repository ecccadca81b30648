-- A plan in which nothing stands that one of two versions knows and the other doesn't is read alike in both.
use Rattle.std.proofs.Common.{◌≡◌, ◌↔◌, ◌≤◌, ℕ, Bool, true, false, if◌then◌else◌, arith, [], ◌++◌, Option, Some, None, IfSome, refl, sym, ap, ◌∙◌, inl, inr}
use Rattle.std.specs.Option.{option_map_or}
use Rattle.std.specs.FinSet.{empty}
use Rattle.std.proofs.lemmas.Bool.{cases_Bool}
use Rattle.toml.specs.Data.{no_items, Members}
use Rattle.j39_network.specs.declared.plan.Plan.{Plan}
use Rattle.j39_network.specs.declared.plan.timing.Timing.{Timing}
use Rattle.j39_plan.specs.declared.reading.version.Version.{Version}
use Rattle.j39_plan.specs.declared.reading.version.Version.TheVariants.{Second, Third, Fourth}
use Rattle.j39_plan.specs.declared.reading.key.Key.TheVariants as key
use Rattle.j39_plan.specs.declared.reading.place.Table.TheVariants as at
use Rattle.j39_plan.specs.ValueCauses.{addresses_up_to}
use Rattle.j39_plan.specs.Words.{word_of}
use Rattle.j39_toml.specs.Rules.{number_of, flag_of, table_found, array_found, integer_in, truth, array_up_to}
use Rattle.j39_plan.specs.Schema.{PlanRule, addresses_of, table_of, tables_of}
use Rattle.j39_toml.specs.TableFaults.{key_faults, unknown_faults}
use Rattle.j39_plan.specs.Since.{since, since_faults, is_known, keys_of, known_keys, known_faults}
use Rattle.j39_toml.specs.InOrder.{Each}
use Rattle.j39_toml.specs.Outcome.{first}
use Rattle.j39_plan.specs.LabelsSeen.{label_in}
use Rattle.j39_plan.specs.UnitTables.{IsUnitOf, unit_faults, unit_label_in}
use Rattle.j39_plan.specs.GroupTables.{IsGroupOf, group_faults}
use Rattle.j39_plan.specs.FlowTables.{IsFlowOf, flow_faults}
use Rattle.j39_plan.specs.NeedTables.{IsNeedOf}
use Rattle.j39_plan.specs.RequestTables.{IsRequestOf}
use Rattle.j39_plan.specs.TimingTables.{timing_table_faults, DescribesBus, DescribesTiming}
use Rattle.j39_plan.specs.PlanFaults.{version_rule, version_numbered, version_of, keep_free_rule, strangers_rule, strangers_of, live_rule, live_of}
use Rattle.j39_plan.specs.PlanFaults.{timing_rule, units_rule, groups_rule, flows_rule, needs_rule, requests_rule, array_rules, top_rules, choice_keys}
use Rattle.j39_plan.specs.PlanFaults.{timing_table, need_tables, request_tables, unit_labels, group_labels, group_signals, no_label}
use Rattle.j39_plan.specs.PlanFaults.{head_faults, timing_faults, top_faults, units_faults, groups_faults, flows_faults}
use Rattle.j39_plan.specs.PlanFaults.{needs_faults, requests_faults, faults}
use Rattle.j39_plan.specs.Described.{keep_free_of, DescribesPlan}
use Rattle.j39_plan.specs.Versions.{with_version, EachTable, ReadAlike}
use Rattle.j39_plan.proofs.Absent.{lacked, Alike, alike_both, alike_each, both_stated, some_also}
use Rattle.j39_plan.proofs.ChangedKeys.{Differ, LacksChanged, turned, never, same_value, known_same, unfaulted, rules_same}
use Rattle.j39_plan.proofs.KnownVersions.{version_unfaulted, knows}
use Rattle.j39_plan.proofs.ReadAlike.{reads_alike}
use Rattle.j39_plan.proofs.OtherVersion.{IsOther, only_other, key_faults_other, table_other, tables_other, addresses_other}
use Rattle.j39_plan.proofs.OtherVersion.{number_other, flag_other, version_other}
use Rattle.j39_plan.proofs.UnitVersions.{KeepsUnit, unit_alike, unit_stated}
use Rattle.j39_plan.proofs.GroupVersions.{KeepsGroup, group_alike, group_reported}
use Rattle.j39_plan.proofs.FlowVersions.{KeepsFlow, flow_alike, flow_stated}
use Rattle.j39_plan.proofs.BusVersions.{KeepsBus, bus_alike, bus_stated}

-- nothing stands in the plan that one of the versions alone knows
pub record KeepsPlan (changed : Version → Bool) (tree : Members) : Type 0 where
  pub keys : LacksChanged changed (keys_of top_rules ++ choice_keys) tree
  pub bus : changed Third ≡ false → IfSome (table_of timing_rule tree) (KeepsBus changed)
  pub units : EachTable (KeepsUnit changed) (tables_of units_rule tree)
  pub groups : EachTable (KeepsGroup changed) (tables_of groups_rule tree)
  pub flows : EachTable (KeepsFlow changed) (tables_of flows_rule tree)

-- a tree of one version beside the same one with the number of another
record Beside (changed : Version → Bool) (one other : Version) (m : ℕ) (s : Members) : Type 0 where
  one_is : version_of s ≡ one
  other_is : version_of (with_version m s) ≡ other
  one_unfaulted : key_faults at.Top s version_rule ≡ []
  other_unfaulted : key_faults at.Top (with_version m s) version_rule ≡ []
  apart : Differ changed one other
  keeps : KeepsPlan changed s

-- ---- the top table

unknown_alike : {changed : Version → Bool} {one other : Version} {m : ℕ} {s : Members} → Beside changed one other m s
    → unknown_faults word_of at.Top (known_keys one (keys_of top_rules ++ choice_keys)) s
    ≡ unknown_faults word_of at.Top (known_keys other (keys_of top_rules ++ choice_keys)) (with_version m s)
unfolding unknown_faults
unknown_alike {changed} {one} {other} {m} {s} b =
    rw (
      only_other m (known_keys other (keys_of top_rules ++ choice_keys)) s,
      known_same b.apart (keys_of top_rules ++ choice_keys) s b.keeps.keys,
    ) refl

-- what stands at a key
part_same : {changed : Version → Bool} {one other : Version} {m : ℕ} {s : Members} → Beside changed one other m s → (version : Version) (r : PlanRule)
    → IsOther r → (changed version ≡ true → key_faults at.Top s r ≡ [])
    → since_faults at.Top (version_of s) s (since version r)
    ≡ since_faults at.Top (version_of (with_version m s)) (with_version m s) (since version r)
part_same {changed} {one} {other} {m} {s} b version r is none =
    rw (b.one_is, b.other_is, key_faults_other m at.Top r s is) (same_value b.apart version (key_faults at.Top s r) [] none)

keep_free_unfaulted : {changed : Version → Bool} (s : Members) → KeepsPlan changed s → changed Second ≡ true → key_faults at.Top s keep_free_rule ≡ []
unfolding addresses_up_to
keep_free_unfaulted s keeps is = unfaulted at.Top keep_free_rule s refl refl (keeps.keys.1.0 is)

strangers_unfaulted : {changed : Version → Bool} (s : Members) → KeepsPlan changed s → changed Fourth ≡ true → key_faults at.Top s strangers_rule ≡ []
unfolding integer_in
strangers_unfaulted s keeps is = unfaulted at.Top strangers_rule s refl refl (keeps.keys.1.1.0 is)

live_unfaulted : {changed : Version → Bool} (s : Members) → KeepsPlan changed s → changed Fourth ≡ true → key_faults at.Top s live_rule ≡ []
unfolding truth
live_unfaulted s keeps is = unfaulted at.Top live_rule s refl refl (keeps.keys.1.1.1.0 is)

head_alike : {changed : Version → Bool} {one other : Version} {m : ℕ} {s : Members} → Beside changed one other m s
    → head_faults s ≡ head_faults (with_version m s)
head_alike {changed} {one} {other} {m} {s} b =
    rw (
      b.one_is,
      b.other_is,
      b.one_unfaulted,
      b.other_unfaulted,
      unknown_alike b,
      key_faults_other m at.Top keep_free_rule s refl,
      same_value b.apart Second (key_faults at.Top s keep_free_rule) [] (keep_free_unfaulted s b.keeps),
    ) refl

-- ---- the bus

no_bus : {changed : Version → Bool} (s : Members) → KeepsPlan changed s → changed Third ≡ true → table_of timing_rule s ≡ None
unfolding table_found
no_bus s keeps is = rw (lacked key.Timing s (keeps.keys.1.1.1.1.0 is))

-- where there is a bus, both versions know it
bus_is : {changed : Version → Bool} (s : Members) → KeepsPlan changed s → (P : Members → Type 0)
    → (changed Third ≡ false → (ms : Members) → KeepsBus changed ms → P ms) → IfSome (table_of timing_rule s) P
bus_is {changed} s keeps P holds = elim (cases_Bool (changed Third)) [
  | inl is ↦ rw (no_bus s keeps is) tt
  | inr not ↦ some_also (KeepsBus changed) P (holds not) (table_of timing_rule s) (keeps.bus not)
]

bus_table : {changed : Version → Bool} {one other : Version} {m : ℕ} {s : Members} → Beside changed one other m s
    → timing_table s ≡ timing_table (with_version m s)
bus_table {changed} {one} {other} {m} {s} b =
    rw (b.one_is, b.other_is, table_other m timing_rule s refl) (same_value b.apart Third (table_of timing_rule s) None (no_bus s b.keeps))

bus_faults : (one other : Version) (known : Bool) (found : Option Members)
    → IfSome found (λ ms. timing_table_faults one ms ≡ timing_table_faults other ms)
    → option_map_or (timing_table_faults one) (if known then found else None) [] ≡ option_map_or (timing_table_faults other) (if known then found else None) []
bus_faults one other true None same = refl
bus_faults one other true (Some ms) same = same
bus_faults one other false found same = refl

timing_alike : {changed : Version → Bool} {one other : Version} {m : ℕ} {s : Members} → Beside changed one other m s
    → timing_faults s ≡ timing_faults (with_version m s)
timing_alike {changed} {one} {other} {m} {s} b =
    rw (
      part_same b Third timing_rule refl (λ is. unfaulted at.Top timing_rule s refl refl (b.keeps.keys.1.1.1.1.0 is)),
      bus_table b,
      b.one_is,
      b.other_is,
      table_other m timing_rule s refl,
      bus_faults one other (is_known Third other) (table_of timing_rule s)
          (bus_is s b.keeps (λ ms. timing_table_faults one ms ≡ timing_table_faults other ms) (bus_alike b.apart)),
    ) refl

-- ---- the arrays

arrays_same : {changed : Version → Bool} {one other : Version} {m : ℕ} {s : Members} → Beside changed one other m s
    → known_faults at.Top (version_of s) s array_rules ≡ known_faults at.Top (version_of (with_version m s)) (with_version m s) array_rules
arrays_same {changed} {one} {other} {m} {s} b =
    rw (
      b.one_is,
      b.other_is,
      key_faults_other m at.Top units_rule s refl,
      key_faults_other m at.Top groups_rule s refl,
      key_faults_other m at.Top flows_rule s refl,
      key_faults_other m at.Top needs_rule s refl,
      key_faults_other m at.Top requests_rule s refl,
    )
    (rules_same b.apart at.Top s array_rules choice_keys b.keeps.keys.1.1.1.1.1
    (never b.apart, (never b.apart, (never b.apart, (λ is. (refl, refl), (λ is. (refl, refl), tt))))))

top_same : {changed : Version → Bool} {one other : Version} {m : ℕ} {s : Members} → Beside changed one other m s
    → top_faults s ≡ top_faults (with_version m s)
top_same {changed} {one} {other} {m} {s} b =
    rw (
      head_alike b,
      part_same b Fourth strangers_rule refl (strangers_unfaulted s b.keeps),
      part_same b Fourth live_rule refl (live_unfaulted s b.keeps),
      timing_alike b,
      arrays_same b,
    ) refl

units_alike : {changed : Version → Bool} {one other : Version} {m : ℕ} {s : Members} → Beside changed one other m s
    → Alike (units_faults s) (units_faults (with_version m s))
units_alike {changed} {one} {other} {m} {s} b =
    rw (b.one_is, b.other_is, tables_other m units_rule s refl)
    (alike_each (KeepsUnit changed) (unit_faults one) (unit_faults other) (unit_alike b.apart) unit_label_in 0 [] (tables_of units_rule s) b.keeps.units)

groups_alike : {changed : Version → Bool} {one other : Version} {m : ℕ} {s : Members} → Beside changed one other m s
    → Alike (groups_faults s) (groups_faults (with_version m s))
groups_alike {changed} {one} {other} {m} {s} b =
    rw (b.one_is, b.other_is, tables_other m groups_rule s refl)
    (alike_each (KeepsGroup changed) (group_faults one) (group_faults other) (group_alike b.apart) label_in 0 [] (tables_of groups_rule s) b.keeps.groups)

flows_alike : {changed : Version → Bool} {one other : Version} {m : ℕ} {s : Members} → Beside changed one other m s
    → Alike (flows_faults s) (flows_faults (with_version m s))
flows_alike {changed} {one} {other} {m} {s} b =
    let groups = group_labels s in
    let units = unit_labels s in
    rw (b.one_is, b.other_is, tables_other m units_rule s refl, tables_other m groups_rule s refl, tables_other m flows_rule s refl)
    (alike_each (KeepsFlow changed) (λ i seen. flow_faults one groups units i) (λ i seen. flow_faults other groups units i)
    (λ i seen d. flow_alike b.apart groups units i d) no_label 0 [] (tables_of flows_rule s) b.keeps.flows)

no_needs : {changed : Version → Bool} (s : Members) → KeepsPlan changed s → changed Fourth ≡ true → tables_of needs_rule s ≡ no_items
unfolding tables_of array_found array_up_to
no_needs s keeps is = rw (lacked key.Need s (keeps.keys.1.1.1.1.1.1.1.1.0 is))

no_requests : {changed : Version → Bool} (s : Members) → KeepsPlan changed s → changed Fourth ≡ true → tables_of requests_rule s ≡ no_items
unfolding tables_of array_found array_up_to
no_requests s keeps is = rw (lacked key.Request s (keeps.keys.1.1.1.1.1.1.1.1.1.0 is))

needs_are : {changed : Version → Bool} {one other : Version} {m : ℕ} {s : Members} → Beside changed one other m s
    → need_tables s ≡ need_tables (with_version m s)
needs_are {changed} {one} {other} {m} {s} b =
    rw (b.one_is, b.other_is, tables_other m needs_rule s refl) (same_value b.apart Fourth (tables_of needs_rule s) no_items (no_needs s b.keeps))

requests_are : {changed : Version → Bool} {one other : Version} {m : ℕ} {s : Members} → Beside changed one other m s
    → request_tables s ≡ request_tables (with_version m s)
requests_are {changed} {one} {other} {m} {s} b =
    rw (b.one_is, b.other_is, tables_other m requests_rule s refl) (same_value b.apart Fourth (tables_of requests_rule s) no_items (no_requests s b.keeps))

needs_same : {changed : Version → Bool} {one other : Version} {m : ℕ} {s : Members} → Beside changed one other m s
    → needs_faults s ≡ needs_faults (with_version m s)
needs_same {changed} {one} {other} {m} {s} b = rw (needs_are b, tables_other m units_rule s refl, tables_other m groups_rule s refl) refl

requests_same : {changed : Version → Bool} {one other : Version} {m : ℕ} {s : Members} → Beside changed one other m s
    → requests_faults s ≡ requests_faults (with_version m s)
requests_same {changed} {one} {other} {m} {s} b = rw (requests_are b, tables_other m units_rule s refl, tables_other m groups_rule s refl) refl

faults_alike : {changed : Version → Bool} {one other : Version} {m : ℕ} {s : Members} → Beside changed one other m s
    → Alike (faults s) (faults (with_version m s))
faults_alike {changed} {one} {other} {m} {s} b =
    alike_both (top_faults s) _ (top_faults (with_version m s)) _ (ap first (top_same b))
    (alike_both (units_faults s) _ (units_faults (with_version m s)) _ (units_alike b)
    (alike_both (groups_faults s) _ (groups_faults (with_version m s)) _ (groups_alike b)
    (alike_both (flows_faults s) _ (flows_faults (with_version m s)) _ (flows_alike b) (rw (needs_same b, requests_same b) refl))))

-- ---- what is reported

none_kept : {changed : Version → Bool} (s : Members) → KeepsPlan changed s → changed Second ≡ true → addresses_of keep_free_rule s ≡ empty
unfolding addresses_of
none_kept s keeps is = rw (lacked key.KeepFree s (keeps.keys.1.0 is))

kept_are : {changed : Version → Bool} {one other : Version} {m : ℕ} {s : Members} → Beside changed one other m s
    → keep_free_of s ≡ keep_free_of (with_version m s)
kept_are {changed} {one} {other} {m} {s} b =
    rw (b.one_is, b.other_is, addresses_other m keep_free_rule s refl)
    (same_value b.apart Second (addresses_of keep_free_rule s) empty (none_kept s b.keeps))

none_come : {changed : Version → Bool} (s : Members) → KeepsPlan changed s → changed Fourth ≡ true → number_of strangers_rule s ≡ 0
unfolding number_of
none_come s keeps is = rw (lacked key.Strangers s (keeps.keys.1.1.0 is))

as_many : {changed : Version → Bool} {one other : Version} {m : ℕ} {s : Members} → Beside changed one other m s
    → strangers_of (version_of s) s ≡ strangers_of (version_of (with_version m s)) (with_version m s)
as_many {changed} {one} {other} {m} {s} b =
    rw (b.one_is, b.other_is, number_other m strangers_rule s refl)
    (same_value b.apart Fourth (number_of strangers_rule s) 0 (none_come s b.keeps))

not_live : {changed : Version → Bool} (s : Members) → KeepsPlan changed s → changed Fourth ≡ true → flag_of live_rule s ≡ false
unfolding flag_of
not_live s keeps is = rw (lacked key.Live s (keeps.keys.1.1.1.0 is))

as_live : {changed : Version → Bool} {one other : Version} {m : ℕ} {s : Members} → Beside changed one other m s
    → live_of (version_of s) s ≡ live_of (version_of (with_version m s)) (with_version m s)
as_live {changed} {one} {other} {m} {s} b =
    rw (b.one_is, b.other_is, flag_other m live_rule s refl) (same_value b.apart Fourth (flag_of live_rule s) false (not_live s b.keeps))

-- two trees report the parts of a plan alike
record AreReported (s t : Members) (p : Plan) : Type 0 where
  timing : DescribesTiming (version_of s) (timing_table s) p.timing ↔ DescribesTiming (version_of t) (timing_table t) p.timing
  units : Each (IsUnitOf (version_of s)) (tables_of units_rule s) p.units.items ↔ Each (IsUnitOf (version_of t)) (tables_of units_rule t) p.units.items
  groups : Each (IsGroupOf (version_of s)) (tables_of groups_rule s) p.groups.items
      ↔ Each (IsGroupOf (version_of t)) (tables_of groups_rule t) p.groups.items
  flows : Each (IsFlowOf (version_of s) (group_labels s) (unit_labels s)) (tables_of flows_rule s) p.flows.items
      ↔ Each (IsFlowOf (version_of t) (group_labels t) (unit_labels t)) (tables_of flows_rule t) p.flows.items
  needs : Each (IsNeedOf (group_labels s) (group_signals s) (unit_labels s)) (need_tables s) p.needs.items
      ↔ Each (IsNeedOf (group_labels t) (group_signals t) (unit_labels t)) (need_tables t) p.needs.items
  requests : Each (IsRequestOf (group_labels s) (unit_labels s)) (request_tables s) p.requests.items
      ↔ Each (IsRequestOf (group_labels t) (unit_labels t)) (request_tables t) p.requests.items

timing_stated : (one other : Version) (known : Bool) (found : Option Members) (t : Option Timing)
    → IfSome found (λ ms. (u : Timing) → DescribesBus one ms u → DescribesBus other ms u)
    → DescribesTiming one (if known then found else None) t → DescribesTiming other (if known then found else None) t
timing_stated one other true None None same stated = stated
timing_stated one other true None (Some t) same stated = stated
timing_stated one other true (Some ms) None same stated = stated
timing_stated one other true (Some ms) (Some t) same stated = same t stated
timing_stated one other false found None same stated = stated
timing_stated one other false found (Some t) same stated = stated

bus_both : {changed : Version → Bool} {one other : Version} {m : ℕ} {s : Members} → Beside changed one other m s → (t : Option Timing)
    → DescribesTiming (version_of s) (timing_table s) t ↔ DescribesTiming (version_of (with_version m s)) (timing_table (with_version m s)) t
bus_both {changed} {one} {other} {m} {s} b t =
    let found = table_of timing_rule s in
    rw (bus_table b, b.one_is, b.other_is, table_other m timing_rule s refl) (
      timing_stated one other (is_known Third other) found t
          (bus_is s b.keeps (λ ms. (u : Timing) → DescribesBus one ms u → DescribesBus other ms u) (λ known. bus_stated b.apart)),
      timing_stated other one (is_known Third other) found t
          (bus_is s b.keeps (λ ms. (u : Timing) → DescribesBus other ms u → DescribesBus one ms u) (λ known. bus_stated (turned b.apart))),
    )

are_reported : {changed : Version → Bool} {one other : Version} {m : ℕ} {s : Members} → Beside changed one other m s → (p : Plan)
    → AreReported s (with_version m s) p
are_reported {changed} {one} {other} {m} {s} b p =
    let gs = group_labels s in
    let us = unit_labels s in
    record {
      timing = bus_both b p.timing;
      units = rw (b.one_is, b.other_is, tables_other m units_rule s refl)
          (both_stated (KeepsUnit changed) (IsUnitOf one) (IsUnitOf other) (unit_stated b.apart) (unit_stated (turned b.apart))
          (tables_of units_rule s) p.units.items b.keeps.units);
      groups = rw (b.one_is, b.other_is, tables_other m groups_rule s refl)
          (both_stated (KeepsGroup changed) (IsGroupOf one) (IsGroupOf other) (group_reported b.apart) (group_reported (turned b.apart))
          (tables_of groups_rule s) p.groups.items b.keeps.groups);
      flows = rw (b.one_is, b.other_is, tables_other m units_rule s refl, tables_other m groups_rule s refl, tables_other m flows_rule s refl)
          (both_stated (KeepsFlow changed) (IsFlowOf one gs us) (IsFlowOf other gs us) (flow_stated b.apart gs us) (flow_stated (turned b.apart) gs us)
          (tables_of flows_rule s) p.flows.items b.keeps.flows);
      needs = rw (needs_are b, tables_other m units_rule s refl, tables_other m groups_rule s refl) (λ stated. stated, λ stated. stated);
      requests = rw (requests_are b, tables_other m units_rule s refl, tables_other m groups_rule s refl) (λ stated. stated, λ stated. stated);
    }

plan_reported : {changed : Version → Bool} {one other : Version} {m : ℕ} {s : Members} → Beside changed one other m s → (p : Plan)
    → DescribesPlan s p ↔ DescribesPlan (with_version m s) p
plan_reported b p =
    let both = are_reported b p in (
      λ stated. record {
        has_keep_free = stated.has_keep_free ∙ kept_are b;
        has_strangers = stated.has_strangers ∙ as_many b;
        has_live = stated.has_live ∙ as_live b;
        has_timing = both.timing.0 stated.has_timing;
        has_units = both.units.0 stated.has_units;
        has_groups = both.groups.0 stated.has_groups;
        has_flows = both.flows.0 stated.has_flows;
        has_needs = both.needs.0 stated.has_needs;
        has_requests = both.requests.0 stated.has_requests;
      },
      λ stated. record {
        has_keep_free = stated.has_keep_free ∙ sym (kept_are b);
        has_strangers = stated.has_strangers ∙ sym (as_many b);
        has_live = stated.has_live ∙ sym (as_live b);
        has_timing = both.timing.1 stated.has_timing;
        has_units = both.units.1 stated.has_units;
        has_groups = both.groups.1 stated.has_groups;
        has_flows = both.flows.1 stated.has_flows;
        has_needs = both.needs.1 stated.has_needs;
        has_requests = both.requests.1 stated.has_requests;
      },
    )

-- the same tree of two versions
pub plans_alike : (n m : ℕ) (changed : Version → Bool) (s : Members) → 1 ≤ n → n ≤ 4 → 1 ≤ m → m ≤ 4
    → Differ changed (version_numbered n) (version_numbered m) → number_of version_rule s ≡ n → KeepsPlan changed s → ReadAlike s (with_version m s)
plans_alike n m changed s some few some_other few_other apart is keeps =
    let other : number_of version_rule (with_version m s) ≡ m = version_other m s (λ e. absurd (omega (arith, some, is, e))) in
    let b : Beside changed (version_numbered n) (version_numbered m) m s = record {
      one_is = knows n s is;
      other_is = knows m (with_version m s) other;
      one_unfaulted = version_unfaulted n s some few is;
      other_unfaulted = version_unfaulted m (with_version m s) some_other few_other other;
      apart = apart;
      keeps = keeps;
    } in
    reads_alike s (with_version m s) (plan_reported b) (faults_alike b)
