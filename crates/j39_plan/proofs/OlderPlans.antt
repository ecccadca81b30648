-- Plans in which nothing stands that a later version alone knows.
use Rattle.std.proofs.Common.{Bool, false, ◌++◌, refl, arith}
use Rattle.toml.specs.Data.{Members}
use Rattle.j39_plan.specs.declared.reading.version.Version.{Version}
use Rattle.j39_plan.specs.declared.reading.version.Version.TheVariants.{First, Second, Third, Fourth}
use Rattle.j39_plan.specs.Schema.{tables_of, table_of}
use Rattle.j39_plan.specs.Since.{is_known, keys_of, with_key}
use Rattle.j39_plan.specs.SignalTables.{signal_rules}
use Rattle.j39_plan.specs.GroupTables.{group_rules, signal_rule}
use Rattle.j39_plan.specs.FlowTables.{flow_rules}
use Rattle.j39_plan.specs.TimingTables.{timing_rules}
use Rattle.j39_plan.specs.UnitTables.{unit_rules}
use Rattle.j39_plan.specs.PlanFaults.{top_rules, choice_keys, timing_rule, units_rule, groups_rule, flows_rule}
use Rattle.j39_plan.specs.Versions.{IsThirdBus, IsThirdUnit, IsThirdSignal, IsThirdGroup, IsThirdFlow, IsThirdPlan, FourthReadsAsThird}
use Rattle.j39_plan.specs.Versions.{IsSecondSignal, IsSecondGroup, IsSecondFlow, IsSecondPlan, ThirdReadsAsSecond}
use Rattle.j39_plan.proofs.Absent.{each_table, all_tables, some_also}
use Rattle.j39_plan.proofs.ChangedKeys.{differ, lacks_changed}
use Rattle.j39_plan.proofs.SignalVersions.{KeepsSignal}
use Rattle.j39_plan.proofs.GroupVersions.{KeepsGroup}
use Rattle.j39_plan.proofs.UnitVersions.{KeepsUnit}
use Rattle.j39_plan.proofs.FlowVersions.{KeepsFlow}
use Rattle.j39_plan.proofs.BusVersions.{KeepsBus}
use Rattle.j39_plan.proofs.PlanVersions.{KeepsPlan, plans_alike}

-- what one version knows and the other doesn't
abbrev between : Version → Version → Version → Bool
between one other since = differ (is_known since one) (is_known since other)

-- ---- between the fourth version and the third

abbrev later : Version → Bool
later = between Fourth Third

third_signal : (ms : Members) → IsThirdSignal ms → KeepsSignal later ms
third_signal ms lacks = record { keys = lacks_changed later (keys_of (signal_rules First false ms)) ms lacks; kind = λ is. cc }

third_group : (ms : Members) → IsThirdGroup ms → KeepsGroup later ms
third_group ms third = record {
  keys = lacks_changed later (keys_of (group_rules ms) ++ with_key) ms third.keys;
  signals = each_table IsThirdSignal (KeepsSignal later) third_signal (tables_of signal_rule ms) third.signals;
}

third_unit : (ms : Members) → IsThirdUnit ms → KeepsUnit later ms
third_unit ms third = record { keys = lacks_changed later (keys_of unit_rules ++ with_key) ms third.keys; number = λ is. third.number }

third_flow : (ms : Members) → IsThirdFlow ms → KeepsFlow later ms
third_flow ms lacks = record { keys = lacks_changed later (keys_of (flow_rules First ms) ++ with_key) ms lacks }

third_bus : (ms : Members) → IsThirdBus ms → KeepsBus later ms
third_bus ms third = record {
  keys = lacks_changed later (keys_of (timing_rules Third ms)) ms third.keys;
  not_slowest = λ is. third.not_slowest;
  not_fastest = λ is. third.not_fastest;
}

third_plan : (tree : Members) → IsThirdPlan tree → KeepsPlan later tree
third_plan tree third = record {
  keys = lacks_changed later (keys_of top_rules ++ choice_keys) tree third.keys;
  bus = λ known. some_also IsThirdBus (KeepsBus later) third_bus (table_of timing_rule tree) third.bus;
  units = each_table IsThirdUnit (KeepsUnit later) third_unit (tables_of units_rule tree) third.units;
  groups = each_table IsThirdGroup (KeepsGroup later) third_group (tables_of groups_rule tree) third.groups;
  flows = each_table IsThirdFlow (KeepsFlow later) third_flow (tables_of flows_rule tree) third.flows;
}

pub fourth_reads : FourthReadsAsThird
fourth_reads tree is third =
    plans_alike 4 3 later tree (omega arith) (omega arith) (omega arith) (omega arith) (λ since. refl) is (third_plan tree third)

-- ---- between the third version and the second

abbrev middle : Version → Bool
middle = between Third Second

second_signal : (ms : Members) → IsSecondSignal ms → KeepsSignal middle ms
second_signal ms second = record { keys = lacks_changed middle (keys_of (signal_rules First false ms)) ms second.keys; kind = λ is. second.kind }

second_group : (ms : Members) → IsSecondGroup ms → KeepsGroup middle ms
second_group ms second = record {
  keys = lacks_changed middle (keys_of (group_rules ms) ++ with_key) ms second.keys;
  signals = each_table IsSecondSignal (KeepsSignal middle) second_signal (tables_of signal_rule ms) second.signals;
}

second_unit : (ms : Members) → KeepsUnit middle ms
second_unit ms = record { keys = lacks_changed middle (keys_of unit_rules ++ with_key) ms (λ k d below. absurd (omega arith)); number = λ is. cc }

second_flow : (ms : Members) → IsSecondFlow ms → KeepsFlow middle ms
second_flow ms lacks = record { keys = lacks_changed middle (keys_of (flow_rules First ms) ++ with_key) ms lacks }

second_plan : (tree : Members) → IsSecondPlan tree → KeepsPlan middle tree
second_plan tree second = record {
  keys = lacks_changed middle (keys_of top_rules ++ choice_keys) tree second.keys;
  bus = λ known. cc;
  units = all_tables (KeepsUnit middle) second_unit (tables_of units_rule tree);
  groups = each_table IsSecondGroup (KeepsGroup middle) second_group (tables_of groups_rule tree) second.groups;
  flows = each_table IsSecondFlow (KeepsFlow middle) second_flow (tables_of flows_rule tree) second.flows;
}

pub third_reads : ThirdReadsAsSecond
third_reads tree is second =
    plans_alike 3 2 middle tree (omega arith) (omega arith) (omega arith) (omega arith) (λ since. refl) is (second_plan tree second)
