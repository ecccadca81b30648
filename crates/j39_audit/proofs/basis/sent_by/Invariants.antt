use Rattle.std.proofs.Common.{◌≡◌, ◌==◌, ◌&&◌, ℕ, false, length, slice_index_or, take}
use Rattle.std.specs.List.{list_any}
use Rattle.j39_network.specs.declared.plan.flow_plan.FlowPlan.{FlowPlan}
use Rattle.j39_audit.proofs.basis.sent_by.Given as goal

abbrev pub invariant-loop-place : goal.invariant-loop-place
invariant-loop-place l = record {
  size : length l.row.items ≡ length l.plan.groups.items;
  each : (g : ℕ) → slice_index_or l.row.items g false
      ≡ list_any (λ (f : FlowPlan). f.group == g && f.sender == l.unit) (take l.place l.plan.flows.items);
}
