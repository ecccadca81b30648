use Rattle.std.proofs.Common.{◌≡◌, ◌<◌, ◌&&◌, not, ℕ, false, length, slice_index_or, Some}
use Rattle.std.specs.List.{slice_get}
use Rattle.j39_id.specs.Name.{is_arbitrary}
use Rattle.j39_findings.specs.Standing.{stays_of}
use Rattle.j39_network.specs.declared.plan.unit_plan.UnitPlan.{UnitPlan}
use Rattle.j39_audit.proofs.basis.moving_of.Given as goal

abbrev pub invariant-loop-unit : goal.invariant-loop-unit
invariant-loop-unit l = record {
  size : length l.moving.items ≡ l.unit-index;
  each : (u : ℕ) (unit : UnitPlan) → u < l.unit-index → slice_get l.plan.units.items u ≡ Some unit
      → slice_index_or l.moving.items u false ≡ (is_arbitrary unit.name && not (stays_of l.standing unit));
}
