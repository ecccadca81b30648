use Rattle.std.proofs.Common.{◌<◌, ◌≤◌, length, append_assoc, arith}
use Rattle.std.proofs.lemmas.List.{append-nil}
use Rattle.j39_bus.specs.Stations.{station_at}
use Rattle.j39_run.specs.Views.{unit_state}
use Rattle.j39_run.proofs.RunLists.{no_units, units_from}
use Rattle.j39_run.proofs.run_lines.write_units.Goals as goal

pub loop-unit-preserved : goal.loop-unit-preserved
loop-unit-preserved g c =
    let inside : c.loop-unit.unit < length c.args.plan.now.units.items = omega arith in
    let next = units_from c.args.plan.now (λ u. unit_state (station_at c.args.bus.now.units u)) c.loop-unit.unit (length c.args.plan.now.units.items) inside in
    rw (c.in_ok-write_unit.ensures, append_assoc, c.state_of.ensures) (rw next at c.loop-unit.invariant)

pub returns : goal.returns
returns g c =
    let past : length c.args.plan.now.units.items ≤ c.loop-unit.unit = omega arith in
    let done = no_units c.args.plan.now (λ u. unit_state (station_at c.args.bus.now.units u)) c.loop-unit.unit (length c.args.plan.now.units.items) past in
    rw (done, append-nil) at c.loop-unit.invariant
