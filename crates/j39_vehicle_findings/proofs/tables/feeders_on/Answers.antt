use Rattle.std.proofs.Common.{◌≡◌, ◌∙◌, ap, length, arith}
use Rattle.j39_vehicle_findings.specs.Buses.{flows_on}
use Rattle.j39_vehicle_findings.proofs.TableRows.{all_rows}
use Rattle.j39_vehicle_findings.proofs.tables.feeders_on.Goals as goal

pub returns : goal.returns
returns c =
    let v = c.args.vehicle.now in
    let same : length c.flows_on-flow-end.result.now ≡ length (flows_on v.buses.items c.args.bus) =
    ap length (c.flows_on-flow-end.ensures ∙ ap (λ buses. flows_on buses c.args.bus) c.deref.ensures.value) in
    record { rows = all_rows v c.args.bus c.flows.rows.items (omega (arith, same)) c.flows.invariant.each }
