use Rattle.j39_vehicle_text.proofs.Reporting.{ok_then, reported_times}
use Rattle.j39_vehicle_text.proofs.vehicle_report.write_times.Goals as goal

pub returns : goal.returns
returns c =
    ok_then c.with_times.result c.with_times.ensures (reported_times c.args.vehicle.now c.args.delays.now c.args.text.now _ _
    c.requires c.in_ok-write_forwards.ensures c.in_ok-write_needs.ensures)
