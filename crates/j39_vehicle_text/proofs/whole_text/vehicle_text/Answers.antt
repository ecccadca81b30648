use Rattle.std.proofs.Common.{inl}
use Rattle.j39_vehicle_text.proofs.WholeTexts.{put_said, refused_with}
use Rattle.j39_vehicle_text.proofs.whole_text.vehicle_text.Goals as goal

pub returns-in-Ok : goal.returns-in-Ok
returns-in-Ok g c =
    let (none, stands) = c.in-Ok.ensures in
    put_said c.put_report.result (λ text verdict is. inl (c.in-Ok.vehicle, none, stands, is)) c.put_report.ensures

pub returns-in-Err : goal.returns-in-Err
returns-in-Err g c =
    put_said c.refuse.result
    (λ text verdict is. refused_with c.args.buses.items c.args.file.now _ c.in-Err.error text verdict c.in-Err.ensures is) c.refuse.ensures
