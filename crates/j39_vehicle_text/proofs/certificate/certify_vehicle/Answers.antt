use Rattle.std.proofs.Common.{[], subst}
use Rattle.j39_vehicle.specs.declared.vehicle.Vehicle.{Vehicle}
use Rattle.j39_vehicle_laws.specs.VehicleAges.{IsSoundVehicle}
use Rattle.j39_vehicle_times.specs.TimeFindings.{AreTimeFindings}
use Rattle.j39_vehicle_findings.specs.FoundPaths.{vehicle_findings}
use Rattle.j39_vehicle_findings.specs.VehicleFindings.{AreFindings}
use Rattle.j39_vehicle_text.proofs.NoFindings.{none_at_all}
use Rattle.j39_vehicle_text.proofs.certificate.certify_vehicle.Goals as goal

pub returns : goal.returns
returns c =
    let v : Vehicle = c.args.vehicle.now in
    let none = c.requires in
    let all : AreFindings v (vehicle_findings none.loops v) = c.vehicle_findings_are_exact.ensures v none.loops none.loops_are in
    let paths : AreFindings v [] = subst (AreFindings v) (none_at_all v none.loops none.paths none.queues) all in
    let times : AreTimeFindings v none.delays [] =
    subst (AreTimeFindings v none.delays) none.times (c.time_findings_are_exact.ensures v none.delays) in
    let sound : IsSoundVehicle v none.delays = record { stated = none.delays_are; paths = paths; times = times } in
    record {
      plans = λ b bus is.
          let (nothing, calm) = none.plans b bus is in
          c.clean_plans_are_certified.ensures bus.plan ((c.clean_where_none.ensures bus.plan).0 nothing) calm;
      paths = paths;
      delays = none.delays;
      delays_are = none.delays_are;
      times = times;
      unaltered = c.nothing_is_altered.ensures v paths;
      arrive = c.passed_messages_arrive.ensures v;
      ages = c.sound_vehicles_keep_ages.ensures.ages v none.delays sound;
      needs = c.sound_vehicles_keep_ages.ensures.needs v none.delays sound;
      values = c.sound_vehicles_keep_ages.ensures.arrives v none.delays sound;
      pauses = c.sound_vehicles_keep_ages.ensures.pauses v none.delays sound;
      streams = c.sound_vehicles_keep_ages.ensures.streams v none.delays sound;
    }
