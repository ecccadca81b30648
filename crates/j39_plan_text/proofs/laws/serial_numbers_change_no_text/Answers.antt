use Rattle.j39_network.specs.declared.plan.Plan.{Plan}
use Rattle.j39_plan_text.specs.AddressesText.{StayingHolds}
use Rattle.j39_plan_text.proofs.VehicleReports.{reported_alike}
use Rattle.j39_plan_text.proofs.laws.serial_numbers_change_no_text.Goals as goal

pub returns : goal.returns
returns c =
    let holds : (plan : Plan) → StayingHolds plan = λ plan. record {
      planned = λ u stays steps w run. c.who_stays.ensures.held plan steps w run u stays.0;
      with_strangers = c.who_stays_with_strangers.ensures.held plan;
    } in
    λ plan vehicle is apart. reported_alike plan vehicle is apart (holds vehicle)
