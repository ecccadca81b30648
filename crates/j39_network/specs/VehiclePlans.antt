-- One vehicle of a type: the plan with the serial number that each box has in it (SAE J1939-81, identity number).
use Rattle.std.specs.Prelude.{◌≡◌, false}
use Rattle.std.specs.List.{AllZip}
use Rattle.j39_network.specs.Kinds.{MayHaveName}
use Rattle.j39_network.specs.declared.plan.Plan.{Plan}
use Rattle.j39_network.specs.declared.plan.unit_plan.UnitPlan.{UnitPlan}

-- the box that the unit is in a vehicle: it has a NAME with a number, the unit's own where this one has a number
pub record IsBoxOf (unit box : UnitPlan) : Type 0 where
  pub name : MayHaveName unit box.name
  pub number : box.any_identity ≡ false
  pub label : box.label.bytes ≡ unit.label.bytes
  pub address : box.address ≡ unit.address
  pub way : box.way ≡ unit.way
  pub window : box.window ≡ unit.window
  pub queue : box.queue ≡ unit.queue
  pub claims : box.claims ≡ unit.claims

-- the second plan is a vehicle's: each unit is a box there, and all else is as it is planned
pub record IsVehicleOf (plan vehicle : Plan) : Type 0 where
  pub boxes : AllZip IsBoxOf plan.units.items vehicle.units.items
  pub keep_free : vehicle.keep_free ≡ plan.keep_free
  pub strangers : vehicle.strangers ≡ plan.strangers
  pub live : vehicle.live ≡ plan.live
  pub timing : vehicle.timing ≡ plan.timing
  pub groups : vehicle.groups.items ≡ plan.groups.items
  pub flows : vehicle.flows.items ≡ plan.flows.items
  pub needs : vehicle.needs.items ≡ plan.needs.items
  pub requests : vehicle.requests.items ≡ plan.requests.items
