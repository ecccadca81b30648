-- Which vehicle file some bytes are, and what reading them answers.
use Rattle.std.specs.Prelude.{◌≡◌, [], Option, Result}
use Rattle.toml.specs.Data.{Members}
use Rattle.j39_toml.specs.InOrder.{Each}
use Rattle.j39_vehicle.specs.declared.reading.key.Key.TheVariants as key
use Rattle.j39_vehicle.specs.VehicleErrors.{VehicleError}
use Rattle.j39_vehicle.specs.declared.file.VehicleFile.{VehicleFile}
use Rattle.j39_vehicle.specs.Schema.{elements_at}
use Rattle.j39_toml.specs.FileTrees.{ReadsTree}
use Rattle.j39_vehicle.specs.BusTables.{IsBusOf}
use Rattle.j39_vehicle.specs.GatewayTables.{IsGatewayOf}
use Rattle.j39_vehicle.specs.ForwardTables.{IsForwardOf}
use Rattle.j39_vehicle.specs.NeedTables.{IsNeedOf}
use Rattle.j39_vehicle.specs.VehicleFaults.{faults}

-- the buses, gateways, forwards and needs are those of the tree
pub record DescribesFile (tree : Members) (v : VehicleFile) : Type 0 where
  pub has_buses : Each IsBusOf (elements_at key.Bus tree) v.buses.items
  pub has_gateways : Each IsGatewayOf (elements_at key.Gateway tree) v.gateways.items
  pub has_forwards : Each IsForwardOf (elements_at key.Forward tree) v.forwards.items
  pub has_needs : Each IsNeedOf (elements_at key.Need tree) v.needs.items

-- the tree has no fault, and the file says what it reports
abbrev pub Described : Members → VehicleFile → Type 0
Described tree v = (faults tree ≡ []) × DescribesFile tree v

-- what the tree describes, or its first fault, or that there is no tree, unless memory ran out
abbrev pub Reads : Result VehicleFile VehicleError → Option Members → Type 0
Reads = ReadsTree faults DescribesFile
