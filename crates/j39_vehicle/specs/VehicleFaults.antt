-- Every fault of a vehicle file's tree, in the order in which they are looked for.
use Rattle.std.specs.Prelude.{List, [], ◌∷◌, ◌++◌}
use Rattle.toml.specs.Data.{Data, Members}
use Rattle.j39_network.specs.PlanLimits.{need_limit}
use Rattle.j39_vehicle.specs.Words.{word_of}
use Rattle.j39_vehicle.specs.declared.reading.key.Key.TheVariants as key
use Rattle.j39_vehicle.specs.declared.reading.place.Table.TheVariants as at
use Rattle.j39_vehicle.specs.VehicleErrors.{VehicleFault}
use Rattle.j39_vehicle.specs.VehicleLimits.{bus_limit, gateway_limit, forward_limit}
use Rattle.j39_vehicle.specs.Schema.{VehicleRule, needed, optional, elements_at}
use Rattle.j39_toml.specs.Rules.{natural_in, array_up_to}
use Rattle.j39_toml.specs.TableFaults.{table_faults}
use Rattle.j39_vehicle.specs.LabelsSeen.{Named, nameless}
use Rattle.j39_toml.specs.InOrder.{each_faults, labels_of}
use Rattle.j39_vehicle.specs.BusTables.{bus_faults, bus_name}
use Rattle.j39_vehicle.specs.GatewayTables.{gateway_faults, gateway_name}
use Rattle.j39_vehicle.specs.ForwardTables.{forward_faults}
use Rattle.j39_vehicle.specs.NeedTables.{need_faults}

abbrev pub top_rules : List VehicleRule
top_rules =
    needed key.Version (natural_in 1 1)
    ∷ optional key.Bus (array_up_to bus_limit)
    ∷ optional key.Gateway (array_up_to gateway_limit)
    ∷ optional key.Forward (array_up_to forward_limit)
    ∷ optional key.Need (array_up_to need_limit)
    ∷ []

-- the buses and the gateways that later tables may name
abbrev pub buses_of : Members → List Named
buses_of tree = labels_of bus_name (elements_at key.Bus tree)

abbrev pub gateways_of : Members → List Named
gateways_of tree = labels_of gateway_name (elements_at key.Gateway tree)

-- a forward and a need have nothing that another may not repeat
abbrev pub no_name : Data → Named
no_name d = nameless

abbrev pub top_faults : Members → List VehicleFault
top_faults tree = table_faults word_of at.Top top_rules tree

abbrev pub buses_faults : Members → List VehicleFault
buses_faults tree = each_faults bus_faults bus_name 0 [] (elements_at key.Bus tree)

abbrev pub gateways_faults : Members → List VehicleFault
gateways_faults tree = each_faults (gateway_faults (buses_of tree)) gateway_name 0 [] (elements_at key.Gateway tree)

abbrev pub forwards_faults : Members → List VehicleFault
forwards_faults tree = each_faults (λ i seen. forward_faults (gateways_of tree) i) no_name 0 [] (elements_at key.Forward tree)

abbrev pub needs_faults : Members → List VehicleFault
needs_faults tree = each_faults (λ i seen. need_faults (buses_of tree) i) no_name 0 [] (elements_at key.Need tree)

-- the top table's keys, then the buses, the gateways, the forwards and the needs, each in order
abbrev pub faults : Members → List VehicleFault
faults tree = top_faults tree ++ (buses_faults tree ++ (gateways_faults tree ++ (forwards_faults tree ++ needs_faults tree)))
