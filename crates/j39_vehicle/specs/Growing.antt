-- Where reading a vehicle file asks for room: behind what was read without a fault. Want of memory is answered nowhere else.
use Rattle.std.specs.Prelude.{◌≡◌, ◌⊎◌, ℕ, List, []}
use Rattle.toml.specs.Data.{Data, Members}
use Rattle.j39_toml.specs.InOrder.{inside, EachGrows}
use Rattle.j39_vehicle.specs.declared.reading.key.Key.TheVariants as key
use Rattle.j39_vehicle.specs.Schema.{elements_at}
use Rattle.j39_vehicle.specs.LabelsSeen.{Named}
use Rattle.j39_vehicle.specs.BusTables.{bus_faults}
use Rattle.j39_vehicle.specs.GatewayTables.{gateway_faults}
use Rattle.j39_vehicle.specs.SignalTables.{signal_faults}
use Rattle.j39_vehicle.specs.ForwardTables.{forward_keys_faults, forward_table_faults, forward_faults}
use Rattle.j39_vehicle.specs.NeedTables.{need_faults}
use Rattle.j39_vehicle.specs.VehicleFaults.{top_faults, buses_of, gateways_of, buses_faults, gateways_faults, forwards_faults}

-- for the texts of a bus, a gateway, a signal and a need without a fault
abbrev pub BusGrows : ℕ → List Named → Data → Type 0
BusGrows i seen d = bus_faults i seen d ≡ []

abbrev pub GatewayGrows : List Named → ℕ → List Named → Data → Type 0
GatewayGrows buses i seen d = gateway_faults buses i seen d ≡ []

abbrev pub SignalGrows : ℕ → ℕ → List Named → Data → Type 0
SignalGrows f i seen d = signal_faults f i seen d ≡ []

abbrev pub NeedGrows : List Named → ℕ → List Named → Data → Type 0
NeedGrows buses i seen d = need_faults buses i d ≡ []

-- in a forward, whose keys have no fault, among its signals, or for its texts, where it has none
abbrev pub ForwardTableGrows : List Named → ℕ → Members → Type 0
ForwardTableGrows gateways i ms = (forward_keys_faults i ms ≡ [])
    × (EachGrows (signal_faults i) (SignalGrows i) (elements_at key.Signal ms) ⊎ (forward_table_faults gateways i ms ≡ []))

abbrev pub ForwardGrows : List Named → ℕ → List Named → Data → Type 0
ForwardGrows gateways i seen d = ForwardTableGrows gateways i (inside d)

-- in a vehicle file, whose top table has no fault, among its buses, behind these among its gateways, behind these among its forwards, or
-- behind these among its needs
abbrev pub FileGrows : Members → Type 0
FileGrows tree = (top_faults tree ≡ [])
    × (EachGrows bus_faults BusGrows (elements_at key.Bus tree)
    ⊎ ((buses_faults tree ≡ []) × (EachGrows (gateway_faults (buses_of tree)) (GatewayGrows (buses_of tree)) (elements_at key.Gateway tree)
    ⊎ ((gateways_faults tree ≡ []) × (EachGrows (λ i seen. forward_faults (gateways_of tree) i) (ForwardGrows (gateways_of tree)) (elements_at key.Forward tree)
    ⊎ ((forwards_faults tree ≡ []) × EachGrows (λ i seen. need_faults (buses_of tree) i) (NeedGrows (buses_of tree)) (elements_at key.Need tree)))))))
