use Rattle.std.proofs.Common.{◌≡◌, List, [], map, refl, inl, inr}
use Rattle.std.proofs.lemmas.Result.{err_from_is_err_and}
use Rattle.toml.specs.Data.{Items, Members}
use Rattle.toml.specs.View.{items_view, table_view}
use Rattle.j39_toml.specs.InOrder.{each_faults, labels_of, EachGrows}
use Rattle.j39_toml.specs.Outcome.{FailsGrowing}
use Rattle.j39_toml.proofs.FirstFaults.{fails_on, first-append}
use Rattle.j39_vehicle.specs.declared.reading.key.Key.TheVariants as key
use Rattle.j39_vehicle.specs.Schema.{elements_at}
use Rattle.j39_vehicle.specs.Growing.{GatewayGrows, ForwardGrows, NeedGrows}
use Rattle.j39_vehicle.specs.LabelsSeen.{Named}
use Rattle.j39_vehicle.specs.BusTables.{bus_faults, bus_name, named_bus}
use Rattle.j39_vehicle.specs.GatewayTables.{gateway_faults, gateway_name, named_gateway}
use Rattle.j39_vehicle.specs.ForwardTables.{forward_faults}
use Rattle.j39_vehicle.specs.NeedTables.{need_faults}
use Rattle.j39_vehicle.specs.VehicleFaults.{buses_faults, buses_of, forwards_faults, gateways_faults, gateways_of, no_name}
use Rattle.j39_vehicle.proofs.reading.read_top.Goals as goal

-- The buses and the gateways of a file are without fault, and are those that later tables may name.
record GatewaysRead (tree : Members) (buses gateways : List Named) : Type 0 where
  no_buses : buses_faults tree ≡ []
  no_gateways : gateways_faults tree ≡ []
  bus_names : buses ≡ buses_of tree
  gateway_names : gateways ≡ gateways_of tree

gateways_read : (tree : Members) (bus_items gateway_items : Items) (buses gateways : List Named)
    → bus_items ≡ elements_at key.Bus tree → gateway_items ≡ elements_at key.Gateway tree
    → each_faults bus_faults bus_name 0 [] bus_items ≡ [] → buses ≡ labels_of bus_name bus_items
    → each_faults (gateway_faults buses) gateway_name 0 [] gateway_items ≡ [] → gateways ≡ labels_of gateway_name gateway_items
    → GatewaysRead tree buses gateways
gateways_read tree bus_items gateway_items buses gateways bus_is gateway_is no_buses bus_names no_gateways gateway_names =
    let names = rw bus_is at bus_names in
    record {
      no_buses = rw bus_is at no_buses;
      no_gateways = rw (names, gateway_is) at no_gateways;
      bus_names = names;
      gateway_names = rw gateway_is at gateway_names;
    }

forwards_read : (tree : Members) (items : Items) (buses gateways : List Named) → GatewaysRead tree buses gateways → items ≡ elements_at key.Forward tree
    → each_faults (λ i seen. forward_faults gateways i) no_name 0 [] items ≡ [] → forwards_faults tree ≡ []
forwards_read tree items buses gateways read is none = rw (read.gateway_names, is) at none

pub returns-in_err-gateways : goal.returns-in_err-gateways
returns-in_err-gateways c =
    let p = err_from_is_err_and c.from_residual-in_err-gateways.result c.from_residual-in_err-gateways.ensures.1 in
    let a = c.in_ok-arrays.ensures.1 in
    let no_buses = rw a.0 at c.in_ok-buses.ensures.gives.0 in
    let bus_names = rw a.0 at c.in_ok-buses.ensures.labels in
    let bs = map named_bus c.in_ok-buses.buses.items in
    let ds = items_view c.in_ok-arrays.arrays.gateways.now in
    let stated : FailsGrowing (EachGrows (gateway_faults bs) (GatewayGrows bs) ds) c.in_err-gateways.field-0.0
    (each_faults (gateway_faults bs) gateway_name 0 [] ds) =
    rw c.deref.ensures.value at c.in_err-gateways.ensures.gives in
    let fails = rw (bus_names, a.1) at stated in
    rw (p.1, p.2, c.in_ok-arrays.ensures.0, no_buses)
    (fails_on _ _ c.in_err-gateways.field-0.0 _ _ (λ grows. (refl, inr (refl, inl grows))) (λ f is. first-append _ _ f is) fails)

pub returns-in_err-forwards : goal.returns-in_err-forwards
returns-in_err-forwards c =
    let p = err_from_is_err_and c.from_residual-in_err-forwards.result c.from_residual-in_err-forwards.ensures.1 in
    let a = c.in_ok-arrays.ensures.1 in
    let gs = map named_gateway c.in_ok-gateways.gateways.items in
    let read = gateways_read (table_view c.args.members.now) _ _
    (map named_bus c.in_ok-buses.buses.items) gs a.0 a.1 c.in_ok-buses.ensures.gives.0 c.in_ok-buses.ensures.labels
    (rw c.deref.ensures.value at c.in_ok-gateways.ensures.gives.0) c.in_ok-gateways.ensures.labels in
    let fs = items_view c.in_ok-arrays.arrays.forwards.now in
    let stated : FailsGrowing (EachGrows (λ i seen. forward_faults gs i) (ForwardGrows gs) fs) c.in_err-forwards.field-0.0
    (each_faults (λ i seen. forward_faults gs i) no_name 0 [] fs) =
    rw c.deref-2.ensures.value at c.in_err-forwards.ensures.gives in
    let fails = rw (read.gateway_names, a.2) at stated in
    rw (p.1, p.2, c.in_ok-arrays.ensures.0, read.no_buses, read.no_gateways)
    (fails_on _ _ c.in_err-forwards.field-0.0 _ _ (λ grows. (refl, inr (refl, inr (refl, inl grows)))) (λ f is. first-append _ _ f is) fails)

pub returns-in_err-needs : goal.returns-in_err-needs
returns-in_err-needs c =
    let p = err_from_is_err_and c.from_residual-in_err-needs.result c.from_residual-in_err-needs.ensures.1 in
    let a = c.in_ok-arrays.ensures.1 in
    let bs = map named_bus c.in_ok-buses.buses.items in
    let read = gateways_read (table_view c.args.members.now) _ _ bs
    (map named_gateway c.in_ok-gateways.gateways.items) a.0 a.1 c.in_ok-buses.ensures.gives.0 c.in_ok-buses.ensures.labels
    (rw c.deref.ensures.value at c.in_ok-gateways.ensures.gives.0) c.in_ok-gateways.ensures.labels in
    let no_forwards = forwards_read _ _ _ _ read a.2 (rw c.deref-2.ensures.value at c.in_ok-forwards.ensures.gives.0) in
    let ns = items_view c.in_ok-arrays.arrays.needs.now in
    let stated : FailsGrowing (EachGrows (λ i seen. need_faults bs i) (NeedGrows bs) ns) c.in_err-needs.field-0.0
    (each_faults (λ i seen. need_faults bs i) no_name 0 [] ns) =
    rw c.deref-3.ensures.value at c.in_err-needs.ensures.gives in
    let fails = rw (read.bus_names, a.3) at stated in
    rw (p.1, p.2, c.in_ok-arrays.ensures.0, read.no_buses, read.no_gateways, no_forwards)
    (fails_on _ _ c.in_err-needs.field-0.0 _ _ (λ grows. (refl, inr (refl, inr (refl, inr (refl, grows))))) (λ f is. is) fails)

pub returns : goal.returns
returns c =
    let a = c.in_ok-arrays.ensures.1 in
    let bs = map named_bus c.in_ok-buses.buses.items in
    let read = gateways_read (table_view c.args.members.now) _ _ bs
    (map named_gateway c.in_ok-gateways.gateways.items) a.0 a.1 c.in_ok-buses.ensures.gives.0 c.in_ok-buses.ensures.labels
    (rw c.deref.ensures.value at c.in_ok-gateways.ensures.gives.0) c.in_ok-gateways.ensures.labels in
    let no_forwards = forwards_read _ _ _ _ read a.2 (rw c.deref-2.ensures.value at c.in_ok-forwards.ensures.gives.0) in
    let ns = items_view c.in_ok-arrays.arrays.needs.now in
    let none_last : each_faults (λ i seen. need_faults bs i) no_name 0 [] ns ≡ [] = rw c.deref-3.ensures.value at c.in_ok-needs.ensures.gives.0 in
    let no_needs = rw (read.bus_names, a.3) at none_last in (
      rw (c.in_ok-arrays.ensures.0, read.no_buses, read.no_gateways, no_forwards) no_needs,
      record {
        has_buses = rw a.0 at c.in_ok-buses.ensures.gives.1;
        has_gateways = rw a.1 at c.in_ok-gateways.ensures.gives.1;
        has_forwards = rw a.2 at c.in_ok-forwards.ensures.gives.1;
        has_needs = rw a.3 at c.in_ok-needs.ensures.gives.1;
      },
    )
