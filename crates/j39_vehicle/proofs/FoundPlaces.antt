-- What is found is there.
use Rattle.std.proofs.Common.{◌≡◌, ℕ, ◌<◌, List, [], ◌∷◌, length, Bool, true, false, not, ◌&&◌, if◌then◌else◌, codes, Option, Some, None, option_map, All}
use Rattle.std.proofs.Common.{refl, sym, subst, ◌∙◌, arith, Global, Vec, String, string_bytes}
use Rattle.std.proofs.lemmas.List.Elements.{All-cons}
use Rattle.std.proofs.lemmas.List.Quantifiers.{position-Some}
use Rattle.std.proofs.lemmas.Option.{same_Some}
use Rattle.std.specs.Prelude.{position, option_and_then}
use Rattle.std.specs.List.{AllZip, slice_get}
use Rattle.std.specs.Option.{ForSome, option_map_or}
use Rattle.std.specs.Str.{bytes_eq}
use Rattle.j39_network.specs.declared.plan.to.To.TheVariants.{All as ToAll, One}
use Rattle.j39_network.specs.declared.plan.group_plan.GroupPlan.{GroupPlan}
use Rattle.j39_network.specs.NeedPlaces.{signal_count}
use Rattle.j39_vehicle.specs.declared.file.name_on_bus.NameOnBus.{NameOnBus}
use Rattle.j39_vehicle.specs.declared.file.gateway_table.GatewayTable.{GatewayTable}
use Rattle.j39_vehicle.specs.declared.file.signal_table.SignalTable.{SignalTable}
use Rattle.j39_vehicle.specs.declared.file.forward_table.ForwardTable.{ForwardTable}
use Rattle.j39_vehicle.specs.declared.file.need_table.NeedTable.{NeedTable}
use Rattle.j39_vehicle.specs.declared.vehicle.gateway.Gateway.{Gateway}
use Rattle.j39_vehicle.specs.declared.vehicle.forward.Forward.{Forward}
use Rattle.j39_vehicle.specs.declared.vehicle.forward.ForwardedSignal.{ForwardedSignal}
use Rattle.j39_vehicle.specs.declared.vehicle.vehicle_need.VehicleNeed.{VehicleNeed}
use Rattle.j39_vehicle.specs.Resolved.{StandsForGateway, StandsForName, StandsForForward, StandsForSignal, StandForSignals, StandsForNeed, group_beside}
use Rattle.j39_vehicle.specs.declared.vehicle.bus_plan.BusPlan.{BusPlan}
use Rattle.j39_vehicle.specs.declared.vehicle.places.UnitAt.{UnitAt}
use Rattle.j39_vehicle.specs.declared.vehicle.places.GroupAt.{GroupAt}
use Rattle.j39_vehicle.specs.VehiclePlaces.{HasUnit, HasGroup, HasForward, HasNeed, unit_count, group_count, signals_at}
use Rattle.j39_vehicle.specs.TextKinds.{name_of}
use Rattle.j39_vehicle.specs.LabelsFound.{bus_place, units_on, groups_of_bus, signals_in_group, unit_place, group_place, signal_place, unit_labelled}
use Rattle.j39_vehicle.specs.LabelsFound.{group_named, receivers_on, own_label, units_by}

pub place_below : {X : Type 0} (p : X → Bool) (xs : List X) (i : ℕ) → position p xs ≡ Some i → i < length xs
place_below p [] i is = cc
place_below p (x ∷ xs) i is = (position-Some p (x ∷ xs) i x is).0

units_counted : (found : Option BusPlan)
    → length (option_map_or (λ bus. bus.plan.units.items) found []) ≡ option_map_or (λ bus. length bus.plan.units.items) found 0
units_counted None = refl
units_counted (Some bus) = refl

groups_counted : (found : Option BusPlan)
    → length (option_map_or (λ bus. bus.plan.groups.items) found []) ≡ option_map_or (λ bus. length bus.plan.groups.items) found 0
groups_counted None = refl
groups_counted (Some bus) = refl

pub unit_there : (buses : List BusPlan) (b : ℕ) (label : List ℕ) (u : ℕ) → unit_place buses b label ≡ Some u → u < unit_count buses b
unit_there buses b label u is =
    subst (λ n. u < n) (units_counted (slice_get buses b)) (place_below (λ x. bytes_eq x.label.bytes label) (units_on buses b) u is)

pub group_there : (buses : List BusPlan) (b : ℕ) (label : List ℕ) (g : ℕ) → group_place buses b label ≡ Some g → g < group_count buses b
group_there buses b label g is =
    subst (λ n. g < n) (groups_counted (slice_get buses b)) (place_below (λ x. bytes_eq x.label.bytes label) (groups_of_bus buses b) g is)

-- what is made of the bus and of the place there of something that is found there
made_at : {X : Type 0} (make : ℕ → ℕ → X) (P : X → Type 0) (place : Option ℕ) (b : ℕ) (x : X) → ((n : ℕ) → place ≡ Some n → P (make b n))
    → option_map (make b) place ≡ Some x → P x
made_at make P None b x there found = cc
made_at make P (Some n) b x there found = subst P (same_Some _ _ found) (there n refl)

made_on : {X : Type 0} (make : ℕ → ℕ → X) (P : X → Type 0) (place : ℕ → Option ℕ) (bus : Option ℕ) (x : X)
    → ((b n : ℕ) → place b ≡ Some n → P (make b n)) → option_and_then (λ b. option_map (make b) (place b)) bus ≡ Some x → P x
made_on make P place None x there found = cc
made_on make P place (Some b) x there found = made_at make P (place b) b x (there b) found

pub unit_found : (buses : List BusPlan) (t : List ℕ) (u : UnitAt) → unit_labelled buses t ≡ Some u → HasUnit buses u
unit_found buses t u found =
    made_on (λ b n. record { bus = b; unit = n }) (HasUnit buses) (λ b. unit_place buses b (name_of t).label) (bus_place buses (name_of t).bus) u
    (λ b n is. unit_there buses b (name_of t).label n is) found

pub group_found : (buses : List BusPlan) (t : List ℕ) (g : GroupAt) → group_named buses t ≡ Some g → HasGroup buses g
group_found buses t g found =
    made_on (λ b n. record { bus = b; group = n }) (HasGroup buses) (λ b. group_place buses b (name_of t).label) (bus_place buses (name_of t).bus) g
    (λ b n is. group_there buses b (name_of t).label n is) found

-- a unit that a given label names
pub given_there : (buses : List BusPlan) (b : ℕ) (given : Option (List ℕ)) (u : ℕ)
    → option_and_then (unit_place buses b) given ≡ Some u → u < unit_count buses b
given_there buses b None u found = cc
given_there buses b (Some label) u found = unit_there buses b label u found

one_of : (is_all : Bool) (place : Option ℕ) (r : ℕ) → (if is_all then Some ToAll else option_map One place) ≡ Some (One r) → place ≡ Some r
one_of true place r found = cc
one_of false None r found = cc
one_of false (Some p) r found = cc

-- a receiver that a given word names
pub receiver_there : (buses : List BusPlan) (b : ℕ) (given : Option (List ℕ)) (r : ℕ)
    → option_and_then (receivers_on buses b) given ≡ Some (One r) → r < unit_count buses b
receiver_there buses b None r found = cc
receiver_there buses b (Some word) r found = unit_there buses b word r (one_of (bytes_eq word (codes "all")) (unit_place buses b word) r found)

counted : (found : Option GroupPlan)
    → length (option_map_or (λ group. group.signals.items) found []) ≡ option_map_or (λ group. length group.signals.items) found 0
counted None = refl
counted (Some group) = refl

signals_counted : (found : Option BusPlan) (g : ℕ)
    → length (option_map_or (λ group. group.signals.items) (slice_get (option_map_or (λ bus. bus.plan.groups.items) found []) g) [])
    ≡ option_map_or (λ bus. signal_count bus.plan.groups.items g) found 0
signals_counted None g = refl
signals_counted (Some bus) g = counted (slice_get bus.plan.groups.items g)

pub signal_there : (buses : List BusPlan) (g : GroupAt) (label : List ℕ) (s : ℕ) → signal_place buses g label ≡ Some s → s < signals_at buses g
signal_there buses g label s is =
    subst (λ n. s < n) (signals_counted (slice_get buses g.bus) g.group)
    (place_below (λ x. bytes_eq x.label.bytes label && not x.repeated) (signals_in_group buses g) s is)

pub given_signal_there : (buses : List BusPlan) (g : GroupAt) (given : Option (List ℕ)) (s : ℕ)
    → option_and_then (signal_place buses g) given ≡ Some s → s < signals_at buses g
given_signal_there buses g None s found = cc
given_signal_there buses g (Some label) s found = signal_there buses g label s found

-- ---- table by table

pub All-from_AllZip : {S T : Type 0} (R : S → T → Type 0) (P : T → Type 0) (holds : (x : S) (y : T) → R x y → P y) (xs : List S) (ys : List T)
    → AllZip R xs ys → All P ys
All-from_AllZip R P holds [] [] each = λ k d below. absurd (omega arith)
All-from_AllZip R P holds [] (y ∷ ys) each = absurd each
All-from_AllZip R P holds (x ∷ xs) [] each = absurd each
All-from_AllZip R P holds (x ∷ xs) (y ∷ ys) each = All-cons P y ys (holds x y each.0) (All-from_AllZip R P holds xs ys each.1)

pub gateway_units : (buses : List BusPlan) (gs : List GatewayTable) (hs : List Gateway) → AllZip (StandsForGateway buses) gs hs
    → All (λ h. All (HasUnit buses) h.units.items) hs
gateway_units buses = All-from_AllZip (StandsForGateway buses) (λ h. All (HasUnit buses) h.units.items)
    (λ g h stands. All-from_AllZip (StandsForName buses) (HasUnit buses)
    (λ n u found. unit_found buses (string_bytes n.text) u found) g.units.items h.units.items stands.units)

pub need_places : (buses : List BusPlan) (ds : List NeedTable) (rs : List VehicleNeed) → AllZip (StandsForNeed buses) ds rs → All (HasNeed buses) rs
need_places buses = All-from_AllZip (StandsForNeed buses) (HasNeed buses) (λ d r stands. record {
  unit = unit_found buses (string_bytes d.unit.text) r.unit stands.unit;
  group = group_there buses r.unit.bus (string_bytes d.group) r.group stands.group;
  signal = λ s is. given_signal_there buses (group_beside r.unit.bus r.group) (option_map string_bytes d.signal) s (sym stands.signal ∙ is);
  from = unit_found buses (string_bytes d.from.text) r.from stands.from;
})

listed_there : (buses : List BusPlan) (heard sent : GroupAt) (P : ForwardedSignal → Type 0)
    → ((t : SignalTable) (s : ForwardedSignal) → StandsForSignal buses heard sent t s → P s)
    → (listed : Option (List SignalTable)) (found : Option (Vec ForwardedSignal Global))
    → StandForSignals buses heard sent listed (option_map (λ v. v.items) found) → ForSome found (λ v. All P v.items)
listed_there buses heard sent P holds listed None stand = λ v is. cc
listed_there buses heard sent P holds None (Some v) stand = absurd stand
listed_there buses heard sent P holds (Some signals) (Some v) stand = λ w is.
    subst (λ x. All P x.items) (same_Some _ _ is) (All-from_AllZip (StandsForSignal buses heard sent) P holds signals v.items stand)

-- the label of the gateway's unit beside a group
abbrev own_of : List GatewayTable → ForwardTable → NameOnBus → Option (String Global) → Option (List ℕ)
own_of gs f group given = own_label (units_by gs (string_bytes f.gateway)) (name_of (string_bytes group.text)).bus (option_map string_bytes given)

pub forward_places : (buses : List BusPlan) (gs : List GatewayTable) (hs : List Gateway) (fs : List ForwardTable) (rs : List Forward)
    → length hs ≡ length gs → AllZip (StandsForForward buses gs) fs rs → All (HasForward buses hs) rs
forward_places buses gs hs fs rs same = All-from_AllZip (StandsForForward buses gs) (HasForward buses hs) (λ f r stands. record {
  gateway = rw same (place_below (λ g. bytes_eq g.label.bytes (string_bytes f.gateway)) gs r.gateway stands.gateway);
  input = group_found buses (string_bytes f.input.text) r.input stands.input;
  from = λ u is. given_there buses r.input.bus (option_map string_bytes f.from) u (sym stands.from ∙ is);
  hearer = given_there buses r.input.bus (own_of gs f f.input f.at) r.hearer stands.hearer;
  output = group_found buses (string_bytes f.output.text) r.output stands.output;
  sender = given_there buses r.output.bus (own_of gs f f.output f.by) r.sender stands.sender;
  to = λ u is. receiver_there buses r.output.bus (option_map string_bytes f.to) u (sym stands.to ∙ is);
  read = listed_there buses r.input r.output (λ s. s.read < signals_at buses r.input)
      (λ t s stands. signal_there buses r.input (string_bytes t.read) s.read stands.read) (option_map (λ v. v.items) f.signals) r.signals stands.signals;
  written = listed_there buses r.input r.output (λ s. s.written < signals_at buses r.output)
      (λ t s stands. signal_there buses r.output (string_bytes t.written) s.written stands.written)
      (option_map (λ v. v.items) f.signals) r.signals stands.signals;
}) fs rs
