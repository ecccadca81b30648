-- An engine, a gateway on two buses of one plan, and a unit that needs the engine's message.
use Rattle.std.proofs.Common.{◌≡◌, ◌≢◌, ℕ, ◌<◌, ◌^◌, List, [], ◌∷◌, ◌++◌, length, get_or, true, false, Some, None, sym, refl, ap, ◌∙◌, arith}
use Rattle.std.specs.Global.{Global, Vec}
use Rattle.std.specs.FinSet as set
use Rattle.std.specs.Ordering.{nat_cmp}
use Rattle.std.specs.List.{All, AllPairs}
use Rattle.std.proofs.lemmas.Bool.{false≢true}
use Rattle.std.proofs.lemmas.List.Elements.{All-from_recursion}
use Rattle.std.proofs.lemmas.List.Kept.{AllPairs-cons}
use Rattle.std.proofs.lemmas.Option.{none-some, same_Some}
use Rattle.arrayvec.specs.ArrayString.{ArrayString}
use denote.RawPtr.{null_ptr}
use Rattle.std.specs.Prelude.{IsTrue, pos}
use Rattle.std.proofs.lemmas.Int.{ints}
use Rattle.j39_signal.specs.Parts.{IsDivisor, IsSignal}
use Rattle.j39_signal.specs.declared.signal_parts.SignalParts.{SignalParts}
use Rattle.j39_signal.specs.declared.kind.Kind.TheVariants.{Measured}
use Rattle.j39_id.specs.Addresses.{null_address}
use Rattle.j39_id.specs.LabelForm.{is_label, is_unit_label}
use Rattle.j39_id.specs.Name.{is_arbitrary}
use Rattle.j39_network.specs.declared.plan.meaning.Meaning.{Meaning}
use Rattle.j39_network.specs.declared.plan.Plan.{Plan}
use Rattle.j39_network.specs.declared.plan.flow_plan.FlowPlan.{FlowPlan}
use Rattle.j39_network.specs.declared.plan.group_plan.GroupPlan.{GroupPlan}
use Rattle.j39_network.specs.declared.plan.queue.Queue.TheVariants.{Priority}
use Rattle.j39_network.specs.declared.plan.to.To.TheVariants.{All as ToAll, One}
use Rattle.j39_network.specs.declared.plan.unit_plan.UnitPlan.{UnitPlan}
use Rattle.j39_network.specs.PlannedUnits.{units_of}
use Rattle.j39_network.specs.declared.steps.Step.{Step}
use Rattle.j39_network.specs.declared.steps.Step.TheVariants.{Send, Take, Up}
use Rattle.j39_world.specs.ClaimSteps.{switched_on}
use Rattle.j39_world.specs.Flows.{flow_of}
use Rattle.j39_world.specs.Run.{Follows, Run}
use Rattle.j39_world.specs.TransferSteps.{sends_alone}
use Rattle.j39_world.specs.World.{World, all_off, changed_pair}
use Rattle.j39_world.specs.declared.flow.Flow.{Flow}
use Rattle.j39_network.specs.declared.plan.way.Way.TheVariants.{Lowest}
use Rattle.j39_vehicle.specs.declared.vehicle.Vehicle.{Vehicle}
use Rattle.j39_vehicle.specs.declared.vehicle.bus_plan.BusPlan.{BusPlan}
use Rattle.j39_vehicle.specs.declared.vehicle.forward.Forward.{Forward}
use Rattle.j39_vehicle.specs.declared.vehicle.forward.Mode.TheVariants.{Periodic}
use Rattle.j39_vehicle.specs.declared.vehicle.gateway.Gateway.{Gateway}
use Rattle.j39_vehicle.specs.declared.vehicle.places.UnitAt.{UnitAt}
use Rattle.j39_vehicle.specs.VehiclePlaces.{HasForward, HasNeed, HasUnit, signals_at}
use Rattle.j39_vehicle.specs.declared.vehicle.vehicle_need.VehicleNeed.{VehicleNeed}

-- ---- lists

-- a list in memory
abbrev pub in_memory : {X : Type 0} → Global → (xs : List X) → length xs < 2 ^ 63 → Vec X
in_memory alloc xs small = record { ptr = null_ptr; len = length xs; cap = length xs; alloc = alloc; items = xs; ok = (refl, omega arith); small = small }

pub all_of_none : {X : Type 0} (P : X → Type 0) → All P []
all_of_none P = All-from_recursion P [] tt

pub all_of_one : {X : Type 0} (P : X → Type 0) (x : X) → P x → All P (x ∷ [])
all_of_one P x h = All-from_recursion P (x ∷ []) (h, tt)

pub all_of_two : {X : Type 0} (P : X → Type 0) (x y : X) → P x → P y → All P (x ∷ y ∷ [])
all_of_two P x y h k = All-from_recursion P (x ∷ y ∷ []) (h, (k, tt))

pub pairs_of_none : {X : Type 0} (R : X → X → Type 0) → AllPairs R []
pairs_of_none R i j d below inside = absurd (omega arith)

pub pairs_of_one : {X : Type 0} (R : X → X → Type 0) (x : X) → AllPairs R (x ∷ [])
pairs_of_one R x = AllPairs-cons R x [] (all_of_none (R x)) (pairs_of_none R)

pub pairs_of_two : {X : Type 0} (R : X → X → Type 0) (x y : X) → R x y → AllPairs R (x ∷ y ∷ [])
pairs_of_two R x y h = AllPairs-cons R x (y ∷ []) (all_of_one (R x) y h) (pairs_of_one R y)

-- ---- the plan of both buses

abbrev pub label : ℕ → ArrayString
label letter = record { bytes = letter ∷ []; spare = [] }

abbrev pub engine_letter : ℕ
engine_letter = 69

abbrev pub hearer_letter : ℕ
hearer_letter = 71

-- a unit that never claims
abbrev silent_unit : (letter address name : ℕ) → IsTrue (is_unit_label (letter ∷ [])) → address < null_address → name < 2 ^ 64
    → is_arbitrary name ≡ false → UnitPlan
silent_unit letter address name is_label below few fixed = record {
  label = label letter;
  address = address;
  name = name;
  any_identity = false;
  way = Lowest;
  window = 1;
  queue = Priority;
  claims = false;
  label_form = is_label;
  address_range = below;
  name_range = few;
  number_absent = λ is. absurd (false≢true is);
  window_positive = omega arith;
  window_range = omega arith;
  silent_stays = λ _. fixed;
}

abbrev pub engine : UnitPlan
engine = silent_unit engine_letter 0 1 refl (omega arith) (omega arith) refl

abbrev pub hearer : UnitPlan
hearer = silent_unit hearer_letter 39 2 refl (omega arith) (omega arith) refl

-- the engine's speed, in eighths
abbrev pub speed : SignalParts
speed = record {
  label = label 82;
  start = 24;
  bits = 16;
  kind = Measured;
  step = 1;
  offset = pos 0;
  per = 8;
  unit = record { bytes = []; spare = [] };
  repeated = false;
  optional = false;
}

pub speed_ranges : IsSignal speed.start speed.bits speed.step speed.offset
speed_ranges = record {
  start_range = omega arith;
  some_bits = omega arith;
  most_bits = omega arith;
  some_step = omega arith;
  most_step = omega arith;
  least_offset = omega (arith, ints);
  greatest_offset = omega (arith, ints);
}

abbrev pub meaning : Global → Meaning
meaning alloc = record {
  spn = None;
  values = in_memory alloc [] (omega arith);
  spn_range = λ n is. absurd (none-some _ is);
  value_count = omega arith;
}

abbrev pub group : Global → GroupPlan
group alloc = record {
  label = label 71;
  pgn = 61444;
  priority = 3;
  length = 8;
  private = false;
  most = 8;
  every = None;
  when = None;
  signals = in_memory alloc (speed ∷ []) (omega arith);
  meanings = in_memory alloc (meaning alloc ∷ []) (omega arith);
  texts = in_memory alloc [] (omega arith);
  label_form = refl;
  priority_range = omega arith;
  length_positive = omega arith;
  length_range = omega arith;
  most_least = omega arith;
  most_range = omega arith;
  every_positive = λ n is. absurd (none-some _ is);
  every_needed = λ none. all_of_one (λ (s : SignalParts). s.repeated ≡ false) speed refl;
  signal_count = omega arith;
  signal_forms = all_of_one (λ (s : SignalParts). IsTrue (is_label s.label.bytes)) speed refl;
  signal_ranges = all_of_one (λ (s : SignalParts). IsSignal s.start s.bits s.step s.offset) speed speed_ranges;
  signal_divisors = all_of_one (λ (s : SignalParts). IsDivisor s.per) speed refl;
  signal_labels = pairs_of_one (λ (s t : SignalParts). s.label.bytes ≢ t.label.bytes) speed;
  meaning_count = refl;
  text_count = omega arith;
  text_labels = λ i j d below inside. absurd (omega arith);
  other_labels = λ k d inside. absurd (omega arith);
}

abbrev pub flow : FlowPlan
flow = record { group = 0; sender = 0; to = ToAll; pace = None; pause = None; on_request = false; pause_positive = λ n is. absurd (none-some _ is) }

pub labels_differ : engine.label.bytes ≢ hearer.label.bytes
labels_differ same = let letters : engine_letter ≡ hearer_letter = ap (λ xs. get_or xs 0 0) same in absurd (omega (arith, letters))

abbrev pub plan : Global → Plan
plan alloc = record {
  keep_free = set.empty;
  strangers = 0;
  live = true;
  timing = None;
  units = in_memory alloc (engine ∷ hearer ∷ []) (omega arith);
  groups = in_memory alloc (group alloc ∷ []) (omega arith);
  flows = in_memory alloc (flow ∷ []) (omega arith);
  needs = in_memory alloc [] (omega arith);
  requests = in_memory alloc [] (omega arith);
  keep_free_range = λ a is. absurd (false≢true (sym (set.contains-empty nat_cmp a) ∙ is));
  strangers_range = omega arith;
  unit_count = omega arith;
  group_count = omega arith;
  flow_count = omega arith;
  need_count = omega arith;
  request_count = omega arith;
  unit_labels = pairs_of_two (λ (u w : UnitPlan). u.label.bytes ≢ w.label.bytes) engine hearer labels_differ;
  group_labels = pairs_of_one (λ (g h : GroupPlan). g.label.bytes ≢ h.label.bytes) (group alloc);
  flow_groups = all_of_one (λ (f : FlowPlan). f.group < 1) flow (omega arith);
  flow_senders = all_of_one (λ (f : FlowPlan). f.sender < 2) flow (omega arith);
  flow_receivers = all_of_one (λ (f : FlowPlan). (r : ℕ) → f.to ≡ One r → r < 2) flow (λ r is. absurd cc);
  need_units = λ k d inside. absurd (omega arith);
  need_groups = λ k d inside. absurd (omega arith);
  need_signals = λ k d inside. absurd (omega arith);
  need_senders = λ k d inside. absurd (omega arith);
  request_groups = λ k d inside. absurd (omega arith);
  request_senders = λ k d inside. absurd (omega arith);
  request_receivers = λ k d inside. absurd (omega arith);
}

-- ---- the vehicle

abbrev pub bus : Global → ℕ → BusPlan
bus alloc letter = record { label = label letter; plan = plan alloc }

abbrev pub buses : Global → List BusPlan
buses alloc = bus alloc 65 ∷ bus alloc 66 ∷ []

abbrev pub unit_at : ℕ → ℕ → UnitAt
unit_at bus unit = record { bus = bus; unit = unit }

abbrev pub gateway : Global → Gateway
gateway alloc = record { label = label 71; units = in_memory alloc (unit_at 0 1 ∷ unit_at 1 0 ∷ []) (omega arith); unit_count = omega arith }

abbrev pub forward : Forward
forward = record {
  gateway = 0;
  input = record { bus = 0; group = 0 };
  from = None;
  hearer = 1;
  output = record { bus = 1; group = 0 };
  sender = 0;
  to = None;
  mode = Periodic;
  within = None;
  signals = None;
  within_positive = λ n is. absurd (none-some _ is);
  signal_count = λ n is. absurd (none-some _ is);
}

abbrev pub need : VehicleNeed
need = record {
  unit = unit_at 1 1;
  group = 0;
  signal = Some 0;
  from = unit_at 0 0;
  within = None;
  within_positive = λ n is. absurd (none-some _ is);
}

pub has_forward : (alloc : Global) → HasForward (buses alloc) (gateway alloc ∷ []) forward
has_forward alloc = record {
  gateway = omega arith;
  input = omega arith;
  from = λ u is. absurd (none-some _ is);
  hearer = omega arith;
  output = omega arith;
  sender = omega arith;
  to = λ u is. absurd (none-some _ is);
  read = λ n is. absurd (none-some _ is);
  written = λ n is. absurd (none-some _ is);
}

first_signal : (alloc : Global) (s : ℕ) → 0 ≡ s → s < signals_at (buses alloc) (record { bus = 1; group = 0 })
first_signal alloc s is = omega (arith, is)

pub has_need : (alloc : Global) → HasNeed (buses alloc) need
has_need alloc = record { unit = omega arith; group = omega arith; signal = λ s is. first_signal alloc s (same_Some _ _ is); from = omega arith }

pub its_units : (alloc : Global) → All (HasUnit (buses alloc)) (gateway alloc).units.items
its_units alloc = all_of_two (HasUnit (buses alloc)) (unit_at 0 1) (unit_at 1 0) (omega arith) (omega arith)

abbrev pub vehicle : Global → Vehicle
vehicle alloc = record {
  buses = in_memory alloc (buses alloc) (omega arith);
  gateways = in_memory alloc (gateway alloc ∷ []) (omega arith);
  forwards = in_memory alloc (forward ∷ []) (omega arith);
  needs = in_memory alloc (need ∷ []) (omega arith);
  bus_count = omega arith;
  gateway_count = omega arith;
  forward_count = omega arith;
  need_count = omega arith;
  gateway_units = all_of_one (λ (g : Gateway). All (HasUnit (buses alloc)) g.units.items) (gateway alloc) (its_units alloc);
  forward_places = all_of_one (HasForward (buses alloc) (gateway alloc ∷ [])) forward (has_forward alloc);
  need_places = all_of_one (HasNeed (buses alloc)) need (has_need alloc);
}

-- ---- a run: both units come on, and the engine sends a message that the other unit takes

abbrev pub payload : List ℕ
payload = 255 ∷ 255 ∷ 255 ∷ 0 ∷ 10 ∷ 255 ∷ 255 ∷ 255 ∷ []

abbrev pub planned : Global → Flow
planned alloc = flow_of (group alloc ∷ []) flow

abbrev pub first_on : Global → World
first_on alloc = switched_on (units_of (plan alloc)) all_off 0

abbrev pub both_on : Global → World
both_on alloc = switched_on (units_of (plan alloc)) (first_on alloc) 1

abbrev pub sent : Global → World
sent alloc = sends_alone 2 (both_on alloc) 0 (planned alloc) payload

abbrev pub taken : Global → World
taken alloc = record (sent alloc) {
  wire = changed_pair (sent alloc).wire 0 1 [];
  reports = (sent alloc).reports ++ record { receiver = 1; sender = 0; flow = 0; bytes = payload; alone = true } ∷ [];
}

abbrev pub steps : Global → List Step
steps alloc = Up 0 ∷ Up 1 ∷ Send 0 (in_memory alloc payload (omega arith)) ∷ Take 0 1 ∷ []

comes_first : (alloc : Global) → Follows (plan alloc) all_off (Up 0) (first_on alloc)
comes_first alloc = refl

comes_second : (alloc : Global) → Follows (plan alloc) (first_on alloc) (Up 1) (both_on alloc)
comes_second alloc = refl

sends : (alloc : Global) → Follows (plan alloc) (both_on alloc) (Send 0 (in_memory alloc payload (omega arith))) (sent alloc)
sends alloc = refl

takes : (alloc : Global) → Follows (plan alloc) (sent alloc) (Take 0 1) (taken alloc)
takes alloc = refl

pub runs : (alloc : Global) → Run (plan alloc) all_off (steps alloc) (taken alloc)
runs alloc =
    (first_on alloc, comes_first alloc, (both_on alloc, comes_second alloc, (sent alloc, sends alloc, (taken alloc, takes alloc, refl))))
