-- The first direct forward that feeds a flow, by its place.
use Rattle.std.proofs.Common.{◌≡◌, ℕ, ◌<◌, ◌&&◌, List, [], ◌∷◌, Bool, false, Some, None, length, get_or, ◌∙◌, ap}
use Rattle.std.specs.List.{find, position, slice_get}
use Rattle.std.specs.Option.{option_and_then, option_map_or}
use Rattle.std.proofs.lemmas.List.Quantifiers.{position-Some}
use Rattle.std.proofs.lemmas.Option.{none-some, slice_get-get_or}
use Rattle.j39_vehicle.specs.declared.vehicle.Vehicle.{Vehicle}
use Rattle.j39_vehicle.specs.declared.vehicle.forward.Forward.{Forward}
use Rattle.j39_vehicle_findings.specs.ForwardTests.{feeds, is_direct}
use Rattle.j39_vehicle_findings.specs.PathTables.{feeders}
use Rattle.j39_vehicle_findings.specs.declared.point.FlowAt.{FlowAt}
use Rattle.j39_vehicle_findings.proofs.PassingLemmas.{find_passing}
use Rattle.j39_vehicle_times.specs.declared.bus_delays.Delays.{Delays}
use Rattle.j39_vehicle_times.specs.Times.{direct_feeder, first_input_at, forward_at, own, sum_known, within_of}
use Rattle.j39_vehicle_times.specs.inside.Chains.{direct_place, hop_by, input_by, is_direct_at}

-- it is the first direct one of those that feed the flow
pub direct_by_feeders : (v : Vehicle) (at : FlowAt) → find (is_direct_at v) (feeders v at) ≡ direct_place v at
direct_by_feeders v at =
    find_passing (feeds v at) is_direct (is_direct_at v) v.forwards.items (λ k x is. ap (λ o. option_map_or is_direct o false) is)

-- what stands at the first place of a value that passes
stands_at : {A : Type 0} (test : A → Bool) (xs : List A) (i : ℕ) → position test xs ≡ Some i → (x : A) × (slice_get xs i ≡ Some x)
stands_at test [] i is = absurd (none-some _ is)
stands_at test (x ∷ xs) i is =
    let inside : i < length (x ∷ xs) = (position-Some test (x ∷ xs) i x is).0 in
    (get_or (x ∷ xs) i x, slice_get-get_or (x ∷ xs) i x inside)

-- the forward at a place is the first direct one that feeds the flow
pub record IsFeeder (v : Vehicle) (at : FlowAt) (place : ℕ) : Type 0 where
  pub forward : Forward
  pub stands : forward_at v place ≡ Some forward
  pub feeds : direct_feeder v at ≡ Some forward

pub feeder_at : (v : Vehicle) (at : FlowAt) (place : ℕ) → direct_place v at ≡ Some place → IsFeeder v at place
feeder_at v at place is =
    let (forward, stands) = stands_at (λ n. feeds v at n && is_direct n) v.forwards.items place is in
    record { forward = forward; stands = stands; feeds = ap (option_and_then (forward_at v)) is ∙ stands }

pub no_feeder : (v : Vehicle) (at : FlowAt) → direct_place v at ≡ None → direct_feeder v at ≡ None
no_feeder v at none = ap (option_and_then (forward_at v)) none

-- what it takes, and what it hears
pub hop_of : (v : Vehicle) (delays : Delays) (place : ℕ) (at : FlowAt) (feeder : IsFeeder v at place)
    → hop_by v delays place at ≡ sum_known (within_of feeder.forward) (own v delays at)
hop_of v delays place at feeder = ap (option_and_then (λ n. sum_known (within_of n) (own v delays at))) feeder.stands

pub input_of : (v : Vehicle) (place : ℕ) (at : FlowAt) (feeder : IsFeeder v at place) → input_by v place ≡ first_input_at v feeder.forward
input_of v place at feeder = ap (option_and_then (first_input_at v)) feeder.stands
