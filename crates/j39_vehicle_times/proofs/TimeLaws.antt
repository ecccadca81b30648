-- The list of findings of times has exactly what holds, in order.
use Rattle.std.proofs.Common.{ℕ, ◌⊎◌, List, ◌++◌, Contains, refl, inl, inr, arith}
use Rattle.std.proofs.lemmas.List.Elements.{Contains-append_left, Contains-append_right}
use Rattle.j39_search.specs.ListPlaces.{each}
use Rattle.j39_search.specs.Order.{ComesBefore}
use Rattle.j39_search.proofs.Families.{Covers as CoversPart, Covers-append, Order, each_family}
use Rattle.j39_search.proofs.Members.{each_of}
use Rattle.j39_search.proofs.Rising.{AllPairs-from_Rises}
use Rattle.j39_vehicle.specs.declared.vehicle.Vehicle.{Vehicle}
use Rattle.j39_vehicle_times.specs.declared.bus_delays.Delays.{Delays}
use Rattle.j39_vehicle_times.specs.declared.finding.TimeFinding.{TimeFinding}
use Rattle.j39_vehicle_times.specs.declared.finding.TimeFinding.TheVariants.{TooOften, TooLate, TooRare, NeedTooOld}
use Rattle.j39_vehicle_times.specs.TimeFindings.{AreTimeFindings, IsNeedTooOld, IsTooLate, IsTooOften, IsTooRare, TimeHolds, time_finding_number}
use Rattle.j39_vehicle_times.specs.TimeFindings.{time_finding_places}
use Rattle.j39_vehicle_times.specs.FoundTimes.{forward_time_findings, is_need_too_old, is_too_late, is_too_often, is_too_rare, need_time_findings}
use Rattle.j39_vehicle_times.specs.FoundTimes.{time_findings}
use Rattle.j39_vehicle_times.proofs.DecidingTimes.{Decides-is_need_too_old, Decides-is_too_late, Decides-is_too_often, Decides-is_too_rare}

abbrev in_order : Order TimeFinding
in_order = record { number = time_finding_number; places = time_finding_places }

-- findings of numbers from low to high that hold of the vehicle, in order
abbrev Covers : Vehicle → Delays → ℕ → ℕ → List TimeFinding → Type 0
Covers v delays = CoversPart in_order (TimeHolds v delays)

forwards_covered : (v : Vehicle) (delays : Delays) → Covers v delays 10 12 (forward_time_findings v delays)
unfolding forward_time_findings
forwards_covered v delays =
    let forwards = v.forwards.items in
    Covers-append in_order (TimeHolds v delays) 10 10 11 12 _ _ (omega arith) (omega arith) (omega arith)
    (each_family in_order (TimeHolds v delays) 10 (IsTooOften v) (Decides-is_too_often v) TooOften forwards (λ i h. h)
    (λ i. record { number = refl; places = refl }))
    (Covers-append in_order (TimeHolds v delays) 11 11 12 12 _ _ (omega arith) (omega arith) (omega arith)
    (each_family in_order (TimeHolds v delays) 11 (IsTooLate v delays) (Decides-is_too_late v delays) TooLate forwards (λ i h. h)
    (λ i. record { number = refl; places = refl }))
    (each_family in_order (TimeHolds v delays) 12 (IsTooRare v) (Decides-is_too_rare v) TooRare forwards (λ i h. h)
    (λ i. record { number = refl; places = refl })))

needs_covered : (v : Vehicle) (delays : Delays) → Covers v delays 13 13 (need_time_findings v delays)
unfolding need_time_findings
needs_covered v delays =
    each_family in_order (TimeHolds v delays) 13 (IsNeedTooOld v delays) (Decides-is_need_too_old v delays) NeedTooOld v.needs.items (λ i h. h)
    (λ i. record { number = refl; places = refl })

all_covered : (v : Vehicle) (delays : Delays) → Covers v delays 10 13 (time_findings v delays)
unfolding time_findings
all_covered v delays =
    Covers-append in_order (TimeHolds v delays) 10 12 13 13 _ _ (omega arith) (omega arith) (omega arith) (forwards_covered v delays) (needs_covered v delays)

-- ---- each one that holds is found

-- in one of the first three parts of a list
of_lists : (xs ys zs us : List TimeFinding) (f : TimeFinding) → Contains xs f ⊎ (Contains ys f ⊎ Contains zs f)
    → Contains ((xs ++ (ys ++ zs)) ++ us) f
of_lists xs ys zs us f (inl one) = Contains-append_left (xs ++ (ys ++ zs)) us f (Contains-append_left xs (ys ++ zs) f one)
of_lists xs ys zs us f (inr (inl two)) =
    Contains-append_left (xs ++ (ys ++ zs)) us f (Contains-append_right xs (ys ++ zs) f (Contains-append_left ys zs f two))
of_lists xs ys zs us f (inr (inr three)) =
    Contains-append_left (xs ++ (ys ++ zs)) us f (Contains-append_right xs (ys ++ zs) f (Contains-append_right ys zs f three))

of_forwards : (v : Vehicle) (delays : Delays) (f : TimeFinding)
    → Contains (each (is_too_often v) TooOften 0 v.forwards.items) f ⊎ (Contains (each (is_too_late v delays) TooLate 0 v.forwards.items) f
    ⊎ Contains (each (is_too_rare v) TooRare 0 v.forwards.items) f)
    → Contains (time_findings v delays) f
unfolding time_findings forward_time_findings
of_forwards v delays f h =
    of_lists (each (is_too_often v) TooOften 0 v.forwards.items) (each (is_too_late v delays) TooLate 0 v.forwards.items)
    (each (is_too_rare v) TooRare 0 v.forwards.items) (need_time_findings v delays) f h

of_needs : (v : Vehicle) (delays : Delays) (f : TimeFinding) → Contains (each (is_need_too_old v delays) NeedTooOld 0 v.needs.items) f
    → Contains (time_findings v delays) f
unfolding time_findings need_time_findings
of_needs v delays f one =
    Contains-append_right (forward_time_findings v delays) (each (is_need_too_old v delays) NeedTooOld 0 v.needs.items) f one

found_of : (v : Vehicle) (delays : Delays) (f : TimeFinding) → TimeHolds v delays f → Contains (time_findings v delays) f
found_of v delays (TooOften n) h =
    of_forwards v delays _ (inl (each_of (IsTooOften v) (Decides-is_too_often v) TooOften v.forwards.items n h))
found_of v delays (TooLate n) h =
    of_forwards v delays _ (inr (inl (each_of (IsTooLate v delays) (Decides-is_too_late v delays) TooLate v.forwards.items n h)))
found_of v delays (TooRare n) h =
    of_forwards v delays _ (inr (inr (each_of (IsTooRare v) (Decides-is_too_rare v) TooRare v.forwards.items n h)))
found_of v delays (NeedTooOld d) h =
    of_needs v delays _ (each_of (IsNeedTooOld v delays) (Decides-is_need_too_old v delays) NeedTooOld v.needs.items d h)

pub are_time_findings : (v : Vehicle) (delays : Delays) → AreTimeFindings v delays (time_findings v delays)
are_time_findings v delays = record {
  sound = (all_covered v delays).sound;
  complete = found_of v delays;
  in_order = AllPairs-from_Rises (ComesBefore time_finding_number time_finding_places) (time_findings v delays) (all_covered v delays).rises;
}
