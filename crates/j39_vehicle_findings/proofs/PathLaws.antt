-- The list of findings has exactly what holds, in order.
use Rattle.std.proofs.Common.{◌≡◌, ℕ, zero, suc, ◌<◌, ◌⊎◌, List, [], ◌∷◌, ◌++◌, Bool, false, Some, Contains, Decides, length, refl, sym, ap, ◌∙◌, subst, inl}
use Rattle.std.proofs.Common.{inr, arith}
use Rattle.std.specs.List.{slice_get, slice_index_or}
use Rattle.std.proofs.Math.ListN.{get_or-eq_default}
use Rattle.std.proofs.lemmas.Bool.{false≢true, cases_lt}
use Rattle.std.proofs.lemmas.Option.{slice_get_within}
use Rattle.std.proofs.lemmas.List.Elements.{Contains-append_left, Contains-append_right}
use Rattle.j39_search.specs.ListPlaces.{found_if, in_each, each, pairs}
use Rattle.j39_search.proofs.Members.{of_in_each, in_each_of, of_found_if, found_if_of, each_of, pairs_of}
use Rattle.j39_search.proofs.Rising.{AllPairs-from_Rises, Rises-found_if, Rises-in_each}
use Rattle.j39_vehicle.specs.declared.vehicle.Vehicle.{Vehicle}
use Rattle.j39_vehicle.specs.declared.vehicle.forward.Forward.{Forward}
use Rattle.j39_vehicle_findings.specs.ForwardEnds.{ComesAfter, at_once, later}
use Rattle.j39_vehicle_findings.specs.Loops.{DecidesLoops}
use Rattle.j39_vehicle_findings.specs.VehicleFindings.{AreFindings, AreTwoForwards, CopiesOtherLayout, HasManyInputs, HasManyOutputs, HasNoInput, HasNoOutput}
use Rattle.j39_vehicle_findings.specs.VehicleFindings.{Holds}
use Rattle.j39_vehicle_findings.specs.VehicleFindings.{IsBefore, IsNeedUnmet, finding_number}
use Rattle.j39_vehicle_findings.specs.FoundPaths.{are_two_forwards, content_findings, copies_other_layout, differences, end_findings, has_many_inputs}
use Rattle.j39_vehicle_findings.specs.FoundPaths.{has_many_outputs}
use Rattle.j39_vehicle_findings.specs.FoundPaths.{has_no_input, has_no_output, is_need_unmet, loop_findings, need_findings, path_findings, queue_findings}
use Rattle.j39_vehicle_findings.specs.FoundPaths.{shared_queues}
use Rattle.j39_vehicle_findings.specs.FoundPaths.{vehicle_findings}
use Rattle.j39_vehicle_findings.specs.declared.finding.VehicleFinding.{VehicleFinding}
use Rattle.j39_vehicle_findings.specs.declared.finding.VehicleFinding.TheVariants.{NoInput, ManyInputs, NoOutput, ManyOutputs, LayoutDiffers, SignalDiffers}
use Rattle.j39_vehicle_findings.specs.declared.finding.VehicleFinding.TheVariants.{TwoForwards}
use Rattle.j39_vehicle_findings.specs.declared.finding.VehicleFinding.TheVariants.{ForwardLoop, NeedUnmet, SharedQueue}
use Rattle.j39_vehicle_findings.proofs.Deciding.{Decides-are_two_forwards, Decides-copies_other_layout, Decides-has_many_inputs, Decides-has_many_outputs}
use Rattle.j39_vehicle_findings.proofs.Deciding.{Decides-has_no_input, Decides-has_no_output, Decides-is_need_unmet}
use Rattle.j39_search.proofs.Families.{Covers-append}
use Rattle.j39_vehicle_findings.proofs.Families.{Covers, in_order, contents_covered, differences_of, ends_covered, needs_covered, queues_covered, shared_of}

-- ---- loops

-- what something comes after is a forward
starts_within : (v : Vehicle) (n : ℕ) {m : ℕ} → ComesAfter v n m → n < length v.forwards.items
starts_within v n (at_once m f) = slice_get_within v.forwards.items n f.first f.first_is
starts_within v n (later k m before f) = starts_within v n before

stated : (v : Vehicle) (loops : List Bool) → DecidesLoops v loops → (n : ℕ) → Decides (slice_index_or loops n false) (ComesAfter v n n)
stated v loops report n = elim (cases_lt n (length loops)) [
  | inl within ↦ report.each n within
  | inr over ↦
      let none : slice_index_or loops n false ≡ false = get_or-eq_default loops false over in (
        λ e. absurd (false≢true (sym none ∙ e)),
        λ h.
            let less = starts_within v n h in
            let count = report.count in
            absurd (omega arith),
      )
]

value_within : {A : Type 0} (xs : List A) (n : ℕ) → n < length xs → (x : A) × (slice_get xs n ≡ Some x)
value_within [] n less = absurd (omega arith)
value_within (x ∷ xs) zero less = (x, refl)
value_within (x ∷ xs) (suc n) less = value_within xs n (omega arith)

loops_covered : (v : Vehicle) (loops : List Bool) → DecidesLoops v loops → Covers v 8 8 (loop_findings loops v)
unfolding loop_findings
loops_covered v loops report =
    let find : ℕ → Forward → List VehicleFinding = λ n forward. found_if (slice_index_or loops n false) (ForwardLoop n) in
    let is_one : (f : VehicleFinding) → Contains (in_each find 0 v.forwards.items) f → Holds v f × ((n : ℕ) × (f ≡ ForwardLoop n)) =
    λ f h.
    let r = of_in_each find 0 v.forwards.items f h in
    let e = of_found_if (slice_index_or loops r.place false) (ForwardLoop r.place) f r.among in
    let P : VehicleFinding → Type 0 = λ x. Holds v x in
    (subst P (sym e.1) ((stated v loops report r.place).0 e.0), (r.place, e.1)) in
    let number : (f : VehicleFinding) → (n : ℕ) × (f ≡ ForwardLoop n) → finding_number f ≡ 8 = λ f (n, e). ap finding_number e in
    record {
      sound = λ f h. (is_one f h).0;
      least = λ f h. let e = number f (is_one f h).1 in omega arith;
      most = λ f h. let e = number f (is_one f h).1 in omega arith;
      rises = Rises-in_each IsBefore find (λ k x. Rises-found_if IsBefore _ _)
          (λ k l x y f g less in_k in_l.
          let a = of_found_if (slice_index_or loops k false) (ForwardLoop k) f in_k in
          let b = of_found_if (slice_index_or loops l false) (ForwardLoop l) g in_l in
          let P : VehicleFinding → Type 0 = λ u. IsBefore u g in
          let Q : VehicleFinding → Type 0 = λ w. IsBefore (ForwardLoop k) w in
          subst P (sym a.1) (subst Q (sym b.1) (inr (refl, inl less))))
          0 v.forwards.items;
    }

loop_of : (v : Vehicle) (loops : List Bool) → DecidesLoops v loops → (n : ℕ) → ComesAfter v n n → Contains (loop_findings loops v) (ForwardLoop n)
unfolding loop_findings
loop_of v loops report n h =
    let find : ℕ → Forward → List VehicleFinding = λ k forward. found_if (slice_index_or loops k false) (ForwardLoop k) in
    let within = starts_within v n h in
    let x = value_within v.forwards.items n within in
    in_each_of find 0 v.forwards.items (ForwardLoop n) n n x.0 (omega arith) x.1 (found_if_of _ (ForwardLoop n) ((stated v loops report n).1 h))

-- ---- the whole list

found_covered : (v : Vehicle) (loops : List Bool) → DecidesLoops v loops → Covers v 1 14 (vehicle_findings loops v)
unfolding vehicle_findings path_findings
found_covered v loops report =
    Covers-append in_order (Holds v) 1 9 14 14 _ _ (omega arith) (omega arith) (omega arith)
    (Covers-append in_order (Holds v) 1 4 5 9 _ _ (omega arith) (omega arith) (omega arith) (ends_covered v)
    (Covers-append in_order (Holds v) 5 7 8 9 _ _ (omega arith) (omega arith) (omega arith) (contents_covered v)
    (Covers-append in_order (Holds v) 8 8 9 9 _ _ (omega arith) (omega arith) (omega arith) (loops_covered v loops report) (needs_covered v))))
    (queues_covered v)

-- in one of the parts of a list
of_three : (xs ys zs : List VehicleFinding) (f : VehicleFinding) → Contains xs f ⊎ (Contains ys f ⊎ Contains zs f) → Contains (xs ++ (ys ++ zs)) f
of_three xs ys zs f (inl one) = Contains-append_left xs (ys ++ zs) f one
of_three xs ys zs f (inr (inl two)) = Contains-append_right xs (ys ++ zs) f (Contains-append_left ys zs f two)
of_three xs ys zs f (inr (inr three)) = Contains-append_right xs (ys ++ zs) f (Contains-append_right ys zs f three)

of_four : (xs ys zs us : List VehicleFinding) (f : VehicleFinding) → Contains xs f ⊎ (Contains ys f ⊎ (Contains zs f ⊎ Contains us f))
    → Contains (xs ++ (ys ++ (zs ++ us))) f
of_four xs ys zs us f (inl one) = Contains-append_left xs (ys ++ (zs ++ us)) f one
of_four xs ys zs us f (inr more) = Contains-append_right xs (ys ++ (zs ++ us)) f (of_three ys zs us f more)

in_paths : (loops : List Bool) (v : Vehicle) (f : VehicleFinding)
    → Contains (end_findings v) f ⊎ (Contains (content_findings v) f ⊎ (Contains (loop_findings loops v) f ⊎ Contains (need_findings v) f))
    → Contains (vehicle_findings loops v) f
unfolding vehicle_findings path_findings
in_paths loops v f h =
    Contains-append_left (path_findings loops v) (queue_findings v) f
    (of_four (end_findings v) (content_findings v) (loop_findings loops v) (need_findings v) f h)

end_found : (v : Vehicle) (f : VehicleFinding)
    → Contains (each (has_no_input v) NoInput 0 v.forwards.items) f ⊎ (Contains (each (has_many_inputs v) ManyInputs 0 v.forwards.items) f
    ⊎ (Contains (each (has_no_output v) NoOutput 0 v.forwards.items) f ⊎ Contains (each (has_many_outputs v) ManyOutputs 0 v.forwards.items) f))
    → Contains (end_findings v) f
unfolding end_findings
end_found v f h = of_four _ _ _ _ f h

content_found : (v : Vehicle) (f : VehicleFinding)
    → Contains (each (copies_other_layout v) LayoutDiffers 0 v.forwards.items) f
    ⊎ (Contains (in_each (differences v) 0 v.forwards.items) f ⊎ Contains (pairs (are_two_forwards v) TwoForwards v.forwards.items) f)
    → Contains (content_findings v) f
unfolding content_findings
content_found v f h = of_three _ _ _ f h

need_found : (v : Vehicle) (f : VehicleFinding) → Contains (each (is_need_unmet v) NeedUnmet 0 v.needs.items) f → Contains (need_findings v) f
unfolding need_findings
need_found v f h = h

queue_found : (loops : List Bool) (v : Vehicle) (f : VehicleFinding) → Contains (in_each (shared_queues v.buses.items) 0 v.gateways.items) f
    → Contains (vehicle_findings loops v) f
unfolding vehicle_findings queue_findings
queue_found loops v f h = Contains-append_right (path_findings loops v) (queue_findings v) f h

found_of : (v : Vehicle) (loops : List Bool) → DecidesLoops v loops → (f : VehicleFinding) → Holds v f → Contains (vehicle_findings loops v) f
found_of v loops report (NoInput n) h =
    in_paths loops v _ (inl (end_found v _ (inl (each_of (HasNoInput v) (Decides-has_no_input v) NoInput v.forwards.items n h))))
found_of v loops report (ManyInputs n) h =
    in_paths loops v _ (inl (end_found v _ (inr (inl (each_of (HasManyInputs v) (Decides-has_many_inputs v) ManyInputs v.forwards.items n h)))))
found_of v loops report (NoOutput n) h =
    in_paths loops v _ (inl (end_found v _ (inr (inr (inl (each_of (HasNoOutput v) (Decides-has_no_output v) NoOutput v.forwards.items n h))))))
found_of v loops report (ManyOutputs n) h =
    in_paths loops v _ (inl (end_found v _ (inr (inr (inr (each_of (HasManyOutputs v) (Decides-has_many_outputs v) ManyOutputs v.forwards.items n h))))))
found_of v loops report (LayoutDiffers n) h =
    in_paths loops v _ (inr (inl (content_found v _ (inl (each_of (CopiesOtherLayout v) (Decides-copies_other_layout v) LayoutDiffers v.forwards.items n h)))))
found_of v loops report (SignalDiffers n t) h =
    in_paths loops v _ (inr (inl (content_found v _ (inr (inl (in_each_of (differences v) 0 v.forwards.items (SignalDiffers n t) n n h.value (omega arith)
    h.value_is (differences_of v n h.value t h.meets)))))))
found_of v loops report (TwoForwards n m) h =
    in_paths loops v _ (inr (inl (content_found v _ (inr (inr (pairs_of (AreTwoForwards v) (Decides-are_two_forwards v) TwoForwards v.forwards.items n m h))))))
found_of v loops report (ForwardLoop n) h = in_paths loops v _ (inr (inr (inl (loop_of v loops report n h))))
found_of v loops report (NeedUnmet d) h =
    in_paths loops v _ (inr (inr (inr (need_found v _ (each_of (IsNeedUnmet v) (Decides-is_need_unmet v) NeedUnmet v.needs.items d h)))))
found_of v loops report (SharedQueue k b) h =
    queue_found loops v _ (in_each_of (shared_queues v.buses.items) 0 v.gateways.items (SharedQueue k b) k k h.value (omega arith) h.value_is
    (shared_of v k b h.value h.meets))

pub are_findings : (v : Vehicle) (loops : List Bool) → DecidesLoops v loops → AreFindings v (vehicle_findings loops v)
are_findings v loops report = record {
  sound = (found_covered v loops report).sound;
  complete = found_of v loops report;
  in_order = AllPairs-from_Rises IsBefore (vehicle_findings loops v) (found_covered v loops report).rises;
}
