-- The parts of the list of findings one after another, and where each of them needs memory.
use Rattle.std.proofs.Common.{◌≡◌, ◌≢◌, List, [], ◌++◌, Bool, false, append_assoc, ap}
use Rattle.std.specs.List.{slice_index_or}
use Rattle.j39_search.specs.ListPlaces.{each, found_if, in_each, pairs}
use Rattle.j39_vehicle.specs.declared.vehicle.Vehicle.{Vehicle}
use Rattle.j39_vehicle_findings.specs.FoundPaths.{are_two_forwards, content_findings, copies_other_layout, differences, end_findings, has_many_inputs}
use Rattle.j39_vehicle_findings.specs.FoundPaths.{has_many_outputs}
use Rattle.j39_vehicle_findings.specs.FoundPaths.{has_no_input, has_no_output, is_need_unmet, loop_findings, need_findings, path_findings}
use Rattle.j39_vehicle_findings.specs.declared.finding.VehicleFinding.{VehicleFinding}
use Rattle.j39_vehicle_findings.specs.declared.finding.VehicleFinding.TheVariants.{NoInput, ManyInputs, NoOutput, ManyOutputs, LayoutDiffers, TwoForwards}
use Rattle.j39_vehicle_findings.specs.declared.finding.VehicleFinding.TheVariants.{ForwardLoop}
use Rattle.j39_vehicle_findings.specs.declared.finding.VehicleFinding.TheVariants.{NeedUnmet}

pub ends_want : (v : Vehicle) → end_findings v ≢ [] → v.forwards.items ≢ []
unfolding end_findings each in_each
ends_want v some = λ none.
    some (ap (λ xs. each (has_no_input v) NoInput 0 xs ++ (each (has_many_inputs v) ManyInputs 0 xs
    ++ (each (has_no_output v) NoOutput 0 xs ++ each (has_many_outputs v) ManyOutputs 0 xs))) none)

pub contents_want : (v : Vehicle) → content_findings v ≢ [] → v.forwards.items ≢ []
unfolding content_findings each pairs in_each
contents_want v some = λ none.
    some (ap (λ xs. each (copies_other_layout v) LayoutDiffers 0 xs ++ (in_each (differences v) 0 xs ++ pairs (are_two_forwards v) TwoForwards xs)) none)

pub loops_want : (loops : List Bool) (v : Vehicle) → loop_findings loops v ≢ [] → v.forwards.items ≢ []
unfolding loop_findings in_each
loops_want loops v some = λ none. some (ap (λ xs. in_each (λ n forward. found_if (slice_index_or loops n false) (ForwardLoop n)) 0 xs) none)

pub needs_want : (v : Vehicle) → need_findings v ≢ [] → v.needs.items ≢ []
unfolding need_findings each in_each
needs_want v some = λ none. some (ap (λ xs. each (is_need_unmet v) NeedUnmet 0 xs) none)

pub whole_paths : (loops : List Bool) (v : Vehicle) (none ends contents turns needs : List VehicleFinding) → none ≡ [] → ends ≡ none ++ end_findings v
    → contents ≡ ends ++ content_findings v → turns ≡ contents ++ loop_findings loops v → needs ≡ turns ++ need_findings v
    → needs ≡ path_findings loops v
unfolding path_findings
whole_paths loops v none ends contents turns needs a b c d e = rw (e, d, c, b, a) (simp append_assoc)
