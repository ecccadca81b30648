-- The lines of the findings of a vehicle: forwards and needs by number, else labels.
use Rattle.std.specs.Prelude.{ℕ, List, [], ◌∷◌, ◌++◌, codes}
use Rattle.std.specs.List.{slice_get}
use Rattle.std.specs.Option.{option_map_or}
use Rattle.j39_text.specs.Texts.{labels_text, place_field, places_text}
use Rattle.j39_load.specs.LineLists.{lines_of_each}
use Rattle.j39_vehicle.specs.declared.vehicle.Vehicle.{Vehicle}
use Rattle.j39_vehicle.specs.declared.vehicle.forward.Forward.{Forward}
use Rattle.j39_vehicle_findings.specs.declared.finding.VehicleFinding.{VehicleFinding}
use Rattle.j39_vehicle_findings.specs.declared.finding.VehicleFinding.TheVariants.{NoInput, ManyInputs, NoOutput, ManyOutputs, LayoutDiffers, SignalDiffers, TwoForwards}
use Rattle.j39_vehicle_findings.specs.declared.finding.VehicleFinding.TheVariants.{ForwardLoop, NeedUnmet, SharedQueue}
use Rattle.j39_vehicle_times.specs.declared.finding.TimeFinding.{TimeFinding}
use Rattle.j39_vehicle_times.specs.declared.finding.TimeFinding.TheVariants.{TooOften, TooLate, TooRare, NeedTooOld}
use Rattle.j39_vehicle_text.specs.VehicleLabels.{bus_label, gateway_label, signal_label_at}

-- a signal of the group that the forward at a place sends
unfoldable pub sent_signal_label : Vehicle → ℕ → ℕ → List ℕ
sent_signal_label v n t = option_map_or (λ (forward : Forward). signal_label_at v forward.output t) (slice_get v.forwards.items n) []

unfoldable pub vehicle_finding_text : Vehicle → VehicleFinding → List ℕ
vehicle_finding_text v (NoInput n) = place_field (codes "G1 NoInput ") n
vehicle_finding_text v (ManyInputs n) = place_field (codes "G2 ManyInputs ") n
vehicle_finding_text v (NoOutput n) = place_field (codes "G3 NoOutput ") n
vehicle_finding_text v (ManyOutputs n) = place_field (codes "G4 ManyOutputs ") n
vehicle_finding_text v (LayoutDiffers n) = place_field (codes "G5 LayoutDiffers ") n
vehicle_finding_text v (SignalDiffers n t) = place_field (codes "G6 SignalDiffers ") n ++ (codes " " ++ sent_signal_label v n t)
vehicle_finding_text v (TwoForwards n m) = places_text (codes "G7 TwoForwards ") n m
vehicle_finding_text v (ForwardLoop n) = place_field (codes "G8 ForwardLoop ") n
vehicle_finding_text v (NeedUnmet d) = place_field (codes "G9 NeedUnmet ") d
vehicle_finding_text v (SharedQueue k b) = labels_text (codes "G14 SharedQueue ") (gateway_label v k) (bus_label v b)

unfoldable pub time_finding_text : TimeFinding → List ℕ
time_finding_text (TooOften n) = place_field (codes "G10 TooOften ") n
time_finding_text (TooLate n) = place_field (codes "G11 TooLate ") n
time_finding_text (TooRare n) = place_field (codes "G12 TooRare ") n
time_finding_text (NeedTooOld d) = place_field (codes "G13 NeedTooOld ") d

unfoldable pub vehicle_finding_line : Vehicle → VehicleFinding → List ℕ
vehicle_finding_line v finding = vehicle_finding_text v finding ++ 10 ∷ []

unfoldable pub time_finding_line : TimeFinding → List ℕ
time_finding_line finding = time_finding_text finding ++ 10 ∷ []

abbrev pub vehicle_finding_lines : Vehicle → List VehicleFinding → List ℕ
vehicle_finding_lines v = lines_of_each (λ _. vehicle_finding_line v) 0

abbrev pub time_finding_lines : List TimeFinding → List ℕ
time_finding_lines = lines_of_each (λ _. time_finding_line) 0
