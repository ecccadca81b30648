-- The lines of forwards.
use Rattle.std.specs.Prelude.{ℕ, Bool, if◌then◌else◌, List, [], ◌∷◌, ◌++◌, codes, Option, Some, None}
use Rattle.std.specs.Option.{option_map_or}
use Rattle.j39_text.specs.Texts.{field, place_field}
use Rattle.j39_load.specs.LineLists.{lines_of_each}
use Rattle.j39_vehicle.specs.declared.vehicle.Vehicle.{Vehicle}
use Rattle.j39_vehicle.specs.declared.vehicle.forward.Forward.{Forward}
use Rattle.j39_vehicle_times.specs.declared.bus_delays.Delays.{Delays}
use Rattle.j39_vehicle_times.specs.FoundTimes.{is_late_asked}
use Rattle.j39_vehicle_times.specs.TimeFindings.{first_output}
use Rattle.j39_vehicle_times.specs.Times.{askers_on, latest_ms, queued, us_of_ms}
use Rattle.j39_vehicle_text.specs.VehicleLabels.{gateway_label, group_text_at}

-- which group of which bus goes on as which of which, by which gateway
unfoldable pub forward_text : Vehicle → ℕ → Forward → List ℕ
forward_text v n forward = place_field (codes "forward ") n ++ (codes " " ++ (gateway_label v forward.gateway
    ++ (group_text_at (codes " ") v forward.input ++ group_text_at (codes " to ") v forward.output)))

-- by when its first output has to be queued, in microseconds behind the moment
unfoldable pub output_jitter : Vehicle → Forward → ℕ
output_jitter v forward = option_map_or (λ flow. us_of_ms (latest_ms (askers_on v.buses.items forward.output.bus flow) flow)) (first_output v forward) 0

-- when it is queued, of when it has to be; or that this isn't known
unfoldable pub queued_text : Option ℕ → ℕ → List ℕ
queued_text (Some time) limit = field (codes " queued within ") time ++ (field (codes " of ") limit ++ codes " us")
queued_text None limit = field (codes " late of ") limit ++ codes " us"

-- the same, where it is asked
unfoldable pub queued_text_where : Bool → Option ℕ → ℕ → List ℕ
queued_text_where is_asked time limit = if is_asked then queued_text time limit else []

unfoldable pub forward_line : Vehicle → Delays → ℕ → Forward → List ℕ
forward_line v delays n forward =
    forward_text v n forward ++ (queued_text_where (is_late_asked v n) (queued v delays n) (output_jitter v forward) ++ 10 ∷ [])

abbrev pub forward_lines : Vehicle → Delays → List ℕ
forward_lines v delays = lines_of_each (forward_line v delays) 0 v.forwards.items
