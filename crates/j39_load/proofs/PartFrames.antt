-- The parts of the list of all frames, by their places.
use Rattle.std.proofs.Common.{◌≡◌, ℕ, ◌<◌, List, length, map, get_or, sym, ap, ◌∙◌}
use Rattle.std.proofs.lemmas.List.{get_or-map, length-map}
use Rattle.j39_load.specs.declared.loads.parts.FramePart.{FramePart}
use Rattle.j39_load.specs.declared.loads.parts.FramePart.TheVariants.{Announcements, Flows, Packets, Requests, Singles}
use Rattle.j39_load.specs.Asked.{Asked, announcements_of_unit, frames_of_flow, frames_of_request, packets_of_unit, singles_of_flow}
use Rattle.j39_load.specs.inside.FrameParts.{frames_in, places_in}

-- something stands at each place
pub part_length : (part : FramePart) (asked : Asked) → length (frames_in part asked) ≡ places_in part asked
part_length Flows asked = length-map asked.flows frames_of_flow
part_length Singles asked = length-map asked.flows singles_of_flow
part_length Packets asked = length-map asked.units packets_of_unit
part_length Announcements asked = length-map asked.units announcements_of_unit
part_length Requests asked = length-map asked.requests frames_of_request

-- what f makes of the value at a place stands there in the list that it makes
pub made_at : {X Y : Type 0} (f : X → Y) (xs : List X) (k : ℕ) (x : X) (d : Y) → k < length xs → x ≡ get_or xs k x → f x ≡ get_or (map f xs) k d
made_at f xs k x d inside is = ap f is ∙ sym (get_or-map f xs k x d inside)
