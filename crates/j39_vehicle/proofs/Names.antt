-- Labels among those of items.
use Rattle.std.proofs.Common.{◌≡◌, ℕ, List, [], ◌∷◌, map, refl}
use Rattle.std.specs.List.{list_any}
use Rattle.std.specs.Str.{bytes_eq}
use Rattle.j39_vehicle.specs.LabelsSeen.{Named, is_label_among}

pub is_taken_view : {T : Type 0} (name : T → Named) (xs : List T) (label : List ℕ)
    → is_label_among (map name xs) label ≡ list_any (λ x. bytes_eq (name x).label label) xs
is_taken_view name [] label = refl
is_taken_view name (x ∷ xs) label = rw (is_taken_view name xs label)
