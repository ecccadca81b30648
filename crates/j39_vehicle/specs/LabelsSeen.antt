-- What later tables may not repeat, or may name, and texts that name nothing.
use Rattle.std.specs.Prelude.{ℕ, List, [], ◌∷◌, Bool, if◌then◌else◌, Some}
use Rattle.std.specs.List.{list_any}
use Rattle.std.specs.Str.{bytes_eq}
use Rattle.j39_toml.specs.declared.cause.Cause.TheVariants.{Repeated, UnknownLabel}
use Rattle.j39_vehicle.specs.declared.reading.key.Key.{Key}
use Rattle.j39_vehicle.specs.declared.reading.place.Table.{Table}
use Rattle.j39_vehicle.specs.VehicleErrors.{VehicleFault}
use Rattle.j39_toml.specs.TableFaults.{fault}

-- what an element has that a later one may not repeat, or may name: a label, and of a gateway its units, as their texts
pub record Named : Type 0 where
  pub label : List ℕ
  pub units : List (List ℕ)

abbrev pub labelled : List ℕ → Named
labelled t = record { label = t; units = [] }

-- nothing
abbrev pub nameless : Named
nameless = labelled []

abbrev pub is_label_among : List Named → List ℕ → Bool
is_label_among seen t = list_any (λ n. bytes_eq n.label t) seen

-- a label that an earlier element has
unfoldable pub repeated_faults : Table → Key → List Named → List ℕ → List VehicleFault
repeated_faults at key seen t = if is_label_among seen t then fault Repeated at (Some key) ∷ [] else []

-- a text at a key that names nothing
unfoldable pub label_faults : Table → Key → Bool → List VehicleFault
label_faults at key is_known = if is_known then [] else fault UnknownLabel at (Some key) ∷ []
