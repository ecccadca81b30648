-- Which NAMEs are of one kind, by their fields (SAE J1939-81, NAME fields).
use Rattle.std.specs.Prelude.{◌≡◌, ◌≢◌, ◌↔◌, ℕ, ◌^◌, ◌<◌}
use Rattle.j39_id.specs.Name.{field_in}
use Rattle.j39_id.specs.declared.name_fields.NameField.{NameField}
use Rattle.j39_id.specs.declared.name_fields.NameField.TheVariants.{Identity}
use Rattle.j39_network.specs.Kinds.{kind_of_name}

-- two NAMEs have the same fields, but for the identity number
abbrev pub HaveOneMake : ℕ → ℕ → Type 0
HaveOneMake a b = (field : NameField) → field ≢ Identity → field_in a field ≡ field_in b field

abbrev pub KindsAreOfFields : Type 0
KindsAreOfFields = (a b : ℕ) → a < 2 ^ 64 → b < 2 ^ 64 → (kind_of_name a ≡ kind_of_name b) ↔ HaveOneMake a b
