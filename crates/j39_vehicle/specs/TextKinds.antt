-- Which texts the keys of a vehicle file take.
use Rattle.std.specs.Prelude.{ℕ, List, length, Bool, true, ◌&&◌, ◌||◌, ◌==◌, nat_le, codes}
use Rattle.std.specs.List.{list_all, before_first, after_first}
use Rattle.std.specs.Str.{bytes_eq}
use Rattle.j39_id.specs.LabelForm.{is_label}
use Rattle.j39_toml.specs.Printable.{is_printable}
use Rattle.j39_vehicle.specs.declared.reading.text_kind.TextKind.{TextKind}
use Rattle.j39_vehicle.specs.declared.reading.text_kind.TextKind.TheVariants.{Label, OnBus, FileName, ModeWord, Any}

-- a name on a bus, `X.Y`: the label of the bus, and that of a unit or a group of its plan. No point stands in a label, so the first one
-- is the only one.
pub record NameText : Type 0 where
  pub bus : List ℕ
  pub label : List ℕ

abbrev pub name_of : List ℕ → NameText
name_of t = record { bus = before_first (λ c. c == 46) t; label = after_first (λ c. c == 46) t }

-- two labels and a point
abbrev pub is_name : List ℕ → Bool
is_name t = is_label (name_of t).bus && is_label (name_of t).label

-- a name of a file: 1 to 255 visible ASCII characters and spaces
abbrev pub is_file_name : List ℕ → Bool
is_file_name t = nat_le 1 (length t) && (nat_le (length t) 255 && list_all is_printable t)

abbrev pub is_mode : List ℕ → Bool
is_mode t = bytes_eq t (codes "direct") || bytes_eq t (codes "periodic")

abbrev pub takes : TextKind → List ℕ → Bool
takes Label t = is_label t
takes OnBus t = is_name t
takes FileName t = is_file_name t
takes ModeWord t = is_mode t
takes Any t = true
