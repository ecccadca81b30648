-- Which texts are labels.
use Rattle.std.specs.Prelude.{ℕ, List, length, Bool, not, ◌&&◌, ◌||◌, ◌==◌, nat_le, codes}
use Rattle.std.specs.List.{list_all}
use Rattle.std.specs.Str.{bytes_eq}

-- a letter, a digit or _
abbrev pub is_label_byte : ℕ → Bool
is_label_byte b = (nat_le 65 b && nat_le b 90) || ((nat_le 97 b && nat_le b 122) || ((nat_le 48 b && nat_le b 57) || b == 95))

-- 1 to 32 of these
abbrev pub is_label : List ℕ → Bool
is_label text = nat_le 1 (length text) && (nat_le (length text) 32 && list_all is_label_byte text)

-- the word for all units labels none of them
abbrev pub is_unit_label : List ℕ → Bool
is_unit_label text = is_label text && not (bytes_eq text (codes "all"))
