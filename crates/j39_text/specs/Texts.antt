-- What the texts of all commands are made of.
use Rattle.std.specs.Prelude.{ℕ, ◌+◌, List, ◌++◌, codes, decimal}

-- a word with a number behind it
unfoldable pub field_text : List ℕ → List ℕ → List ℕ
field_text word digits = word ++ digits

abbrev pub field : List ℕ → ℕ → List ℕ
field word n = field_text word (decimal n)

-- a word with a place behind it; texts count places from 1
abbrev pub place_field : List ℕ → ℕ → List ℕ
place_field word place = field word (place + 1)

-- a word, and two places
unfoldable pub places_text : List ℕ → ℕ → ℕ → List ℕ
places_text word first second = place_field word first ++ place_field (codes " ") second

-- a word, and two labels
unfoldable pub labels_text : List ℕ → List ℕ → List ℕ → List ℕ
labels_text word first second = word ++ (first ++ (codes " " ++ second))

-- a word, and a label with a number behind it
unfoldable pub numbered_text : List ℕ → List ℕ → List ℕ → List ℕ
numbered_text word label digits = word ++ (label ++ field_text (codes " ") digits)

abbrev pub numbered : List ℕ → List ℕ → ℕ → List ℕ
numbered word label n = numbered_text word label (decimal n)
