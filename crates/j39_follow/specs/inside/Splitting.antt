-- How a line is taken apart.
use Rattle.std.specs.Prelude.{◌≡◌, ◌⊎◌, ◌-◌, ◌<◌, ◌≤◌, ℕ, true, List, drop, length, take, slice_index}
use Rattle.j39_id.specs.FrameLine.{is_separator}

-- a word of this letter reports the direction
abbrev pub IsDirectionLetter : ℕ → Type 0
IsDirectionLetter letter = (letter ≡ 82) ⊎ (letter ≡ 84)

-- 3 to 32 bytes, the first and the last of them parentheses
pub record IsEnclosed (word : List ℕ) : Type 0 where
  pub some : 3 ≤ length word
  pub room : length word ≤ 32
  pub opens : slice_index word 0 ≡ 40
  pub closes : slice_index word (length word - 1) ≡ 41

-- a word stands in the line at this place, parted from what is beside it
pub record IsWordAt (line : List ℕ) (place : ℕ) (word : List ℕ) : Type 0 where
  pub begins : 0 < place → is_separator (slice_index line (place - 1)) ≡ true
  pub there : take (length word) (drop place line) ≡ word
  pub ends : length word < length (drop place line) → is_separator (slice_index (drop place line) (length word)) ≡ true
