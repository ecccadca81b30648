-- The end of a line that may spell a frame.
use Rattle.std.specs.Prelude.{◌≡◌, ℕ, ◌+◌, ◌-◌, ◌<◌, ◌≤◌, true, List, length, slice_index}
use Rattle.j39_id.specs.FrameLine.{is_separator, payload_digits}

-- from start on the line has eight bytes, a hash and at most so many bytes as digits of a payload, and a separator stands before them
pub record MayBeginAt (line : List ℕ) (start : ℕ) : Type 0 where
  pub within : start + 9 ≤ length line
  pub room : length line ≤ start + 9 + payload_digits
  pub hash : slice_index line (start + 8) ≡ 35
  pub parted : 0 < start → is_separator (slice_index line (start - 1)) ≡ true
