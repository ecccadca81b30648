-- Printable characters.
use Rattle.std.specs.Prelude.{ℕ, Bool, ◌&&◌, nat_le}

-- a visible ASCII character or a space
abbrev pub is_printable : ℕ → Bool
is_printable c = nat_le 32 c && nat_le c 126
