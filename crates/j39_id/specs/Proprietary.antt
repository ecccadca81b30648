-- The groups whose content is each maker's own, by their numbers (SAE J1939-21).
use Rattle.std.specs.Prelude.{ℕ, ◌==◌, Bool, ◌&&◌, ◌||◌, nat_le}

-- proprietary A and A2: to one unit or to all
abbrev pub proprietary_a : ℕ
proprietary_a = 61184

abbrev pub proprietary_a2 : ℕ
proprietary_a2 = 126720

-- proprietary B and B2: to all, each by its first and its last number
abbrev pub proprietary_b_first : ℕ
proprietary_b_first = 65280

abbrev pub proprietary_b_last : ℕ
proprietary_b_last = 65535

abbrev pub proprietary_b2_first : ℕ
proprietary_b2_first = 130816

abbrev pub proprietary_b2_last : ℕ
proprietary_b2_last = 131071

abbrev pub is_proprietary : ℕ → Bool
is_proprietary pgn =
    pgn == proprietary_a || (pgn == proprietary_a2
    || ((nat_le proprietary_b_first pgn && nat_le pgn proprietary_b_last) || (nat_le proprietary_b2_first pgn && nat_le pgn proprietary_b2_last)))
