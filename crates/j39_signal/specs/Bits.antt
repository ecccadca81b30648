-- The bits of a payload and the raw number of a signal (SAE J1939-71, bit and byte order of parameters).
use Rattle.std.specs.Prelude.{◌≡◌, ℕ, zero, suc, ◌+◌, ◌-◌, ◌*◌, ◌/◌, ◌%◌, ◌^◌, List, length, slice_index}
use Rattle.j39_signal.specs.declared.signal_parts.SignalParts.{SignalParts}
use Rattle.j39_signal.specs.Places.{Covers}

-- the bit at place j: bit j % 8 of byte j / 8, both counted from 0
abbrev pub bit : List ℕ → ℕ → ℕ
bit payload j = slice_index payload (j / 8) / 2 ^ (j % 8) % 2

-- the sum of 2 ^ k times the bit at place start + k, for each k below the width
unfoldable pub number_at : List ℕ → ℕ → ℕ → ℕ
number_at payload start zero = 0
number_at payload start (suc k) = number_at payload start k + 2 ^ k * bit payload (start + k)

-- the raw number of a signal
abbrev pub raw_of : List ℕ → SignalParts → ℕ
raw_of payload s = number_at payload s.start s.bits

-- the raw number whose bits are all 1
abbrev pub all_ones : SignalParts → ℕ
all_ones s = 2 ^ s.bits - 1

-- the new payload has this raw number in the signal, and every bit outside it as before
pub record Put (s : SignalParts) (raw : ℕ) (old new : List ℕ) : Type 0 where
  pub same_length : length new ≡ length old
  pub written : raw_of new s ≡ raw
  pub others : (j : ℕ) → ¬ Covers s j → bit new j ≡ bit old j
