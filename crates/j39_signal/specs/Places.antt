-- The widths and the places of signals (SAE J1939-71, bit and byte order of parameters).
use Rattle.std.specs.Prelude.{ℕ, ◌+◌, ◌*◌, ◌%◌, ◌<◌, ◌≤◌, ◌≡◌, max, min, Bool, false, not, ◌==◌, ◌||◌, ◌&&◌, nat_le, nat_lt, List, All, AllPairs, IsTrue}
use Rattle.j39_id.specs.Limits.{message_bytes}
use Rattle.j39_signal.specs.declared.signal_parts.SignalParts.{SignalParts}
use Rattle.j39_signal.specs.declared.kind.Kind.{Kind}
use Rattle.j39_signal.specs.declared.kind.Kind.TheVariants.{Measured, Discrete, Raw, States, Signed, Dtc}

-- a signal of this kind that begins at this bit can have this width
abbrev pub width_fits : Kind → ℕ → ℕ → Bool
width_fits Measured start bits = bits == 8 || (bits == 16 || bits == 32)
width_fits Discrete start bits = bits == 2
width_fits Raw start bits = nat_le 1 bits && nat_le bits 32
width_fits States start bits = nat_le 2 bits && nat_le bits 8
width_fits Signed start bits = nat_le 2 bits && nat_le bits 32
width_fits Dtc start bits = bits == 32 && start % 8 == 0

-- the width of the signal fits its kind
abbrev pub WidthFits : SignalParts → Type 0
WidthFits s = IsTrue (width_fits s.kind s.start s.bits)

-- the first place after the signal
abbrev pub end_of : SignalParts → ℕ
end_of s = s.start + s.bits

-- the bit at place j belongs to the signal
abbrev pub Covers : SignalParts → ℕ → Type 0
Covers s j = (s.start ≤ j) × (j < end_of s)

-- the signal as it stands so many bytes further on
abbrev pub further : ℕ → SignalParts → SignalParts
further bytes s = record s { start = s.start + 8 * bytes }

-- the signal ends within a payload of this length
abbrev pub IsInside : ℕ → SignalParts → Type 0
IsInside length s = end_of s ≤ 8 * length

-- some bit belongs to both signals
abbrev pub SharesBit : SignalParts → SignalParts → Type 0
SharesBit s t = (j : ℕ) × Covers s j × Covers t j

-- a payload of so many bytes has the signal: one that is optional where it ends within these, any other always
abbrev pub is_there : ℕ → SignalParts → Bool
is_there bytes s = not s.optional || nat_le (end_of s) (8 * bytes)

abbrev pub IsThere : ℕ → SignalParts → Type 0
IsThere bytes s = IsTrue (is_there bytes s)

-- a signal that isn't optional ends within so many bytes
abbrev pub IsAlwaysInside : ℕ → SignalParts → Type 0
IsAlwaysInside bytes s = s.optional ≡ false → IsInside bytes s

-- the same as tests on the places
abbrev pub is_inside : ℕ → SignalParts → Bool
is_inside length s = nat_le (end_of s) (8 * length)

abbrev pub shares_bit : SignalParts → SignalParts → Bool
shares_bit s t = nat_lt (max s.start t.start) (min (end_of s) (end_of t))

-- signals lay out a payload of this length: each of them fits its kind and ends within it, and no two share a bit
pub record LaysOut (length : ℕ) (signals : List SignalParts) : Type 0 where
  pub some_bytes : 1 ≤ length
  pub most_bytes : length ≤ message_bytes
  pub widths : All WidthFits signals
  pub inside : All (IsInside length) signals
  pub apart : AllPairs (λ s t. ¬ SharesBit s t) signals

-- so they do payloads of all these lengths: they lay out the longest, and what isn't optional ends within the shortest
pub record LaysOutFrom (length most : ℕ) (signals : List SignalParts) : Type 0 where
  pub longest : LaysOut most signals
  pub some_bytes : 1 ≤ length
  pub longer : length ≤ most
  pub always : All (IsAlwaysInside length) signals
