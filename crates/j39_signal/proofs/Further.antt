-- A signal that stands some bytes further on reads what it reads of the bytes behind these.
use Rattle.std.proofs.Common.{◌≡◌, ℕ, zero, suc, ◌+◌, ◌*◌, ◌/◌, ◌%◌, List, drop, refl, arith}
use Rattle.std.proofs.lemmas.List.{get_or-drop}
use Rattle.j39_signal.specs.Bits.{bit, number_at, raw_of}
use Rattle.j39_signal.specs.declared.signal_parts.SignalParts.{SignalParts}
use Rattle.j39_signal.specs.Places.{further}

bit_further : (payload : List ℕ) (bytes j : ℕ) → bit (drop bytes payload) j ≡ bit payload (j + 8 * bytes)
bit_further payload bytes j =
    let byte : (j + 8 * bytes) / 8 ≡ bytes + j / 8 = omega arith in
    let place : (j + 8 * bytes) % 8 ≡ j % 8 = omega arith in
    rw (get_or-drop bytes payload (j / 8) 0, byte, place) refl

number_further : (payload : List ℕ) (bytes start width : ℕ) → number_at (drop bytes payload) start width ≡ number_at payload (start + 8 * bytes) width
unfolding number_at
number_further payload bytes start zero = refl
number_further payload bytes start (suc k) =
    let place : start + k + 8 * bytes ≡ start + 8 * bytes + k = omega arith in
    rw (number_further payload bytes start k, bit_further payload bytes (start + k), place) refl

pub raw_of_further : (payload : List ℕ) (bytes : ℕ) (s : SignalParts) → raw_of (drop bytes payload) s ≡ raw_of payload (further bytes s)
raw_of_further payload bytes s = number_further payload bytes s.start s.bits
