-- Each part of a long message to one unit has a turn of its own among as many as are counted.
use Rattle.std.proofs.Common.{◌≡◌, ℕ, ◌+◌, ◌*◌, ◌<◌, ◌≤◌, refl, ap, inl, inr, arith}
use Rattle.std.proofs.Math.Nat.{mul-le-mul_left}
use Rattle.std.proofs.lemmas.Bool.{cases_lt}
use Rattle.std.proofs.lemmas.Grind.{div_ceil_times}
use Rattle.std.specs.Int.{div_ceil}
use Rattle.j39_load.specs.KeepsPlan.{turn_of_part}
use Rattle.j39_load.specs.SentFrames.{IsPart, Part, RequestToSend, Packet, ClearToSend, EndAcknowledged}
use Rattle.j39_tp.specs.Chunks.{packets_of}

few_packets : (k bytes : ℕ) → 7 * k < bytes → k < packets_of bytes
few_packets k bytes inside = omega (arith, inside)

pub turn_below : (bytes window : ℕ) → 1 ≤ window → (part : Part) → IsPart bytes window part
    → turn_of_part (packets_of bytes) part < 2 + packets_of bytes + div_ceil (packets_of bytes) window
turn_below bytes window some RequestToSend is = omega arith
turn_below bytes window some EndAcknowledged is = omega arith
turn_below bytes window some (Packet k) is = let few = few_packets k bytes is in omega (arith, few)
turn_below bytes window some (ClearToSend k) is =
    let few = few_packets (window * k) bytes is in
    let ceil = (div_ceil_times (packets_of bytes) window some).0 in
    elim (cases_lt k (div_ceil (packets_of bytes) window)) [
      | inl less ↦ omega (arith, less)
      | inr more ↦ absurd (let most : window * div_ceil (packets_of bytes) window ≤ window * k = mul-le-mul_left window more in omega (arith, few, ceil, most))
    ]

-- two parts of messages of as many bytes that have one turn are one
pub one_part : (bytes window other : ℕ) (a b : Part) → IsPart bytes window a → IsPart bytes other b
    → turn_of_part (packets_of bytes) a ≡ turn_of_part (packets_of bytes) b → a ≡ b
one_part bytes window other RequestToSend RequestToSend is its same = refl
one_part bytes window other RequestToSend (Packet k) is its same = absurd (omega (arith, same))
one_part bytes window other RequestToSend (ClearToSend k) is its same = absurd (omega (arith, same))
one_part bytes window other RequestToSend EndAcknowledged is its same = absurd (omega (arith, same))
one_part bytes window other (Packet j) RequestToSend is its same = absurd (omega (arith, same))
one_part bytes window other (Packet j) (Packet k) is its same = ap Packet (omega (arith, same))
one_part bytes window other (Packet j) (ClearToSend k) is its same = absurd (let few = few_packets j bytes is in omega (arith, same, few))
one_part bytes window other (Packet j) EndAcknowledged is its same = absurd (omega (arith, same))
one_part bytes window other (ClearToSend j) RequestToSend is its same = absurd (omega (arith, same))
one_part bytes window other (ClearToSend j) (Packet k) is its same = absurd (let few = few_packets k bytes its in omega (arith, same, few))
one_part bytes window other (ClearToSend j) (ClearToSend k) is its same = ap ClearToSend (omega (arith, same))
one_part bytes window other (ClearToSend j) EndAcknowledged is its same = absurd (omega (arith, same))
one_part bytes window other EndAcknowledged RequestToSend is its same = absurd (omega (arith, same))
one_part bytes window other EndAcknowledged (Packet k) is its same = absurd (omega (arith, same))
one_part bytes window other EndAcknowledged (ClearToSend k) is its same = absurd (omega (arith, same))
one_part bytes window other EndAcknowledged EndAcknowledged is its same = refl
