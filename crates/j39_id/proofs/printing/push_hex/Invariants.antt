use Rattle.std.proofs.Common.{◌≡◌, ◌+◌, ◌-◌, ◌*◌, ◌≤◌, ◌++◌, length, drop}
use Rattle.hex.specs.Hex.{encode_upper}
use Rattle.j39_id.proofs.printing.push_hex.Given as goal

abbrev pub invariant-loop-byte : goal.invariant-loop-byte
invariant-loop-byte l =
    (length l.text.items + 2 * (length l.bytes - l.byte-index) ≤ 25)
    × (l.text.items ++ encode_upper (drop l.byte-index l.bytes) ≡ l.initial.text.items ++ encode_upper l.bytes)
