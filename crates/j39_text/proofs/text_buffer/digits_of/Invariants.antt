use Rattle.std.proofs.Common.{◌≡◌, ◌*◌, ◌++◌, drop}
use Rattle.arrayvec.specs.ArrayVec.{array_vec_len}
use Rattle.hex.specs.Hex.{encode_upper}
use Rattle.j39_text.proofs.text_buffer.digits_of.Given as goal

abbrev pub invariant-loop-byte : goal.invariant-loop-byte
invariant-loop-byte l = (array_vec_len l.digits ≡ 2 * l.byte-index) × (l.digits.items ++ encode_upper (drop l.byte-index l.bytes) ≡ encode_upper l.bytes)
