use Rattle.std.proofs.Common.{refl}
use Rattle.std.specs.Int.{w64, from_le_bytes}
use Rattle.std.proofs.lemmas.Nat.{from_le_bytes-to_le_bytes_8, le_bytes_8}
use Rattle.j39_id.proofs.laws.names_and_bytes_are_inverse.Goals as goal

pub returns-clause-name : goal.returns-clause-name
returns-clause-name c = from_le_bytes-to_le_bytes_8

pub returns-clause-bytes : goal.returns-clause-bytes
returns-clause-bytes c = λ bytes eight range. le_bytes_8 bytes (from_le_bytes w64 bytes) eight range refl
