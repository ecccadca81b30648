use Rattle.std.proofs.Common.{◌≡◌, drop}
use Rattle.j39_schedule.specs.inside.Checksums.{checksum, checksum_from}
use Rattle.j39_schedule.proofs.unit_index.checksum.Given as goal

abbrev pub invariant-loop-byte : goal.invariant-loop-byte
invariant-loop-byte l = checksum_from l.sum (drop l.byte-index l.label) ≡ checksum l.label
