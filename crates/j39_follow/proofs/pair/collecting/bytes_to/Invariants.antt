use Rattle.std.proofs.Common.{◌≡◌}
use Rattle.j39_tp.specs.Carried.{chunks_to}
use Rattle.j39_follow.specs.inside.Collecting.{CameTo, kept_bytes}
use Rattle.j39_follow.proofs.pair.collecting.bytes_to.Given as goal

abbrev pub invariant-loop-number : goal.invariant-loop-number
invariant-loop-number l = CameTo l.chunks l.number × (l.bytes.items ≡ chunks_to (kept_bytes l.chunks) l.number)
