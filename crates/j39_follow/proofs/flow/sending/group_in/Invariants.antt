use Rattle.std.proofs.Common.{◌<◌, ℕ}
use Rattle.j39_follow.specs.Fits.{MayBeGroup}
use Rattle.j39_follow.proofs.flow.sending.group_in.Given as goal

abbrev pub invariant-loop-place : goal.invariant-loop-place
invariant-loop-place l = (earlier : ℕ) → earlier < l.place → ¬ MayBeGroup l.groups l.pgn l.bytes l.sent earlier
