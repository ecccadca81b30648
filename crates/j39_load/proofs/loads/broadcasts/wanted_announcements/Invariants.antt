use Rattle.std.proofs.Common.{◌≡◌, ◌≤◌, ◌*◌, take, sum_by}
use Rattle.j39_load.specs.Broadcasts.{bits_of_announcements}
use Rattle.j39_load.proofs.loads.broadcasts.wanted_announcements.Given as goal

abbrev pub invariant-loop-broadcast : goal.invariant-loop-broadcast
invariant-loop-broadcast l = record {
  sum : l.bits ≡ sum_by (bits_of_announcements l.timing) (take l.broadcast-index l.broadcasts);
  small : l.bits ≤ l.broadcast-index * 168000;
}
