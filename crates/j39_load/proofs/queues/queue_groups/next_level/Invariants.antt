use Rattle.std.proofs.Common.{ℕ, ◌≤◌, take, All}
use Rattle.j39_load.specs.AnyQueues.{AreAtMost}
use Rattle.j39_load.proofs.queues.queue_groups.next_level.Given as goal

abbrev pub invariant-loop-sent : goal.invariant-loop-sent
invariant-loop-sent l = record {
  above : l.level ≤ l.most;
  at_most : All (AreAtMost l.leasts l.own l.level l.most) (take l.sent-index l.all);
  least : (other : ℕ) → l.level ≤ other → All (AreAtMost l.leasts l.own l.level other) l.all → l.most ≤ other;
}
