use Rattle.std.proofs.Common.{ℕ, ◌≤◌, ◌-◌, ◌^◌, All}
use Rattle.j39_load.specs.AnyQueues.{AreAtMost, IsLevel}
use Rattle.j39_load.proofs.queues.queue_groups.queue_group_level.Given as goal

abbrev pub invariant-loop-level : goal.invariant-loop-level
invariant-loop-level l = record {
  own_frames : l.own.last_ident ≤ l.level;
  rises : l.level ≤ l.next;
  queue_group : All (AreAtMost l.leasts l.own l.level l.next) l.all;
  least : (other : ℕ) → IsLevel l.leasts l.all l.own other → l.next ≤ other;
}

abbrev pub decreases-loop-level : goal.decreases-loop-level
decreases-loop-level l = 2 ^ 64 - l.level
