use Rattle.std.proofs.Common.{◌≡◌, ◌≤◌, ◌+◌, ◌++◌, take, length, All}
use Rattle.std.specs.List.{filter_map}
use Rattle.j39_load.specs.AnyQueues.{stream_with}
use Rattle.j39_load.specs.Damage.{damage_streams}
use Rattle.j39_timing.specs.Waits.{IsStream}
use Rattle.j39_load.proofs.queues.queue_groups.streams_with.Given as goal

abbrev pub invariant-loop-sent : goal.invariant-loop-sent
invariant-loop-sent l = record {
  streams : l.streams.items ≡ damage_streams l.fn.timing ++ filter_map (stream_with l.leasts l.own l.level) (take l.sent-index l.all);
  few : length l.streams.items ≤ l.sent-index + 2;
  fit : All IsStream l.streams.items;
}
