use Rattle.std.proofs.Common.{◌≡◌, ◌≤◌, ◌+◌, ◌++◌, take, length, All}
use Rattle.j39_load.specs.Damage.{damage_streams}
use Rattle.j39_load.specs.Delays.{going_before}
use Rattle.j39_load.specs.LineLists.{lines_of_each}
use Rattle.j39_timing.specs.Waits.{IsStream}
use Rattle.j39_load.proofs.waits.delays.streams_before.Given as goal

abbrev pub invariant-loop-place : goal.invariant-loop-place
invariant-loop-place l = record {
  streams : l.streams.items ≡ damage_streams l.fn.timing ++ lines_of_each (going_before l.i l.own) 0 (take l.place l.all);
  few : length l.streams.items ≤ l.place + 2;
  fit : All IsStream l.streams.items;
}
