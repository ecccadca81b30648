use Rattle.std.proofs.Common.{◌≡◌, ◌≤◌, map, take, length, All, vec_len, vec_capacity}
use Rattle.j39_load.specs.Demands.{want_of}
use Rattle.j39_timing.specs.Waits.{IsWant}
use Rattle.j39_load.proofs.waits.demands.each_want.Given as goal

abbrev pub invariant-loop-broadcast : goal.invariant-loop-broadcast
invariant-loop-broadcast l = record {
  wants : l.wants.items ≡ map (want_of l.part) (take l.broadcast-index l.broadcasts);
  len : vec_len l.wants ≡ l.broadcast-index;
  room : length l.broadcasts ≤ vec_capacity l.wants;
  sound : All IsWant l.wants.items;
}
