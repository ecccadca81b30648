use Rattle.std.proofs.Common.{◌≡◌, ◌≢◌, None, map, take, true}
use Rattle.j39_load.specs.BusTimes.{timing_of}
use Rattle.j39_line_bounds.specs.LineTimes.{AreTimesAmong}
use Rattle.j39_line_check.specs.CountedFindings.{AreCountedIn}
use Rattle.j39_line_check.proofs.counted.find_counted.Given as goal

abbrev pub invariant-loop-place : goal.invariant-loop-place
invariant-loop-place l = record {
  counted : AreCountedIn l.line l.full (map (λ v. v.items) (take l.place l.variants)) l.reported.items;
  times : l.timed ≡ true → timing_of l.line.plan ≢ None → AreTimesAmong l.line (map (λ v. v.items) (take l.place l.variants)) l.times;
}
