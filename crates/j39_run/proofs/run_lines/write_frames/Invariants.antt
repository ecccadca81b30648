use Rattle.std.proofs.Common.{◌≡◌, ◌++◌, map, drop}
use Rattle.j39_world.specs.Sent.{sent_of}
use Rattle.j39_run.specs.RunText.{sent_lines}
use Rattle.j39_run.proofs.run_lines.write_frames.Given as goal

abbrev pub invariant-loop-place : goal.invariant-loop-place
invariant-loop-place l =
    l.text ++ sent_lines (map sent_of (drop l.place l.frames)) ≡ l.initial.text ++ sent_lines (map sent_of (drop l.from l.frames))
