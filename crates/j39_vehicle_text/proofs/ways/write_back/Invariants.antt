use Rattle.std.proofs.Common.{◌≡◌, ◌≤◌, ◌++◌, drop, length}
use Rattle.j39_vehicle_text.specs.NeedLines.{back_text}
use Rattle.j39_vehicle_text.proofs.ways.write_back.Given as goal

abbrev pub invariant-back : goal.invariant-back
invariant-back l = record {
  inside : l.left ≤ length l.back;
  written : l.text ≡ l.initial.text ++ back_text (drop l.left l.back);
}

abbrev pub decreases-back : goal.decreases-back
decreases-back l = l.left
