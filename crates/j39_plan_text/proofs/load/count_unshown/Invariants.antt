use Rattle.std.proofs.Common.{◌≡◌, ◌≤◌, take, count_by}
use Rattle.j39_plan_text.specs.LoadText.{is_unshown}
use Rattle.j39_plan_text.proofs.load.count_unshown.Given as goal

abbrev pub invariant-loop-finding : goal.invariant-loop-finding
invariant-loop-finding l = record {
  count : l.count ≡ count_by is_unshown (take l.finding-index l.others);
  few : l.count ≤ l.finding-index;
}
