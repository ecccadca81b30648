use Rattle.std.proofs.Common.{◌≡◌, ◌++◌}
use Rattle.j39_plan_text.specs.ShowText.{kept_lines}
use Rattle.j39_plan_text.proofs.show_lines.write_all_kept.Given as goal

abbrev pub invariant-loop-place : goal.invariant-loop-place
invariant-loop-place l = l.text ≡ l.initial.text ++ kept_lines l.kept l.place
