use Rattle.std.proofs.Common.{◌≡◌, ◌++◌, drop}
use Rattle.j39_log.specs.TextLines.{text_lines}
use Rattle.j39_log.proofs.text_lines.write_texts.Given as goal

abbrev pub invariant-loop-plan : goal.invariant-loop-plan
invariant-loop-plan l =
    l.text ++ text_lines (drop l.plan-index l.texts) l.bytes ≡ l.initial.text ++ text_lines l.texts l.bytes
