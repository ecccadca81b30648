use Rattle.j39_vehicle_text.specs.ForwardLines.{queued_text}
use Rattle.j39_vehicle_text.proofs.Behind.{both_written}
use Rattle.j39_vehicle_text.proofs.forward_lines.write_within.Goals as goal

pub returns : goal.returns
unfolding queued_text
returns c =
    both_written c.word.result c.args.text.now c.field.new.self c.word.new.self _ _ c.in_ok-field.ensures
    (both_written c.word.result c.field.new.self c.field-2.new.self c.word.new.self _ _ c.in_ok-field-2.ensures c.word.ensures)
