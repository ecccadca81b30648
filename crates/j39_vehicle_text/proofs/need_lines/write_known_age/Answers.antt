use Rattle.j39_vehicle_text.specs.NeedLines.{need_age_text}
use Rattle.j39_vehicle_text.proofs.Behind.{both_written}
use Rattle.j39_vehicle_text.proofs.need_lines.write_known_age.Goals as goal

pub returns : goal.returns
unfolding need_age_text
returns c =
    both_written c.word.result c.args.text.now c.field.new.self c.word.new.self _ _ c.in_ok-field.ensures
    (both_written c.word.result c.field.new.self c.write_limit.new.text c.word.new.self _ _ c.in_ok-write_limit.ensures c.word.ensures)
