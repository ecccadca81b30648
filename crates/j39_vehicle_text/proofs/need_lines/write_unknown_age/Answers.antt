use Rattle.j39_vehicle_text.specs.NeedLines.{need_age_text}
use Rattle.j39_vehicle_text.proofs.Behind.{both_written}
use Rattle.j39_vehicle_text.proofs.need_lines.write_unknown_age.Goals as goal

pub returns : goal.returns
unfolding need_age_text
returns c =
    both_written c.word-2.result c.args.text.now c.word.new.self c.word-2.new.self _ _ c.in_ok-word.ensures
    (both_written c.word-2.result c.word.new.self c.write_limit.new.text c.word-2.new.self _ _ c.in_ok-write_limit.ensures c.word-2.ensures)
