use Rattle.std.proofs.Common.{◌≡◌, drop, map}
use Rattle.j39_variants.specs.ChoiceTables.{alternative_limit, choice_labels, room_behind}
use Rattle.j39_variants.proofs.reading.choices.room_behind.Given as goal

abbrev pub invariant-loop-choice : goal.invariant-loop-choice
invariant-loop-choice l = room_behind l.room (map choice_labels (drop l.choice-index l.choices)) ≡ room_behind alternative_limit (map choice_labels l.choices)
