-- Conditions as the program holds them.
use Rattle.std.specs.declared.alloc.Global.{Global}
use Rattle.std.specs.Prelude.{List, map, Vec}
use Rattle.j39_line_findings.specs.Conditions.{Condition}
use Rattle.j39_line_findings.specs.declared.part.LinePart.{LinePart}
use Rattle.j39_line_witnesses.specs.declared.presence.Presence.{Presence}

abbrev pub parts_in : List (Vec LinePart Global) → List (List LinePart)
parts_in lists = map (λ parts. parts.items) lists

abbrev pub condition_of : Presence → Condition
condition_of presence = record { together = presence.together.items; lacking = parts_in presence.lacking.items }

abbrev pub conditions_in : List Presence → List Condition
conditions_in presences = map condition_of presences
