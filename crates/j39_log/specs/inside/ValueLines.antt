-- What stands around the value in the line of a signal.
use Rattle.std.specs.Prelude.{◌++◌, ◌∷◌, [], List, map, codes}
use Rattle.std.specs.declared.alloc.Global.{Global}
use Rattle.std.specs.declared.vec.Vec.{Vec}
use Rattle.j39_network.specs.declared.plan.group_plan.GroupPlan.{GroupPlan}
use Rattle.j39_signal.specs.declared.signal_parts.SignalParts.{SignalParts}
use Rattle.j39_log.specs.LogReports.{signal_unit_text}
use Rattle.j39_log.specs.declared.value_line.ValueLine.{ValueLine}

abbrev pub value_line_of : SignalParts → ValueLine
value_line_of s = record {
  before = codes "  " ++ (s.label.bytes ++ codes " value ");
  after = signal_unit_text s.unit.bytes ++ 10 ∷ [];
  absent = codes "  " ++ (s.label.bytes ++ (codes " absent" ++ 10 ∷ []));
}

abbrev pub value_lines_of : GroupPlan → List ValueLine
value_lines_of group = map value_line_of group.signals.items

abbrev pub items_of : Vec ValueLine Global → List ValueLine
items_of lines = lines.items
