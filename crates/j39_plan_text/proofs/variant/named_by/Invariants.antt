use Rattle.std.proofs.Common.{map, take, string_bytes}
use Rattle.std.specs.List.{AllZip}
use Rattle.j39_plan_text.specs.VariantText.{NamesOf}
use Rattle.j39_plan_text.proofs.variant.named_by.Given as goal

abbrev pub invariant-loop-label : goal.invariant-loop-label
invariant-loop-label l = AllZip (NamesOf l.choices) (map string_bytes (take l.label-index l.labels)) l.wanted.items
