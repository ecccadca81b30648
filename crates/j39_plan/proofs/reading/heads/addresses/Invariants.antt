use Rattle.std.proofs.Common.{drop}
use Rattle.toml.specs.View.{items_view}
use Rattle.j39_plan.proofs.HeadElements.{IsSeen}
use Rattle.j39_plan.proofs.reading.heads.addresses.Given as goal

abbrev pub invariant-loop-value : goal.invariant-loop-value
invariant-loop-value l = IsSeen l.seen (items_view (drop l.value-index l.values)) (items_view l.values)
