use Rattle.std.proofs.Common.{◌≡◌, drop}
use Rattle.j39_plan_text.specs.VariantText.{has_two}
use Rattle.j39_plan_text.proofs.variant.has_two.Given as goal

abbrev pub invariant-loop-index : goal.invariant-loop-index
invariant-loop-index l = has_two (drop l.index l.alternatives) ≡ has_two l.alternatives
