use Rattle.std.proofs.Common.{◌≡◌, ◌++◌, drop}
use Rattle.j39_variants.specs.VariantPlans.{picked}
use Rattle.j39_variants.proofs.variant_plan.picked.Given as goal

abbrev pub invariant-loop-index : goal.invariant-loop-index
invariant-loop-index g l = l.picked.items ++ picked (drop l.index l.flags) (drop l.index l.values) ≡ picked l.flags l.values
