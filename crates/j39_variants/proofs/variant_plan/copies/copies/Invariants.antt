use Rattle.std.proofs.Common.{List, ◌++◌, drop}
use Rattle.std.specs.List.{AllZip}
use Rattle.j39_network.specs.declared.plan.group_plan.GroupPlan.{GroupPlan}
use Rattle.j39_variants.specs.VariantPlans.{IsCopyOfGroup, picked}
use Rattle.j39_variants.proofs.variant_plan.copies.copies.Given as goal

abbrev pub invariant-loop-index : goal.invariant-loop-index
invariant-loop-index l = (more : List GroupPlan) → AllZip IsCopyOfGroup (picked (drop l.index l.flags) (drop l.index l.groups)) more
    → AllZip IsCopyOfGroup (picked l.flags l.groups) (l.copies.items ++ more)
