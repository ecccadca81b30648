use Rattle.std.proofs.Common.{take}
use Rattle.std.specs.List.{AllZip}
use Rattle.j39_variants.specs.VariantPlans.{IsCopyOfMeaning}
use Rattle.j39_variants.proofs.variant_plan.copies.meanings.Given as goal

abbrev pub invariant-loop-stated : goal.invariant-loop-stated
invariant-loop-stated l = AllZip IsCopyOfMeaning (take l.stated-index l.meanings) l.copies.items
