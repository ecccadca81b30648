use Rattle.std.proofs.Common.{◌≡◌, ◌++◌, ◌≤◌, drop}
use Rattle.j39_variants.specs.VariantPlans.{places}
use Rattle.j39_variants.proofs.variant_plan.places.Given as goal

abbrev pub invariant-loop-flag : goal.invariant-loop-flag
invariant-loop-flag l = (l.places.items ++ places l.count (drop l.flag-index l.flags) ≡ places 0 l.flags) × (l.count ≤ l.flag-index)
