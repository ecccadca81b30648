-- The least and the greatest of the addresses that a unit may come to hold, by one word.
use Rattle.std.specs.Prelude.{ℕ, Bool}
use Rattle.j39_network.specs.declared.plan.unit_plan.UnitPlan.{UnitPlan}
use Rattle.j39_load.specs.Loads.{greatest_address, least_address}
use Rattle.j39_load.specs.declared.frames.extreme.Extreme.{Extreme}
use Rattle.j39_load.specs.declared.frames.extreme.Extreme.TheVariants.{Greatest, Least}

abbrev pub extreme_address : Extreme → (UnitPlan → Bool) → UnitPlan → ℕ
extreme_address Least stays = least_address stays
extreme_address Greatest stays = greatest_address stays
