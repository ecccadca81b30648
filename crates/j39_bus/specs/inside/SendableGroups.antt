-- What a walk over the groups of a plan answers.
use Rattle.std.specs.Prelude.{List, All}
use Rattle.j39_network.specs.PlannedGroups.{IsSendable, IsFirstRefused}
use Rattle.j39_network.specs.declared.plan.group_plan.GroupPlan.{GroupPlan}
use Rattle.j39_world.specs.declared.bus_error.BusError.{BusError}
use Rattle.j39_world.specs.declared.bus_error.BusError.TheVariants.{ChooserCount, SameName, BadGroup, Memory}

-- the first group that cannot be sent, or none where memory was refused
abbrev pub HasBadGroup : List GroupPlan → BusError → Type 0
HasBadGroup groups ChooserCount = ⊥
HasBadGroup groups (SameName i j) = ⊥
HasBadGroup groups (BadGroup g) = IsFirstRefused groups g
HasBadGroup groups Memory = All IsSendable groups
