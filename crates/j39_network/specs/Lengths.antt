-- The lengths of the messages of a group.
use Rattle.std.specs.Prelude.{◌≡◌, ℕ, ◌≤◌, All}
use Rattle.j39_network.specs.declared.plan.Plan.{Plan}
use Rattle.j39_network.specs.declared.plan.group_plan.GroupPlan.{GroupPlan}

-- the group has messages of so many bytes
abbrev pub IsLengthOf : GroupPlan → ℕ → Type 0
IsLengthOf group bytes = (group.length ≤ bytes) × (bytes ≤ group.most)

-- ---- plans whose groups have one length each

abbrev pub HasOneLengthEach : Plan → Type 0
HasOneLengthEach plan = All (λ group. group.most ≡ group.length) plan.groups.items
