-- Signals that needs name.
use Rattle.std.specs.Prelude.{ℕ, List, length}
use Rattle.std.specs.List.{slice_get}
use Rattle.std.specs.Option.{option_map_or}
use Rattle.j39_network.specs.declared.plan.group_plan.GroupPlan.{GroupPlan}

-- how many signals the group at a place has
abbrev pub signal_count : List GroupPlan → ℕ → ℕ
signal_count groups g = option_map_or (λ group. length group.signals.items) (slice_get groups g) 0
