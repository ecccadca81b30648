-- Which needs are asked for in a variant, and not in its plan.
use Rattle.std.specs.declared.alloc.Global.{Global}
use Rattle.std.specs.Prelude.{ℕ, List, Bool, true, false, ◌&&◌, not, length, Option, Some, None, Vec}
use Rattle.std.specs.List.{list_any, range_with_len, slice_get}
use Rattle.std.specs.Option.{option_map_or}
use Rattle.j39_variants.specs.declared.line.Alternative.{Alternative}
use Rattle.j39_variants.specs.declared.line.ProductLine.{ProductLine}
use Rattle.j39_variants.specs.Variants.{is_in}

abbrev pub is_in_at : List ℕ → List (Vec Alternative Global) → ℕ → Bool
is_in_at variant lists i = option_map_or (λ list. is_in variant list.items) (slice_get lists i) false

-- a unit or a group is there in the variants of the box of its list
abbrev pub is_unit_there : ProductLine → List ℕ → ℕ → Bool
is_unit_there line variant u = is_in_at variant line.lists.units.items u

abbrev pub is_group_there : ProductLine → List ℕ → ℕ → Bool
is_group_there line variant g = is_in_at variant line.lists.groups.items g

-- a need is asked for, where the variant is in the box of its own list, and its unit is there
abbrev pub is_need_asked_for : ProductLine → List ℕ → ℕ → Bool
is_need_asked_for line variant d = option_map_or
    (λ need. is_in_at variant line.lists.needs.items d && is_unit_there line variant need.unit) (slice_get line.plan.needs.items d) false

abbrev pub is_sender_there : ProductLine → List ℕ → Option ℕ → Bool
is_sender_there line variant None = true
is_sender_there line variant (Some u) = is_unit_there line variant u

-- what a need is for is there: its group, and the unit from which it asks for it
abbrev pub is_source_there : ProductLine → List ℕ → ℕ → Bool
is_source_there line variant d = option_map_or
    (λ need. is_group_there line variant need.group && is_sender_there line variant need.from) (slice_get line.plan.needs.items d) false

-- it is asked for, and isn't in the plan of the variant
abbrev pub is_need_missed : ProductLine → List ℕ → ℕ → Bool
is_need_missed line variant d = is_need_asked_for line variant d && not (is_source_there line variant d)

abbrev pub is_some_need_missed : ProductLine → List ℕ → Bool
is_some_need_missed line variant = list_any (is_need_missed line variant) (range_with_len 0 (length line.plan.needs.items))
