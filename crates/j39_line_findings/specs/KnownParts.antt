-- What names only choices that the line has; what names another one is there in no variant.
use Rattle.std.specs.declared.alloc.Global.{Global}
use Rattle.std.specs.Prelude.{ℕ, List, Bool, true, false, ◌&&◌, length, nat_lt, Vec}
use Rattle.std.specs.List.{list_all, slice_get}
use Rattle.std.specs.Option.{option_map_or}
use Rattle.j39_network.specs.declared.plan.to.To.{To}
use Rattle.j39_network.specs.declared.plan.to.To.TheVariants.{All, One}
use Rattle.j39_variants.specs.declared.line.Alternative.{Alternative}
use Rattle.j39_variants.specs.declared.line.ProductLine.{ProductLine}
use Rattle.j39_line_findings.specs.Boxes.{part_admits}
use Rattle.j39_line_findings.specs.declared.part.LinePart.{LinePart}
use Rattle.j39_line_findings.specs.declared.part.LinePart.TheVariants.{Unit as AUnit, Group, Flow, Need, Request}

abbrev pub is_list_known : ProductLine → List Alternative → Bool
is_list_known line list = list_all (λ a. nat_lt a.choice (length line.choices.items)) list

abbrev pub is_list_known_at : ProductLine → List (Vec Alternative Global) → ℕ → Bool
is_list_known_at line lists i = option_map_or (λ list. is_list_known line list.items) (slice_get lists i) false

abbrev pub is_unit_known : ProductLine → ℕ → Bool
is_unit_known line u = is_list_known_at line line.lists.units.items u

abbrev pub is_group_known : ProductLine → ℕ → Bool
is_group_known line g = is_list_known_at line line.lists.groups.items g

abbrev pub is_receiver_known : ProductLine → To → Bool
is_receiver_known line All = true
is_receiver_known line (One u) = is_unit_known line u

abbrev pub is_flow_known : ProductLine → ℕ → Bool
is_flow_known line f = option_map_or
    (λ flow. is_list_known_at line line.lists.flows.items f
    && (is_group_known line flow.group && (is_unit_known line flow.sender && is_receiver_known line flow.to)))
    (slice_get line.plan.flows.items f) false

abbrev pub is_request_known : ProductLine → ℕ → Bool
is_request_known line r = option_map_or
    (λ request. is_list_known_at line line.lists.requests.items r
    && (is_group_known line request.group && (is_unit_known line request.sender && is_receiver_known line request.to)))
    (slice_get line.plan.requests.items r) false

abbrev pub is_need_known : ProductLine → ℕ → Bool
is_need_known line d = option_map_or (λ need. is_list_known_at line line.lists.needs.items d && is_unit_known line need.unit)
    (slice_get line.plan.needs.items d) false

abbrev pub is_part_known : ProductLine → LinePart → Bool
is_part_known line (AUnit u) = is_unit_known line u
is_part_known line (Group g) = is_group_known line g
is_part_known line (Flow f) = is_flow_known line f
is_part_known line (Need d) = is_need_known line d
is_part_known line (Request r) = is_request_known line r

abbrev pub names_known_choices : ProductLine → List LinePart → Bool
names_known_choices line parts = list_all (is_part_known line) parts

-- ---- boxes of parts

-- all of their boxes have an alternative
abbrev pub do_all_admit : ProductLine → List LinePart → Alternative → Bool
do_all_admit line parts a = list_all (part_admits line a) parts
