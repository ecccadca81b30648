-- Boxes of variants: those in which something is there.
use Rattle.std.specs.declared.alloc.Global.{Global}
use Rattle.std.specs.Prelude.{ℕ, ◌==◌, List, Bool, true, false, ◌&&◌, ◌||◌, not, Vec}
use Rattle.std.specs.List.{list_all, list_any, slice_get}
use Rattle.std.specs.Option.{option_map_or}
use Rattle.j39_network.specs.declared.plan.to.To.{To}
use Rattle.j39_network.specs.declared.plan.to.To.TheVariants.{All, One}
use Rattle.j39_variants.specs.declared.line.Alternative.{Alternative}
use Rattle.j39_variants.specs.declared.line.ProductLine.{ProductLine}
use Rattle.j39_line_findings.specs.declared.part.LinePart.{LinePart}
use Rattle.j39_line_findings.specs.declared.part.LinePart.TheVariants.{Unit as AUnit, Group, Flow, Need, Request}

-- two answers are one
abbrev pub are_one_answer : Bool → Bool → Bool
are_one_answer true b = b
are_one_answer false b = not b

-- two alternatives are one
abbrev pub is_one_alternative : Alternative → Alternative → Bool
is_one_alternative a b = (a.choice == b.choice) && (a.place == b.place)

-- the box of a list has an alternative: the list names it, or none of its choice
abbrev pub admits : List Alternative → Alternative → Bool
admits list a = not (list_any (λ b. b.choice == a.choice) list) || list_any (λ b. is_one_alternative b a) list

abbrev pub admits_at : List (Vec Alternative Global) → Alternative → ℕ → Bool
admits_at lists a i = option_map_or (λ list. admits list.items a) (slice_get lists i) true

-- the box of a unit or a group is that of its list
abbrev pub unit_admits : ProductLine → Alternative → ℕ → Bool
unit_admits line a u = admits_at line.lists.units.items a u

abbrev pub group_admits : ProductLine → Alternative → ℕ → Bool
group_admits line a g = admits_at line.lists.groups.items a g

abbrev pub receiver_admits : ProductLine → Alternative → To → Bool
receiver_admits line a All = true
receiver_admits line a (One u) = unit_admits line a u

-- that of a flow or a request is the intersection of its own, and of those of its group, its sender and its receiver
abbrev pub flow_admits : ProductLine → Alternative → ℕ → Bool
flow_admits line a f = option_map_or
    (λ flow. admits_at line.lists.flows.items a f
    && (group_admits line a flow.group && (unit_admits line a flow.sender && receiver_admits line a flow.to)))
    (slice_get line.plan.flows.items f) true

abbrev pub request_admits : ProductLine → Alternative → ℕ → Bool
request_admits line a r = option_map_or
    (λ request. admits_at line.lists.requests.items a r
    && (group_admits line a request.group && (unit_admits line a request.sender && receiver_admits line a request.to)))
    (slice_get line.plan.requests.items r) true

-- that of a need is the one in which it is asked for: the intersection of its own and its unit's
abbrev pub need_admits : ProductLine → Alternative → ℕ → Bool
need_admits line a d = option_map_or (λ need. admits_at line.lists.needs.items a d && unit_admits line a need.unit)
    (slice_get line.plan.needs.items d) true

abbrev pub part_admits : ProductLine → Alternative → LinePart → Bool
part_admits line a (AUnit u) = unit_admits line a u
part_admits line a (Group g) = group_admits line a g
part_admits line a (Flow f) = flow_admits line a f
part_admits line a (Need d) = need_admits line a d
part_admits line a (Request r) = request_admits line a r

-- of some alternatives, some of this choice is in all three boxes
abbrev pub is_choice_in_all : ProductLine → List Alternative → LinePart → LinePart → LinePart → ℕ → Bool
is_choice_in_all line alternatives p q r c = list_any (λ a. (a.choice == c)
    && (part_admits line a p && (part_admits line a q && part_admits line a r))) alternatives

-- three boxes meet: some variant, possible or not, is in each of them; the alternatives are those of the line
abbrev pub do_overlap : ProductLine → List Alternative → LinePart → LinePart → LinePart → Bool
do_overlap line alternatives p q r = list_all (λ a. is_choice_in_all line alternatives p q r a.choice) alternatives
