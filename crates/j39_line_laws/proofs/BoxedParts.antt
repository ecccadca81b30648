-- A part is there in the variants of its box.
use Rattle.std.specs.declared.alloc.Global.{Global}
use Rattle.std.proofs.Common.{◌≡◌, ℕ, ◌<◌, true, false, ◌&&◌, All, List, length, Vec, refl, ◌∙◌, ap, arith}
use Rattle.std.specs.List.{slice_get}
use Rattle.std.specs.Option.{option_map_or}
use Rattle.std.proofs.lemmas.Bool.{and_from, lt-ltb}
use Rattle.j39_network.specs.declared.plan.flow_plan.FlowPlan.{FlowPlan}
use Rattle.j39_network.specs.declared.plan.need_plan.NeedPlan.{NeedPlan}
use Rattle.j39_network.specs.declared.plan.request_plan.RequestPlan.{RequestPlan}
use Rattle.j39_network.specs.declared.plan.to.To.{To}
use Rattle.j39_network.specs.declared.plan.to.To.TheVariants.{All as ToAll, One}
use Rattle.j39_search.proofs.Members.{all_at as at_all_places}
use Rattle.j39_variants.specs.declared.line.Alternative.{Alternative}
use Rattle.j39_variants.specs.declared.line.ProductLine.{ProductLine}
use Rattle.j39_line_findings.specs.KnownParts.{is_group_known, is_list_known, is_list_known_at, is_part_known, is_receiver_known, is_unit_known}
use Rattle.j39_line_findings.specs.declared.part.LinePart.{LinePart}
use Rattle.j39_line_findings.specs.declared.part.LinePart.TheVariants.{Unit as AUnit, Group, Flow, Need, Request}
use Rattle.j39_line_findings.proofs.Shown.{list_shown, part_shown}
use Rattle.j39_line_findings.proofs.Tests.{at_all}
use Rattle.j39_part_laws.proofs.Places.{value_at}
use Rattle.j39_line_laws.specs.BoxedParts.{HasPart, ListsAreBoxes, ListsNameChoices, NameChoices, NamesChoices, ThereInBoxes}

-- ---- what stands in the file names only choices that the line has

module _ (line : ProductLine) where
  known_list : (list : List Alternative) → NamesChoices (length line.choices.items) list → is_list_known line list ≡ true
  known_list list names = at_all _ list (λ i a at. lt-ltb a.choice (length line.choices.items) (names i a at))

  known_at : (lists : List (Vec Alternative Global)) → NameChoices (length line.choices.items) lists → (i : ℕ) → i < length lists
      → is_list_known_at line lists i ≡ true
  known_at lists names i below =
      let (list, at_i) = value_at lists i below in
      ap (λ o. option_map_or (λ (l : Vec Alternative Global). is_list_known line l.items) o false) at_i ∙ known_list list.items (names i list at_i)

  module _ (names : ListsNameChoices line) where
    known_unit : (u : ℕ) → u < length line.plan.units.items → is_unit_known line u ≡ true
    known_unit u below = let same = line.unit_lists in known_at line.lists.units.items names.units u (omega (arith, below, same))

    known_group : (g : ℕ) → g < length line.plan.groups.items → is_group_known line g ≡ true
    known_group g below = let same = line.group_lists in known_at line.lists.groups.items names.groups g (omega (arith, below, same))

    known_receiver : (to : To) → ((u : ℕ) → to ≡ One u → u < length line.plan.units.items) → is_receiver_known line to ≡ true
    known_receiver ToAll below = refl
    known_receiver (One u) below = known_unit u (below u refl)

    -- what names its group, its sender and its receiver
    known_sent : {X : Type 0} (group sender : X → ℕ) (to : X → To) (xs : List X) (lists : List (Vec Alternative Global)) → length lists ≡ length xs
        → NameChoices (length line.choices.items) lists → All (λ x. group x < length line.plan.groups.items) xs
        → All (λ x. sender x < length line.plan.units.items) xs → All (λ x. (u : ℕ) → to x ≡ One u → u < length line.plan.units.items) xs → (i : ℕ)
        → i < length xs
        → option_map_or (λ x. is_list_known_at line lists i && (is_group_known line (group x)
        && (is_unit_known line (sender x) && is_receiver_known line (to x))))
        (slice_get xs i) false ≡ true
    known_sent {X} group sender to xs lists same listed groups senders receivers i below =
        let (x, at_i) = value_at xs i below in
        ap (λ o. option_map_or (λ (y : X). is_list_known_at line lists i
        && (is_group_known line (group y) && (is_unit_known line (sender y) && is_receiver_known line (to y)))) o false) at_i
        ∙ and_from (is_list_known_at line lists i) _ (known_at lists listed i (omega (arith, below, same)))
        (and_from (is_group_known line (group x)) _ (known_group (group x)
        (at_all_places (λ (y : X). group y < length line.plan.groups.items) xs groups i x at_i))
        (and_from (is_unit_known line (sender x)) (is_receiver_known line (to x))
        (known_unit (sender x) (at_all_places (λ (y : X). sender y < length line.plan.units.items) xs senders i x at_i))
        (known_receiver (to x) (at_all_places (λ (y : X). (u : ℕ) → to y ≡ One u → u < length line.plan.units.items) xs receivers i x at_i))))

    known_part : (part : LinePart) → HasPart line part → is_part_known line part ≡ true
    known_part (AUnit u) below = known_unit u below
    known_part (Group g) below = known_group g below
    known_part (Flow f) below = known_sent (λ (x : FlowPlan). x.group) (λ (x : FlowPlan). x.sender)
        (λ (x : FlowPlan). x.to) line.plan.flows.items line.lists.flows.items line.flow_lists
        names.flows line.plan.flow_groups line.plan.flow_senders line.plan.flow_receivers f below
    known_part (Need d) below =
        let (need, at_d) = value_at line.plan.needs.items d below in
        let same = line.need_lists in
        ap (λ o. option_map_or (λ (x : NeedPlan). is_list_known_at line line.lists.needs.items d && is_unit_known line x.unit) o false) at_d
        ∙ and_from _ _ (known_at line.lists.needs.items names.needs d (omega (arith, below, same)))
        (known_unit need.unit (at_all_places (λ (x : NeedPlan). x.unit < length line.plan.units.items) line.plan.needs.items line.plan.need_units d need at_d))
    known_part (Request r) below = known_sent (λ (x : RequestPlan). x.group) (λ (x : RequestPlan). x.sender)
        (λ (x : RequestPlan). x.to) line.plan.requests.items line.lists.requests.items line.request_lists
        names.requests line.plan.request_groups line.plan.request_senders line.plan.request_receivers r below

-- ---- the boxes

-- a variant has a list in the box of the list
pub lists_are_boxes : ListsAreBoxes
lists_are_boxes line v is list names =
    let shown = list_shown line v is list in
    (shown.passes_so, shown.there_so (known_list line list names))

pub there_in_boxes : ThereInBoxes
there_in_boxes line v is names part has =
    let shown = part_shown line v is part in
    (shown.passes_so, shown.there_so (known_part line names part has))
