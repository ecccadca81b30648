-- What is there in a variant, and its places in the file.
use Rattle.std.specs.Prelude.{◌≡◌, ℕ, List, Bool, true, false, ◌&&◌, filter, length, unwrap_or}
use Rattle.std.specs.List.{range_with_len, slice_get}
use Rattle.std.specs.Option.{option_map_or}
use Rattle.j39_network.specs.declared.plan.to.To.{To}
use Rattle.j39_network.specs.declared.plan.to.To.TheVariants.{All, One}
use Rattle.j39_variants.specs.declared.line.ProductLine.{ProductLine}
use Rattle.j39_line_findings.specs.MissedNeeds.{is_group_there, is_in_at, is_need_asked_for, is_need_missed, is_source_there, is_unit_there}
use Rattle.j39_line_findings.specs.declared.there.PartKind.{PartKind}
use Rattle.j39_line_findings.specs.declared.there.PartKind.TheVariants.{Unit as AUnit, Group, Flow, Need, Request, MissedNeed}
use Rattle.j39_line_findings.specs.declared.there.Present.{Present}

abbrev pub is_receiver_there : ProductLine → List ℕ → To → Bool
is_receiver_there line variant All = true
is_receiver_there line variant (One u) = is_unit_there line variant u

-- a flow or a request is, where the variant is in the box of its own list, and all that it names is there
abbrev pub is_flow_there : ProductLine → List ℕ → ℕ → Bool
is_flow_there line variant f = option_map_or
    (λ flow. is_in_at variant line.lists.flows.items f && (is_group_there line variant flow.group
    && (is_unit_there line variant flow.sender && is_receiver_there line variant flow.to)))
    (slice_get line.plan.flows.items f) false

abbrev pub is_request_there : ProductLine → List ℕ → ℕ → Bool
is_request_there line variant r = option_map_or
    (λ request. is_in_at variant line.lists.requests.items r && (is_group_there line variant request.group
    && (is_unit_there line variant request.sender && is_receiver_there line variant request.to)))
    (slice_get line.plan.requests.items r) false

-- a need that is asked for is in the plan where what it is for is there
abbrev pub is_need_there : ProductLine → List ℕ → ℕ → Bool
is_need_there line variant d = is_need_asked_for line variant d && is_source_there line variant d

abbrev pub is_kind_there : ProductLine → List ℕ → PartKind → ℕ → Bool
is_kind_there line variant AUnit = is_unit_there line variant
is_kind_there line variant Group = is_group_there line variant
is_kind_there line variant Flow = is_flow_there line variant
is_kind_there line variant Need = is_need_there line variant
is_kind_there line variant Request = is_request_there line variant
is_kind_there line variant MissedNeed = is_need_missed line variant

-- those of so many places that pass a test, in order
abbrev pub places_of_those : (ℕ → Bool) → ℕ → List ℕ
places_of_those test count = filter test (range_with_len 0 count)

-- the needs that are asked for, and are not in the plan
abbrev pub missed_needs : ProductLine → List ℕ → List ℕ
missed_needs line variant = places_of_those (is_need_missed line variant) (length line.plan.needs.items)

-- the places in the file of what is there, in order
pub record IsPresent (line : ProductLine) (variant : List ℕ) (there : Present) : Type 0 where
  pub has_units : there.units.items ≡ places_of_those (is_unit_there line variant) (length line.plan.units.items)
  pub has_groups : there.groups.items ≡ places_of_those (is_group_there line variant) (length line.plan.groups.items)
  pub has_flows : there.flows.items ≡ places_of_those (is_flow_there line variant) (length line.plan.flows.items)
  pub has_needs : there.needs.items ≡ places_of_those (is_need_there line variant) (length line.plan.needs.items)
  pub has_requests : there.requests.items ≡ places_of_those (is_request_there line variant) (length line.plan.requests.items)

-- the place in the file of what has a place in the plan of a variant
abbrev pub place_in_file : List ℕ → ℕ → ℕ
place_in_file places i = unwrap_or (slice_get places i) 0
