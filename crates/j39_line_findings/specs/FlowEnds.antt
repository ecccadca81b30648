-- Ends of flows, and who is planned at their addresses.
use Rattle.std.specs.Prelude.{ℕ, ◌==◌, Bool, true, false, ◌&&◌, ◌||◌, length}
use Rattle.std.specs.List.{list_any, range_with_len, slice_get}
use Rattle.std.specs.Option.{option_map_or}
use Rattle.j39_id.specs.Addresses.{in_pool}
use Rattle.j39_network.specs.Serving.{is_to}
use Rattle.j39_network.specs.declared.plan.flow_plan.FlowPlan.{FlowPlan}
use Rattle.j39_variants.specs.declared.line.ProductLine.{ProductLine}

abbrev pub is_end : FlowPlan → ℕ → Bool
is_end flow u = (flow.sender == u) || is_to flow.to u

abbrev pub are_at_one_address : ProductLine → ℕ → ℕ → Bool
are_at_one_address line u v = option_map_or
    (λ unit. option_map_or (λ other. unit.address == other.address) (slice_get line.plan.units.items v) false) (slice_get line.plan.units.items u) false

-- ---- addresses to which others may move

abbrev pub has_pool_address : ProductLine → ℕ → Bool
has_pool_address line u = option_map_or (λ unit. in_pool unit.address) (slice_get line.plan.units.items u) false

abbrev pub is_end_in_pool : ProductLine → FlowPlan → ℕ → Bool
is_end_in_pool line flow u = is_end flow u && has_pool_address line u

-- an end of the flow is planned at an address to which others may move
unfoldable pub are_ends_in_pool : ProductLine → FlowPlan → Bool
are_ends_in_pool line flow = list_any (is_end_in_pool line flow) (range_with_len 0 (length line.plan.units.items))

unfoldable pub has_end_in_pool : ProductLine → ℕ → Bool
has_end_in_pool line f = option_map_or (are_ends_in_pool line) (slice_get line.plan.flows.items f) false
