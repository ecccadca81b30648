-- Of which groups each unit has flows.
use Rattle.std.specs.Prelude.{◌≡◌, ◌==◌, ◌&&◌, ℕ, Bool, false, List, Vec, slice_index_or}
use Rattle.std.specs.List.{list_any, slice_get}
use Rattle.std.specs.Option.{option_map_or}
use Rattle.std.specs.declared.alloc.Global.{Global}
use Rattle.j39_network.specs.declared.plan.Plan.{Plan}
use Rattle.j39_network.specs.declared.plan.flow_plan.FlowPlan.{FlowPlan}

-- a flow of the group is the unit's
abbrev pub is_sender_of : Plan → ℕ → ℕ → Bool
is_sender_of plan u g = list_any (λ (f : FlowPlan). f.group == g && f.sender == u) plan.flows.items

-- as a row of each unit reports it
abbrev pub sent_in : List (Vec Bool Global) → ℕ → ℕ → Bool
sent_in rows u g = option_map_or (λ (row : Vec Bool Global). slice_index_or row.items g false) (slice_get rows u) false

abbrev pub AreSent : Plan → List (Vec Bool Global) → Type 0
AreSent plan rows = (u g : ℕ) → sent_in rows u g ≡ is_sender_of plan u g
