-- The tables of requests, which the fourth version alone knows.
use Rattle.std.specs.Prelude.{◌≡◌, ℕ, List, [], ◌∷◌, ◌++◌, Some, None, option_and_then}
use Rattle.std.specs.Option.{option_map_or}
use Rattle.toml.specs.Data.{Data, Members, as_table}
use Rattle.j39_network.specs.declared.plan.request_plan.RequestPlan.{RequestPlan}
use Rattle.j39_plan.specs.Words.{word_of}
use Rattle.j39_plan.specs.declared.reading.key.Key.TheVariants as key
use Rattle.j39_plan.specs.declared.reading.place.Table.TheVariants as at
use Rattle.j39_plan.specs.PlanErrors.{PlanFault}
use Rattle.j39_plan.specs.declared.reading.text_kind.TextKind.TheVariants as texts
use Rattle.j39_plan.specs.Schema.{PlanRule, text, optional, found_text, given_number}
use Rattle.j39_plan.specs.declared.reading.key.Key.{Key}
use Rattle.j39_toml.specs.TableFaults.{keys_faults, table_only_faults, unknown_faults}
use Rattle.j39_toml.specs.InOrder.{inside}
use Rattle.j39_plan.specs.FlowTables.{place_of, receivers, place_faults, receiver_faults}

-- the group that is asked for
abbrev pub asked_group_rule : PlanRule
asked_group_rule = text key.Group texts.Any None

-- the unit that asks
abbrev pub asker_rule : PlanRule
asker_rule = text key.From texts.Any None

-- whom it asks
abbrev pub asked_rule : PlanRule
asked_rule = text key.To texts.Any None

-- two requests are so many milliseconds apart at least
abbrev pub request_period_rule : PlanRule
request_period_rule = optional key.Period 1 65535

abbrev pub request_rules : List PlanRule
request_rules = asked_group_rule ∷ asker_rule ∷ asked_rule ∷ request_period_rule ∷ []

-- the keys of a request, the alternatives with which it is there too
abbrev pub request_keys : List Key
request_keys = key.Group ∷ key.From ∷ key.To ∷ key.Period ∷ key.With ∷ []

-- the request that a table reports, by the labels of the groups and of the units
pub record DescribesRequest (groups units : List (List ℕ)) (ms : Members) (r : RequestPlan) : Type 0 where
  pub has_group : option_and_then (place_of groups) (found_text asked_group_rule ms) ≡ Some r.group
  pub has_sender : option_and_then (place_of units) (found_text asker_rule ms) ≡ Some r.sender
  pub has_receivers : option_and_then (receivers units) (found_text asked_rule ms) ≡ Some r.to
  pub has_period : r.period ≡ given_number request_period_rule ms

abbrev pub IsRequestOf : List (List ℕ) → List (List ℕ) → Data → RequestPlan → Type 0
IsRequestOf groups units d r = DescribesRequest groups units (inside d) r

-- behind the faults of the keys, texts that name no group, no unit that asks, and nobody to ask
unfoldable pub request_table_faults : List (List ℕ) → List (List ℕ) → ℕ → Members → List PlanFault
request_table_faults groups units i ms = (unknown_faults word_of (at.Request i) request_keys ms ++ keys_faults (at.Request i) ms request_rules)
    ++ (place_faults (at.Request i) key.Group groups (found_text asked_group_rule ms)
    ++ (place_faults (at.Request i) key.From units (found_text asker_rule ms)
    ++ receiver_faults (at.Request i) units (found_text asked_rule ms)))

-- the faults of the i-th request
unfoldable pub request_faults : List (List ℕ) → List (List ℕ) → ℕ → Data → List PlanFault
request_faults groups units i d =
    table_only_faults (at.Request i) d ++ option_map_or (request_table_faults groups units i) (as_table d) []
