-- What is true of the requests of a plan that was read.
use Rattle.std.proofs.Common.{◌≡◌, ℕ, ◌<◌, ◌≤◌, arith, List, length, All}
use Rattle.std.proofs.lemmas.List.{length-map}
use Rattle.toml.specs.Data.{Data, Items, Members}
use Rattle.j39_network.specs.PlanLimits.{request_limit}
use Rattle.j39_network.specs.declared.plan.to.To.TheVariants.{One}
use Rattle.j39_network.specs.declared.plan.unit_plan.UnitPlan.{UnitPlan}
use Rattle.j39_network.specs.declared.plan.group_plan.GroupPlan.{GroupPlan}
use Rattle.j39_network.specs.declared.plan.request_plan.RequestPlan.{RequestPlan}
use Rattle.j39_plan.specs.declared.reading.version.Version.{Version}
use Rattle.j39_plan.specs.declared.reading.version.Version.TheVariants.{First, Second, Third, Fourth}
use Rattle.j39_toml.specs.InOrder.{Each}
use Rattle.j39_toml.specs.Rules.{items_count}
use Rattle.j39_plan.specs.declared.reading.key.Key.TheVariants as key
use Rattle.j39_plan.specs.PlanFaults.{request_tables_of}
use Rattle.j39_plan.specs.RequestTables.{IsRequestOf}
use Rattle.j39_plan.proofs.NoFaults.{All-from_Each, tables_count}
use Rattle.j39_plan.proofs.ReadPlans.{group_texts, unit_texts, received}

pub requests_count : (version : Version) (ms : Members) → items_count (request_tables_of version ms) ≤ request_limit
requests_count Fourth ms = tables_count key.Request request_limit ms
requests_count First ms = omega arith
requests_count Second ms = omega arith
requests_count Third ms = omega arith

-- what a table reports is a request of one of these units for one of these groups
abbrev pub IsAsked : List GroupPlan → List UnitPlan → Data → RequestPlan → Type 0
IsAsked gs us = IsRequestOf (group_texts gs) (unit_texts us)

pub request_receivers : (gs : List GroupPlan) (us : List UnitPlan) (ds : Items) (rs : List RequestPlan) → Each (IsAsked gs us) ds rs
    → All (λ r. (u : ℕ) → r.to ≡ One u → u < length us) rs
request_receivers gs us = All-from_Each (IsAsked gs us) (λ r. (u : ℕ) → r.to ≡ One u → u < length us)
    (λ d r is u one. rw length-map at (received (unit_texts us) _ r.to u is.has_receivers one))
