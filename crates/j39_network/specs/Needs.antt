-- What the needs of a plan have.
use Rattle.std.specs.Prelude.{All}
use Rattle.j39_search.specs.ListPlaces.{SomeMeets}
use Rattle.j39_network.specs.Serving.{Meets}
use Rattle.j39_network.specs.declared.plan.Plan.{Plan}

-- some flow brings each unit what it needs
abbrev pub AreNeedsMet : Plan → Type 0
AreNeedsMet plan = All (λ need. SomeMeets (Meets plan.requests.items need) plan.flows.items) plan.needs.items
