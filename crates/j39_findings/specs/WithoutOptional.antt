-- Plans of which each message has all signals of its group.
use Rattle.std.specs.Prelude.{◌≡◌, ◌↔◌, ℕ, not, All}
use Rattle.std.specs.List.{filter}
use Rattle.j39_signal.specs.Places.{IsInside}
use Rattle.j39_search.specs.ListPlaces.{ValueAt}
use Rattle.j39_findings.specs.Findings.{Holds}
use Rattle.j39_network.specs.Records.{single_signals}
use Rattle.j39_network.specs.declared.plan.Plan.{Plan}
use Rattle.j39_findings.specs.declared.checking.finding.Finding.TheVariants.{SignalOutside}

-- of a plan without optional signals F7 says that a signal ends behind the shortest message, and each message has all signals that
-- aren't repeated
pub record IsWithoutOptional (plan : Plan) : Type 0 where
  pub outside : (g s : ℕ) → Holds plan (SignalOutside g s)
      ↔ ValueAt (λ group. ValueAt (λ signal. ¬ IsInside group.length signal) group.signals.items s) plan.groups.items g
  pub signals : All (λ group. (bytes : ℕ) → single_signals bytes group.signals.items ≡ filter (λ s. not s.repeated) group.signals.items)
      plan.groups.items
