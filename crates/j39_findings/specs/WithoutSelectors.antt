-- What is found in plans without groups that are distinguished by their data.
use Rattle.std.specs.Prelude.{◌≡◌, ◌↔◌, ◌⊎◌, ℕ, false}
use Rattle.j39_search.specs.ListPlaces.{PairAt}
use Rattle.j39_findings.specs.Findings.{AreSentTogether, Holds}
use Rattle.j39_network.specs.declared.plan.Plan.{Plan}
use Rattle.j39_findings.specs.declared.checking.finding.Finding.TheVariants.{SamePgn, WhenOutside}

-- of such a plan F24 says nothing, and F5 what it said before there were any
pub record IsWithoutSelectors (plan : Plan) : Type 0 where
  pub outside : (g : ℕ) → ¬ Holds plan (WhenOutside g)
  pub pairs : (g h : ℕ) → Holds plan (SamePgn g h) ↔ PairAt
      (λ a b. (a.pgn ≡ b.pgn) × ((a.private ≡ false) ⊎ ((b.private ≡ false) ⊎ AreSentTogether plan.groups.items plan.flows.items a b)))
      plan.groups.items g h
