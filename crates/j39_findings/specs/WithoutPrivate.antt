-- Plans without private groups are found as if there were none.
use Rattle.std.specs.Prelude.{◌≡◌, ◌↔◌, ◌⊎◌, ℕ}
use Rattle.j39_signal.specs.Selectors.{DifferInValue}
use Rattle.j39_search.specs.ListPlaces.{ValueAt, PairAt}
use Rattle.j39_findings.specs.Findings.{IsForNoPlan, IsProprietary, Holds}
use Rattle.j39_network.specs.declared.plan.Plan.{Plan}
use Rattle.j39_findings.specs.declared.checking.finding.Finding.TheVariants.{BadPgn, SamePgn, PrivateUnsent}

-- ---- plans without private groups

pub record IsFoundAsBefore (plan : Plan) : Type 0 where
  pub numbers : (g : ℕ) → Holds plan (BadPgn g) ↔ ValueAt (λ group. IsForNoPlan group.pgn ⊎ IsProprietary group.pgn) plan.groups.items g
  pub pairs : (g h : ℕ) → Holds plan (SamePgn g h) ↔ PairAt (λ a b. (a.pgn ≡ b.pgn) × (¬ DifferInValue a.when b.when)) plan.groups.items g h
  pub unsent : (g : ℕ) → ¬ Holds plan (PrivateUnsent g)
