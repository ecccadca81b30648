-- Who stays where planned addresses differ: all units, those of the smaller NAMEs, or the fixed ones.
use Rattle.std.proofs.Common.{◌≡◌, ◌≢◌, ℕ, ◌<◌, ◌≤◌, arith, false, true, List, length, inl, inr, sym, ap, ◌∙◌}
use Rattle.std.proofs.lemmas.Bool.{cases_lt, true≢false}
use Rattle.std.proofs.lemmas.List.{get_or_past}
use Rattle.std.specs.FinSet.{empty}
use Rattle.j39_id.specs.Name.{is_arbitrary}
use Rattle.j39_claim.specs.ClaimRule.{PlannedUnit}
use Rattle.j39_findings.specs.Findings.{Holds}
use Rattle.j39_findings.specs.declared.checking.finding.Finding.TheVariants.{SameFixedAddress, SilentAddress}
use Rattle.j39_network.specs.declared.plan.Plan.{Plan}
use Rattle.j39_network.specs.PlannedUnits.{units_of, unit_at}
use Rattle.j39_network.specs.Staying.{IsFirstThere, Stays}
use Rattle.j39_world.specs.HeldAddresses.{ArePlannedApart, ArePlannedApartTo}
use Rattle.j39_run_laws.proofs.Addresses.CleanUnits.{names_in_range, fixed_in_order}
use Rattle.j39_run_laws.proofs.Addresses.Turns.{addresses_differ, fixed_below}

module _ (units : List PlannedUnit) (limit : ℕ) (planned : ArePlannedApartTo limit units) where
  first_there : (u : ℕ) → (unit_at units u).name ≤ limit → IsFirstThere units u
  first_there u within v in_v smaller = elim (cases_lt u (length units)) [
    | inl in_u ↦ planned v u in_v in_u (λ same. let one = ap (λ k. (unit_at units k).name) same in absurd (omega (arith, one))) (omega arith) within
    | inr beyond ↦ let none = ap (λ (p : PlannedUnit). p.name) (get_or_past units u (record { name = 0; preferred = 0; kept = empty; claims = true }) beyond) in
        absurd (omega (arith, none))
  ]

  pub smaller_stay : (u : ℕ) → (unit_at units u).name ≤ limit → Stays units u
  smaller_stay u within = record {
    first = first_there u within;
    unmoved = inr (λ v in_v smaller _. first_there v (omega arith));
  }

pub all_stay : (units : List PlannedUnit) → ArePlannedApart units → (u : ℕ) → Stays units u
all_stay units planned u =
    smaller_stay units (unit_at units u).name (λ s t in_s in_t other _ _. planned s t in_s in_t other) u (omega arith)

module _ (plan : Plan) (apart : (i j : ℕ) → ¬ Holds plan (SameFixedAddress i j)) (silent : (i j : ℕ) → ¬ Holds plan (SilentAddress i j)) where
  pub fixed_stay : (u : ℕ) → u < length (units_of plan) → is_arbitrary (unit_at (units_of plan) u).name ≡ false → Stays (units_of plan) u
  fixed_stay u in_u fixed_u =
      let fixed : (v : ℕ) → v < length (units_of plan) → (unit_at (units_of plan) v).name < (unit_at (units_of plan) u).name
      → is_arbitrary (unit_at (units_of plan) v).name ≡ false =
      λ v in_v smaller. fixed_below (unit_at (units_of plan) v).name (unit_at (units_of plan) u).name smaller (names_in_range plan u in_u) fixed_u in
      record {
        first = λ v in_v smaller.
            let other : v ≢ u = λ same. let one = ap (λ k. (unit_at (units_of plan) k).name) same in absurd (omega (arith, one)) in
            addresses_differ (units_of plan) (fixed_in_order plan apart silent) v u in_v in_u other (fixed v in_v smaller) fixed_u;
        unmoved = inr (λ v in_v smaller arbitrary. absurd (true≢false (sym arbitrary ∙ fixed v in_v smaller)));
      }
