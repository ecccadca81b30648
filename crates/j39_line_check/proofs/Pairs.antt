-- Pairs of findings and witnesses, and where they come from.
use Rattle.std.proofs.Common.{◌≡◌, ℕ, List, [], ◌∷◌, ◌++◌, inl, inr, map, refl, sym, ap, ◌∙◌}
use Rattle.std.specs.List.{Contains}
use Rattle.j39_line_findings.specs.Best.{IsWitnessAmong}
use Rattle.j39_line_findings.specs.declared.witnessed.Witnessed.{Witnessed}
use Rattle.j39_line_witnesses.specs.declared.found.FoundByCondition.{FoundByCondition}
use Rattle.j39_line_witnesses.specs.WitnessLaws.{IsReportedAmong}
use Rattle.j39_line_check.proofs.ReportedInOrder.{cases_in, first_in, later_in, none_in}
use Rattle.j39_line_check.specs.inside.AddedFindings.{Pair, pair_counted, pair_of_condition}

pub condition_of_pair : (found : List FoundByCondition) (p : Pair) → Contains (map pair_of_condition found) p
    → (one : FoundByCondition) × IsReportedAmong found one × (p ≡ pair_of_condition one)
condition_of_pair [] p at = absurd (none_in p at)
condition_of_pair (first ∷ found) p at = elim (cases_in (pair_of_condition first) p (map pair_of_condition found) at) [
  | inl here ↦ (first, inl refl, here)
  | inr there ↦ let one = condition_of_pair found p there in (one.0, inr one.1, one.2)
]

pub pair_of_found : (found : List FoundByCondition) (one : FoundByCondition) → IsReportedAmong found one → Contains (map pair_of_condition found)
    (pair_of_condition one)
pair_of_found [] one among = absurd among
pair_of_found (first ∷ found) one (inl same) = rw (sym same) (first_in (pair_of_condition first) (map pair_of_condition found))
pair_of_found (first ∷ found) one (inr later) =
    later_in (pair_of_condition first) (pair_of_condition one) (map pair_of_condition found) (pair_of_found found one later)

module _ (variants : List (List ℕ)) where
  pub witness_of_pair : (reported : List Witnessed) (p : Pair) → Contains (map (pair_counted variants) reported) p
      → (w : Witnessed) × IsWitnessAmong reported w × (p ≡ pair_counted variants w)
  witness_of_pair [] p at = absurd (none_in p at)
  witness_of_pair (first ∷ reported) p at = elim (cases_in (pair_counted variants first) p (map (pair_counted variants) reported) at) [
    | inl here ↦ (first, inl refl, here)
    | inr there ↦ let w = witness_of_pair reported p there in (w.0, inr w.1, w.2)
  ]

  pub pair_of_witness : (reported : List Witnessed) (w : Witnessed) → IsWitnessAmong reported w → Contains (map (pair_counted variants) reported)
      (pair_counted variants w)
  pair_of_witness [] w among = absurd among
  pair_of_witness (first ∷ reported) w (inl same) = rw (sym same) (first_in (pair_counted variants first) (map (pair_counted variants) reported))
  pair_of_witness (first ∷ reported) w (inr later) =
      later_in (pair_counted variants first) (pair_counted variants w) (map (pair_counted variants) reported) (pair_of_witness reported w later)
