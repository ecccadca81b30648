-- Findings with their witnesses, added one after the other.
use Rattle.std.specs.Prelude.{◌≡◌, ℕ, List, [], Contains, unwrap_or}
use Rattle.std.specs.List.{slice_get}
use Rattle.j39_line_findings.specs.InFile.{rank_of}
use Rattle.j39_line_findings.specs.declared.line_finding.LineFinding.{LineFinding}
use Rattle.j39_line_findings.specs.declared.witnessed.Witnessed.{Witnessed}
use Rattle.j39_line_witnesses.specs.declared.found.FoundByCondition.{FoundByCondition}
use Rattle.j39_line_check.specs.LineChecks.{AreReportedInOrder}
use Rattle.j39_line_check.specs.declared.answer.ReportedFinding.{ReportedFinding}

-- a finding, and the variant that is its witness
abbrev pub Pair : Type 0
Pair = LineFinding × List ℕ

abbrev pub pair_reported : ReportedFinding → Pair
pair_reported t = (t.finding, t.variant.items)

abbrev pub pair_of_condition : FoundByCondition → Pair
pair_of_condition one = (one.finding, one.witness.items)

-- by the variant at its place
abbrev pub pair_counted : List (List ℕ) → Witnessed → Pair
pair_counted variants w = (w.finding, unwrap_or (slice_get variants w.variant) [])

-- those that are reported are some of these, in order, and of each number and places of these one
pub record AreAdded (all : List Pair) (reported : List ReportedFinding) : Type 0 where
  pub in_order : AreReportedInOrder reported
  pub sound : (t : ReportedFinding) → Contains reported t → Contains all (pair_reported t)
  pub complete : (p : Pair) → Contains all p → (t : ReportedFinding) × Contains reported t × (rank_of t.finding ≡ rank_of p.0)
