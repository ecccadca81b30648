-- Which times of a line of vehicles are written, where some are of variants that may not be built.
use Rattle.std.specs.Prelude.{◌≡◌, ◌↔◌, ℕ, ◌<◌, ◌==◌, List, Bool, true, false, if◌then◌else◌, length, map, slice_index_or}
use Rattle.std.specs.List.{Contains, list_any, range_with_len}
use Rattle.j39_findings.specs.declared.checking.finding.Finding.{Finding}
use Rattle.j39_findings.specs.declared.checking.finding.Finding.TheVariants.{NeedUnmet}
use Rattle.j39_variants.specs.declared.line.ProductLine.{ProductLine}
use Rattle.j39_line_bounds.specs.LineTimes.{AreTimesAmong, time_of_flow, time_of_need}
use Rattle.j39_line_bounds.specs.declared.times.FlowTime.{FlowTime}
use Rattle.j39_line_bounds.specs.declared.times.FlowTime.TheVariants as flow
use Rattle.j39_line_bounds.specs.declared.times.LineTimes.{LineTimes}
use Rattle.j39_line_bounds.specs.declared.times.NeedTime.{NeedTime}
use Rattle.j39_line_bounds.specs.declared.times.NeedTime.TheVariants as need
use Rattle.j39_line_check.specs.declared.answer.ReportedFinding.{ReportedFinding}
use Rattle.j39_line_findings.specs.declared.line_finding.LineFinding.{LineFinding}
use Rattle.j39_line_findings.specs.declared.line_finding.LineFinding.TheVariants.{OfPlan, OfLoad}
use Rattle.j39_line_witnesses.specs.PossibleParts.{ArePartsPossible}
use Rattle.j39_line_text.specs.PossiblePlaces.{flows_of_line, needs_of_line}

-- that it is unmet is found of a need
abbrev pub is_need_of : ℕ → Finding → Bool
is_need_of d (NeedUnmet e) = e == d
is_need_of d _ = false

abbrev pub reports_unmet : ℕ → LineFinding → Bool
reports_unmet d (OfPlan finding) = is_need_of d finding
reports_unmet d (OfLoad finding) = false

abbrev pub is_reported_unmet : List ReportedFinding → ℕ → Bool
is_reported_unmet reported d = list_any (λ t. reports_unmet d t.finding) reported

-- of a flow that no possible variant has, this; else what the times report
abbrev pub shown_flow : List Bool → LineTimes → ℕ → FlowTime
shown_flow possible times f = if slice_index_or possible f false then time_of_flow times f else flow.NoVariant

-- of a need for which no possible variant asks, this; else that it is unmet, where this is found of some possible variant; else what the times report
abbrev pub shown_need : List Bool → LineTimes → List ReportedFinding → ℕ → NeedTime
shown_need possible times reported d =
    if slice_index_or possible d false then (if is_reported_unmet reported d then need.Unmet else time_of_need times d) else need.NoVariant

-- of each flow and each need of the file, in order, and the load
pub record AreShownTimes (line : ProductLine) (times : LineTimes) (reported : List ReportedFinding) (shown : LineTimes) : Type 0 where
  pub possible_flows : List Bool
  pub are_flows : ArePartsPossible line (flows_of_line line) possible_flows
  pub possible_needs : List Bool
  pub are_needs : ArePartsPossible line (needs_of_line line) possible_needs
  pub flows : shown.flows.items ≡ map (shown_flow possible_flows times) (range_with_len 0 (length times.flows.items))
  pub needs : shown.needs.items ≡ map (shown_need possible_needs times reported) (range_with_len 0 (length times.needs.items))
  pub load : shown.load ≡ times.load

-- ---- a law

-- that a need is unmet is found of the line
abbrev pub IsFoundUnmet : List ReportedFinding → ℕ → Type 0
IsFoundUnmet reported d = (t : ReportedFinding) × Contains reported t × (t.finding ≡ OfPlan (NeedUnmet d))

-- of a need for which a possible variant asks it is written that it is unmet exactly where this is found of the line, whichever of the variants looked at
-- can be built
abbrev pub UnmetIsFound : Type 0
UnmetIsFound = (line : ProductLine) (variants : List (List ℕ)) (times shown : LineTimes) (reported : List ReportedFinding)
    → AreTimesAmong line variants times → (are : AreShownTimes line times reported shown) → (d : ℕ) → d < length line.plan.needs.items
    → (time_of_need shown d ≡ need.Unmet) ↔ ((slice_index_or are.possible_needs d false ≡ true) × IsFoundUnmet reported d)
