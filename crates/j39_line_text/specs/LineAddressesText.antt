-- The text that the addresses command writes for a plan file, also of a line of vehicles.
use Rattle.std.specs.Prelude.{◌≡◌, ℕ, List, Bool}
use Rattle.j39_network.specs.declared.plan.Plan.{Plan}
use Rattle.j39_variants.specs.declared.line.ProductLine.{ProductLine}
use Rattle.j39_variants.specs.VariantPlans.{IsVariantPlan}
use Rattle.j39_line_bounds.specs.LineStandings.{AreStandingsAmong}
use Rattle.j39_line_bounds.specs.declared.standing.LineStanding.{LineStanding}
use Rattle.j39_line_check.specs.declared.answer.LookedAt.{LookedAt}
use Rattle.j39_line_check.specs.declared.answer.ReportedFinding.{ReportedFinding}
use Rattle.j39_line_findings.specs.AllVariants.{IsOneOf}
use Rattle.j39_line_findings.specs.PossibleVariants.{IsPossible}
use Rattle.j39_line_witnesses.specs.PossibleParts.{ArePartsPossible}
use Rattle.j39_line_text.specs.LineCheckText.{IsPlanOrLine}
use Rattle.j39_line_text.specs.Hindrances.{IsHiddenReport, IsShownLine, variants_at}
use Rattle.j39_line_text.specs.PossiblePlaces.{units_of_line}
use Rattle.j39_line_text.specs.StandingLines.{shown_standings, standings_text}
use Rattle.j39_line_text.specs.declared.hindrances.Asked.TheVariants.{Addresses}
use Rattle.j39_plan_text.specs.AddressesText.{IsAddressesReport, StayingHolds}
use Rattle.j39_plan_text.specs.PlanText.{IsReportedText}
use Rattle.j39_stream.specs.declared.verdict.Verdict.{Verdict}
use Rattle.j39_stream.specs.declared.verdict.Verdict.TheVariants.{Done, Findings, Refused, Unreadable}

-- in each possible variant a unit that stays holds its planned address whenever it is on
abbrev pub StayingHoldsInEach : ProductLine → Type 0
StayingHoldsInEach line = (variant : List ℕ) (plan : Plan) → IsPossible line variant → IsVariantPlan line variant plan → StayingHolds plan

-- who stays in each of the variants at which check looked that has it, where nothing is wrong with the NAMEs and addresses of any possible one
pub record IsStandingReport (line : ProductLine) (text : List ℕ) : Type 0 where
  pub looked : LookedAt
  pub reported : List ReportedFinding
  pub shown : IsShownLine Addresses line looked reported
  pub holds : StayingHoldsInEach line
  pub standings : List LineStanding
  pub are_standings : AreStandingsAmong (IsOneOf (variants_at looked)) line standings
  pub possible : List Bool
  pub are_possible : ArePartsPossible line (units_of_line line) possible
  pub text_is : text ≡ standings_text (shown_standings possible standings) line.plan.units.items

-- what is written for a line of vehicles, with the verdict
abbrev pub IsLineAddressesReport : ProductLine → List ℕ → Verdict → Type 0
IsLineAddressesReport line text Done = IsStandingReport line text
IsLineAddressesReport line text Findings = IsHiddenReport Addresses line text
IsLineAddressesReport line text Refused = ⊥
IsLineAddressesReport line text Unreadable = ⊥

-- what is written for a line, of its one plan where it has no choices
abbrev pub IsPlanOrLineAddresses : ProductLine → List ℕ → Verdict → Type 0
IsPlanOrLineAddresses = IsPlanOrLine IsAddressesReport IsLineAddressesReport

-- what is written for a file
abbrev pub IsLineAddressesText : List ℕ → List ℕ → Verdict → Type 0
IsLineAddressesText = IsReportedText IsPlanOrLineAddresses
