-- What stands in the way of what is reported of a line of vehicles: findings of possible variants, for which check's answer is written.
use Rattle.std.specs.Prelude.{◌≡◌, ◌⊎◌, ◌==◌, ◌&&◌, ◌||◌, ℕ, List, [], Bool, true, false, is_some, map, nat_lt, Option, Some, None}
use Rattle.std.specs.List.{list_any}
use Rattle.j39_variants.specs.declared.line.ProductLine.{ProductLine}
use Rattle.j39_line_findings.specs.InFile.{rank_of}
use Rattle.j39_line_findings.specs.declared.line_finding.LineFinding.{LineFinding}
use Rattle.j39_line_check.specs.LineChecks.{AreLookedFor, AreReported, HasIt, SomePossible, many_of}
use Rattle.j39_line_check.specs.declared.answer.LookedAt.{LookedAt}
use Rattle.j39_line_check.specs.declared.answer.LookedAt.TheVariants.{Full, TooMany}
use Rattle.j39_line_check.specs.declared.answer.ReportedFinding.{ReportedFinding}
use Rattle.j39_line_text.specs.LineCheckText.{IsImpossibleLine}
use Rattle.j39_line_text.specs.WitnessLines.{findings_of_line_text}
use Rattle.j39_line_text.specs.declared.hindrances.Asked.{Asked}
use Rattle.j39_line_text.specs.declared.hindrances.Asked.TheVariants.{Addresses, Times}
use Rattle.j39_plan_text.specs.LoadText.{hides_times}

-- a finding of this number is on the NAMEs or the addresses of units
abbrev pub hides_addresses : ℕ → Bool
hides_addresses number = (nat_lt 0 number && nat_lt number 4) || (number == 12 || (number == 26 || number == 27))

-- findings of which numbers hide what is asked
abbrev pub hides : Asked → ℕ → Bool
hides Addresses number = hides_addresses number
hides Times number = hides_times number

abbrev pub does_hide : Asked → LineFinding → Bool
does_hide asked finding = hides asked (rank_of finding).number

-- one of those that are reported does
abbrev pub is_any_hiding : Asked → List ReportedFinding → Bool
is_any_hiding asked reported = list_any (λ t. does_hide asked t.finding) reported

-- some variant is possible, and no possible one has such a finding
pub record AreAllShown (asked : Asked) (line : ProductLine) : Type 0 where
  pub some : SomePossible line
  pub each : (variant : List ℕ) (finding : LineFinding) → HasIt line variant finding → does_hide asked finding ≡ false

-- too many variants, or one of the findings that are reported hides what is asked
abbrev pub is_hidden : Asked → Option ℕ → List ReportedFinding → Bool
is_hidden asked many reported = is_some many || is_any_hiding asked reported

-- what check found of a line of which some variant is possible, and at which variants it looked
pub record AreReportedAt (line : ProductLine) (looked : LookedAt) (reported : List ReportedFinding) : Type 0 where
  pub some : SomePossible line
  pub looked_at : AreLookedFor line looked
  pub are_reported : AreReported line (many_of looked) reported

-- ---- hidden

-- all that is found, as check writes it, and how many full variants there are, where they are too many
pub record IsHiddenLine (asked : Asked) (line : ProductLine) (text : List ℕ) : Type 0 where
  pub looked : LookedAt
  pub reported : List ReportedFinding
  pub found : AreReportedAt line looked reported
  pub hidden : is_hidden asked (many_of looked) reported ≡ true
  pub text_is : text ≡ findings_of_line_text line (many_of looked) reported

-- that no variant is possible, as check writes it, or this
abbrev pub IsHiddenReport : Asked → ProductLine → List ℕ → Type 0
IsHiddenReport asked line text = IsImpossibleLine line text ⊎ IsHiddenLine asked line text

-- ---- shown

-- the variants at which check looked, where they aren't too many
abbrev pub variants_at : LookedAt → List (List ℕ)
variants_at (Full variants) = map (λ v. v.items) variants.items
variants_at (TooMany many) = []

-- nothing hides what is asked: it is reported of the variants at which check looked
pub record IsShownLine (asked : Asked) (line : ProductLine) (looked : LookedAt) (reported : List ReportedFinding) : Type 0 where
  pub found : AreReportedAt line looked reported
  pub few : many_of looked ≡ None
  pub shown : AreAllShown asked line
