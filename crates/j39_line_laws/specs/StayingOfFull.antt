-- Who stays in each full variant stays in each possible one.
use Rattle.std.specs.Prelude.{ℕ, ◌<◌, List, length}
use Rattle.j39_variants.specs.declared.line.ProductLine.{ProductLine}
use Rattle.j39_line_findings.specs.FullVariants.{line_with}
use Rattle.j39_line_findings.specs.PossibleVariants.{IsPossible}
use Rattle.j39_line_findings.specs.declared.full.LineNevers.{LineNevers}
use Rattle.j39_line_bounds.specs.LineStandings.{AreLineStandings, AreStandingsAmong, LacksUnit, StaysIn}
use Rattle.j39_line_bounds.specs.declared.standing.LineStanding.{LineStanding}
use Rattle.j39_line_laws.specs.FoundOfFull.{IsPossibleFull}

-- what is reported of each unit in the possible full variants is what is reported of it in all possible ones
abbrev pub FullVariantsReportWhoStays : ProductLine → Type 0
FullVariantsReportWhoStays line = (standings : List LineStanding) → AreStandingsAmong (IsPossibleFull line) line standings → AreLineStandings line standings

-- ---- with or without what isn't built

-- a unit that stays in each full variant that has it stays in each possible one that has it; and one that none of those has is in none of these
pub record FullVariantsReportOf (line : ProductLine) (nevers : LineNevers) (u : ℕ) : Type 0 where
  pub stays : ((w : List ℕ) → IsPossibleFull (line_with nevers line) w → StaysIn line w u) → (v : List ℕ) → IsPossible line v → StaysIn line v u
  pub lacks : ((w : List ℕ) → IsPossibleFull (line_with nevers line) w → LacksUnit line w u) → (v : List ℕ) → IsPossible line v → LacksUnit line v u

abbrev pub FullVariantsReportOfUnits : ProductLine → LineNevers → Type 0
FullVariantsReportOfUnits line nevers = (u : ℕ) → u < length line.plan.units.items → FullVariantsReportOf line nevers u
