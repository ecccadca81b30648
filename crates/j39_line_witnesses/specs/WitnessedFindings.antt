-- Findings with their witnesses.
use Rattle.std.specs.Prelude.{◌≡◌, ◌⊎◌, List, [], ◌∷◌}
use Rattle.j39_variants.specs.declared.line.ProductLine.{ProductLine}
use Rattle.j39_line_findings.specs.Conditions.{conditions_of}
use Rattle.j39_line_findings.specs.declared.line_finding.LineFinding.{LineFinding}
use Rattle.j39_line_witnesses.specs.FirstMeeting.{IsFirstMeeting, NoneMeets}
use Rattle.j39_line_witnesses.specs.declared.found.FoundByCondition.{FoundByCondition}

-- the finding with the first possible variant that meets one of its conditions
pub record IsFoundBy (line : ProductLine) (finding : LineFinding) (one : FoundByCondition) : Type 0 where
  pub finding_is : one.finding ≡ finding
  pub witness_is : IsFirstMeeting line (conditions_of line finding) one.witness.items

-- of these findings, in their order, those whose conditions some possible variant meets, each with its witness
abbrev pub AreWitnessed : ProductLine → List LineFinding → List FoundByCondition → Type 0
AreWitnessed line [] reported = reported ≡ []
AreWitnessed line (finding ∷ findings) reported =
    (NoneMeets line (conditions_of line finding) × AreWitnessed line findings reported)
    ⊎ ((one : FoundByCondition) × (others : List FoundByCondition) × (reported ≡ one ∷ others) × IsFoundBy line finding one × AreWitnessed line findings others)
