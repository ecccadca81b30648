-- What is reported with its first witness is what possible variants have.
use Rattle.std.proofs.Common.{◌≡◌, ℕ, true, List}
use Rattle.j39_line_findings.specs.Conditions.{goes_by_conditions}
use Rattle.j39_line_findings.specs.LineFound.{HasThese, IsFound}
use Rattle.j39_line_findings.specs.declared.line_finding.LineFinding.{LineFinding}
use Rattle.j39_line_laws.proofs.AllByConditions.{found_by_conditions}
use Rattle.j39_line_witnesses.specs.Candidates.{candidates}
use Rattle.j39_line_witnesses.specs.WitnessLaws.{AreReportedExactly, IsReportedAmong}
use Rattle.j39_line_witnesses.specs.declared.found.FoundByCondition.{FoundByCondition}
use Rattle.j39_line_witnesses.proofs.Reported.{reported_exactly}
use Rattle.j39_line_laws.proofs.Candidates.{candidate_goes, is_candidate}
use Rattle.j39_line_laws.specs.ReportedByConditions.{IsFirstWithIt, ReportExactly}

pub report_exactly : ReportExactly
report_exactly line reported are = record { sound = sound; complete = complete }
  where
    asked : AreReportedExactly line (candidates line) reported
    asked = reported_exactly line (candidates line) reported are

    sound : (one : FoundByCondition) → IsReportedAmong reported one → IsFirstWithIt line one
    sound one among =
        let (is_asked, first) = asked.sound one among in
        let (goes, may) = candidate_goes line one.finding is_asked in
        record {
          goes = goes;
          possible = first.possible;
          meets = (may, first.meets);
          has = λ findings has. (found_by_conditions line one.witness.items findings has one.finding goes).1 (may, first.meets);
          first = λ other findings has found.
              first.first other has.is_possible ((found_by_conditions line other findings has.are_findings one.finding goes).0 found).1;
        }

    complete : (v : List ℕ) (findings : List LineFinding) → HasThese line v findings → (finding : LineFinding) → goes_by_conditions line finding ≡ true
        → IsFound findings finding → (one : FoundByCondition) × IsReportedAmong reported one × (one.finding ≡ finding)
    complete v findings has finding goes found =
        let (may, met) = (found_by_conditions line v findings has.are_findings finding goes).0 found in
        asked.complete finding (is_candidate line v finding goes may met) v has.is_possible met
