use Rattle.j39_network.specs.Kinds.{AreDistinctUnits}
use Rattle.j39_findings.specs.declared.checking.finding.Finding.TheVariants.{SameName}
use Rattle.j39_findings.proofs.Vehicles.{clean_vehicle}
use Rattle.j39_log_laws.proofs.Between.{messages_go}
use Rattle.j39_log_laws.proofs.Logged.{each_goes}
use Rattle.j39_log_laws.proofs.NamesReported.{all_named, next_named}
use Rattle.j39_log_laws.proofs.SentFrames.{own_numbers}
use Rattle.j39_log_laws.proofs.ReportedFlows.{reported_as_begun}
use Rattle.j39_log_laws.proofs.VehicleRuns.{boxes_claim, boxes_keep_ends, distinct_boxes, each_goes_so, frames_report_so, messages_go_so, own_boxes}
use Rattle.j39_log_laws.proofs.VehicleRuns.{reported_so}
use Rattle.j39_log_laws.proofs.laws.types_stand_for_runs_of_vehicles.Goals as goal

pub returns-clause-names : goal.returns-clause-names
returns-clause-names c = λ plan vehicle steps w is apart own run.
    frames_report_so plan vehicle is apart w
    (all_named vehicle (distinct_boxes plan vehicle is apart) (own_boxes plan vehicle is apart own) steps w run)

pub returns-clause-sent : goal.returns-clause-sent
returns-clause-sent c = λ plan vehicle steps w is apart keeps own run.
    messages_go_so plan vehicle is apart w
    (messages_go vehicle (boxes_keep_ends plan vehicle is keeps) (distinct_boxes plan vehicle is apart) (own_boxes plan vehicle is apart own) steps w run)

pub returns-clause-logged : goal.returns-clause-logged
returns-clause-logged c = λ plan vehicle steps w is apart keeps own run.
    each_goes_so plan vehicle is apart w
    (each_goes vehicle (boxes_keep_ends plan vehicle is keeps) (distinct_boxes plan vehicle is apart) (own_boxes plan vehicle is apart own) steps w run)

pub returns-clause-begun : goal.returns-clause-begun
returns-clause-begun c = λ plan vehicle steps w is clean claims run.
    let apart : AreDistinctUnits plan = λ i j pair. clean (SameName i j) pair in
    let distinct = distinct_boxes plan vehicle is apart in
    let own = own_boxes plan vehicle is apart (own_numbers plan clean) in
    reported_so plan vehicle is apart w
    (reported_as_begun vehicle (clean_vehicle plan vehicle is clean) (boxes_claim plan vehicle is apart claims) steps w run)
    (λ step after follows. next_named vehicle distinct own w (all_named vehicle distinct own steps w run) step after follows)
