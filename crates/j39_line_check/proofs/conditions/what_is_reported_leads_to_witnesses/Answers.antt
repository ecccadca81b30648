use Rattle.j39_line_check.proofs.ReportedLaws.{reported_leads}
use Rattle.j39_line_check.proofs.conditions.what_is_reported_leads_to_witnesses.Goals as goal

pub returns : goal.returns
returns c = reported_leads
