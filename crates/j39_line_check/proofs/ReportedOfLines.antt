-- Each variant that takes what is reported with a finding of a line has it.
use Rattle.j39_line_check.proofs.ReportedLaws.{reported_is_had}
use Rattle.j39_line_check.specs.ReportedConditions.{TakesWhatIsReported}
use Rattle.j39_line_check.specs.ReportedOfLines.{ReportedOfLineIsHad}

pub reported_of_line_is_had : ReportedOfLineIsHad
reported_of_line_is_had line many reported are t among v taking =
    let its = (are.sound t among).1 in
    let w = t.variant.items in
    let takes : TakesWhatIsReported line t.finding w v = record {
      is_witness = its.has.possible.is_variant;
      is_variant = taking.is_variant;
      takes = taking.takes_these;
    } in
    reported_is_had line t.finding w v takes (record { is_variant = taking.is_variant; possible = taking.possible }) its.has
