use Rattle.std.proofs.Common.{List, ℕ, [], refl, arith}
use Rattle.j39_stream.specs.declared.verdict.Verdict.{Verdict}
use Rattle.j39_stream.specs.declared.verdict.Verdict.TheVariants.{Done, Findings, Refused, Unreadable}
use Rattle.j39_stream.proofs.Answering.{said_of}
use Rattle.j39_network.specs.declared.plan.Plan.{Plan}
use Rattle.j39_log.specs.ReadText.{IsLogText, IsReadText, nothing_yet}
use Rattle.j39_log.specs.ReportedLogs.{IsTextFor}
use Rattle.j39_log.proofs.log_text.read_text.Goals as goal

-- what is reported is what the command writes
read : (plan : Plan) (log text : List ℕ) (verdict : Verdict)
    → IsTextFor plan (λ log text. IsLogText plan log text) log text verdict → IsReadText plan log text verdict
read plan log text Done is = is
read plan log text Refused is = is
read plan log text Findings is = is
read plan log text Unreadable is = is

pub report_log-requires : goal.report_log-requires
report_log-requires g c = record {
  past = nothing_yet;
  read = (refl, refl);
  recalls = record {
    heard_all = c.new-report.ensures;
    ranges = λ k d less. absurd (omega arith);
    frames_are = refl;
    skipped_are = refl;
    bad_are = refl;
  };
}

pub returns : goal.returns
returns g c = said_of c.report_log.result (read c.args.plan.now) c.report_log.ensures
