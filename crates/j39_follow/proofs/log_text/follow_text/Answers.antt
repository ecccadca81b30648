use Rattle.std.proofs.Common.{rules, Bool, List, ℕ, subst}
use Rattle.j39_stream.specs.declared.verdict.Verdict.{Verdict}
use Rattle.j39_stream.specs.declared.verdict.Verdict.TheVariants.{Done, Findings, Refused, Unreadable}
use Rattle.j39_stream.proofs.Answering.{not_begun, said_of}
use Rattle.j39_network.specs.declared.plan.Plan.{Plan}
use Rattle.j39_log.specs.ReportedLogs.{IsTextFor}
use Rattle.j39_follow.specs.FollowText.{IsFollowText, IsFollowedLog}
use Rattle.j39_follow.proofs.LinesRead.{begun}
use Rattle.j39_follow.proofs.log_text.follow_text.Goals as goal

-- what is reported is what the command writes
followed : (plan : Plan) (all_frames : Bool) (log text : List ℕ) (verdict : Verdict)
    → IsTextFor plan (λ log text. IsFollowedLog plan all_frames log text) log text verdict → IsFollowText plan all_frames log text verdict
followed plan all_frames log text Done is = is
followed plan all_frames log text Refused is = is
followed plan all_frames log text Findings is = is
followed plan all_frames log text Unreadable is = is

pub report_log-requires : goal.report_log-requires
report_log-requires g c = begun c.args.plan.now c.in_ok-report.report c.in_ok-report.ensures.past

pub returns-in_err-report : goal.returns-in_err-report
returns-in_err-report g c = not_begun _ (search rules)

pub returns : goal.returns
returns g c =
    said_of c.report_log.result
    (λ log text verdict is.
    subst (λ (b : Bool). IsFollowText c.args.plan.now b log text verdict) c.in_ok-report.ensures.all_frames
    (followed c.args.plan.now c.in_ok-report.report.all_frames log text verdict is))
    c.report_log.ensures
