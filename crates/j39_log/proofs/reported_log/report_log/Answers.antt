use Rattle.std.proofs.Common.{[], List, ℕ, refl, sym, subst}
use Rattle.j39_network.specs.declared.plan.Plan.{Plan}
use Rattle.j39_stream.proofs.Answering.{not_begun, put_unread, said_of}
use Rattle.j39_log.specs.LineCounting.{no_lines}
use Rattle.j39_log.specs.declared.line_counts.LineCounts.{LineCounts}
use Rattle.j39_log.proofs.LogReading.{so_far}
use Rattle.j39_log.proofs.reported_log.report_log.Goals as goal

pub read_lines-requires-clause-begins : goal.read_lines-requires-clause-begins
read_lines-requires-clause-begins g c =
    let report = c.args.report.now in
    let plan = c.in-Ok.groups in
    let counts = c.new-in-Ok.result in
    so_far (g.R.LogReport.has_reported report plan counts) (g.R.LogReport.is_log_text report plan) (g.met.R.LogReport.ends report plan counts)
    0 c.new-in-Ok-2.result [] [] (
      refl,
      subst (λ (text : List ℕ). g.R.LogReport.has_reported report plan counts [] text) (sym c.new-in-Ok-2.ensures)
          (subst (λ (k : LineCounts). g.R.LogReport.has_reported report plan k [] []) (sym c.new-in-Ok.ensures)
          (subst (λ (p : Plan). g.R.LogReport.has_reported report p no_lines [] []) (sym c.in-Ok.ensures.plan) c.requires)),
    )

pub returns-in-Ok : goal.returns-in-Ok
returns-in-Ok g c =
    said_of c.read_lines.result
    (λ log text verdict is. rw is.1 (
      c.in-Ok.ensures.readable,
      subst (λ (p : Plan). g.R.LogReport.is_log_text c.args.report.now p log text) c.in-Ok.ensures.plan is.0,
    ))
    c.read_lines.ensures.answers

pub returns-in-Err-Memory : goal.returns-in-Err-Memory
returns-in-Err-Memory g c = not_begun _ refl

pub returns-in-Err-BadGroup : goal.returns-in-Err-BadGroup
returns-in-Err-BadGroup g c =
    let first = rw c.in-Err-BadGroup.field-0-is at c.in-Err-BadGroup.ensures.refused in
    put_unread c.refuse.result (λ text verdict is. rw is.1 ((c.in-Err-BadGroup.group, first, is.0, refl), λ done. cc done)) c.refuse.ensures
