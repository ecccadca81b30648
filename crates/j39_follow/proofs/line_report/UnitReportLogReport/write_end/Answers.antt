use Rattle.std.proofs.Common.{◌≡◌, ◌++◌, ℕ, List, subst}
use Rattle.std.proofs.lemmas.Result.{IfOk-weaker}
use Rattle.j39_network.specs.declared.plan.Plan.{Plan}
use Rattle.j39_follow.specs.FollowText.{AreUnitLines, FollowedPast, frames_seen, behind_reports}
use Rattle.j39_follow.specs.inside.FollowedSoFar.{RecallsPast}
use Rattle.j39_follow.proofs.LinesRead.{closed}
use Rattle.j39_follow.proofs.line_report.UnitReportLogReport.write_end.Goals as goal

pub returns : goal.returns
returns c =
    let plan = c.args.groups.now in
    let report = c.args.self.now in
    let counts = c.args.counts.now in
    let old : List ℕ = c.args.text.now in
    let new : List ℕ = c.finish.new.text in
    IfOk-weaker c.finish.result _ _
    (λ _ ends. λ ls reports log all are.
    closed plan report counts ls reports log old new all are
    (subst (λ (p : Plan). (past : FollowedPast) → RecallsPast p report counts past
    → (units : List ℕ) × AreUnitLines p (frames_seen past.seen) 0 p.units.items units × (new ≡ old ++ behind_reports p past units))
    c.plan.ensures ends all.past all.recalls))
    c.finish.ensures
