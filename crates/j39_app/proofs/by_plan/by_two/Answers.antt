use Rattle.std.proofs.Common.{rules, ◌≡◌}
use Rattle.j39_app.specs.Answers.{IsForOnePlan}
use Rattle.j39_app.specs.PlanCommands.{IsFrontByPlan, IsTextByPlan}
use Rattle.j39_app.proofs.Ending.{no_plan, plan_known, plan_refused}
use Rattle.j39_app.proofs.by_plan.by_two.Goals as goal

pub returns-in_err-line : goal.returns-in_err-line
returns-in_err-line g c =
    no_plan (IsForOnePlan (IsTextByPlan c.args.command)) (IsForOnePlan (IsFrontByPlan c.args.command)) _ _ c.line_of.result
    c.line_of.ensures.ends _ _ c.in_err-line.was (search rules)

pub returns-in-Some : goal.returns-in-Some
returns-in-Some g c =
    let same : c.line_of.new.sink ≡ c.args.sink.now = rw c.in-Some.is at c.in_ok-line.ensures.writes_nothing in
    plan_known (IsForOnePlan (IsTextByPlan c.args.command)) (IsForOnePlan (IsFrontByPlan c.args.command)) _ _ c.line_of.result
    c.line_of.ensures.ends c.in-Some.line c.by_line.result (search rules) same c.by_line.ensures

pub returns-in-None : goal.returns-in-None
returns-in-None g c =
    plan_refused (IsForOnePlan (IsTextByPlan c.args.command)) (IsForOnePlan (IsFrontByPlan c.args.command)) _ _ c.line_of.result
    c.line_of.ensures.ends (search rules)
