use Rattle.std.proofs.Common.{rules, inl, inr}
use Rattle.j39_plan_text.specs.PlanText.{RefusesChoices}
use Rattle.j39_app.specs.Answers.{IsOfSome}
use Rattle.j39_app.proofs.Ending.{ends_too, not_opened, put_ends}
use Rattle.j39_app.proofs.by_plan.by_line.Goals as goal

pub returns-in_err-file : goal.returns-in_err-file
returns-in_err-file g c = not_opened _ (search rules) (inl c.in_err-file.ensures.shut)

pub returns-then-has_choices : goal.returns-then-has_choices
returns-then-has_choices g c =
    let some = c.has_choices.ensures.some c.if-has_choices.true in
    ends_too {IsPart = IsOfSome RefusesChoices} (λ text verdict is. inr (some, is)) (λ text is. (is.0, inr (some, is.1))) (λ now. now) (λ long. long)
    (λ broken. broken)
    c.refuse_choices.result (put_ends (λ text verdict is. (verdict, is)) c.refuse_choices.result c.refuse_choices.ensures)

pub returns : goal.returns
returns g c =
    let none = c.has_choices.ensures.none c.if-has_choices.false in
    let opened = c.in_ok-file.ensures.opened in
    ends_too (λ text verdict is. inl (none, is)) (λ text is. (is.0, inl (none, is.1))) (λ now. now) (λ long. long)
    (λ failed. inr (c.in_ok-file.file, c.write_by_plan.new.file, opened, failed)) c.write_by_plan.result (c.write_by_plan.ensures _ opened)
