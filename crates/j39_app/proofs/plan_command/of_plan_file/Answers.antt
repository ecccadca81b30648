use Rattle.std.proofs.Common.{rules, inl, inr}
use Rattle.j39_app.proofs.Ending.{not_opened, whole_ends}
use Rattle.j39_app.proofs.plan_command.of_plan_file.Goals as goal

pub returns-in_err-open : goal.returns-in_err-open
returns-in_err-open g c = not_opened _ (search rules) (inl c.in_err-open.ensures.shut)

pub returns : goal.returns
returns g c =
    let opened = c.in_ok-open.ensures.opened in
    whole_ends (g.F.Folder.bytes_of c.args.files.now c.args.plan.now) _ _ opened (λ bytes text of part. (part.0, (bytes, of, part.1)))
    (λ failed. inr (c.in_ok-open.field-0, c.write_of_plan.new.source, opened, failed)) c.write_of_plan.result c.write_of_plan.ensures
