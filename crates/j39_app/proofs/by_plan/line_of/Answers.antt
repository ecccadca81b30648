use Rattle.std.proofs.Common.{rules, inl, inr}
use Rattle.j39_app.proofs.Ending.{not_opened, whole_ends}
use Rattle.j39_app.proofs.by_plan.line_of.Goals as goal

pub returns-in_err-open-clause-ends : goal.returns-in_err-open-clause-ends
returns-in_err-open-clause-ends g c = not_opened _ (search rules) (inl c.in_err-open.ensures.shut)

pub returns-clause-ends : goal.returns-clause-ends
returns-clause-ends g c =
    let opened = c.in_ok-open.ensures.opened in
    whole_ends (g.F.Folder.bytes_of c.args.files.now c.args.name.now) _ _ opened (λ bytes text of part. (bytes, of, part))
    (λ failed. inr (c.in_ok-open.field-0, c.line_text.new.source, opened, failed)) c.line_text.result c.line_text.ensures.answers
