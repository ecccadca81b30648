use Rattle.std.proofs.Common.{sym, ◌∙◌}
use Rattle.std.proofs.lemmas.Result.{IfOk-weaker}
use Rattle.j39_audit.specs.inside.Recalling.{settings_of}
use Rattle.j39_audit.proofs.Asked.{sign_reported}
use Rattle.j39_audit.proofs.asking.Asking.take_sign.Goals as goal

pub returns : goal.returns
returns c =
    IfOk-weaker c.report.result _ _
    (λ _ reported. λ a recalls.
    sign_reported (settings_of c.args.basis.now) c.report.new.self _ c.in-Some.timing _ c.in-Some-unit.unit c.args.idle c.in-Some-kept_at.request a
    c.in-Some.is c.in-Some-unit.is
    (sym (recalls.asked.places c.in-Some-unit.unit) ∙ sym c.kept_at.ensures ∙ c.in-Some-kept_at.is)
    (sym c.is_overdue.ensures ∙ c.if-not-is_overdue.false) (reported a recalls))
    c.report.ensures
