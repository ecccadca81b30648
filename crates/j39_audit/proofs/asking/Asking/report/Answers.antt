use Rattle.std.proofs.Common.{◌++◌, ◌∷◌, [], subst, ◌∙◌}
use Rattle.std.proofs.lemmas.Result.{IfOk-weaker}
use Rattle.j39_audit.specs.declared.mark.Mark.{Mark}
use Rattle.j39_audit.specs.inside.Recalling.{AreCounted}
use Rattle.j39_audit.proofs.Keeping.{kept_less}
use Rattle.j39_audit.proofs.asking.Asking.report.Goals as goal

pub returns : goal.returns
returns c =
    IfOk-weaker c.note.result _ _
    (λ _ noted. λ a recalls.
    let forgot = c.forget_at.ensures in
    record {
      size = forgot.size ∙ recalls.size;
      asked = kept_less c.args.unit forgot.others forgot.size forgot.here recalls.asked;
      counted = subst (λ (k : Mark). AreCounted c.note.new.self (a.deaf ++ record { mark = k; line = c.args.request.line; detail = 0 } ∷ []))
          c.make_mark.ensures (noted.counts a.deaf recalls.counted);
    })
    c.note.ensures
