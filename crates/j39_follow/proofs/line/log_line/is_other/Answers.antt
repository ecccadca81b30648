use Rattle.std.proofs.Common.{inl, inr, refl, sym, subst}
use Rattle.std.specs.Prelude.{IfErr, IfOk, Result}
use Rattle.std.proofs.lemmas.Bool.{false≢true}
use Rattle.j39_id.proofs.LineLaws.{not_both}
use Rattle.j39_id.specs.FrameLine.{HasLineFault, Spells}
use Rattle.j39_id.specs.declared.frame.Frame.{Frame}
use Rattle.j39_id.specs.declared.line_error.LineError.{LineError}
use Rattle.j39_follow.proofs.line.log_line.is_other.Goals as goal

pub returns-then-is_same : goal.returns-then-is_same
returns-then-is_same c = (λ e. absurd (false≢true e), λ there. absurd (there.0 (sym (c.is_same.ensures.same c.if-is_same.true))))

pub returns-in-Ok : goal.returns-in-Ok
returns-in-Ok c = (
  λ e. (
    λ same. c.is_same.ensures.other c.if-is_same.false (sym same),
    inl (c.in-Ok._frame, subst (λ (r : Result Frame LineError). IfOk r (λ f. Spells c.args.part.now f)) c.in-Ok.is c.requires.found),
  ),
  λ there. refl,
)

pub returns-in-Err : goal.returns-in-Err
returns-in-Err c =
    let fault = subst (λ (r : Result Frame LineError). IfErr r (λ e. HasLineFault c.args.part.now e)) c.in-Err.is c.requires.refused in (
      λ e. (λ same. c.is_same.ensures.other c.if-is_same.false (sym same), inr (c.looks_elsewhere.ensures.0 e)),
      λ there. elim there.1 [
        | inl spelled ↦ absurd (not_both c.args.part.now spelled.0 c.in-Err._fault spelled.1 fault)
        | inr looks ↦ c.looks_elsewhere.ensures.1 looks
      ],
    )
