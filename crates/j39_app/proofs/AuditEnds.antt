-- How an audit ends, by how the commands end that it makes.
use Rattle.std.proofs.Common.{◌≡◌, ℕ, Bool, true, false, List, Option, Result, inl, inr, refl}
use Rattle.j39_app.specs.Answers.{IsOfSome}
use Rattle.j39_app.specs.AuditAnswers.{IsAuditOf, is_hindered}
use Rattle.j39_app.specs.Faults.{Ends}
use Rattle.j39_app.specs.Known.{AreLeft, MayBeTooLong}
use Rattle.j39_app.proofs.Ending.{ends_too, put_ends, whole_ends}
use Rattle.j39_audit.specs.AuditText.{IsAudit}
use Rattle.j39_network.specs.declared.plan.Plan.{Plan}
use Rattle.j39_plan_text.specs.CheckText.{IsReport}
use Rattle.j39_stream.specs.CommandEnds.{AnswersWhole, IsOfAny, PutsText}
use Rattle.j39_stream.specs.Streams.{HasFailed, SinkState, SourceState}
use Rattle.j39_stream.specs.declared.fault.Fault.{Fault}
use Rattle.j39_stream.specs.declared.limits.Limits.{Limits}
use Rattle.j39_stream.specs.declared.verdict.Verdict.{Verdict}

-- what is written is said in other words
ends_said : {W : Type 0} {IsText IsOther : List ℕ → Verdict → Type 0} {IsPart : List ℕ → Type 0} {AtOnce IsTooLong IsBroken : Type 0} {state : W → SinkState}
    {start ended : W} (says : (text : List ℕ) (verdict : Verdict) → IsText text verdict → IsOther text verdict) (r : Result Verdict Fault)
    → Ends IsText IsPart AtOnce IsTooLong IsBroken state start ended r → Ends IsOther IsPart AtOnce IsTooLong IsBroken state start ended r
ends_said says r ends = ends_too says (λ text part. part) (λ now. now) (λ long. long) (λ broken. broken) r ends

module _ {W : Type 0} {most : Limits} {old new : SourceState} {state : W → SinkState} {start ended : W} (plan : Plan) (part : Bool)
    (stamps : ℕ) (quiet : Option ℕ) (known : Option (List ℕ)) (IsBroken : Type 0) (opened : AreLeft known old.left)
    (breaks : HasFailed old.failures new.failures → IsBroken) (r : Result Verdict Fault) where
  ends_where : (b : Bool) → is_hindered plan ≡ b → (b ≡ true → PutsText (IsReport plan) state start ended r)
      → (b ≡ false → AnswersWhole (IsAudit plan part stamps quiet) (IsOfAny (IsAudit plan part stamps quiet)) most old new state start ended r)
      → Ends (IsAuditOf part stamps quiet plan known) (IsOfSome (IsAuditOf part stamps quiet plan known)) (Unit {0})
      (MayBeTooLong most known) IsBroken state start ended r
  ends_where true is puts answers =
      ends_said {IsOther = IsAuditOf part stamps quiet plan known} (λ text verdict report. inl (is, report)) r
      (put_ends (λ text verdict report. (verdict, inl (is, report))) r (puts refl))
  ends_where false is puts answers =
      ends_said {IsOther = IsAuditOf part stamps quiet plan known} (λ text verdict audit. inr (is, audit)) r
      (whole_ends known (IsOfSome (IsAuditOf part stamps quiet plan known)) IsBroken opened
      (λ log text of audit. (audit.0, inr (is, (log, of, audit.1)))) breaks r (answers refl))

  pub audit_ends : (is_hindered plan ≡ true → PutsText (IsReport plan) state start ended r)
      → (is_hindered plan ≡ false → AnswersWhole (IsAudit plan part stamps quiet) (IsOfAny (IsAudit plan part stamps quiet)) most old new state start ended r)
      → Ends (IsAuditOf part stamps quiet plan known) (IsOfSome (IsAuditOf part stamps quiet plan known)) (Unit {0})
      (MayBeTooLong most known) IsBroken state start ended r
  audit_ends = ends_where (is_hindered plan) refl
