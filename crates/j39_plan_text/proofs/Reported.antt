-- What is written of a plan file, by what its reader gave.
use Rattle.std.proofs.Common.{◌≡◌, List, ℕ, Option, Some, None, Result, Ok, Err, inl, inr, refl}
use Rattle.j39_variants.specs.declared.line.ProductLine.{ProductLine}
use Rattle.j39_plan_text.specs.PlanText.{IsLineText, IsRefusedText, IsReportedText}
use Rattle.j39_stream.specs.CommandEnds.{AnswersWhole, IsOfAny, PutsText}
use Rattle.j39_stream.specs.Streams.{SinkState, SourceState}
use Rattle.j39_stream.specs.declared.fault.Fault.{Fault}
use Rattle.j39_stream.specs.declared.limits.Limits.{Limits}
use Rattle.j39_stream.specs.declared.verdict.Verdict.{Verdict}
use Rattle.j39_stream.specs.declared.verdict.Verdict.TheVariants.{Unreadable}
use Rattle.j39_stream.proofs.Answering.{answered, read_and_put}

module _ {W : Type 0} {Says : ProductLine → List ℕ → Verdict → Type 0} {most : Limits} {old new : SourceState} {state : W → SinkState} {start middle : W}
    (plan : Result (Option ProductLine) Fault) (read : AnswersWhole IsLineText IsRefusedText most old new state start middle plan) where
  -- there is none, by a fault
  pub none_read : (fault : Fault) (r : Result Verdict Fault) → plan ≡ Err fault → r ≡ Err fault
      → AnswersWhole (IsReportedText Says) (IsOfAny (IsReportedText Says)) most old new state start middle r
  none_read fault r is ends =
      let before : AnswersWhole IsLineText IsRefusedText most old new state start middle (Err fault) = rw is at read in
      rw ends record {
        written = tt;
        memory = λ e. before.memory (cc e);
        limits = tt;
        long = λ e. before.long (cc e);
        device = λ e. before.device (cc e);
        calm = tt;
        cut = λ e. elim (before.cut (cc e)) [
          | inl same ↦ inl same
          | inr (input, text, all, end, refused, part) ↦ inr (input, text, all, end, (Unreadable, inr (refused, refl)), part)
        ];
      }

  -- the file describes none
  pub refused : plan ≡ Ok None
      → AnswersWhole (IsReportedText Says) (IsOfAny (IsReportedText Says)) most old new state start middle (Ok Unreadable)
  refused is =
      let before : AnswersWhole IsLineText IsRefusedText most old new state start middle (Ok None) = rw is at read in
      let (input, text, all, end, line, put) = before.written in
      answered input text Unreadable all end before.limits (inr (line, refl)) put before.calm

  -- the plan is reported
  pub reported : {ended : W} (found : ProductLine) (r : Result Verdict Fault) → plan ≡ Ok (Some found) → middle ≡ start
      → PutsText (Says found) state middle ended r
      → AnswersWhole (IsReportedText Says) (IsOfAny (IsReportedText Says)) most old new state start ended r
  reported {ended} found r is same puts =
      let before : AnswersWhole IsLineText IsRefusedText most old new state start middle (Ok (Some found)) = rw is at read in
      let (input, text, all, end, described, put) = before.written in
      let here : PutsText (Says found) state start ended r = rw same at puts in
      read_and_put input
      (λ text verdict says. let here : IsReportedText Says input text verdict = inl (found, described.0, says) in (here, (verdict, here)))
      r all end before.limits before.calm.0 here
