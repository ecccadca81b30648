-- The text of a schedule, by what a bus did.
use Rattle.std.proofs.Common.{◌≡◌, List, ℕ, Option, Some, [], inl, inr, subst, Result, IfOk}
use Rattle.std.proofs.lemmas.Result.{IfOk-weaker}
use Rattle.std.specs.Io.KnownBytes.{Appends}
use Rattle.j39_network.specs.declared.plan.Plan.{Plan}
use Rattle.j39_world.specs.declared.bus_error.BusError.{BusError}
use Rattle.j39_world.specs.Opening.{CanOpen, IsNotOpened}
use Rattle.j39_stream.specs.CommandEnds.{AnswersInPieces, PutsText}
use Rattle.j39_stream.specs.Streams.{SinkState, SourceState, plan_limits}
use Rattle.j39_stream.specs.declared.fault.Fault.{Fault}
use Rattle.j39_stream.specs.declared.verdict.Verdict.{Verdict}
use Rattle.j39_stream.proofs.Answering.{put_unread}
use Rattle.j39_stream.specs.LineReading.{AreTextsOf}
use Rattle.j39_run.specs.RunText.{IsBusText, IsRefusedBy, IsRunText}
use Rattle.j39_run.specs.inside.Doing.{IsTextOfBus}

-- ---- the text of a bus

pub bus_text : (plan : Plan) (choosers : ℕ) → CanOpen choosers plan → (units : Plan) → units ≡ plan → AreTextsOf (IsTextOfBus units) (IsRunText plan choosers)
bus_text plan choosers opens units same schedule text verdict (halt, is, judged) =
    inr (halt, (opens, subst (λ (p : Plan). IsBusText p schedule halt text) same is), judged)

-- what the text of all is of is said in other words
pub whole_of : {Is IsOther : List ℕ → List ℕ → Verdict → Type 0} → AreTextsOf Is IsOther → (left x y : Option (List ℕ)) (r : Result Verdict Fault)
    → IfOk r (λ verdict. (all : List ℕ) → left ≡ Some all → (text : List ℕ) × Is all text verdict × Appends x y text)
    → IfOk r (λ verdict. (all : List ℕ) → left ≡ Some all → (text : List ℕ) × IsOther all text verdict × Appends x y text)
whole_of says left x y r whole =
    IfOk-weaker r _ _ (λ verdict has all known. let (text, is, put) = has all known in (text, says all text verdict is, put)) whole

-- ---- a plan that has no bus

module _ (plan : Plan) (choosers : ℕ) (error : BusError) (refused : IsNotOpened choosers plan error) where
  refusal_of : (bytes text : List ℕ) (verdict : Verdict) → IsRefusedBy plan error text verdict → IsRunText plan choosers bytes text verdict
  refusal_of bytes text verdict (line, is) = inl ((error, refused, line), is)

  pub refused_answers : {W : Type 0} {state : W → SinkState} {old : SourceState} {start ended : W} (r : Result Verdict Fault)
      → PutsText (IsRefusedBy plan error) state start ended r → AnswersInPieces (IsRunText plan choosers) plan_limits old old state start ended r
  refused_answers r puts = put_unread r (λ text verdict is. (refusal_of [] text verdict is, λ done. cc (done, is.1))) puts

  pub refused_whole : {W : Type 0} {state : W → SinkState} {start ended : W} (left : Option (List ℕ)) (r : Result Verdict Fault)
      → PutsText (IsRefusedBy plan error) state start ended r
      → IfOk r (λ verdict. (all : List ℕ) → left ≡ Some all → (text : List ℕ) × IsRunText plan choosers all text verdict
      × Appends (state start).taken (state ended).taken text)
  refused_whole left r puts =
      IfOk-weaker r _ _ (λ verdict (text, is, put) all known. (text, refusal_of all text verdict is, put)) puts.written
