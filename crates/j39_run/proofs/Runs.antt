-- A run of a schedule, line after line.
use Rattle.std.proofs.Common.{◌≡◌, ◌+◌, ◌++◌, ℕ, true, false, List, [], ◌∷◌, length, refl, sym, ap, ◌∙◌, subst, arith, append_assoc, Some, None, Err}
use Rattle.std.proofs.lemmas.List.{append-nil}
use Rattle.j39_id.specs.Lines.{Line, lines}
use Rattle.j39_network.specs.declared.plan.Plan.{Plan}
use Rattle.j39_network.specs.declared.steps.Step.{Step}
use Rattle.j39_world.specs.declared.step_error.StepError.{StepError}
use Rattle.j39_world.specs.Run.{cause_of, refusal}
use Rattle.j39_world.specs.World.{World}
use Rattle.j39_bus.specs.BusState.{BusState}
use Rattle.j39_bus.specs.Stands.{Stands}
use Rattle.j39_schedule.specs.Schedule.{Reading, line_order, read_as}
use Rattle.j39_schedule.specs.declared.line_fault.LineFault.{LineFault}
use Rattle.j39_stream.specs.LineReading.{HasLines, IsSoFar}
use Rattle.j39_stream.specs.declared.verdict.Verdict.TheVariants.{Done}
use Rattle.j39_run.specs.RunText.{IsBusText, closing_text, is_running, verdict_of}
use Rattle.j39_run.specs.Views.{Shows, View}
use Rattle.j39_run.specs.declared.halt.Halt.{Halt}
use Rattle.j39_run.specs.declared.halt.Halt.TheVariants.{End, Step as AtStep, Line as AtLine, Full}
use Rattle.j39_run.specs.declared.running.Running.{Running}
use Rattle.j39_run.specs.inside.Doing.{HasDone, HasRun, HasRunTo, HasSentAll, HasShown, HasStopped, IsRefusedStep, IsStepTooMany, IsTextOfBus, RunsOn}
use Rattle.j39_run.proofs.Done.{blank_done, end_done, line_refused, put_done, some_view, step_done, step_refused, step_too_many, unit_count}

-- ---- a line

-- a run goes on where no line is refused
runs_to_end : (halt : Halt) → is_running halt ≡ true → halt ≡ End
runs_to_end End is = refl
runs_to_end (AtStep place cause) is = cc is
runs_to_end (AtLine place fault) is = cc is
runs_to_end (Full place) is = cc is

-- a run that goes on has done all lines that were read
done_all : (plan : Plan) (b : BusState) (place : ℕ) (text : List ℕ) (halt : Halt) (yielded : List Line) (written : List ℕ) → halt ≡ End
    → HasRunTo plan b place text halt yielded written → HasDone plan b yielded place written text
done_all plan b place text halt yielded written goes run = subst (λ (h : Halt). HasRunTo plan b place text h yielded written) goes run

-- where the next line is refused the run stops
stops : (plan : Plan) (b : BusState) (IsRefused : Reading → Type 0) (place : ℕ) (text : List ℕ) (yielded : List Line) (line : Line) (written : List ℕ)
    → HasDone plan b yielded place written text → IsRefused (line_order plan line) → HasStopped plan b IsRefused place text (yielded ++ line ∷ []) written
stops plan b IsRefused place text yielded line written done refused = record {
  ls = yielded;
  line = line;
  rest = [];
  parts = sym (append-nil (yielded ++ line ∷ []));
  done = done;
  refused = refused;
}

-- what stands behind it makes no difference
still_stopped : (plan : Plan) (b : BusState) (IsRefused : Reading → Type 0) (place : ℕ) (text : List ℕ) (yielded more : List Line) (written : List ℕ)
    → HasStopped plan b IsRefused place text yielded written → HasStopped plan b IsRefused place text (yielded ++ more) written
still_stopped plan b IsRefused place text yielded more written h = record {
  ls = h.ls;
  line = h.line;
  rest = h.rest ++ more;
  parts = ap (λ (t : List Line). t ++ more) h.parts ∙ append_assoc (h.ls ++ h.line ∷ []) h.rest more;
  done = h.done;
  refused = h.refused;
}

module _ {X : Type 0} {P : X → Type 0} (plan : Plan) (old : Running X P) (goes : is_running old.halt ≡ true) where
  done_of : (yielded : List Line) (written : List ℕ) → HasRun plan old yielded written → HasDone plan old.bus yielded old.place written old.text
  done_of yielded written run = done_all plan old.bus old.place old.text old.halt yielded written (runs_to_end old.halt goes) run

  -- a line that orders nothing
  pub blank_run : (line : Line) → line_order plan line ≡ read_as None → RunsOn plan old (record old { place = old.place + 1 }) (line ∷ [])
  blank_run line reads = record {
    run = λ yielded written run.
        subst (λ (h : Halt). HasRunTo plan old.bus (old.place + 1) old.text h (yielded ++ line ∷ []) written) (sym (runs_to_end old.halt goes))
        (blank_done plan old.bus yielded line old.place written old.text (done_of yielded written run) reads);
    count = omega arith;
  }

  -- a line that can't be read
  pub bad_run : (line : Line) (fault : LineFault) → line_order plan line ≡ Err fault
      → RunsOn plan old (record old { halt = AtLine old.place fault }) (line ∷ [])
  bad_run line fault reads = record {
    run = λ yielded written run.
        stops plan old.bus (λ reading. reading ≡ Err fault) old.place old.text yielded line written (done_of yielded written run) reads;
    count = omega arith;
  }

  -- a line whose step was done
  pub step_run : (line : Line) (step : Step) (bus : BusState) (text : List ℕ) → line_order plan line ≡ read_as (Some step) → ¬ HasSentAll old.bus
      → HasShown step old.bus bus old.text text
      → RunsOn plan old (record old { bus = bus; text = text; place = old.place + 1 }) (line ∷ [])
  step_run line step bus text reads room shown = record {
    run = λ yielded written run.
        subst (λ (h : Halt). HasRunTo plan bus (old.place + 1) text h (yielded ++ line ∷ []) written) (sym (runs_to_end old.halt goes))
        (step_done plan old.bus bus yielded line step old.place written old.text text (done_of yielded written run) reads room shown);
    count = omega arith;
  }

  -- a line whose step is refused
  pub refused_run : (line : Line) (step : Step) (bus : BusState) (halt : Halt) (cause : StepError) → line_order plan line ≡ read_as (Some step)
      → ¬ HasSentAll old.bus → bus ≡ old.bus → ((p : Plan) (w : World) → Stands old.bus p w → refusal p w step ≡ cause_of cause)
      → (halt ≡ AtStep old.place cause) × (cause_of cause ≡ Some cause)
      → RunsOn plan old (record old { bus = bus; halt = halt }) (line ∷ [])
  refused_run line step bus halt cause reads room same refuses (at, reported_so) = record {
    run = λ yielded written run.
        subst (λ (h : Halt). HasRunTo plan bus old.place old.text h (yielded ++ line ∷ []) written) (sym at)
        (subst (λ (b : BusState). HasStopped plan b (IsRefusedStep plan b cause) old.place old.text (yielded ++ line ∷ []) written) (sym same)
        (stops plan old.bus (IsRefusedStep plan old.bus cause) old.place old.text yielded line written (done_of yielded written run)
        (step, reads, room, (λ w stands. refuses plan w stands ∙ reported_so))));
    count = omega arith;
  }

  -- a line whose step would be one too many
  pub full_run : (line : Line) (step : Step) → line_order plan line ≡ read_as (Some step) → HasSentAll old.bus
      → RunsOn plan old (record old { halt = Full old.place }) (line ∷ [])
  full_run line step reads full = record {
    run = λ yielded written run.
        stops plan old.bus (IsStepTooMany old.bus) old.place old.text yielded line written (done_of yielded written run) (step, reads, full);
    count = omega arith;
  }

-- no line came
pub same_run : {X : Type 0} {P : X → Type 0} (plan : Plan) (old : Running X P) (ls : List Line) → ls ≡ [] → RunsOn plan old old ls
same_run plan old ls none = record {
  run = λ yielded written run. subst (λ (t : List Line). HasRun plan old t written)
      (sym (append-nil yielded) ∙ ap (λ (m : List Line). yielded ++ m) (sym none)) run;
  count = omega arith;
}

stopped_on : (plan : Plan) (b : BusState) (place : ℕ) (text : List ℕ) (halt : Halt) (yielded more : List Line) (written : List ℕ) → is_running halt ≡ false
    → HasRunTo plan b place text halt yielded written → HasRunTo plan b place text halt (yielded ++ more) written
stopped_on plan b place text End yielded more written stopped run = cc stopped
stopped_on plan b place text (AtStep at cause) yielded more written stopped run = still_stopped plan b
    (IsRefusedStep plan b cause) at text yielded more written run
stopped_on plan b place text (AtLine at fault) yielded more written stopped run =
    still_stopped plan b (λ reading. reading ≡ Err fault) at text yielded more written run
stopped_on plan b place text (Full at) yielded more written stopped run = still_stopped plan b (IsStepTooMany b) at text yielded more written run

-- a run that stopped reads no more lines
pub stopped_run : {X : Type 0} {P : X → Type 0} (plan : Plan) (old : Running X P) (ls : List Line) → is_running old.halt ≡ false → RunsOn plan old old ls
stopped_run plan old ls stopped = record {
  run = λ yielded written run. stopped_on plan old.bus old.place old.text old.halt yielded ls written stopped run;
  count = omega arith;
}

-- ---- what is written

put_to : (plan : Plan) (b : BusState) (place : ℕ) (text rest : List ℕ) (halt : Halt) (yielded : List Line) (written : List ℕ) → rest ≡ []
    → HasRunTo plan b place text halt yielded written → HasRunTo plan b place rest halt yielded (written ++ text)
put_to plan b place text rest End yielded written empty run = put_done plan b yielded place written text rest empty run
put_to plan b place text rest (AtStep at cause) yielded written empty run = record {
  ls = run.ls;
  line = run.line;
  rest = run.rest;
  parts = run.parts;
  done = put_done plan b run.ls at written text rest empty run.done;
  refused = run.refused;
}
put_to plan b place text rest (AtLine at fault) yielded written empty run = record {
  ls = run.ls;
  line = run.line;
  rest = run.rest;
  parts = run.parts;
  done = put_done plan b run.ls at written text rest empty run.done;
  refused = run.refused;
}
put_to plan b place text rest (Full at) yielded written empty run = record {
  ls = run.ls;
  line = run.line;
  rest = run.rest;
  parts = run.parts;
  done = put_done plan b run.ls at written text rest empty run.done;
  refused = run.refused;
}

-- what is to be written is written
pub put_run : {X : Type 0} {P : X → Type 0} (plan : Plan) (run : Running X P) (rest : List ℕ) (yielded : List Line) (written : List ℕ)
    → rest ≡ [] → HasRun plan run yielded written
    → HasRun plan (record run { text = rest }) yielded (written ++ run.text)
put_run plan run rest yielded written empty has = put_to plan run.bus run.place run.text rest run.halt yielded written empty has

-- ---- the text

-- the bus has the units of the plan
pub units_counted : (plan : Plan) (b : BusState) (place : ℕ) (text : List ℕ) (halt : Halt) (yielded : List Line) (written : List ℕ)
    → HasRunTo plan b place text halt yielded written → length b.units ≡ length plan.units.items
units_counted plan b place text End yielded written run = unit_count b plan run.world run.stands
units_counted plan b place text (AtStep at cause) yielded written run = unit_count b plan run.done.world run.done.stands
units_counted plan b place text (AtLine at fault) yielded written run = unit_count b plan run.done.world run.done.stands
units_counted plan b place text (Full at) yielded written run = unit_count b plan run.done.world run.done.stands

rest_yielded : (yielded front rest more all : List Line) → all ≡ yielded ++ more → yielded ≡ front ++ rest → all ≡ front ++ (rest ++ more)
rest_yielded yielded front rest more all is parts = is ∙ ap (λ (t : List Line). t ++ more) parts ∙ append_assoc front rest more

module _ (plan : Plan) (b : BusState) (place : ℕ) (text : List ℕ) (view : View) (shows : (w : World) → Stands b plan w → Shows plan w view) where
  -- with what stands at its end the text is whole, for each schedule with these lines
  pub closed : (halt : Halt) (yielded : List Line) (written input : List ℕ) → HasRunTo plan b place text halt yielded written
      → HasLines (is_running halt) yielded input → IsBusText plan input halt (written ++ (text ++ closing_text plan view halt))
  closed End yielded written input run all = end_done plan b yielded place written text run view shows input (sym all)
  closed (AtStep at cause) yielded written input run (more, all) =
      let (step, reads, room, refuses) = run.refused in
      step_refused plan b run.ls at written text run.done view shows input run.line (run.rest ++ more) step cause
      (rest_yielded yielded (run.ls ++ run.line ∷ []) run.rest more (lines input) all run.parts) reads room refuses
  closed (AtLine at fault) yielded written input run (more, all) =
      line_refused plan b run.ls at written text run.done view shows input run.line (run.rest ++ more) fault
      (rest_yielded yielded (run.ls ++ run.line ∷ []) run.rest more (lines input) all run.parts) run.refused
  closed (Full at) yielded written input run (more, all) =
      let (step, reads, full) = run.refused in
      step_too_many plan b run.ls at written text run.done view shows input run.line (run.rest ++ more) step
      (rest_yielded yielded (run.ls ++ run.line ∷ []) run.rest more (lines input) all run.parts) reads full

-- a text begins with what is written of the lines
pub so_far : {X : Type 0} {P : X → Type 0} (plan : Plan) (run : Running X P) (yielded : List Line) (written : List ℕ) → HasRun plan run yielded written
    → IsSoFar (λ yielded written. HasRun plan run yielded written) (λ schedule text verdict. IsTextOfBus plan schedule text verdict)
    (is_running run.halt) run.text yielded written
so_far plan run yielded written has =
    let (view, shows) = some_view plan run.bus in
    record {
      read = has;
      begins = λ input all. (
        closing_text plan view run.halt,
        verdict_of run.halt,
        (run.halt, closed plan run.bus run.place run.text view shows run.halt yielded written input has all, refl),
        λ goes. ap verdict_of (runs_to_end run.halt goes),
      );
    }

-- it is done only where no line is refused
pub done_at_end : (halt : Halt) → verdict_of halt ≡ Done → is_running halt ≡ true
done_at_end End is = refl
done_at_end (AtStep place cause) is = cc is
done_at_end (AtLine place fault) is = cc is
done_at_end (Full place) is = cc is
