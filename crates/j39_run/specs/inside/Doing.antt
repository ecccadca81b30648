-- How far a run of a schedule has come, and what a step and a line do.
use Rattle.std.specs.Prelude.{◌≡◌, ℕ, ◌+◌, ◌≤◌, List, [], ◌∷◌, ◌++◌, length, map, Option, Some, None, Ok, Err}
use Rattle.j39_id.specs.Lines.{Line}
use Rattle.j39_network.specs.declared.plan.Plan.{Plan}
use Rattle.j39_network.specs.declared.steps.Step.{Step}
use Rattle.j39_bus.specs.BusState.{BusState}
use Rattle.j39_world.specs.Run.{StepsTo, refusal}
use Rattle.j39_bus.specs.Stands.{Stands}
use Rattle.j39_world.specs.World.{World, all_off}
use Rattle.j39_world.specs.declared.step_error.StepError.{StepError}
use Rattle.j39_schedule.specs.Schedule.{Ordered, Reading, line_order, read_as}
use Rattle.j39_stream.specs.declared.verdict.Verdict.{Verdict}
use Rattle.j39_run.specs.RunText.{IsBusText, RunsWithin, most_frames, sent_lines, steps_of, verdict_of}
use Rattle.j39_run.specs.declared.halt.Halt.{Halt}
use Rattle.j39_run.specs.declared.halt.Halt.TheVariants.{End, Step as AtStep, Line as AtLine, Full}
use Rattle.j39_run.specs.declared.running.Running.{Running}

-- what these lines order was done by the bus, none of it refused; of its frames this is written, and this is to be written
pub record HasDone (plan : Plan) (b : BusState) (ls : List Line) (place : ℕ) (written text : List ℕ) : Type 0 where
  pub orders : List (Option Step)
  pub read : map (line_order plan) ls ≡ map read_as orders
  pub count : length orders ≡ place
  pub world : World
  pub ran : RunsWithin plan all_off (steps_of orders) world
  pub stands : Stands b plan world
  pub shown : written ++ text ≡ sent_lines b.frames

-- the step was done, and the lines of what it sent stand behind the text
pub record HasShown (step : Step) (old new : BusState) (text more : List ℕ) : Type 0 where
  pub leads : (plan : Plan) (w : World) → Stands old plan w
      → (refusal plan w step ≡ None) × ((after : World) × StepsTo plan w step after × Stands new plan after)
  pub shown : (plan : Plan) (w : World) → Stands old plan w → (written : List ℕ) → written ++ text ≡ sent_lines old.frames
      → written ++ more ≡ sent_lines new.frames

-- some first ones of these lines were done, and the next one is refused, whatever stands behind it
pub record HasStopped (plan : Plan) (b : BusState) (IsRefused : Reading → Type 0) (place : ℕ) (text : List ℕ) (yielded : List Line)
    (written : List ℕ) : Type 0 where
  pub ls : List Line
  pub line : Line
  pub rest : List Line
  pub parts : yielded ≡ (ls ++ line ∷ []) ++ rest
  pub done : HasDone plan b ls place written text
  pub refused : IsRefused (line_order plan line)

-- as many frames were sent as a run may send
abbrev pub HasSentAll : BusState → Type 0
HasSentAll b = most_frames ≤ length b.frames

-- it orders a step that the bus refuses for this cause
abbrev pub IsRefusedStep : Plan → BusState → StepError → Reading → Type 0
IsRefusedStep plan b cause reading =
    (step : Step) × (reading ≡ read_as (Some step)) × (¬ HasSentAll b) × ((w : World) → Stands b plan w → refusal plan w step ≡ Some cause)

-- it orders a step, where no more frames may be sent
abbrev pub IsStepTooMany : BusState → Reading → Type 0
IsStepTooMany b reading = (step : Step) × (reading ≡ read_as (Some step)) × HasSentAll b

-- this is one line, and it orders a step
abbrev pub OrdersStep : Plan → List Line → Type 0
OrdersStep plan ls = (line : Line) × (ordered : Ordered) × (ls ≡ line ∷ []) × (line_order plan line ≡ Ok (Some ordered))

-- these lines of a schedule were read: all of them done, or those before the one at which the run ends
abbrev pub HasRunTo : Plan → BusState → ℕ → List ℕ → Halt → List Line → List ℕ → Type 0
HasRunTo plan b place text End yielded written = HasDone plan b yielded place written text
HasRunTo plan b place text (AtStep at cause) yielded written = HasStopped plan b (IsRefusedStep plan b cause) at text yielded written
HasRunTo plan b place text (AtLine at fault) yielded written = HasStopped plan b (λ reading. reading ≡ Err fault) at text yielded written
HasRunTo plan b place text (Full at) yielded written = HasStopped plan b (IsStepTooMany b) at text yielded written

abbrev pub HasRun : {X : Type 0} {P : X → Type 0} → Plan → Running X P → List Line → List ℕ → Type 0
HasRun plan run yielded written = HasRunTo plan run.bus run.place run.text run.halt yielded written

-- with these lines a run goes on
pub record RunsOn {X : Type 0} {P : X → Type 0} (plan : Plan) (old new : Running X P) (ls : List Line) : Type 0 where
  pub run : (yielded : List Line) (written : List ℕ) → HasRun plan old yielded written → HasRun plan new (yielded ++ ls) written
  pub count : new.place ≤ old.place + 1

-- the text of a bus that runs the schedule, with the verdict
abbrev pub IsTextOfBus : Plan → List ℕ → List ℕ → Verdict → Type 0
IsTextOfBus plan schedule text verdict = (halt : Halt) × IsBusText plan schedule halt text × (verdict ≡ verdict_of halt)
