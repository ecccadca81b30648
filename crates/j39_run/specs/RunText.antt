-- The text that the run command writes for a plan and a schedule.
use Rattle.std.specs.Prelude.{◌≡◌, ◌⊎◌, ℕ, ◌+◌, ◌<◌, ◌≤◌, Bool, true, false, if◌then◌else◌, List, [], ◌∷◌, ◌++◌, length, map, codes, Option, Some, None, Err}
use Rattle.std.specs.List.{slice_split}
use Rattle.hex.specs.Hex.{encode_upper}
use Rattle.j39_id.specs.FrameLine.{canon_text}
use Rattle.j39_network.specs.declared.plan.Plan.{Plan}
use Rattle.j39_network.specs.declared.steps.Step.{Step}
use Rattle.j39_world.specs.declared.bus_error.BusError.{BusError}
use Rattle.j39_world.specs.declared.bus_error.BusError.TheVariants.{ChooserCount, SameName, BadGroup, Memory}
use Rattle.j39_world.specs.declared.step_error.StepError.{StepError}
use Rattle.j39_world.specs.declared.step_error.StepError.TheVariants as steps
use Rattle.j39_world.specs.Opening.{CanOpen, IsNotOpened}
use Rattle.j39_world.specs.Run.{StepsTo, refusal}
use Rattle.j39_world.specs.Sent.{Sent}
use Rattle.j39_world.specs.Transfers.{Reported}
use Rattle.j39_world.specs.World.{World, all_off}
use Rattle.j39_text.specs.Labels.{group_text, unit_label, units_text}
use Rattle.j39_id.specs.Lines.{at_start, is_line_feed, yielded}
use Rattle.j39_schedule.specs.Schedule.{Reading, read_as, readings_of}
use Rattle.j39_text.specs.Texts.{field, place_field}
use Rattle.j39_schedule.specs.declared.line_fault.LineFault.{LineFault}
use Rattle.j39_schedule.specs.declared.line_fault.LineFault.TheVariants as lines
use Rattle.j39_run.specs.Views.{View, Shows}
use Rattle.j39_run.specs.declared.unit_state.UnitState.{UnitState}
use Rattle.j39_run.specs.declared.unit_state.UnitState.TheVariants.{Off, NoAddress, At}
use Rattle.j39_run.specs.declared.halt.Halt.{Halt}
use Rattle.j39_run.specs.declared.halt.Halt.TheVariants.{End, Step as AtStep, Line as AtLine, Full}
use Rattle.j39_stream.specs.declared.verdict.Verdict.{Verdict}
use Rattle.j39_stream.specs.declared.verdict.Verdict.TheVariants.{Done, Refused, Unreadable}

-- ---- where the bus refuses the plan

-- the line of a refusal; want of memory says nothing of the plan
abbrev pub IsPlanRefusal : Plan → BusError → List ℕ → Type 0
IsPlanRefusal plan ChooserCount text = text ≡ codes "refused plan ChooserCount\n"
IsPlanRefusal plan (SameName i j) text = text ≡ units_text (codes "refused plan SameName ") plan i j ++ 10 ∷ []
IsPlanRefusal plan (BadGroup g) text = text ≡ group_text (codes "refused plan BadGroup ") plan g ++ 10 ∷ []
IsPlanRefusal plan Memory text = ⊥

-- with the verdict
abbrev pub IsRefusedBy : Plan → BusError → List ℕ → Verdict → Type 0
IsRefusedBy plan error text verdict = IsPlanRefusal plan error text × (verdict ≡ Refused)

abbrev pub IsRefusedPlan : Plan → ℕ → List ℕ → Type 0
IsRefusedPlan plan choosers text = (error : BusError) × IsNotOpened choosers plan error × IsPlanRefusal plan error text

-- ---- where a run of the schedule ends

-- the steps among orders, of which some order nothing
abbrev pub steps_of : List (Option Step) → List Step
steps_of [] = []
steps_of (None ∷ orders) = steps_of orders
steps_of (Some step ∷ orders) = step ∷ steps_of orders

-- a run does no step once so many frames were sent: what is sent is kept until all have heard it
abbrev pub most_frames : ℕ
most_frames = 100000

abbrev pub IsFull : World → Type 0
IsFull w = most_frames ≤ length w.frames

-- a run through steps, none of which is refused, with fewer frames sent before each
abbrev pub RunsWithin : Plan → World → List Step → World → Type 0
RunsWithin plan w [] new = new ≡ w
RunsWithin plan w (step ∷ steps) new =
    (mid : World) × (¬ IsFull w) × (refusal plan w step ≡ None) × StepsTo plan w step mid × RunsWithin plan mid steps new

-- a run through the orders of these readings, with some lawful choices, comes to this world, and ends there: after all of
-- them, at a step that is refused, at a line that can't be read, or at a step behind that many frames
abbrev pub EndsAt : Plan → List Reading → World → Halt → Type 0
EndsAt plan readings w End =
    (orders : List (Option Step)) × (readings ≡ map read_as orders) × RunsWithin plan all_off (steps_of orders) w
EndsAt plan readings w (AtStep place cause) =
    (orders : List (Option Step)) × (step : Step) × (more : List Reading) × (readings ≡ map read_as orders ++ read_as (Some step) ∷ more)
    × (length orders ≡ place) × RunsWithin plan all_off (steps_of orders) w × (¬ IsFull w) × (refusal plan w step ≡ Some cause)
EndsAt plan readings w (AtLine place fault) =
    (orders : List (Option Step)) × (more : List Reading) × (readings ≡ map read_as orders ++ Err fault ∷ more)
    × (length orders ≡ place) × RunsWithin plan all_off (steps_of orders) w
EndsAt plan readings w (Full place) =
    (orders : List (Option Step)) × (step : Step) × (more : List Reading) × (readings ≡ map read_as orders ++ read_as (Some step) ∷ more)
    × (length orders ≡ place) × RunsWithin plan all_off (steps_of orders) w × IsFull w

abbrev pub verdict_of : Halt → Verdict
verdict_of End = Done
verdict_of (AtStep place cause) = Refused
verdict_of (AtLine place fault) = Unreadable
verdict_of (Full place) = Refused

-- no line is refused
abbrev pub is_running : Halt → Bool
is_running End = true
is_running (AtStep place cause) = false
is_running (AtLine place fault) = false
is_running (Full place) = false

-- ---- what is written of it

unfoldable pub sent_line : Sent → List ℕ
sent_line s = canon_text s.identifier s.payload ++ 10 ∷ []

-- a line for each frame, in order
unfoldable pub sent_lines : List Sent → List ℕ
sent_lines [] = []
sent_lines (s ∷ sent) = sent_line s ++ sent_lines sent

abbrev pub step_cause : StepError → List ℕ
step_cause steps.UnknownUnit = codes "UnknownUnit"
step_cause steps.NoSuchFlow = codes "NoSuchFlow"
step_cause steps.NotStarted = codes "NotStarted"
step_cause steps.AlreadyStarted = codes "AlreadyStarted"
step_cause steps.NothingUndelivered = codes "NothingUndelivered"
step_cause steps.TransferOpen = codes "TransferOpen"
step_cause steps.NotSettled = codes "NotSettled"
step_cause steps.NoAddress = codes "NoAddress"
step_cause steps.Busy = codes "Busy"
step_cause steps.WrongLength = codes "WrongLength"
step_cause steps.WrongSelector = codes "WrongSelector"
step_cause steps.NothingToSend = codes "NothingToSend"
step_cause steps.NoSession = codes "NoSession"
step_cause steps.CannotRest = codes "CannotRest"
step_cause steps.Memory = codes "Memory"

abbrev pub line_cause : LineFault → List ℕ
line_cause lines.LongLine = codes "LongLine"
line_cause lines.UnknownWord = codes "UnknownWord"
line_cause lines.WordCount = codes "WordCount"
line_cause lines.UnknownLabel = codes "UnknownLabel"
line_cause lines.BadNumber = codes "BadNumber"
line_cause lines.BadHex = codes "BadHex"

-- the line that is refused, and why
unfoldable pub refused_line : ℕ → List ℕ → List ℕ
refused_line place cause = place_field (codes "refused line ") place ++ (codes " " ++ (cause ++ 10 ∷ []))

abbrev pub halt_lines : Halt → List ℕ
halt_lines End = []
halt_lines (AtStep place cause) = refused_line place (step_cause cause)
halt_lines (AtLine place fault) = refused_line place (line_cause fault)
halt_lines (Full place) = refused_line place (codes "TooManyFrames")

unfoldable pub state_text : UnitState → List ℕ
state_text Off = codes " off"
state_text NoAddress = codes " none"
state_text (At a) = field (codes " address ") a

unfoldable pub unit_line : Plan → ℕ → UnitState → List ℕ
unit_line plan u state = codes "unit " ++ (unit_label plan u ++ (state_text state ++ 10 ∷ []))

-- a line for each unit, the first of which is at place u
unfoldable pub unit_lines : Plan → ℕ → List UnitState → List ℕ
unit_lines plan u [] = []
unit_lines plan u (state ∷ states) = unit_line plan u state ++ unit_lines plan (u + 1) states

abbrev pub settled_line : Bool → List ℕ
settled_line settled = if settled then codes "settled\n" else codes "not settled\n"

-- who received a message of whom, and by which flow
unfoldable pub report_route : Plan → Reported → List ℕ
report_route plan r =
    codes "report " ++ (unit_label plan r.receiver ++ (codes " from " ++ (unit_label plan r.sender ++ place_field (codes " flow ") r.flow)))

unfoldable pub report_line : Plan → Reported → List ℕ
report_line plan r = report_route plan r ++ (codes " bytes " ++ (encode_upper r.bytes ++ 10 ∷ []))

-- a line for each message that was received whole, in order
unfoldable pub report_lines : Plan → List Reported → List ℕ
report_lines plan [] = []
report_lines plan (r ∷ reports) = report_line plan r ++ report_lines plan reports

-- what stands behind the frames
unfoldable pub closing_text : Plan → View → Halt → List ℕ
closing_text plan view halt =
    halt_lines halt ++ (unit_lines plan 0 view.units ++ (settled_line view.settled ++ report_lines plan view.reports))

unfoldable pub end_text : Plan → View → Halt → List ℕ
end_text plan view halt = sent_lines view.frames ++ closing_text plan view halt

-- ---- the text

-- the text of a bus that runs the schedule, and of a run that ends so
abbrev pub IsBusText : Plan → List ℕ → Halt → List ℕ → Type 0
IsBusText plan bytes halt text =
    (w : World) × (view : View) × EndsAt plan (readings_of plan bytes) w halt × Shows plan w view × (text ≡ end_text plan view halt)

-- the text of a run of the schedule that ends so
abbrev pub IsTextOfRun : Plan → ℕ → List ℕ → Halt → List ℕ → Type 0
IsTextOfRun plan choosers bytes halt text = CanOpen choosers plan × IsBusText plan bytes halt text

-- what is written for a plan with this many choosers and the bytes of a schedule, with the verdict
abbrev pub IsRunText : Plan → ℕ → List ℕ → List ℕ → Verdict → Type 0
IsRunText plan choosers bytes text verdict =
    (IsRefusedPlan plan choosers text × (verdict ≡ Refused))
    ⊎ ((halt : Halt) × IsTextOfRun plan choosers bytes halt text × (verdict ≡ verdict_of halt))

-- ---- what stands behind a refused line

-- it ends at one of the first n lines
abbrev pub IsWithin : ℕ → Halt → Type 0
IsWithin n End = ⊥
IsWithin n (AtStep place cause) = place < n
IsWithin n (AtLine place fault) = place < n
IsWithin n (Full place) = place < n

-- where a line that has ended is refused, the text is the same for every continuation
abbrev pub IsSameForContinuations : Type 0
IsSameForContinuations =
    (plan : Plan) (choosers : ℕ) (front more other : List ℕ) (halt : Halt) (text : List ℕ) → IsWithin (length (slice_split is_line_feed front)) halt
    → IsTextOfRun plan choosers (front ++ 10 ∷ more) halt text → IsTextOfRun plan choosers (front ++ 10 ∷ other) halt text

-- so it is where a line is refused that a cutter yields of what came, be it ended or too long before it has ended
abbrev pub IsSameOnceReported : Type 0
IsSameOnceReported =
    (plan : Plan) (choosers : ℕ) (front more other : List ℕ) (halt : Halt) (text : List ℕ) → IsWithin (length (yielded at_start front)) halt
    → IsTextOfRun plan choosers (front ++ more) halt text → IsTextOfRun plan choosers (front ++ other) halt text
