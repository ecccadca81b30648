-- When a step is refused, where it leads, and runs.
use Rattle.std.specs.Prelude.{◌≡◌, ℕ, ◌==◌, Bool, true, false, not, ◌&&◌, ◌||◌, nat_lt, List, [], ◌∷◌, ◌++◌, length, Option, Some, None, MatchBool, is_some}
use Rattle.std.specs.List.{slice_get, range_with_len, list_all}
use Rattle.j39_id.specs.FirstFault.{first_fault}
use Rattle.j39_tp.specs.Receiver.{is_open_at}
use Rattle.j39_tp.specs.Sender.{next_number}
use Rattle.j39_tp.specs.declared.sending.stage.Stage.{Stage}
use Rattle.j39_tp.specs.declared.sending.stage.Stage.TheVariants.{Waiting}
use Rattle.j39_signal.specs.Selectors.{is_selected}
use Rattle.j39_network.specs.declared.plan.Plan.{Plan}
use Rattle.j39_network.specs.declared.plan.to.To.{To}
use Rattle.j39_network.specs.declared.plan.to.To.TheVariants.{All, One}
use Rattle.j39_network.specs.declared.steps.Step.{Step}
use Rattle.j39_network.specs.declared.steps.Step.TheVariants.{Up, Down, Give, Ask, Begin, Send, Emit, Take, Lose, LateSender, LateReceiver, Rest}
use Rattle.j39_world.specs.declared.step_error.StepError.{StepError}
use Rattle.j39_world.specs.declared.step_error.StepError.TheVariants.{UnknownUnit, NoSuchFlow, NotStarted, AlreadyStarted, NothingUndelivered, TransferOpen}
use Rattle.j39_world.specs.declared.step_error.StepError.TheVariants.{NotSettled, NoAddress}
use Rattle.j39_world.specs.declared.step_error.StepError.TheVariants.{Busy, WrongLength, WrongSelector, NothingToSend, NoSession, CannotRest, Memory}
use Rattle.j39_network.specs.PlannedUnits.{units_of}
use Rattle.j39_world.specs.Flows.{flows_of, windows_of, can_be_sent, has_length, is_short}
use Rattle.j39_world.specs.declared.flow.Flow.{Flow}
use Rattle.j39_world.specs.Transfers.{Outgoing}
use Rattle.j39_world.specs.World.{World, Stations}
use Rattle.j39_world.specs.ClaimSteps.{switched_on, asked, GivenFrom}
use Rattle.j39_world.specs.SwitchingOff.{switched_off}
use Rattle.j39_world.specs.Resting.{can_rest}
use Rattle.j39_world.specs.TransferSteps.{BeginsAt, SendsAt, Emits, TakenFrom, LostFrom, SenderTimesOut, receiver_timed_out, rested}

-- ---- what refusals ask

abbrev pub count_of : Plan → ℕ
count_of plan = length plan.units.items

-- this holds of both of two units, or of one of them
abbrev pub both : (ℕ → Bool) → ℕ → ℕ → Bool
both test u v = test u && test v

abbrev pub either : (ℕ → Bool) → ℕ → ℕ → Bool
either test u v = test u || test v

-- none of so many units has this place
abbrev pub is_unknown : ℕ → ℕ → Bool
is_unknown count u = not (nat_lt u count)

abbrev pub is_on : Stations → ℕ → Bool
is_on stations u = (stations u).on

abbrev pub is_off : Stations → ℕ → Bool
is_off stations u = not (is_on stations u)

abbrev pub has_address : Stations → ℕ → Bool
has_address stations u = is_some (stations u).address

-- it holds of the sender of a flow and of its one receiver, if it goes to one
abbrev pub at_ends : (ℕ → Bool) → ℕ → To → Bool
at_ends test u All = test u
at_ends test u (One v) = both test u v

-- nothing of this is left to deliver
abbrev pub is_empty : {X : Type 0} → List X → Bool
is_empty xs = not (nat_lt 0 (length xs))

-- nothing of this is undelivered between so many units: no claim and no request, or nothing of a message
abbrev pub is_nothing_undelivered : {X : Type 0} → ℕ → (ℕ → ℕ → List X) → Bool
is_nothing_undelivered count lists = list_all (λ u. list_all (λ v. length (lists u v) == 0) (range_with_len 0 count)) (range_with_len 0 count)

-- no unit is between its Begin and its Rest
abbrev pub is_none_sending : ℕ → World → Bool
is_none_sending count w = list_all (λ u. not (is_some (w.sessions u))) (range_with_len 0 count)

-- and nothing of a message is undelivered, or one of the two isn't so: a frame that was sent alone may lie where no unit sends a message
abbrev pub is_no_transfer_open : ℕ → World → Bool
is_no_transfer_open count w = is_none_sending count w && is_nothing_undelivered count w.wire

abbrev pub is_a_transfer_open : ℕ → World → Bool
is_a_transfer_open count w = not (is_no_transfer_open count w)

-- this message is one of the group
abbrev pub is_of_group : Option Outgoing → ℕ → Bool
is_of_group None pgn = false
is_of_group (Some s) pgn = s.pgn == pgn

abbrev pub can_emit : Option Outgoing → Bool
can_emit None = false
can_emit (Some s) = is_some (next_number s.stage)

abbrev pub is_waiting_at : Stage → Bool
is_waiting_at Waiting = true
is_waiting_at _ = false

abbrev pub is_waiting : Option Outgoing → Bool
is_waiting None = false
is_waiting (Some s) = is_waiting_at s.stage

-- ---- refusals, in their order, each with whether it holds. On a live bus units are switched and ask for claims while messages are sent,
-- and they send while claims are undelivered

-- of a unit that has to be on, and of two
abbrev pub unit_refusals : ℕ → Stations → ℕ → List (StepError × Bool)
unit_refusals count stations u = (UnknownUnit, is_unknown count u) ∷ (NotStarted, is_off stations u) ∷ []

abbrev pub pair_refusals : ℕ → Stations → ℕ → ℕ → List (StepError × Bool)
pair_refusals count stations u v = (UnknownUnit, either (is_unknown count) u v) ∷ (NotStarted, either (is_off stations) u v) ∷ []

-- of a message of these bytes by a flow
abbrev pub begin_refusals : Bool → ℕ → World → Option Flow → List ℕ → List (StepError × Bool)
begin_refusals live count w None bytes = (NoSuchFlow, true) ∷ []
begin_refusals live count w (Some flow) bytes =
    (NoSuchFlow, not (can_be_sent flow))
    ∷ (NotStarted, not (at_ends (is_on w.stations) flow.sender flow.to))
    ∷ (NotSettled, not live && not (is_nothing_undelivered count w.claims))
    ∷ (NoAddress, not (at_ends (has_address w.stations) flow.sender flow.to))
    ∷ (Busy, is_some (w.sessions flow.sender))
    ∷ (WrongLength, not (has_length flow (length bytes)))
    ∷ (WrongSelector, not (is_selected flow.when bytes))
    ∷ []

-- of these bytes by a flow in a frame that is sent alone: its group's messages stay in their order
abbrev pub send_refusals : Bool → ℕ → World → Option Flow → List ℕ → List (StepError × Bool)
send_refusals live count w None bytes = (NoSuchFlow, true) ∷ []
send_refusals live count w (Some flow) bytes =
    (NoSuchFlow, not (can_be_sent flow))
    ∷ (NotStarted, not (at_ends (is_on w.stations) flow.sender flow.to))
    ∷ (NotSettled, not live && not (is_nothing_undelivered count w.claims))
    ∷ (NoAddress, not (at_ends (has_address w.stations) flow.sender flow.to))
    ∷ (Busy, is_of_group (w.sessions flow.sender) flow.pgn)
    ∷ (WrongLength, not (has_length flow (length bytes) && is_short (length bytes)))
    ∷ (WrongSelector, not (is_selected flow.when bytes))
    ∷ []

-- of a step among so many units with these flows; want of memory is none of the world's
abbrev pub step_refusals : Bool → ℕ → List Flow → World → Step → List (StepError × Bool)
step_refusals live count flows w (Up u) =
    (UnknownUnit, is_unknown count u) ∷ (AlreadyStarted, is_on w.stations u) ∷ (TransferOpen, not live && is_a_transfer_open count w) ∷ []
step_refusals live count flows w (Down u) = unit_refusals count w.stations u ++ (TransferOpen, not live && is_a_transfer_open count w) ∷ []
step_refusals live count flows w (Give u v) =
    (UnknownUnit, either (is_unknown count) u v) ∷ (NotStarted, is_off w.stations v) ∷ (NothingUndelivered, is_empty (w.claims u v)) ∷ []
step_refusals live count flows w (Ask u) = unit_refusals count w.stations u ++ (TransferOpen, not live && is_a_transfer_open count w) ∷ []
step_refusals live count flows w (Begin f bytes) = begin_refusals live count w (slice_get flows f) bytes.items
step_refusals live count flows w (Send f bytes) = send_refusals live count w (slice_get flows f) bytes.items
step_refusals live count flows w (Emit u) = unit_refusals count w.stations u ++ (NothingToSend, not (can_emit (w.sessions u))) ∷ []
step_refusals live count flows w (Take u v) = pair_refusals count w.stations u v ++ (NothingUndelivered, is_empty (w.wire u v)) ∷ []
step_refusals live count flows w (Lose u v) = pair_refusals count w.stations u v ++ (NothingUndelivered, is_empty (w.wire u v)) ∷ []
step_refusals live count flows w (LateSender u) = unit_refusals count w.stations u ++ (NoSession, not (is_waiting (w.sessions u))) ∷ []
step_refusals live count flows w (LateReceiver u v) = pair_refusals count w.stations u v ++ (NoSession, not (is_open_at (w.receivers v u))) ∷ []
step_refusals live count flows w (Rest u) = unit_refusals count w.stations u ++ (CannotRest, not (can_rest count w u)) ∷ []

-- the first that holds
abbrev pub begin_refusal : Bool → ℕ → World → Option Flow → List ℕ → Option StepError
begin_refusal live count w flow bytes = first_fault (begin_refusals live count w flow bytes)

abbrev pub send_refusal : Bool → ℕ → World → Option Flow → List ℕ → Option StepError
send_refusal live count w flow bytes = first_fault (send_refusals live count w flow bytes)

abbrev pub refusal_among : Bool → ℕ → List Flow → World → Step → Option StepError
refusal_among live count flows w step = first_fault (step_refusals live count flows w step)

abbrev pub refusal : Plan → World → Step → Option StepError
refusal plan w step = refusal_among plan.live (count_of plan) (flows_of plan) w step

-- what an answer to a step says of its refusal: none where it was done, and none where memory was wanted
abbrev pub cause_of : StepError → Option StepError
cause_of Memory = None
cause_of e = Some e

-- the steps that take memory
abbrev pub takes_memory : Step → Bool
takes_memory (Down u) = false
takes_memory (Lose u v) = false
takes_memory (Rest u) = false
takes_memory _ = true

-- ---- steps and runs

-- the step leads from one world to another, by some lawful choice
abbrev pub StepsTo : Plan → World → Step → World → Type 0
StepsTo plan w (Up u) new = new ≡ switched_on (units_of plan) w u
StepsTo plan w (Down u) new = new ≡ switched_off w u
StepsTo plan w (Give u v) new = GivenFrom (units_of plan) w u v (w.claims u v) new
StepsTo plan w (Ask u) new = new ≡ asked (units_of plan) w u
StepsTo plan w (Begin f bytes) new = BeginsAt (count_of plan) w f (slice_get (flows_of plan) f) bytes.items new
StepsTo plan w (Send f bytes) new = SendsAt (count_of plan) w f (slice_get (flows_of plan) f) bytes.items new
StepsTo plan w (Emit u) new = Emits w u new
StepsTo plan w (Take u v) new = TakenFrom (windows_of plan) w u v (w.wire u v) new
StepsTo plan w (Lose u v) new = LostFrom w u v (w.wire u v) new
StepsTo plan w (LateSender u) new = SenderTimesOut w u new
StepsTo plan w (LateReceiver u v) new = new ≡ receiver_timed_out (windows_of plan) w u v
StepsTo plan w (Rest u) new = new ≡ rested w u

-- what follows a world by a step: a refused step leaves it
abbrev pub Follows : Plan → World → Step → World → Type 0
Follows plan w step new = MatchBool (is_some (refusal plan w step)) (new ≡ w) (StepsTo plan w step new)

-- a run of these steps goes from one world to another
abbrev pub Run : Plan → World → List Step → World → Type 0
Run plan w [] new = new ≡ w
Run plan w (step ∷ steps) new = (mid : World) × Follows plan w step mid × Run plan mid steps new

-- it does, and no step of it is refused
abbrev pub RunsThrough : Plan → World → List Step → World → Type 0
RunsThrough plan w [] new = new ≡ w
RunsThrough plan w (step ∷ steps) new =
    (mid : World) × (refusal plan w step ≡ None) × StepsTo plan w step mid × RunsThrough plan mid steps new
