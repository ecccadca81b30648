-- How messages arrive of which nothing is lost (SAE J1939-21, transport protocol functions): one that no receiver answers, to all or of
-- one frame, whatever other messages go beside it and whatever is lost of them; and one of several frames to one unit, which answers it.
use Rattle.std.specs.Prelude.{◌≡◌, ◌≢◌, ℕ, Bool, true, false, ◌||◌, ◌⊎◌, List, [], ◌∷◌, ◌++◌, length, Option, None, Some}
use Rattle.std.specs.List.{All, slice_get}
use Rattle.j39_tp.specs.declared.sending.outcome.Outcome.{Outcome}
use Rattle.j39_tp.specs.declared.sending.outcome.Outcome.TheVariants.{Sent, Acked}
use Rattle.j39_tp.specs.declared.sending.stage.Stage.TheVariants.{Resting}
use Rattle.j39_network.specs.declared.plan.Plan.{Plan}
use Rattle.j39_network.specs.declared.plan.to.To.TheVariants as tos
use Rattle.j39_network.specs.declared.steps.Step.{Step}
use Rattle.j39_network.specs.declared.steps.Step.TheVariants.{Begin, Down, Emit, Take, Lose, LateSender, LateReceiver, Rest}
use Rattle.j39_world.specs.declared.flow.Flow.{Flow}
use Rattle.j39_world.specs.declared.wired.Wired.{Wired}
use Rattle.j39_world.specs.Flows.{flows_of, is_short}
use Rattle.j39_world.specs.Passage.{Passage}
use Rattle.j39_world.specs.Resting.{is_alone, is_of_sender, is_of_receiver}
use Rattle.j39_world.specs.Run.{count_of, begin_refusal, refusal, Follows}
use Rattle.j39_world.specs.Sound.{reported}
use Rattle.j39_world.specs.Transfers.{Outgoing, is_among}
use Rattle.j39_world.specs.TransferSteps.{outgoing, begins}
use Rattle.j39_world.specs.World.{World}

-- its sender rests with this outcome, and each of these receivers has reported it once since the first of two worlds, and nothing else of
-- this sender
pub record HasArrived (before after : World) (u : ℕ) (message : Outgoing) (receivers : List ℕ) (outcome : Outcome) : Type 0 where
  pub rests : (s : Outgoing) × (after.sessions u ≡ Some s) × (s.stage ≡ Resting outcome)
  pub reports : (v : ℕ) → is_among receivers v ≡ true
      → reported after.reports v u ≡ reported before.reports v u ++ record { flow = message.flow; bytes = message.bytes } ∷ []

-- ---- a message that no receiver answers

-- these bytes go to all, or in one frame
abbrev pub IsUnanswered : Flow → List ℕ → Type 0
IsUnanswered flow bytes = (flow.to ≡ tos.All) ⊎ (is_short (length bytes) ≡ true)

-- the oldest of these, if there is one, passes, or was sent alone
abbrev pub oldest_passes : (Wired → Bool) → List Wired → Bool
oldest_passes test [] = true
oldest_passes test (item ∷ rest) = is_alone item || test item

-- by the step nothing of u's message to these units is lost, none of them hears nothing of u in time, u isn't idle, and none of them all goes
-- off; what u answers them may be lost, and what it sends alone
abbrev pub Spares : Plan → World → ℕ → List ℕ → Step → Type 0
Spares plan w u targets (Lose s t) = s ≡ u → is_among targets t ≡ true → oldest_passes is_of_receiver (w.wire u t) ≡ true
Spares plan w u targets (LateReceiver s t) = s ≡ u → is_among targets t ≡ true → ⊥
Spares plan w u targets (Rest s) = s ≢ u
Spares plan w u targets (Down s) = refusal plan w (Down s) ≡ None → (s ≢ u) × (is_among targets s ≡ false)
Spares plan w u targets _ = Unit {0}

-- a run of steps that spare it
abbrev pub RunSparing : Plan → ℕ → List ℕ → World → List Step → World → Type 0
RunSparing plan u targets w [] new = new ≡ w
RunSparing plan u targets w (step ∷ steps) new =
    Spares plan w u targets step × ((mid : World) × Follows plan w step mid × RunSparing plan u targets mid steps new)

-- u can't send more, and none of these units can take more of u
pub record IsThrough (plan : Plan) (w : World) (u : ℕ) (targets : List ℕ) : Type 0 where
  pub sent : refusal plan w (Emit u) ≢ None
  pub taken : (v : ℕ) → is_among targets v ≡ true → refusal plan w (Take u v) ≢ None

-- a message that is begun here and that no receiver answers has arrived at each of some of its receivers in each world to which steps lead
-- that spare it to these, whatever becomes of it at the others, once its sender can send no more and these can take no more of its sender
abbrev pub ArrivesUnanswered : Plan → World → Type 0
ArrivesUnanswered plan w =
    (f : ℕ) (flow : Flow) (bytes meant : List ℕ) (steps : List Step) (after : World)
    → slice_get (flows_of plan) f ≡ Some flow → IsUnanswered flow bytes → begin_refusal plan.live (count_of plan) w (Some flow) bytes ≡ None
    → ((v : ℕ) → is_among meant v ≡ true → is_among (outgoing (count_of plan) w.stations f flow bytes).targets v ≡ true)
    → RunSparing plan flow.sender meant (begins (count_of plan) w f flow bytes) steps after
    → IsThrough plan after flow.sender meant
    → HasArrived w after flow.sender (outgoing (count_of plan) w.stations f flow bytes) meant Sent

-- each such message that can be begun here can arrive: some run spares it, and all of it is taken
abbrev pub CanArriveUnanswered : Plan → World → Type 0
CanArriveUnanswered plan w =
    (f : ℕ) (flow : Flow) (bytes : List ℕ)
    → slice_get (flows_of plan) f ≡ Some flow → IsUnanswered flow bytes → begin_refusal plan.live (count_of plan) w (Some flow) bytes ≡ None
    → (steps : List Step) × (after : World)
    × RunSparing plan flow.sender (outgoing (count_of plan) w.stations f flow bytes).targets (begins (count_of plan) w f flow bytes) steps after
    × IsThrough plan after flow.sender (outgoing (count_of plan) w.stations f flow bytes).targets

-- ---- a message of several frames to one unit

-- by the step nothing is lost of u's message to v nor of what answers it, neither of the two hears nothing of it in time nor goes off, and u
-- isn't idle
abbrev pub SparesBetween : Plan → World → ℕ → ℕ → Step → Type 0
SparesBetween plan w u v (Lose s t) =
    (s ≡ u → t ≡ v → oldest_passes is_of_receiver (w.wire u v) ≡ true) × (s ≡ v → t ≡ u → oldest_passes is_of_sender (w.wire v u) ≡ true)
SparesBetween plan w u v (LateSender s) = s ≢ u
SparesBetween plan w u v (LateReceiver s t) = s ≡ u → t ≢ v
SparesBetween plan w u v (Rest s) = s ≢ u
SparesBetween plan w u v (Down s) = refusal plan w (Down s) ≡ None → (s ≢ u) × (s ≢ v)
SparesBetween plan w u v _ = Unit {0}

-- a run of steps that spare it
abbrev pub SparingRun : Plan → ℕ → ℕ → World → List Step → World → Type 0
SparingRun plan u v w [] new = new ≡ w
SparingRun plan u v w (step ∷ steps) new = SparesBetween plan w u v step × ((mid : World) × Follows plan w step mid × SparingRun plan u v mid steps new)

-- u can't send more, and neither of the two can take more of the other
pub record IsThroughBetween (plan : Plan) (w : World) (u v : ℕ) : Type 0 where
  pub sent : refusal plan w (Emit u) ≢ None
  pub taken : refusal plan w (Take u v) ≢ None
  pub answered : refusal plan w (Take v u) ≢ None

-- a message of several frames to one unit that is begun here, a run from there that spares it, and the world to which it leads and in
-- which all of it and of what answers it was taken
pub record Answered (plan : Plan) (w : World) : Type 0 where
  pub passage : Passage plan
  pub one : passage.flow.to ≡ tos.One passage.receiver
  pub several : is_short (length passage.bytes) ≡ false
  pub allowed : begin_refusal plan.live (count_of plan) w (Some passage.flow) passage.bytes ≡ None
  pub runs : SparingRun plan passage.flow.sender passage.receiver (begins (count_of plan) w passage.place passage.flow passage.bytes) passage.steps
      passage.after
  pub through : IsThroughBetween plan passage.after passage.flow.sender passage.receiver

-- what v sends, if anything, is no message of this group to u alone: one that has ended counts until its rest
abbrev pub SendsOther : Option Outgoing → ℕ → ℕ → Type 0
SendsOther None u pgn = Unit {0}
SendsOther (Some s) u pgn = s.to ≡ tos.One u → s.pgn ≢ pgn

-- no message of this group from v to u alone is begun by the step
abbrev pub BeginsOther : Plan → ℕ → ℕ → ℕ → Step → Type 0
BeginsOther plan v u pgn (Begin f bytes) =
    (flow : Flow) → slice_get (flows_of plan) f ≡ Some flow → flow.sender ≡ v → flow.to ≡ tos.One u → flow.pgn ≢ pgn
BeginsOther plan v u pgn _ = Unit {0}

-- from its beginning on its receiver isn't between the beginning and the rest of a message of its group to its sender alone, not even of
-- one that has ended: an Abort names a group and may be of either direction, so one of such a message, which may still be under way,
-- would end this one
pub record IsAlone (plan : Plan) (w : World) (m : Answered plan w) : Type 0 where
  pub first : SendsOther (w.sessions m.passage.receiver) m.passage.flow.sender m.passage.flow.pgn
  pub since : All (BeginsOther plan m.passage.receiver m.passage.flow.sender m.passage.flow.pgn) m.passage.steps

-- its sender rests acknowledged, and its receiver has reported it once since
abbrev pub HasArrivedAnswered : (plan : Plan) (w : World) → Answered plan w → Type 0
HasArrivedAnswered plan w m =
    HasArrived w m.passage.after m.passage.flow.sender (outgoing (count_of plan) w.stations m.passage.place m.passage.flow m.passage.bytes) (m.passage.receiver ∷ []) Acked

abbrev pub ArrivesAnswered : Plan → World → Type 0
ArrivesAnswered plan w = (m : Answered plan w) → IsAlone plan w m → HasArrivedAnswered plan w m

-- each such message that can be begun here, while its receiver has none of its group for its sender alone between its beginning and its
-- rest, can arrive: some run spares it, and all of it is taken
abbrev pub CanArriveAnswered : Plan → World → Type 0
CanArriveAnswered plan w =
    (f : ℕ) (flow : Flow) (v : ℕ) (bytes : List ℕ)
    → slice_get (flows_of plan) f ≡ Some flow → flow.to ≡ tos.One v → is_short (length bytes) ≡ false
    → begin_refusal plan.live (count_of plan) w (Some flow) bytes ≡ None → SendsOther (w.sessions v) flow.sender flow.pgn
    → (m : Answered plan w) × (m.passage.place ≡ f) × (m.passage.bytes ≡ bytes) × IsAlone plan w m
