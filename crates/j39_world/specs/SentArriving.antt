-- How a frame arrives that a unit sends alone (a Send), where its receiver doesn't lose it, beside whatever else goes and is lost.
use Rattle.std.specs.Prelude.{◌≡◌, ◌≢◌, ℕ, ◌+◌, Bool, true, false, List, [], ◌∷◌, ◌++◌, length, None, Some}
use Rattle.std.specs.List.{slice_get}
use Rattle.j39_network.specs.declared.plan.Plan.{Plan}
use Rattle.j39_network.specs.declared.steps.Step.{Step}
use Rattle.j39_network.specs.declared.steps.Step.TheVariants.{Down, Lose, Take}
use Rattle.j39_world.specs.declared.flow.Flow.{Flow}
use Rattle.j39_world.specs.declared.wired.Wired.{Wired}
use Rattle.j39_world.specs.declared.wired.Wired.TheVariants as wired
use Rattle.j39_world.specs.Flows.{flows_of}
use Rattle.j39_world.specs.Needed.{LastWrite, NeededMessage, ReadsAsWritten, bytes_of}
use Rattle.j39_world.specs.Passage.{Passage}
use Rattle.j39_world.specs.Resting.{is_alone}
use Rattle.j39_world.specs.Run.{Follows, count_of, refusal, send_refusal}
use Rattle.j39_world.specs.Sound.{IsSubsequence, reported_alone}
use Rattle.j39_world.specs.Transfers.{Begun, is_among}
use Rattle.j39_world.specs.TransferSteps.{sends_alone, targets_of}
use Rattle.j39_world.specs.World.{World}

-- those of these that were sent alone, the oldest first
abbrev pub lying_alone : List Wired → List Begun
lying_alone [] = []
lying_alone (wired.Alone f bytes ∷ rest) = record { flow = f; bytes = bytes } ∷ lying_alone rest
lying_alone (wired.Short bytes ∷ rest) = lying_alone rest
lying_alone (wired.Packet p ∷ rest) = lying_alone rest

-- the oldest of these was sent alone
abbrev pub is_oldest_alone : List Wired → Bool
is_oldest_alone [] = false
is_oldest_alone (item ∷ rest) = is_alone item

-- the next item that v takes of u, or loses, is the frame at this place of all that u sent it alone: those that lie were sent last
pub record IsNextAlone (w : World) (u v place : ℕ) : Type 0 where
  pub alone : is_oldest_alone (w.wire u v) ≡ true
  pub behind : length (w.sent_alone u v) ≡ place + length (lying_alone (w.wire u v))

-- by the step v doesn't lose the frame at this place of those that u sends it alone, and neither of the two goes off; others may be lost
abbrev pub SparesAlone : Plan → World → ℕ → ℕ → ℕ → Step → Type 0
SparesAlone plan w u v place (Lose s t) = s ≡ u → t ≡ v → ¬ IsNextAlone w u v place
SparesAlone plan w u v place (Down s) = refusal plan w (Down s) ≡ None → (s ≢ u) × (s ≢ v)
SparesAlone plan w u v place _ = Unit {0}

-- a run of steps that spare it
abbrev pub RunSparingAlone : Plan → ℕ → ℕ → ℕ → World → List Step → World → Type 0
RunSparingAlone plan u v place w [] new = new ≡ w
RunSparingAlone plan u v place w (step ∷ steps) new =
    SparesAlone plan w u v place step × ((mid : World) × Follows plan w step mid × RunSparingAlone plan u v place mid steps new)

-- a frame that is sent alone here, one of its receivers, and a run from there in which this one doesn't lose it, to a world in which this one
-- can take no more of its sender
pub record SentAlone (plan : Plan) (w : World) : Type 0 where
  pub passage : Passage plan
  pub allowed : send_refusal plan.live (count_of plan) w (Some passage.flow) passage.bytes ≡ None
  pub among : is_among (targets_of (count_of plan) w.stations passage.flow.sender passage.flow.to) passage.receiver ≡ true
  pub runs : RunSparingAlone plan passage.flow.sender passage.receiver (length (w.sent_alone passage.flow.sender passage.receiver))
      (sends_alone (count_of plan) w passage.place passage.flow passage.bytes) passage.steps passage.after
  pub taken : refusal plan passage.after (Take passage.flow.sender passage.receiver) ≢ None

-- since the first of two worlds v has reported of u, of the frames that were sent alone, some of those that lay there, then this one, and then
-- some of those that u sent it so since; each of these in order and nothing twice
pub record HasArrivedAlone (before after : World) (u v : ℕ) (one : Begun) : Type 0 where
  pub earlier : List Begun
  pub later : List Begun
  pub since : List Begun
  pub sent : after.sent_alone u v ≡ before.sent_alone u v ++ one ∷ since
  pub reports : reported_alone after.reports v u ≡ (reported_alone before.reports v u ++ earlier) ++ one ∷ later
  pub before_it : IsSubsequence earlier (lying_alone (before.wire u v))
  pub behind_it : IsSubsequence later since

-- each such frame arrives
abbrev pub SentFramesArrive : Plan → World → Type 0
SentFramesArrive plan w = (s : SentAlone plan w) → HasArrivedAlone w s.passage.after s.passage.flow.sender s.passage.receiver (record { flow = s.passage.place; bytes = s.passage.bytes })

-- each such frame that can be sent here can arrive at each of its receivers: some run spares it, and all is taken
abbrev pub SentFramesCanArrive : Plan → World → Type 0
SentFramesCanArrive plan w =
    (f : ℕ) (flow : Flow) (bytes : List ℕ) (v : ℕ)
    → slice_get (flows_of plan) f ≡ Some flow → send_refusal plan.live (count_of plan) w (Some flow) bytes ≡ None
    → is_among (targets_of (count_of plan) w.stations flow.sender flow.to) v ≡ true
    → (s : SentAlone plan w) × (s.passage.place ≡ f) × (s.passage.bytes ≡ bytes) × (s.passage.receiver ≡ v)

-- one of a flow that meets a need, whose bytes were written signal after signal, and that is sent to the need's unit
pub record NeededAlone (plan : Plan) (w : World) : Type 0 where
  pub message : NeededMessage plan
  pub frame : SentAlone plan w
  pub place : frame.passage.place ≡ message.place
  pub bytes : frame.passage.bytes ≡ bytes_of message
  pub receiver : frame.passage.receiver ≡ message.need.unit

-- it arrives, and each signal in it reads as it was written
abbrev pub SentValuesArrive : Plan → World → Type 0
SentValuesArrive plan w = (n : NeededAlone plan w)
    → HasArrivedAlone w n.frame.passage.after n.message.flow.sender n.message.need.unit (record { flow = n.message.place; bytes = bytes_of n.message })
    × ((x : LastWrite n.message) → ReadsAsWritten n.message x x.write.place)
