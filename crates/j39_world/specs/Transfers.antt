-- What a world knows of transfers (SAE J1939-21, transport protocol functions).
use Rattle.std.specs.Prelude.{ℕ, Bool, cond, ◌&&◌, nat_eq, List, [], ◌∷◌, ◌++◌, Option, Some, None}
use Rattle.std.specs.List.{list_any}
use Rattle.j39_tp.specs.declared.sending.outcome.Outcome.{Outcome}
use Rattle.j39_tp.specs.declared.receiving.progress.Progress.{Progress}
use Rattle.j39_tp.specs.declared.receiving.progress.Progress.TheVariants.{Closed, Open, Complete}
use Rattle.j39_tp.specs.declared.sending.stage.Stage.{Stage}
use Rattle.j39_tp.specs.Sender.{outcome_of}
use Rattle.j39_network.specs.declared.plan.to.To.{To}
use Rattle.j39_world.specs.declared.wired.Wired.{Wired}

-- a message that a unit sends, from its beginning until the unit rests: the place of its flow, its PGN,
-- whom it goes to, its receivers in rising order, its bytes, and how far it is. One of one frame is at its end at once
pub record Outgoing : Type 0 where
  pub flow : ℕ
  pub pgn : ℕ
  pub to : To
  pub targets : List ℕ
  pub bytes : List ℕ
  pub stage : Stage

-- a message that was begun
pub record Begun : Type 0 where
  pub flow : ℕ
  pub bytes : List ℕ

-- a message that was received whole, and whether its frame was sent alone
pub record Reported : Type 0 where
  pub receiver : ℕ
  pub sender : ℕ
  pub flow : ℕ
  pub bytes : List ℕ
  pub alone : Bool

abbrev pub Sessions : Type 0
Sessions = ℕ → Option Outgoing

-- what the first unit sent the second and the second has not taken yet, the oldest first
abbrev pub Wire : Type 0
Wire = ℕ → ℕ → List Wired

-- the first unit's receiver for what the second sends: closed, or an open session without its bytes
abbrev pub Receivers : Type 0
Receivers = ℕ → ℕ → Progress

-- the unit is one of these
abbrev pub is_among : List ℕ → ℕ → Bool
is_among targets v = list_any (nat_eq v) targets

-- something is added for each of these units to the list of what u has for it
abbrev pub added : {X : Type 0} → (ℕ → ℕ → List X) → ℕ → List ℕ → X → ℕ → ℕ → List X
added f u targets x s t = cond (nat_eq s u && is_among targets t) (f s t ++ x ∷ []) (f s t)

-- a receiver whose message is complete is closed
abbrev pub closed_if_complete : Progress → Progress
closed_if_complete (Complete pgn) = Closed
closed_if_complete (Open r) = Open r
closed_if_complete Closed = Closed

-- how a message ended, until its unit rests
abbrev pub outcome_in : Option Outgoing → Option Outcome
outcome_in None = None
outcome_in (Some s) = outcome_of s.stage
