-- What a gateway hands on from a run of one plan to a run of another: what is reported on the one bus was begun on the other, and the signals that
-- go into others read there what they were written with at their origin.
use Rattle.std.specs.Prelude.{◌≡◌, ℕ, ◌⊎◌, ℤ, pos, ◌*ℤ◌, List, [], ◌∷◌, ◌++◌, length}
use Rattle.std.specs.List.{HoldsAt}
use Rattle.j39_signal.specs.Bits.{all_ones, raw_of}
use Rattle.j39_signal.specs.Laid.{Chain, Write, last_payload}
use Rattle.j39_signal.specs.declared.signal_parts.SignalParts.{SignalParts}
use Rattle.j39_signal.specs.State.{IsRawOf, state_of}
use Rattle.j39_signal.specs.declared.state.State.TheVariants.{Value}
use Rattle.j39_network.specs.Records.{signals_in}
use Rattle.j39_network.specs.SoundSignals.{IsBlankOf, LeaveAlone, unset_state}
use Rattle.j39_network.specs.declared.plan.group_plan.GroupPlan.{GroupPlan}
use Rattle.j39_world.specs.Sound.{AreReportsSound, reported}
use Rattle.j39_world.specs.Transfers.{Begun}
use Rattle.j39_world.specs.World.{World}

-- ---- runs

-- the message is one of these
pub record Among (messages : List Begun) (m : Begun) : Type 0 where
  pub earlier : List Begun
  pub later : List Begun
  pub at : messages ≡ earlier ++ m ∷ later

-- a message of the flow, with these bytes, is one of these
abbrev pub HasMessage : List Begun → ℕ → List ℕ → Type 0
HasMessage messages flow bytes = Among messages (record { flow = flow; bytes = bytes })

-- a gateway: its unit on the bus where it hears, the unit and the flow that it hears there; and its unit on the other bus, with the flow that it
-- sends
pub record Gateway : Type 0 where
  pub hears : ℕ
  pub sender : ℕ
  pub input : ℕ
  pub sends : ℕ
  pub output : ℕ

-- what a message carries, by the unit that it was begun for and its bytes: each of the output is of one of the input that the gateway reported
abbrev pub IsFaithful : Gateway → (ℕ → List ℕ → List ℕ) → World → World → Type 0
IsFaithful g carried from to = (hearer : ℕ) (bytes : List ℕ) → HasMessage (to.begun g.sends hearer) g.output bytes
    → HasMessage (reported from.reports g.hears g.sender) g.input (carried hearer bytes)

-- each message of the output that a unit reported of the gateway carries one of the input that was begun for this
abbrev pub IsFromOrigin : Gateway → (ℕ → List ℕ → List ℕ) → World → World → Type 0
IsFromOrigin g carried from to = (hearer : ℕ) (bytes : List ℕ) → HasMessage (reported to.reports hearer g.sends) g.output bytes
    → HasMessage (from.begun g.sender g.hears) g.input (carried hearer bytes)

-- ---- ways over several gateways

-- a gateway, what its messages carry, and a world of the bus on which it sends
pub record Link : Type 0 where
  pub gateway : Gateway
  pub carried : ℕ → List ℕ → List ℕ
  pub world : World

-- each hears what the one before sends, on the bus where it sends, and hands it on faithfully
unfoldable pub AreLinks : World → Link → List Link → Type 0
AreLinks from l [] = AreReportsSound l.world × IsFaithful l.gateway l.carried from l.world
AreLinks from l (n ∷ ns) = AreReportsSound l.world × IsFaithful l.gateway l.carried from l.world
    × (n.gateway.sender ≡ l.gateway.sends) × (n.gateway.input ≡ l.gateway.output) × AreLinks l.world n ns

-- the last gateway
unfoldable pub last_link : Link → List Link → Link
last_link l [] = l
last_link l (n ∷ ns) = last_link n ns

-- what a message of it carries, gateway by gateway
unfoldable pub carried_over : Link → List Link → ℕ → List ℕ → List ℕ
carried_over l [] hearer bytes = l.carried hearer bytes
carried_over l (n ∷ ns) hearer bytes = l.carried n.gateway.hears (carried_over n ns hearer bytes)

-- each message of its output that a unit reports carries one that the origin began
abbrev pub IsFromFirst : World → Link → List Link → Type 0
IsFromFirst from l ls = (hearer : ℕ) (bytes : List ℕ)
    → HasMessage (reported (last_link l ls).world.reports hearer (last_link l ls).gateway.sends) (last_link l ls).gateway.output bytes
    → HasMessage (from.begun l.gateway.sender l.gateway.hears) l.gateway.input (carried_over l ls hearer bytes)

-- ---- signals

-- both numbers are one value, whatever the two signals divide by
abbrev pub AreOneValue : SignalParts → ℤ → SignalParts → ℤ → Type 0
AreOneValue s a t b = a *ℤ pos t.per ≡ b *ℤ pos s.per

-- what of signal s in these bytes is put into signal t: its value, where it has one there, or nothing
abbrev pub IsPutFrom : SignalParts → List ℕ → SignalParts → ℕ → Type 0
IsPutFrom s before t raw =
    ((a : ℤ) × (b : ℤ) × (state_of s (raw_of before s) ≡ Value a) × IsRawOf t b raw × AreOneValue s a t b) ⊎ (raw ≡ all_ones t)

-- a message that a gateway writes, signal after signal, from a blank one on, and the last of its writes for one signal, which puts there what s
-- has in another message
pub record Forwarded (group : GroupPlan) (s : SignalParts) (before : List ℕ) : Type 0 where
  pub start : List ℕ
  pub blank : IsBlankOf group start
  pub earlier : List Write
  pub write : Write
  pub later : List Write
  pub chain : Chain (signals_in group (length start)) start (earlier ++ write ∷ later)
  pub last : LeaveAlone later write.place
  pub put : HoldsAt (λ t. IsPutFrom s before t write.raw) (signals_in group (length start)) write.place

abbrev pub forwarded_bytes : {group : GroupPlan} {s : SignalParts} {before : List ℕ} → Forwarded group s before → List ℕ
forwarded_bytes m = last_payload m.start (m.earlier ++ m.write ∷ m.later)

-- the signal reads there what s reads in the other message, or is unset
abbrev pub ReadsAsBefore : SignalParts → List ℕ → SignalParts → List ℕ → Type 0
ReadsAsBefore s before t after =
    ((a : ℤ) × (b : ℤ) × (state_of s (raw_of before s) ≡ Value a) × (state_of t (raw_of after t) ≡ Value b) × AreOneValue s a t b)
    ⊎ (state_of t (raw_of after t) ≡ unset_state t)
