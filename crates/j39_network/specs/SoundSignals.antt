-- What a plan's signals keep on the bus: whatever is written to the others, each reads back what it was last given.
use Rattle.std.specs.Prelude.{◌≡◌, ◌≢◌, ℕ, ◌<◌, ℤ, None, List, ◌∷◌, ◌++◌, length, length as count, All}
use Rattle.std.specs.List.{HoldsAt}
use Rattle.j39_signal.specs.Bits.{all_ones, raw_of}
use Rattle.j39_signal.specs.declared.signal_parts.SignalParts.{SignalParts}
use Rattle.j39_signal.specs.Laid.{IsBlank, KeepsWrites, Write, Chain, last_payload, given_up}
use Rattle.j39_signal.specs.State.{IsRawOf, state_of, value_of}
use Rattle.j39_signal.specs.declared.state.State.{State}
use Rattle.j39_signal.specs.declared.state.State.TheVariants.{Value}
use Rattle.j39_network.specs.Lengths.{IsLengthOf}
use Rattle.j39_network.specs.Records.{signals_in}
use Rattle.j39_network.specs.declared.plan.Plan.{Plan}
use Rattle.j39_network.specs.declared.plan.group_plan.GroupPlan.{GroupPlan}

-- what a signal reads that was given up or never given: absent, or for a raw one the value of all ones
abbrev pub unset_state : SignalParts → State
unset_state s = given_up s.kind (value_of s (all_ones s))

-- the raw number of a value reads as that value, and all ones as unset
pub record ReadsBack (s : SignalParts) : Type 0 where
  pub values : (value : ℤ) (raw : ℕ) → IsRawOf s value raw → state_of s raw ≡ Value value
  pub given_up : state_of s (all_ones s) ≡ unset_state s

-- what a signal reads from a payload in which these writes followed one another, from the first one on
abbrev pub state_after_writes : List ℕ → List Write → SignalParts → State
state_after_writes start writes s = state_of s (raw_of (last_payload start writes) s)

-- none of the writes is for the signal at this place
abbrev pub LeaveAlone : List Write → ℕ → Type 0
LeaveAlone writes place = All (λ w. w.place ≢ place) writes

-- Writes that follow one another, from this payload on. A signal whose last write gave a value reads that value; one whose last write gave it
-- up reads as unset; and one that no write was for reads what it has there.
pub record ReadsLastGiven (start : List ℕ) (signals : List SignalParts) : Type 0 where
  pub given : (before after : List Write) (w : Write) → Chain signals start (before ++ w ∷ after) → LeaveAlone after w.place
      → (value : ℤ) → HoldsAt (λ s. IsRawOf s value w.raw → state_after_writes start (before ++ w ∷ after) s ≡ Value value) signals w.place
  pub given_up : (before after : List Write) (w : Write) → Chain signals start (before ++ w ∷ after) → LeaveAlone after w.place
      → HoldsAt (λ s. w.raw ≡ all_ones s → state_after_writes start (before ++ w ∷ after) s ≡ unset_state s) signals w.place
  pub never_given : (writes : List Write) (place : ℕ) → Chain signals start writes → LeaveAlone writes place
      → place < length signals → HoldsAt (λ s. state_after_writes start writes s ≡ state_of s (raw_of start s)) signals place

-- a blank message of the group, of one of its lengths
pub record IsBlankOf (g : GroupPlan) (start : List ℕ) : Type 0 where
  pub length : IsLengthOf g (count start)
  pub blank : IsBlank g.when start

-- so it is in messages of each length that a group has, from blank ones on, of the signals that aren't repeated and are there, and of those of
-- each record; where the group has no selector a signal that was never given reads as unset
pub record SoundSignals (plan : Plan) : Type 0 where
  pub writes : All (λ g. (start : List ℕ) → IsBlankOf g start → KeepsWrites start (signals_in g (count start))) plan.groups.items
  pub read : All (λ g. All ReadsBack g.signals.items) plan.groups.items
  pub last_given : All (λ g. (start : List ℕ) → IsBlankOf g start → ReadsLastGiven start (signals_in g (count start))) plan.groups.items
  pub unset : All (λ g. (start : List ℕ) → IsBlankOf g start → g.when ≡ None
      → All (λ s. state_of s (raw_of start s) ≡ unset_state s) (signals_in g (count start))) plan.groups.items
