-- Where the signals of a group end: inside each of its messages, one that is optional inside its longest.
use Rattle.std.specs.Prelude.{◌≡◌, ℕ, false, if◌then◌else◌, All}
use Rattle.j39_signal.specs.declared.signal_parts.SignalParts.{SignalParts}
use Rattle.j39_network.specs.declared.plan.Plan.{Plan}

-- the bytes inside which a signal of a group of these lengths ends
abbrev pub room_of_signal : ℕ → ℕ → SignalParts → ℕ
room_of_signal length most s = if s.optional then most else length

abbrev pub HasNoOptional : Plan → Type 0
HasNoOptional plan = All (λ group. All (λ s. s.optional ≡ false) group.signals.items) plan.groups.items
