-- The records of a group (of diagnostic trouble codes: SAE J1939-73): its signals that are repeated make the first record, and each later
-- record has them once more, some bytes behind the record before it.
use Rattle.std.specs.Prelude.{◌≡◌, ◌≢◌, ◌↔◌, ℕ, zero, suc, ◌+◌, ◌-◌, ◌*◌, ◌/◌, ◌<◌, max, Bool, not, ◌==◌, ◌||◌, ◌&&◌, nat_lt, if◌then◌else◌, List, [], ◌∷◌}
use Rattle.std.specs.Prelude.{◌++◌, map, All, Some, None}
use Rattle.std.specs.List.{filter}
use Rattle.std.specs.Option.{option_map_or}
use Rattle.j39_signal.specs.declared.signal_parts.SignalParts.{SignalParts}
use Rattle.j39_signal.specs.Places.{end_of, further, IsInside, is_there}
use Rattle.j39_network.specs.declared.plan.group_plan.GroupPlan.{GroupPlan}
use Rattle.j39_network.specs.declared.plan.Plan.{Plan}

abbrev pub HasNoRecords : Plan → Type 0
HasNoRecords plan = All (λ group. group.every ≡ None) plan.groups.items

-- the signals that aren't repeated, of which a message of so many bytes has those that are there, and those that are repeated, as the
-- first record has them
abbrev pub stands_once : ℕ → SignalParts → Bool
stands_once bytes s = not s.repeated && is_there bytes s

abbrev pub single_signals : ℕ → List SignalParts → List SignalParts
single_signals bytes = filter (stands_once bytes)

abbrev pub repeated_signals : List SignalParts → List SignalParts
repeated_signals = filter (λ s. s.repeated)

-- the signals of a record that stands so many bytes behind the first
abbrev pub record_signals : ℕ → List SignalParts → List SignalParts
record_signals bytes signals = map (further bytes) (repeated_signals signals)

-- those of so many records, one after another
unfoldable pub records_signals : ℕ → ℕ → List SignalParts → List SignalParts
records_signals every zero signals = []
records_signals every (suc behind) signals = records_signals every behind signals ++ record_signals (every * behind) signals

-- ---- how many records there are

-- the first place behind the repeated signals, as the first record has them
abbrev pub repeated_end : SignalParts → ℕ
repeated_end s = if s.repeated then end_of s else 0

unfoldable pub last_end : List SignalParts → ℕ
last_end [] = 0
last_end (s ∷ rest) = max (repeated_end s) (last_end rest)

-- the bytes of a message up to the end of its first record
abbrev pub first_bytes : List SignalParts → ℕ
first_bytes signals = (last_end signals + 7) / 8

-- how many records end inside so many bytes, where the first takes some of them
abbrev pub count_inside : ℕ → ℕ → ℕ → ℕ
count_inside every first bytes = if first == 0 || nat_lt bytes first then 0 else (bytes - first) / every + 1

-- how many records a message of so many bytes has
abbrev pub record_count : GroupPlan → ℕ → ℕ
record_count group bytes = option_map_or (λ every. count_inside every (first_bytes group.signals.items) bytes) group.every 0

-- the signals that a message of so many bytes has: those that aren't repeated and are there, and those of each record
abbrev pub signals_in : GroupPlan → ℕ → List SignalParts
signals_in group bytes =
    single_signals bytes group.signals.items
    ++ option_map_or (λ every. records_signals every (record_count group bytes) group.signals.items) group.every []

-- ---- a law

-- a record is one of those of a message exactly where it has signals and all of them end inside the message
abbrev pub RecordsAreCounted : Type 0
RecordsAreCounted = (group : GroupPlan) (every bytes behind : ℕ) → group.every ≡ Some every
    → (behind < record_count group bytes)
    ↔ ((repeated_signals group.signals.items ≢ []) × All (IsInside bytes) (record_signals (every * behind) group.signals.items))
