-- Bits of a payload that report whose layout it has: a command byte of a maker's protocol, the group function of a terminal.
use Rattle.std.specs.Prelude.{◌≡◌, ◌≢◌, ℕ, ◌+◌, ◌*◌, ◌≤◌, ◌==◌, ◌&&◌, Bool, true, false, not, nat_le, List, length, Option, Some}
use Rattle.std.specs.Option.{ForSome, option_map_or}
use Rattle.j39_signal.specs.Bits.{number_at}
use Rattle.j39_signal.specs.declared.selector.Selector.{Selector}

-- the first place behind the bits
abbrev pub selector_end : Selector → ℕ
selector_end w = w.start + w.bits

-- the payload has the bits, and they have the number
abbrev pub has_selector : Selector → List ℕ → Bool
has_selector w payload = nat_le (selector_end w) (8 * length payload) && number_at payload w.start w.bits == w.value

-- a payload is taken: without a selector any is
abbrev pub is_selected : Option Selector → List ℕ → Bool
is_selected selector payload = option_map_or (λ w. has_selector w payload) selector true

-- two that differ in the value alone: no payload is taken by both
abbrev pub DifferInValue : Option Selector → Option Selector → Type 0
DifferInValue (Some v) (Some w) = (v.start ≡ w.start) × (v.bits ≡ w.bits) × (v.value ≢ w.value)
DifferInValue _ _ = ⊥

-- the same as a test
abbrev pub differ_in_value : Option Selector → Option Selector → Bool
differ_in_value (Some v) (Some w) = v.start == w.start && (v.bits == w.bits && not (v.value == w.value))
differ_in_value _ _ = false

-- the bits of a selector end inside so many bytes
abbrev pub EndsInside : ℕ → Option Selector → Type 0
EndsInside bytes selector = ForSome selector (λ w. selector_end w ≤ 8 * bytes)
