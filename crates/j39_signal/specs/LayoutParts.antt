-- What a contract sees of a layout.
use Rattle.std.specs.Prelude.{ℕ, List, Option}
use Rattle.j39_signal.specs.declared.signal_parts.SignalParts.{SignalParts}
use Rattle.j39_signal.specs.declared.selector.Selector.{Selector}

-- the lengths of the shortest and of the longest payload in bytes, the selector that takes them, if there is one, and the signals
pub record LayoutParts : Type 0 where
  pub length : ℕ
  pub most : ℕ
  pub when : Option Selector
  pub signals : List SignalParts
