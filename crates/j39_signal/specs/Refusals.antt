-- Why signals make no layout: the first fault, of the length and then of the signals in rising order.
use Rattle.std.specs.Prelude.{◌≡◌, ℕ, ◌||◌, nat_lt, not, Bool, List, [], ◌∷◌, ◌++◌, length, Option, Some, is_some, unwrap_or}
use Rattle.std.specs.List.{position}
use Rattle.j39_id.specs.FirstFault.{first_fault}
use Rattle.j39_id.specs.Limits.{message_bytes}
use Rattle.j39_signal.specs.declared.signal_parts.SignalParts.{SignalParts}
use Rattle.j39_signal.specs.Places.{LaysOut, is_inside, shares_bit, width_fits}
use Rattle.j39_signal.specs.declared.layout_error.LayoutError.{LayoutError}
use Rattle.j39_signal.specs.declared.layout_error.LayoutError.TheVariants.{Length, Width, Outside, Overlap, Memory}

-- the place of the first of these signals that shares a bit with s
abbrev pub first_sharer : SignalParts → List SignalParts → Option ℕ
first_sharer s before = position (λ t. shares_bit t s) before

-- the faults of a signal behind others in the order in which they are looked for, each with whether it holds
abbrev pub placement_faults : ℕ → List SignalParts → SignalParts → List (LayoutError × Bool)
placement_faults bytes before s =
    (Width (length before), not (width_fits s.kind s.start s.bits))
    ∷ (Outside (length before), not (is_inside bytes s))
    ∷ (Overlap (unwrap_or (first_sharer s before) 0) (length before), is_some (first_sharer s before))
    ∷ []

-- those of all signals behind others
abbrev pub faults_behind : ℕ → List SignalParts → List SignalParts → List (LayoutError × Bool)
faults_behind bytes before [] = []
faults_behind bytes before (s ∷ rest) = placement_faults bytes before s ++ faults_behind bytes (before ++ s ∷ []) rest

-- those of the length and of all signals
abbrev pub layout_faults : ℕ → List SignalParts → List (LayoutError × Bool)
layout_faults bytes signals = (Length, nat_lt bytes 1 || nat_lt message_bytes bytes) ∷ faults_behind bytes [] signals

-- the first fault that holds; or there is none and memory was refused
abbrev pub HasLayoutFault : ℕ → List SignalParts → LayoutError → Type 0
HasLayoutFault bytes signals Memory = LaysOut bytes signals
HasLayoutFault bytes signals e = first_fault (layout_faults bytes signals) ≡ Some e
