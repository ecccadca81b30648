-- The listeners of a table of which one slot is written.
use Rattle.std.proofs.Common.{◌≡◌, ◌≢◌, ℕ, zero, suc, ◌<◌, List, [], ◌∷◌, length, Some, None, refl, arith}
use Rattle.std.specs.Prelude.{slice_set}
use Rattle.std.specs.List.{slice_get}
use Rattle.j39_log.specs.PairListeners.{HasListener, ListenerSlot}

get_set_same : {A : Type 0} (xs : List A) (i : ℕ) (y : A) → i < length xs → slice_get (slice_set xs i y) i ≡ Some y
get_set_same [] i y less = absurd (omega arith)
get_set_same (x ∷ xs) zero y less = refl
get_set_same (x ∷ xs) (suc i) y less = get_set_same xs i y (omega arith)

-- a slot that isn't empty has a listener
pub has_set : (slots : List ListenerSlot) (d : ℕ) (slot : ListenerSlot) → d < length slots → slot ≢ None → HasListener (slice_set slots d slot) d
has_set slots d None less some = absurd (some refl)
has_set slots d (Some b) less some = (b, get_set_same slots d (Some b) less)
