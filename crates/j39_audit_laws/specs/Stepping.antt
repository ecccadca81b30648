-- What a stream that keeps its step does, with bounds that fit it, and what is noted of its messages. Moments are in thousandths of the unit of
-- the bounds.
use Rattle.std.specs.Prelude.{◌≡◌, ℕ, zero, suc, ◌+◌, ◌*◌, ◌<◌, ◌≤◌, ◌⊎◌, ◌++◌, if◌then◌else◌, List, [], Some, None}
use Rattle.j39_audit.specs.Below.{each_below}
use Rattle.j39_audit.specs.Counting.{Noted, key_of}
use Rattle.j39_audit.specs.Moments.{Moments, near_noted, with_message}
use Rattle.j39_audit.specs.Near.{earliest_at, excess, is_too_near}
use Rattle.j39_audit.specs.declared.streams.MessageStream.{MessageStream}
use Rattle.j39_audit.specs.declared.window.Window.{Window}

-- of the first n messages: none from the i-th on had its moment before the lower bound of the i-th one (what begins behind an idle bit was queued
-- behind it), and none up to the j-th had it after the upper bound of the j-th one (they ended before it)
pub record AreMomentsWithin (n : ℕ) (windows : ℕ → Window) (moment : ℕ → ℕ) : Type 0 where
  pub from_lower : (i k x : ℕ) → i ≤ k → k < n → (windows i).lower ≡ Some x → 1000 * x ≤ moment k
  pub to_upper : (k j : ℕ) → k ≤ j → j < n → moment k ≤ 1000 * (windows j).upper

-- the moments of each two of the first n messages are a step apart, whichever was first
abbrev pub AreStepsApart : ℕ → ℕ → (ℕ → ℕ) → Type 0
AreStepsApart n step moment = (i j : ℕ) → i < j → j < n → (moment i + 1000 * step ≤ moment j) ⊎ (moment j + 1000 * step ≤ moment i)

-- ---- what is noted

-- behind the first n messages of a stream, with these bounds and at these lines
unfoldable pub with_messages : MessageStream → (ℕ → Window) → (ℕ → ℕ) → ℕ → Moments → Moments
with_messages stream windows lines zero m = m
with_messages stream windows lines (suc n) m = with_message stream (windows n) (lines n) (with_messages stream windows lines n m)

-- of message j: by how much it is too near, at its line, if it is reported as such
abbrev pub near_at : MessageStream → (ℕ → Window) → (ℕ → ℕ) → ℕ → List Noted
near_at stream windows lines j =
    if is_too_near stream.step windows j
    then near_noted stream (lines j) (excess (earliest_at stream.step windows j) (windows j).upper) else []

-- where times begin anew just before the first of them, what is noted of them is this
abbrev pub NotesTheNear : Type 0
NotesTheNear = (stream : MessageStream) (windows : ℕ → Window) (lines : ℕ → ℕ) (n : ℕ) (m : Moments) → m.earliest (key_of stream.mark) ≡ None
    → (with_messages stream windows lines n m).untimely ≡ m.untimely ++ each_below (near_at stream windows lines) n
