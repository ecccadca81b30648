-- What a flow that keeps its pause does, with bounds that fit it, and what is noted of its messages. Moments are in thousandths of the unit of
-- the bounds.
use Rattle.std.specs.Prelude.{◌≡◌, ℕ, zero, suc, ◌+◌, ◌-◌, ◌*◌, ◌<◌, ◌≤◌, ◌⊎◌, ◌++◌, Bool, true, if◌then◌else◌, List, [], ◌∷◌, Option, Some, None}
use Rattle.j39_network.specs.declared.plan.timing.Timing.{Timing}
use Rattle.j39_audit.specs.Below.{each_below}
use Rattle.j39_audit.specs.Counting.{Noted}
use Rattle.j39_audit.specs.MessageStreams.{flow_pause, stream_mark}
use Rattle.j39_audit.specs.Moments.{Moments, last_of_flow, lower_bound, pause_ended, with_pause}
use Rattle.j39_audit.specs.Settings.{Settings}
use Rattle.j39_audit.specs.Silence.{is_silent, lag, latest}
use Rattle.j39_audit.specs.declared.mark.Word.TheVariants.{SilentFlow}
use Rattle.j39_audit.specs.declared.pauses.LastFrame.{LastFrame}
use Rattle.j39_audit.specs.declared.streams.FlowPause.{FlowPause}
use Rattle.j39_audit.specs.declared.window.Window.{Window}

-- from one moment to another there is, at each, a message whose moment is within the last pause
abbrev pub ComesInTime : (ℕ → Bool) → ℕ → (ℕ → ℕ) → ℕ → ℕ → Type 0
ComesInTime is_message pause moment from to = (t : ℕ) → from ≤ t → t ≤ to → (p : ℕ) × (is_message p ≡ true) × (moment p ≤ t) × (t < moment p + 1000 * pause)

-- what bounds a moment at place j, where frame k is the message at place k: each message had its moment by the upper bound at an earlier place i, or no
-- earlier than this bound, or it stands between these places
abbrev pub IsBoundAt : (ℕ → Bool) → (ℕ → ℕ) → (ℕ → ℕ) → (ℕ → Window) → ℕ → ℕ → Type 0
IsBoundAt is_message frame moment windows j bound = (i p : ℕ) → i < j → is_message p ≡ true → (moment p ≤ 1000 * (windows i).upper)
    ⊎ ((1000 * bound ≤ moment p) ⊎ ((k : ℕ) × (i < k) × (k < j) × (p ≡ frame k)))

-- ---- what is noted

-- behind the first j messages of flow n, with these bounds and at these lines, if its pause didn't end between
unfoldable pub with_paused : ℕ → ℕ → (ℕ → Window) → (ℕ → ℕ) → ℕ → Moments → Moments
with_paused pause n windows lines zero m = m
with_paused pause n windows lines (suc j) m = with_pause (Some pause) n (windows j) (lines j) (with_paused pause n windows lines j m)

abbrev pub silence_noted : ℕ → ℕ → Option ℕ → List Noted
silence_noted n line None = []
silence_noted n line (Some by) = record { mark = stream_mark SilentFlow n; line = line; detail = by } ∷ []

-- by a lower bound of the moment of message j, or of the one that is missing there: by how much the flow is silent, at the line of the message
-- before, if it is reported as such
abbrev pub silent_there : ℕ → ℕ → (ℕ → Window) → (ℕ → ℕ) → ℕ → Option ℕ → List Noted
silent_there pause n windows lines j lower =
    if is_silent pause windows j lower then silence_noted n (lines (j - 1)) (lag pause (latest pause windows j) lower) else []

-- where none is known before the first of them, what is noted of them is this
abbrev pub NotesTheSilent : Type 0
NotesTheSilent = (pause n : ℕ) (windows : ℕ → Window) (lines : ℕ → ℕ) (j : ℕ) (m : Moments) → m.newest n ≡ None
    → (with_paused pause n windows lines j m).untimely ≡ m.untimely ++ each_below (λ k. silent_there pause n windows lines k (windows k).lower) j

-- and where its pause ends, by the last frame of its ends, which comes behind the last of them, this
abbrev pub NotesTheSilentEnd : Type 0
NotesTheSilentEnd = (s : Settings) (t : Timing) (p : FlowPause) (n : ℕ) (windows : ℕ → Window) (lines : ℕ → ℕ) (j : ℕ) (m : Moments) (last : LastFrame)
    → flow_pause s t n ≡ Some p → m.newest n ≡ None → last_of_flow s m.last n ≡ Some last → lines j < last.line
    → (pause_ended s t n (with_paused p.pause n windows lines (suc j) m)).untimely ≡ (with_paused p.pause n windows lines (suc j) m).untimely
    ++ silent_there p.pause n windows lines (suc j) (lower_bound p.slack last.since)
