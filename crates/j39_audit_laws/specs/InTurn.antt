-- What the packets of a broadcast do that come in turn, and what is noted of those that don't.
use Rattle.std.specs.Prelude.{◌≡◌, ℕ, zero, suc, ◌+◌, ◌*◌, ◌<◌, ◌≤◌, ◌++◌, nat_lt, if◌then◌else◌, List, [], Option, Some, None}
use Rattle.j39_network.specs.declared.plan.timing.Timing.{Timing}
use Rattle.j39_audit.specs.Below.{each_below}
use Rattle.j39_audit.specs.BegunBroadcasts.{BegunBroadcasts, late_noted, with_one, with_packet}
use Rattle.j39_audit.specs.Counting.{Noted}
use Rattle.j39_audit.specs.UnitTimes.{longest_us}
use Rattle.j39_audit.specs.Near.{excess}
use Rattle.j39_audit.specs.declared.broadcasts.BegunBroadcast.{BegunBroadcast}
use Rattle.j39_timing.specs.Messages.{frame_end}
use Rattle.j39_timing.specs.TimedFrames.{Schedule}

-- a packet p is queued at most so many milliseconds behind the end of the frame g before it
pub record IsInTurn (s : Schedule) (us ms g p : ℕ) : Type 0 where
  pub known : p < s.count
  pub within : s.queued p * us ≤ frame_end s g * us + 1000 * ms

-- ---- what is noted

abbrev pub with_next : Timing → ℕ → Option ℕ → ℕ → ℕ → Option BegunBroadcast → BegunBroadcasts → BegunBroadcasts
with_next t u idle moment line None b = b
with_next t u idle moment line (Some one) b = with_packet t u idle moment line one b

-- behind the announcement of a planned broadcast of so many packets, frame 0, and n packets, frame k by its moment, at its line and idle mark
unfoldable pub with_packets : Timing → ℕ → ℕ → (ℕ → ℕ) → (ℕ → ℕ) → (ℕ → Option ℕ) → ℕ → BegunBroadcasts → BegunBroadcasts
with_packets t u count moments lines idles zero b = with_one u (Some (record { left = count; moment = moments 0; line = lines 0 })) b
with_packets t u count moments lines idles (suc n) b =
    with_next t u (idles (suc n)) (moments (suc n)) (lines (suc n)) ((with_packets t u count moments lines idles n b).begun u)
    (with_packets t u count moments lines idles n b)

-- of frame k, behind which there is a packet yet: by how much this comes too late, at its line
abbrev pub late_behind : Timing → ℕ → ℕ → (ℕ → ℕ) → (ℕ → ℕ) → (ℕ → Option ℕ) → ℕ → List Noted
late_behind t u count moments lines idles k =
    if nat_lt k count then late_noted u (lines k) (excess (idles (suc k)) (moments k + longest_us t t.broadcast_gap_most)) else []

abbrev pub NotesTheLate : Type 0
NotesTheLate = (t : Timing) (u count : ℕ) (moments lines : ℕ → ℕ) (idles : ℕ → Option ℕ) (n : ℕ) (b : BegunBroadcasts)
    → (with_packets t u count moments lines idles n b).late ≡ b.late ++ each_below (late_behind t u count moments lines idles) n
