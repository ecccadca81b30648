-- Frames that a log has again: loggers with two sockets, and merged files, have a frame twice.
use Rattle.std.specs.Prelude.{ℕ, ◌+◌, ◌-◌, ◌*◌, nat_le, nat_lt, ◌==◌, ◌&&◌, Bool, false, if◌then◌else◌, length, Option, Some, None}
use Rattle.std.specs.Option.{option_map_or}
use Rattle.std.specs.Str.{bytes_eq}
use Rattle.j39_id.specs.Ident.{bits}
use Rattle.j39_id.specs.declared.frame.Frame.{Frame}
use Rattle.j39_network.specs.declared.plan.Plan.{Plan}
use Rattle.j39_network.specs.declared.plan.timing.Timing.{Timing}
use Rattle.j39_audit.specs.BegunBroadcasts.{BegunBroadcasts, with_one}
use Rattle.j39_audit.specs.Moments.{Moments, bit_us, long_before, with_newest}
use Rattle.j39_audit.specs.Settings.{Settings, logger_error}
use Rattle.j39_audit.specs.declared.again.TakenFrame.{TakenFrame}
use Rattle.j39_audit.specs.declared.broadcasts.BegunBroadcast.{BegunBroadcast}
use Rattle.j39_audit.specs.declared.pauses.Newest.{Newest}
use Rattle.j39_audit.specs.declared.tally.Sighting.{Sighting}

-- ---- which frames

-- the least microseconds of a frame of so many bytes, with the bits that stand behind each
abbrev pub shortest_frame : Timing → ℕ → ℕ
shortest_frame t bytes = bit_us t.bitrate * (67 + 8 * bytes)

abbrev pub is_same_frame : Frame → Frame → Bool
is_same_frame f g = bits f.ident == bits g.ident && bytes_eq f.payload.items g.payload.items

-- it comes behind the other one, and sooner than this can have been sent once more
abbrev pub is_too_soon : Timing → Frame → ℕ → ℕ → Bool
is_too_soon t f before time = nat_le before time && nat_lt (time - before) (shortest_frame t (length f.payload.items))

abbrev pub is_again_behind : Timing → TakenFrame → ℕ → Frame → Bool
is_again_behind t one time f = is_same_frame one.frame f && is_too_soon t f one.time time

-- a frame of this time is the one before it, which stands there again
unfoldable pub is_again : Plan → Option TakenFrame → Option ℕ → Frame → Bool
is_again plan (Some one) (Some time) f = option_map_or (λ (t : Timing). is_again_behind t one time f) plan.timing false
is_again plan _ _ f = false

-- what is known of a frame of this time and line, if it has one, that was seen so
abbrev pub taken_frame : Option ℕ → Frame → ℕ → Sighting → Option TakenFrame
taken_frame None f line w = None
taken_frame (Some time) f line w = Some (record { frame = f; time = time; line = line; flow = w.flow; request = w.request; unit = w.unit })

-- ---- what they change

-- where stamps are off they may be two that were sent: so the moment of the newest message of the flow, if it is one, may be as late as this
abbrev pub with_later_moment : ℕ → Newest → Newest
with_later_moment moment newest = record { moment = moment; line = newest.line }

abbrev pub newest_later : ℕ → ℕ → Option Newest → (ℕ → Option Newest) → ℕ → Option Newest
newest_later n moment None newest = newest
newest_later n moment (Some one) newest = with_newest n (Some (with_later_moment moment one)) newest

abbrev pub newest_again : Option ℕ → ℕ → (ℕ → Option Newest) → ℕ → Option Newest
newest_again None moment newest = newest
newest_again (Some n) moment newest = newest_later n moment (newest n) newest

-- and so may the end of the line before
abbrev pub moments_again : Settings → Option ℕ → ℕ → Moments → Moments
moments_again s flow time m = record m { before = Some time; newest = newest_again flow (time + long_before + logger_error s) m.newest }

-- and of the frame behind which a packet of its broadcast comes, if it is this one
abbrev pub later_behind : ℕ → ℕ → ℕ → BegunBroadcast → BegunBroadcasts → BegunBroadcasts
later_behind u line moment begun b =
    if begun.line == line then with_one u (Some (record { left = begun.left; moment = moment; line = line })) b else b

abbrev pub broadcast_again : ℕ → ℕ → ℕ → Option BegunBroadcast → BegunBroadcasts → BegunBroadcasts
broadcast_again u line moment None b = b
broadcast_again u line moment (Some begun) b = later_behind u line moment begun b

abbrev pub broadcasts_again : Settings → Option ℕ → ℕ → ℕ → BegunBroadcasts → BegunBroadcasts
broadcasts_again s None line time b = b
broadcasts_again s (Some u) line time b = broadcast_again u line (time + long_before + logger_error s) (b.begun u) b
