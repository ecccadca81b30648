-- Requests for groups, and what was asked for by them.
use Rattle.std.specs.Prelude.{ℕ, ◌+◌, ◌*◌, max, nat_le, ◌==◌, ◌||◌, ◌&&◌, Bool, true, false, if◌then◌else◌, Option, Some, None, is_some}
use Rattle.std.specs.List.{list_any}
use Rattle.std.specs.Option.{option_map_or}
use Rattle.j39_id.specs.Addresses.{global_address}
use Rattle.j39_id.specs.FrameMeaning.{requested_group, requests_group}
use Rattle.j39_id.specs.declared.frame.Frame.{Frame}
use Rattle.j39_network.specs.declared.plan.Plan.{Plan}
use Rattle.j39_network.specs.declared.plan.group_plan.GroupPlan.{GroupPlan}
use Rattle.j39_network.specs.declared.plan.timing.Timing.{Timing}
use Rattle.j39_audit.specs.Counting.{Key, is_same_key, key_of}
use Rattle.j39_audit.specs.UnitTimes.{longest_us}
use Rattle.j39_audit.specs.Settings.{Settings, logger_error}
use Rattle.j39_audit.specs.declared.mark.Mark.{Mark}
use Rattle.j39_audit.specs.declared.mark.Word.TheVariants.{Answers, Besides}

-- ---- what was asked for

-- of each number and destination, whether a frame asked this for it, and the newest time of one since times began anew: so of all requests, and of those that are
-- none of the plan's
pub record GroupRequests : Type 0 where
  pub ever : Key → Option ℕ
  pub newest : Key → Option ℕ

abbrev pub nothing_requested : GroupRequests
nothing_requested = record { ever = λ key. None; newest = λ key. None }

-- of those besides the plan, or of all, of this number and destination
abbrev pub request_mark : Bool → ℕ → ℕ → Mark
request_mark besides number destination = record { word = if besides then Besides else Answers; subject = number; group = destination }

abbrev pub request_key : Bool → ℕ → ℕ → Key
request_key besides number destination = key_of (request_mark besides number destination)

-- where times begin anew no time says any more how long ago it was
abbrev pub requests_before : Bool → GroupRequests → GroupRequests
requests_before anew r = if anew then record r { newest = λ key. None } else r

-- ---- a request

abbrev pub later_time : Option ℕ → Option ℕ → Option ℕ
later_time None before = before
later_time (Some time) None = Some time
later_time (Some time) (Some before) = Some (max time before)

abbrev pub with_time_of : Key → Option ℕ → (Key → Option ℕ) → Key → Option ℕ
with_time_of key one table other = if is_same_key key other then one else table other

-- with one of this time
abbrev pub with_request_of : Key → Option ℕ → GroupRequests → GroupRequests
with_request_of key time r = record {
  ever = with_time_of key (Some 0) r.ever;
  newest = with_time_of key (later_time time (r.newest key)) r.newest;
}

-- the number is that of a group of the plan
unfoldable pub is_planned_number : Plan → ℕ → Bool
is_planned_number plan number = list_any (λ (group : GroupPlan). group.pgn == number) plan.groups.items

-- what was asked for, so that it is seen of this request of the plan or of none
abbrev pub with_request : Option ℕ → ℕ → ℕ → Option ℕ → GroupRequests → GroupRequests
with_request time number destination None r =
    with_request_of (request_key true number destination) time (with_request_of (request_key false number destination) time r)
with_request time number destination (Some n) r = with_request_of (request_key false number destination) time r

abbrev pub asks_for_planned : Plan → Frame → Bool
asks_for_planned plan f = requests_group f && is_planned_number plan (requested_group f)

unfoldable pub requests_behind : Plan → Option ℕ → Frame → Option ℕ → GroupRequests → GroupRequests
requests_behind plan time f seen r = if asks_for_planned plan f then with_request time (requested_group f) f.ident.ps seen r else r

-- ---- a message

-- so many milliseconds behind a request the answer to it is there at the latest (SAE J1939-21)
abbrev pub longest_reply_ms : ℕ
longest_reply_ms = 1250

abbrev pub is_in_time : Settings → Timing → ℕ → Option ℕ → Bool
is_in_time s t time None = false
is_in_time s t time (Some request) = nat_le time (request + longest_us t longest_reply_ms + 2 * logger_error s)

-- a message of this time was asked for by such requests
abbrev pub is_requested_by : Settings → Option ℕ → Key → GroupRequests → Bool
is_requested_by s None key r = is_some (r.ever key)
is_requested_by s (Some time) key r = option_map_or (λ (t : Timing). is_in_time s t time (r.newest key)) s.plan.timing false

-- by ones of its number to all, or to its source
unfoldable pub is_requested : Settings → Option ℕ → GroupRequests → Bool → ℕ → ℕ → Bool
is_requested s time r besides number source =
    is_requested_by s time (request_key besides number global_address) r || is_requested_by s time (request_key besides number source) r
