-- Which units are asked for claims, and which of them don't answer.
use Rattle.std.specs.Prelude.{ℕ, ◌+◌, nat_lt, ◌==◌, ◌||◌, ◌&&◌, not, Bool, false, if◌then◌else◌, List, [], ◌∷◌, ◌++◌, Option, Some, None}
use Rattle.std.specs.Option.{option_or}
use Rattle.j39_id.specs.Addresses.{global_address}
use Rattle.j39_id.specs.FrameMeaning.{requested_group, requests_group}
use Rattle.j39_id.specs.Services.{address_claimed}
use Rattle.j39_id.specs.declared.frame.Frame.{Frame}
use Rattle.j39_network.specs.declared.plan.timing.Timing.{Timing}
use Rattle.j39_audit.specs.Claiming.{Knowledge, is_at, may_be, sender_at}
use Rattle.j39_audit.specs.Counting.{Noted}
use Rattle.j39_audit.specs.Looking.{claimant, is_claim, is_claiming}
use Rattle.j39_audit.specs.UnitTimes.{longest_us}
use Rattle.j39_audit.specs.Moments.{long_before}
use Rattle.j39_audit.specs.SentMessages.{noted_at}
use Rattle.j39_audit.specs.Settings.{Settings, logger_error, moves}
use Rattle.j39_audit.specs.declared.asking.ClaimRequest.{ClaimRequest}
use Rattle.j39_audit.specs.declared.mark.Word.TheVariants.{Deaf}
use Rattle.j39_audit.specs.declared.senders.SureSender.{SureSender}
use Rattle.j39_audit.specs.declared.senders.SureSender.TheVariants.{Unit as OfUnit, Nobody, Unknown}

-- of each unit that was asked for claims the request, until it claims; and what was found
pub record Asking : Type 0 where
  pub asked : ℕ → Option ClaimRequest
  pub deaf : List Noted

abbrev pub nobody_asked : Asking
nobody_asked = record { asked = λ u. None; deaf = [] }

-- ---- where a request says no more

-- of all: a claim may be missing, or who was asked may be off
abbrev pub all_forgotten : Asking → Asking
all_forgotten a = record a { asked = λ u. None }

-- just before a frame, where times begin anew or a gap ends
abbrev pub asked_before : Bool → Bool → Asking → Asking
asked_before anew gap a = if anew || gap then all_forgotten a else a

-- of a unit
abbrev pub with_asked : ℕ → Option ClaimRequest → (ℕ → Option ClaimRequest) → ℕ → Option ClaimRequest
with_asked u one asked other = if u == other then one else asked other

abbrev pub answered : Option ℕ → Asking → Asking
answered None a = a
answered (Some u) a = record a { asked = with_asked u None a.asked }

-- at a claim of it, also one that says that it has no address
abbrev pub answered_at : Settings → Frame → Asking → Asking
answered_at s f a = if is_claim f then answered (claimant s f).unit a else a

-- ---- who is asked

-- by a request for claims
abbrev pub asks_for_claims : Frame → Bool
asks_for_claims f = requests_group f && requested_group f == address_claimed

-- the unit claimed the address last, or it may not move, so that it has no other
abbrev pub holds_surely : Settings → Knowledge → ℕ → ℕ → Bool
holds_surely s k u a = is_at (k.last u) a || not (moves s u)

abbrev pub is_sender : SureSender → ℕ → Bool
is_sender (OfUnit v) u = v == u
is_sender Nobody u = false
is_sender Unknown u = false

-- a request to this destination is for the unit: it goes to all, or to an address that the unit alone may have, and surely has
abbrev pub is_for : Settings → Knowledge → ℕ → ℕ → Bool
is_for s k u a = a == global_address || (is_sender (sender_at s k a) u && holds_surely s k u a)

-- a unit that claims is asked, unless it may be the one that asks; of a part of what the bus carried nobody is
unfoldable pub is_asked_to_claim : Settings → Knowledge → Frame → ℕ → Bool
is_asked_to_claim s k f u =
    not s.part && (asks_for_claims f && (is_claiming s u && (not (may_be s k u f.ident.sa) && is_for s k u f.ident.ps)))

-- who is asked already stays so
abbrev pub asked_with : Settings → Knowledge → Frame → ClaimRequest → Asking → Asking
asked_with s k f r a = record a { asked = λ u. option_or (a.asked u) (if is_asked_to_claim s k f u then Some r else None) }

-- at a frame of this time, by the moment at which it ended at the latest
abbrev pub asked_at : Settings → Knowledge → Frame → Option ℕ → ℕ → Asking → Asking
asked_at s k f None line a = a
asked_at s k f (Some time) line a = asked_with s k f (record { moment = time + long_before + logger_error s; line = line }) a

-- ---- who doesn't answer

-- so many milliseconds behind a request a claim is ready to be sent at the latest (SAE J1939-81)
abbrev pub longest_answer_ms : ℕ
longest_answer_ms = 250

-- the bus was idle when the claim had to be ready
abbrev pub is_overdue : Timing → ClaimRequest → Option ℕ → Bool
is_overdue t r None = false
is_overdue t r (Some idle) = nat_lt (r.moment + longest_us t longest_answer_ms) idle

abbrev pub with_deaf : ℕ → ClaimRequest → Asking → Asking
with_deaf u r a = record { asked = with_asked u None a.asked; deaf = a.deaf ++ noted_at r.line Deaf u 0 ∷ [] }

-- with a frame of a unit that was asked so: it claims when it comes on, so it was on all the time
abbrev pub deaf_if_overdue : Timing → Option ℕ → ℕ → Option ClaimRequest → Asking → Asking
deaf_if_overdue t idle u None a = a
deaf_if_overdue t idle u (Some r) a = if is_overdue t r idle then with_deaf u r a else a

-- with a frame that counts for a unit, if it does, at this idle mark
abbrev pub with_sign_of : Option Timing → Option ℕ → Option ℕ → Asking → Asking
with_sign_of None unit idle a = a
with_sign_of (Some t) None idle a = a
with_sign_of (Some t) (Some u) idle a = deaf_if_overdue t idle u (a.asked u) a

-- ---- a frame

-- what is asked just behind it
abbrev pub asked_behind : Settings → Knowledge → Bool → Bool → Option ℕ → Frame → ℕ → Asking → Asking
asked_behind s k gap anew time f line a = asked_at s k f time line (answered_at s f (asked_before anew gap a))

-- and with what it reports of the unit for which it counts
unfoldable pub asking_behind : Settings → Knowledge → Bool → Bool → Option ℕ → Frame → ℕ → Option ℕ → Option ℕ → Asking → Asking
asking_behind s k gap anew time f line unit idle a = with_sign_of s.plan.timing unit idle (asked_behind s k gap anew time f line a)
