-- Sessions of the transport protocol that frames show: from each address to each other one the newest, and the one before it.
use Rattle.std.specs.Prelude.{ℕ, ◌+◌, ◌-◌, ◌==◌, ◌&&◌, ◌||◌, not, nat_le, max, min, Bool, true, false, if◌then◌else◌, slice_range, slice_set, Option, Some, None}
use Rattle.std.specs.List.{list_all}
use Rattle.j39_id.specs.declared.frame.Frame.{Frame}
use Rattle.j39_id.specs.declared.ident.Ident.{Ident}
use Rattle.j39_sessions.specs.SessionFrames.{role_of}
use Rattle.j39_sessions.specs.declared.fault.SessionFault.{SessionFault}
use Rattle.j39_sessions.specs.declared.fault.SessionFault.TheVariants.{Announcement, Grant, Packet, Acknowledged}
use Rattle.j39_sessions.specs.declared.pair_sessions.Before.{Before}
use Rattle.j39_sessions.specs.declared.pair_sessions.Before.TheVariants.{Unknown, Nothing as NoneBefore, Known}
use Rattle.j39_sessions.specs.declared.pair_sessions.PairSessions.{PairSessions}
use Rattle.j39_sessions.specs.declared.role.Clearance.{Clearance}
use Rattle.j39_sessions.specs.declared.role.Receipt.{Receipt}
use Rattle.j39_sessions.specs.declared.role.Role.{Role}
use Rattle.j39_sessions.specs.declared.role.Role.TheVariants.{Begins, Breaks, Clears, Acknowledges, Carries}
use Rattle.j39_sessions.specs.declared.session.LoggedSession.{LoggedSession}

-- ---- one session

-- a CTS is right by a session of its group: it clears packets that the session has, and no more at once than the RTS lets it
abbrev pub is_cleared : Clearance → LoggedSession → Bool
is_cleared c s = c.group == s.group && (nat_le 1 c.first && (nat_le c.first s.count && (nat_le c.count s.count && nat_le c.count s.limit)))

-- each number up to the last packet's was sent
abbrev pub has_come : LoggedSession → Bool
has_come s = list_all (λ (sent : Bool). sent) (slice_range s.sent 1 (s.count + 1))

-- an acknowledgement is right by a session of its group: its size, its packets, all of them sent
abbrev pub is_acknowledged : Receipt → LoggedSession → Bool
is_acknowledged r s = r.group == s.group && (r.size == s.size && (r.count == s.count && has_come s))

-- a CTS has cleared this number
abbrev pub is_permitted : ℕ → LoggedSession → Bool
is_permitted number s = nat_le 1 number && nat_le number s.greatest

-- the last packet that a CTS clears, of so many
abbrev pub last_cleared : Clearance → ℕ → ℕ
last_cleared c count = min (c.first + c.count - 1) count

abbrev pub with_cleared : Clearance → LoggedSession → LoggedSession
with_cleared c s = if nat_le 1 c.first then record s { greatest = max s.greatest (last_cleared c s.count) } else s

abbrev pub with_number : ℕ → LoggedSession → LoggedSession
with_number number s = record s { sent = slice_set s.sent number true }

-- ---- the one before

-- by one that isn't known all is right
abbrev pub is_it_cleared : Clearance → Before → Bool
is_it_cleared c Unknown = true
is_it_cleared c NoneBefore = false
is_it_cleared c (Known s) = is_cleared c s

abbrev pub is_it_acknowledged : Receipt → Before → Bool
is_it_acknowledged r Unknown = true
is_it_acknowledged r NoneBefore = false
is_it_acknowledged r (Known s) = is_acknowledged r s

-- behind a CTS that is right by the newest a known one stays by which it is right too
abbrev pub stays : Clearance → Before → Bool
stays c (Known s) = is_cleared c s
stays c _ = false

-- ---- those of two addresses

-- behind the first RTS that is known
abbrev pub first_known : LoggedSession → PairSessions
first_known s = record { newest = s; before = Unknown; is_over = false }

-- behind one more
abbrev pub with_later : LoggedSession → PairSessions → PairSessions
with_later s p = record { newest = s; before = if p.is_over then NoneBefore else Known p.newest; is_over = false }

-- behind a CTS of the newest one's group
abbrev pub with_clearance : Clearance → PairSessions → PairSessions
with_clearance c p = record p {
  newest = with_cleared c p.newest;
  before = if is_cleared c p.newest && not (stays c p.before) then NoneBefore else p.before;
}

-- behind an acknowledgement of its group: right by the one before alone it ends that one, and else none is before the next one
abbrev pub with_receipt : Receipt → PairSessions → PairSessions
with_receipt r p =
    if is_acknowledged r p.newest || not (is_it_acknowledged r p.before) then record p { is_over = true }
    else record p { before = NoneBefore }

abbrev pub pair_with : Role → PairSessions → PairSessions
pair_with (Clears c) p = if c.group == p.newest.group then with_clearance c p else p
pair_with (Acknowledges r) p = if r.group == p.newest.group then with_receipt r p else p
pair_with (Carries number) p = record p { newest = with_number number p.newest }
pair_with _ p = p

abbrev pub behind_known : Role → Option PairSessions → Option PairSessions
behind_known role None = None
behind_known role (Some p) = Some (pair_with role p)

abbrev pub with_session : LoggedSession → Option PairSessions → PairSessions
with_session s None = first_known s
with_session s (Some p) = with_later s p

-- behind a frame
abbrev pub pair_behind : Role → Option PairSessions → Option PairSessions
pair_behind (Begins s) known = Some (with_session s known)
pair_behind Breaks known = None
pair_behind role known = behind_known role known

-- ---- what a frame does that it mustn't

abbrev pub is_wrong_clearance : Clearance → PairSessions → Bool
is_wrong_clearance c p = c.group == p.newest.group && not (is_cleared c p.newest || is_it_cleared c p.before)

abbrev pub is_wrong_receipt : Receipt → PairSessions → Bool
is_wrong_receipt r p = r.group == p.newest.group && not (is_acknowledged r p.newest || is_it_acknowledged r p.before)

abbrev pub fault_if : Bool → SessionFault → Option SessionFault
fault_if is fault = if is then Some fault else None

abbrev pub fault_in : Role → PairSessions → Option SessionFault
fault_in (Clears c) p = fault_if (is_wrong_clearance c p) Grant
fault_in (Acknowledges r) p = fault_if (is_wrong_receipt r p) Acknowledged
fault_in (Carries number) p = fault_if (not (is_permitted number p.newest)) Packet
fault_in _ p = None

abbrev pub fault_of : Role → Option PairSessions → Option SessionFault
fault_of Breaks known = Some Announcement
fault_of role None = None
fault_of role (Some p) = fault_in role p

-- ---- those of all pairs

-- what is known of the sessions from an address to another; nothing, and all may be right, where none is the newest
abbrev pub AllSessions : Type 0
AllSessions = ℕ → ℕ → Option PairSessions

abbrev pub no_sessions : AllSessions
no_sessions from to = None

-- what receivers send goes back
abbrev pub goes_back : Role → Bool
goes_back (Clears c) = true
goes_back (Acknowledges r) = true
goes_back _ = false

-- from whom and to whom the session goes of which a frame is
abbrev pub sender_by : Ident → Role → ℕ
sender_by i role = if goes_back role then i.ps else i.sa

abbrev pub receiver_by : Ident → Role → ℕ
receiver_by i role = if goes_back role then i.sa else i.ps

abbrev pub is_of_session : Ident → Role → ℕ → ℕ → Bool
is_of_session i role from to = from == sender_by i role && to == receiver_by i role

-- behind a frame
unfoldable pub sessions_behind : Frame → AllSessions → AllSessions
sessions_behind f s from to = if is_of_session f.ident (role_of f) from to then pair_behind (role_of f) (s from to) else s from to

-- what a frame does that it mustn't, by the sessions up to it
unfoldable pub fault_at : Frame → AllSessions → Option SessionFault
fault_at f s = fault_of (role_of f) (s (sender_by f.ident (role_of f)) (receiver_by f.ident (role_of f)))
