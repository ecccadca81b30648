-- Laws of what frames do that they mustn't, in words of the frames: an RTS, and what came behind it.
use Rattle.std.specs.Prelude.{◌≡◌, ◌≢◌, ◌⊎◌, ℕ, ◌<◌, ◌≤◌, true, false, List, [], ◌∷◌, ◌++◌, Some, None}
use Rattle.j39_id.specs.declared.frame.Frame.{Frame}
use Rattle.j39_sessions.specs.SessionFrames.{announces_rightly, role_of}
use Rattle.j39_sessions.specs.Sessions.{AllSessions, fault_at, is_cleared, last_cleared, sessions_behind}
use Rattle.j39_sessions.specs.declared.fault.SessionFault.TheVariants.{Announcement, Grant, Packet, Acknowledged}
use Rattle.j39_sessions.specs.declared.pair_sessions.PairSessions.{PairSessions}
use Rattle.j39_sessions.specs.declared.role.Clearance.{Clearance}
use Rattle.j39_sessions.specs.declared.role.Receipt.{Receipt}
use Rattle.j39_sessions.specs.declared.role.Role.TheVariants.{Begins, Breaks, Clears, Acknowledges, Carries}
use Rattle.j39_sessions.specs.declared.session.LoggedSession.{LoggedSession}

-- ---- frames

-- behind frames, one after the other
unfoldable pub sessions_after : List Frame → AllSessions → AllSessions
sessions_after [] s = s
sessions_after (f ∷ fs) s = sessions_after fs (sessions_behind f s)

-- this holds of each
abbrev pub OfEach : (Frame → Type 0) → List Frame → Type 0
OfEach P [] = Unit {0}
OfEach P (f ∷ fs) = P f × OfEach P fs

-- this holds of one of them
abbrev pub AnyOf : (Frame → Type 0) → List Frame → Type 0
AnyOf P [] = ⊥
AnyOf P (f ∷ fs) = P f ⊎ AnyOf P fs

-- a frame from an address to another
pub record GoesFromTo (source to : ℕ) (f : Frame) : Type 0 where
  pub source_is : f.ident.sa ≡ source
  pub to_is : f.ident.ps ≡ to

-- an RTS that is right: it begins this session
abbrev pub IsRts : ℕ → ℕ → LoggedSession → Frame → Type 0
IsRts from to s f = GoesFromTo from to f × (role_of f ≡ Begins s)

-- no announcement goes from the one to the other, right or not
abbrev pub AnnouncesNothing : ℕ → ℕ → Frame → Type 0
AnnouncesNothing from to f = GoesFromTo from to f → (¬ (role_of f ≡ Breaks)) × ((s : LoggedSession) → ¬ (role_of f ≡ Begins s))

-- a CTS for it
abbrev pub IsCts : ℕ → ℕ → Clearance → Frame → Type 0
IsCts from to c f = GoesFromTo to from f × (role_of f ≡ Clears c)

-- an acknowledgement of it
abbrev pub IsReceipt : ℕ → ℕ → Receipt → Frame → Type 0
IsReceipt from to r f = GoesFromTo to from f × (role_of f ≡ Acknowledges r)

-- a packet of it
abbrev pub CarriesNumber : ℕ → ℕ → ℕ → Frame → Type 0
CarriesNumber from to number f = GoesFromTo from to f × (role_of f ≡ Carries number)

-- ---- announcements

-- one that isn't right is told, whatever came before, and no other frame is told so
abbrev pub WrongAnnouncementsAreTold : Type 0
WrongAnnouncementsAreTold = (f : Frame) (s : AllSessions) → announces_rightly f ≡ false → fault_at f s ≡ Some Announcement

abbrev pub RightAnnouncementsArent : Type 0
RightAnnouncementsArent = (f : Frame) (s : AllSessions) → announces_rightly f ≡ true → fault_at f s ≢ Some Announcement

-- ---- packets

-- what a CTS of the group clears lies below a number
abbrev pub ClearsBelow : ℕ → ℕ → LoggedSession → ℕ → Frame → Type 0
ClearsBelow from to s number f = (c : Clearance) → IsCts from to c f → c.group ≡ s.group → 1 ≤ c.first → last_cleared c s.count < number

-- a packet above all that CTSs cleared since the last RTS is told
abbrev pub UnclearedPacketsAreTold : Type 0
UnclearedPacketsAreTold = (s : AllSessions) (from to : ℕ) (rts : Frame) (session_opened : LoggedSession) (since : List Frame) (packet : Frame) (number : ℕ)
    → IsRts from to session_opened rts
    → OfEach (AnnouncesNothing from to) since
    → OfEach (ClearsBelow from to session_opened number) since
    → CarriesNumber from to number packet
    → fault_at packet (sessions_after (rts ∷ since) s) ≡ Some Packet

-- and one up to what a CTS of the group cleared since isn't
abbrev pub ClearedPacketsArent : Type 0
ClearedPacketsArent = (s : AllSessions) (from to : ℕ) (rts : Frame) (session_opened : LoggedSession) (first : List Frame) (cts : Frame) (c : Clearance) (later : List Frame)
    (packet : Frame) (number : ℕ)
    → IsRts from to session_opened rts
    → OfEach (AnnouncesNothing from to) first
    → IsCts from to c cts
    → c.group ≡ session_opened.group
    → 1 ≤ c.first
    → OfEach (AnnouncesNothing from to) later
    → CarriesNumber from to number packet
    → 1 ≤ number
    → number ≤ last_cleared c session_opened.count
    → fault_at packet (sessions_after (rts ∷ first ++ cts ∷ later) s) ≡ None

-- ---- CTSs and acknowledgements

-- a CTS that is right by the last RTS isn't told
abbrev pub RightGrantsArent : Type 0
RightGrantsArent = (s : AllSessions) (from to : ℕ) (rts : Frame) (session_opened : LoggedSession) (since : List Frame) (cts : Frame) (c : Clearance)
    → IsRts from to session_opened rts
    → OfEach (AnnouncesNothing from to) since
    → IsCts from to c cts
    → is_cleared c session_opened ≡ true
    → fault_at cts (sessions_after (rts ∷ since) s) ≡ None

-- nor is an acknowledgement of its size and count, where each of its packets was sent since
abbrev pub RightReceiptsArent : Type 0
RightReceiptsArent = (s : AllSessions) (from to : ℕ) (rts : Frame) (session_opened : LoggedSession) (since : List Frame) (receipt : Frame) (r : Receipt)
    → IsRts from to session_opened rts
    → OfEach (AnnouncesNothing from to) since
    → IsReceipt from to r receipt
    → r.group ≡ session_opened.group
    → r.size ≡ session_opened.size
    → r.count ≡ session_opened.count
    → ((k : ℕ) → 1 ≤ k → k ≤ session_opened.count → AnyOf (CarriesNumber from to k) since)
    → fault_at receipt (sessions_after (rts ∷ since) s) ≡ None

-- a CTS isn't right by the RTS that was the last one before this
abbrev pub IsntByTheOneBefore : ℕ → ℕ → AllSessions → Clearance → Type 0
IsntByTheOneBefore from to s c = (p : PairSessions) → s from to ≡ Some p → is_cleared c p.newest ≡ false

-- an RTS, and behind it a CTS that is right by it, and not by the RTS before
pub record IsTakenUp (from to : ℕ) (s : AllSessions) (rts : Frame) (session_opened : LoggedSession) (first : List Frame) (cts : Frame) (c : Clearance)
    (later : List Frame) : Type 0 where
  pub rts_is : IsRts from to session_opened rts
  pub none_first : OfEach (AnnouncesNothing from to) first
  pub cts_is : IsCts from to c cts
  pub is_right : is_cleared c session_opened ≡ true
  pub isnt_before : IsntByTheOneBefore from to s c
  pub none_later : OfEach (AnnouncesNothing from to) later

-- from there on a CTS that isn't right by this RTS is told
abbrev pub WrongGrantsAreTold : Type 0
WrongGrantsAreTold = (from to : ℕ) (s : AllSessions) (rts : Frame) (session_opened : LoggedSession) (first : List Frame) (cts : Frame) (c : Clearance) (later : List Frame)
    (wrong : Frame) (w : Clearance)
    → IsTakenUp from to s rts session_opened first cts c later
    → IsCts from to w wrong
    → w.group ≡ session_opened.group
    → is_cleared w session_opened ≡ false
    → fault_at wrong (sessions_after (rts ∷ first ++ cts ∷ later) s) ≡ Some Grant

-- and so is an acknowledgement before a packet of its message was sent
abbrev pub EarlyReceiptsAreTold : Type 0
EarlyReceiptsAreTold = (from to : ℕ) (s : AllSessions) (rts : Frame) (session_opened : LoggedSession) (first : List Frame) (cts : Frame) (c : Clearance) (later : List Frame)
    (receipt : Frame) (r : Receipt) (missing : ℕ)
    → IsTakenUp from to s rts session_opened first cts c later
    → 1 ≤ missing
    → missing ≤ session_opened.count
    → OfEach (λ f. ¬ CarriesNumber from to missing f) (first ++ cts ∷ later)
    → IsReceipt from to r receipt
    → r.group ≡ session_opened.group
    → fault_at receipt (sessions_after (rts ∷ first ++ cts ∷ later) s) ≡ Some Acknowledged
