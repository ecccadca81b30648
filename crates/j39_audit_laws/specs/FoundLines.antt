-- What is found at which line of a log, in terms of the log alone.
use Rattle.std.specs.Prelude.{◌≡◌, ◌≢◌, ◌⊎◌, ◌↔◌, ℕ, ◌+◌, ◌<◌, min, true, false, List, [], ◌∷◌, ◌++◌, length, Contains, Option, Some, None}
use Rattle.std.specs.List.{AllPairs}
use Rattle.j39_id.specs.Addresses.{is_address, null_address}
use Rattle.j39_id.specs.FrameLine.{HasLineFault, Spells}
use Rattle.j39_id.specs.FrameMeaning.{name_in}
use Rattle.j39_id.specs.Lines.{Line, Short as ShortLine}
use Rattle.j39_id.specs.declared.frame.Frame.{Frame}
use Rattle.j39_id.specs.declared.line_error.LineError.TheVariants.{ShortIdent}
use Rattle.j39_follow.specs.LogLines.{IsElsewhere, IsReadPart, IsTimeText, NamesInterface}
use Rattle.j39_follow.specs.Who.{unit_of_name}
use Rattle.j39_tp.specs.declared.packet.Packet.{Packet}
use Rattle.j39_audit.specs.AuditPasts.{AuditPast, AuditsLines, claims_before, nothing_read, with_next_number}
use Rattle.j39_audit.specs.AuditText.{groups_named, look_at, subjects, word_lines}
use Rattle.j39_audit.specs.Breaks.{line_time}
use Rattle.j39_audit.specs.Claiming.{HeardClaims, is_address_of, knowledge, sender_at}
use Rattle.j39_audit.specs.Counting.{most_times}
use Rattle.j39_audit.specs.Looking.{IsPacketOf, has_to_say_cannot, is_above_unplanned, is_claim, is_claiming, is_urgent, may_move_to, message_sent, told}
use Rattle.j39_audit.specs.SentMessages.{SentMessage, deviation}
use Rattle.j39_audit.specs.Settings.{Settings}
use Rattle.j39_audit.specs.declared.mark.Mark.{Mark}
use Rattle.j39_audit.specs.declared.mark.Word.{Word}
use Rattle.j39_audit.specs.declared.mark.Word.TheVariants.{Short, Stranger, Nobody as NobodyThere, Address, Cannot, Layout, NoFlow, Priority, Urgent}
use Rattle.j39_audit.specs.declared.senders.SureSender.{SureSender}
use Rattle.j39_audit.specs.declared.senders.SureSender.TheVariants.{Unit as OfUnit, Nobody}
use Rattle.j39_audit.specs.declared.tally.Occurrences.{Occurrences}
use Rattle.j39_audit.specs.Again.{is_again}

-- ---- lines

-- the line of this number, counted from 1, and what came so far once it has begun
pub record IsLineOf (s : Settings) (log : List Line) (number : ℕ) (past : AuditPast) (line : Line) : Type 0 where
  pub before : List Line
  pub behind : List Line
  pub row : log ≡ before ++ line ∷ behind
  pub number_is : number ≡ length before + 1
  pub just : AuditPast
  pub read : AuditsLines s nothing_read before just
  pub past_is : past ≡ with_next_number just

-- this part of a line is read, and the line isn't elsewhere
pub record IsReadHere (past : AuditPast) (line part : List ℕ) (named : Option (List ℕ)) : Type 0 where
  pub part_is : IsReadPart line part
  pub named_is : NamesInterface part named
  pub here : ¬ IsElsewhere past.interface part named

-- the line of this number is read as this frame, which doesn't stand there again, and is this transport packet or none, and these are
-- the claims before it
pub record IsFrameAt (s : Settings) (log : List Line) (number : ℕ) (claims : HeardClaims) (f : Frame) (packet : Option Packet) : Type 0 where
  pub past : AuditPast
  pub line : List ℕ
  pub line_is : IsLineOf s log number past (ShortLine line)
  pub part : List ℕ
  pub named : Option (List ℕ)
  pub reads : IsReadHere past line part named
  pub time : List ℕ
  pub spelled : Spells part f
  pub time_is : IsTimeText line time
  pub new : is_again s.plan past.taken (line_time s.plan time) f ≡ false
  pub packet_is : IsPacketOf f packet
  pub claims_are : claims ≡ claims_before s past (line_time s.plan time)

-- it has an identifier of 11 bits, and a frame came before it
pub record IsShortAt (s : Settings) (log : List Line) (number : ℕ) : Type 0 where
  pub past : AuditPast
  pub line : List ℕ
  pub line_is : IsLineOf s log number past (ShortLine line)
  pub part : List ℕ
  pub named : Option (List ℕ)
  pub reads : IsReadHere past line part named
  pub short : HasLineFault part ShortIdent
  pub behind : 0 < past.frames

-- ---- frames

-- a claim by a NAME of this unit, or of none
pub record IsClaimOf (s : Settings) (f : Frame) (unit : Option ℕ) : Type 0 where
  pub claim : is_claim f ≡ true
  pub unit_is : unit_of_name s.plan (name_in f) ≡ unit

-- another frame, from an address of which this is sure
pub record IsSentFrom (s : Settings) (claims : HeardClaims) (f : Frame) (sender : SureSender) : Type 0 where
  pub other : is_claim f ≡ false
  pub address : is_address f.ident.sa ≡ true
  pub sender_is : sender_at s (knowledge s claims) f.ident.sa ≡ sender

-- the unit claims at all, and the address is its own
pub record ClaimsRightly (s : Settings) (u a : ℕ) : Type 0 where
  pub claims : is_claiming s u ≡ true
  pub own : is_address_of s u a ≡ true

-- by these claims it has to give way, and says so, as its NAME doesn't let it choose; or this lets it choose, and it goes there
abbrev pub HasToSayCannot : Settings → HeardClaims → Frame → ℕ → Type 0
HasToSayCannot s claims f u = has_to_say_cannot s (knowledge s claims) (name_in f) u ≡ true

abbrev pub MayMoveThere : Settings → HeardClaims → Frame → ℕ → Type 0
MayMoveThere s claims f u = may_move_to s (knowledge s claims) (name_in f) u f.ident.sa ≡ true

-- a message of the unit, in one frame or announced by it, differs so from all that the plan has of the unit, and answers no request
pub record Differs (s : Settings) (claims : HeardClaims) (f : Frame) (packet : Option Packet) (m : Mark) : Type 0 where
  pub sent : IsSentFrom s claims f (OfUnit m.subject)
  pub message : SentMessage
  pub message_is : message_sent m.subject f packet ≡ Some message
  pub differs : told s (knowledge s claims) message ≡ Some m

-- the frame is one of those that the mark is for
abbrev pub IsAccusedAs : Settings → HeardClaims → Frame → Option Packet → Word → ℕ → ℕ → Type 0
IsAccusedAs s claims f packet Short subject group = ⊥
IsAccusedAs s claims f packet Stranger a group = IsClaimOf s f None × (s.plan.strangers ≡ 0) × (f.ident.sa ≡ a) × (group ≡ 0)
IsAccusedAs s claims f packet NobodyThere a group = IsSentFrom s claims f Nobody × (f.ident.sa ≡ a) × (group ≡ 0)
IsAccusedAs s claims f packet Address u group =
    IsClaimOf s f (Some u) × (f.ident.sa ≢ null_address) × (¬ ClaimsRightly s u f.ident.sa) × (¬ MayMoveThere s claims f u) × (group ≡ 0)
IsAccusedAs s claims f packet Cannot u group = IsClaimOf s f (Some u) × (f.ident.sa ≡ null_address) × (¬ HasToSayCannot s claims f u) × (group ≡ 0)
IsAccusedAs s claims f packet Layout u group = Differs s claims f packet (record { word = Layout; subject = u; group = group })
IsAccusedAs s claims f packet NoFlow u group = Differs s claims f packet (record { word = NoFlow; subject = u; group = group })
IsAccusedAs s claims f packet Priority u group = Differs s claims f packet (record { word = Priority; subject = u; group = group })
IsAccusedAs s claims f packet Urgent u group =
    ((IsClaimOf s f (Some u) × (is_above_unplanned s f ≡ true)) ⊎ (IsSentFrom s claims f (OfUnit u) × (is_urgent s u f ≡ true))) × (group ≡ 0)
IsAccusedAs s claims f packet _ subject group = ⊥

-- it is found at the line of this number
abbrev pub IsFoundAt : Settings → List Line → ℕ → Mark → Type 0
IsFoundAt s log number m =
    (IsShortAt s log number × (m ≡ record { word = Short; subject = 0; group = 0 }))
    ⊎ ((claims : HeardClaims) × (f : Frame) × (packet : Option Packet) × IsFrameAt s log number claims f packet
    × IsAccusedAs s claims f packet m.word m.subject m.group)

-- ---- counts

-- this is reported of a mark: it was found at so many lines, each counted once, and at this one first
pub record IsReportedAt (s : Settings) (log : List Line) (m : Mark) (t : Occurrences) : Type 0 where
  pub lines : List ℕ
  pub rising : AllPairs (λ (a b : ℕ). a < b) lines
  pub exact : (number : ℕ) → Contains lines number ↔ IsFoundAt s log number m
  pub times : t.times ≡ min (length lines) most_times
  pub first : (number : ℕ) (rest : List ℕ) → lines ≡ number ∷ rest → t.first ≡ number

-- the word accuses
abbrev pub IsAccusing : Word → Type 0
IsAccusing Short = Unit {0}
IsAccusing Stranger = Unit {0}
IsAccusing NobodyThere = Unit {0}
IsAccusing Address = Unit {0}
IsAccusing Cannot = Unit {0}
IsAccusing Layout = Unit {0}
IsAccusing NoFlow = Unit {0}
IsAccusing Priority = Unit {0}
IsAccusing Urgent = Unit {0}
IsAccusing _ = ⊥

abbrev pub LinesAreOfLog : Type 0
LinesAreOfLog = (s : Settings) (log : List Line) (end : AuditPast) → AuditsLines s nothing_read log end → (m : Mark) → IsAccusing m.word
    → IsReportedAt s log m (look_at end m)

-- the line of a mark is one of those that are written where they were found
abbrev pub IsListed : Settings → Mark → Type 0
IsListed s m = (m.subject < subjects s m.word) × (m.group < groups_named s m.word)

abbrev pub FoundAreListed : Type 0
FoundAreListed = (s : Settings) (log : List Line) (number : ℕ) (m : Mark) → IsFoundAt s log number m → IsListed s m

-- where strangers may come, no frame is accused of being one's, nor of being nobody's
abbrev pub NobodyIsUnplanned : Type 0
NobodyIsUnplanned = (s : Settings) (log : List Line) (end : AuditPast) → AuditsLines s nothing_read log end → 0 < s.plan.strangers
    → (word_lines s (look_at end) Stranger ≡ []) × (word_lines s (look_at end) NobodyThere ≡ [])
