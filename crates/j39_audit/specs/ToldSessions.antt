-- What is told of sessions of the transport protocol, of whom.
use Rattle.std.specs.Prelude.{ℕ, ◌||◌, Bool, if◌then◌else◌, List, [], ◌∷◌, ◌++◌, Option, Some, None}
use Rattle.j39_id.specs.declared.frame.Frame.{Frame}
use Rattle.j39_sessions.specs.Sessions.{AllSessions, fault_at, no_sessions, sessions_behind}
use Rattle.j39_sessions.specs.declared.fault.SessionFault.{SessionFault}
use Rattle.j39_sessions.specs.declared.fault.SessionFault.TheVariants.{Announcement, Grant, Packet, Acknowledged}
use Rattle.j39_audit.specs.Counting.{Noted}
use Rattle.j39_audit.specs.SentMessages.{noted_at}
use Rattle.j39_audit.specs.Settings.{Settings}
use Rattle.j39_audit.specs.declared.mark.Word.{Word}
use Rattle.j39_audit.specs.declared.mark.Word.TheVariants.{WrongAnnouncement, WrongGrant, WrongPacket, WrongReceipt}

-- the sessions that are known, and what was found
pub record ToldSessions : Type 0 where
  pub sessions : AllSessions
  pub told : List Noted

abbrev pub no_sessions_told : ToldSessions
no_sessions_told = record { sessions = no_sessions; told = [] }

-- ---- where they are forgotten

abbrev pub forgotten : ToldSessions → ToldSessions
forgotten m = record m { sessions = no_sessions }

-- just before a frame, where the log breaks off or a gap ends
unfoldable pub sessions_before : Bool → Bool → ToldSessions → ToldSessions
sessions_before broken gap m = if broken then forgotten m else if gap then forgotten m else m

-- ---- a frame

abbrev pub word_of_fault : SessionFault → Word
word_of_fault Announcement = WrongAnnouncement
word_of_fault Grant = WrongGrant
word_of_fault Packet = WrongPacket
word_of_fault Acknowledged = WrongReceipt

-- of a frame nothing is told whose unit isn't known
abbrev pub fault_noted : Option ℕ → ℕ → Option SessionFault → List Noted
fault_noted (Some u) line (Some fault) = noted_at line (word_of_fault fault) u 0 ∷ []
fault_noted _ line _ = []

abbrev pub sessions_with : Option ℕ → Frame → ℕ → ToldSessions → ToldSessions
sessions_with unit f line m = record { sessions = sessions_behind f m.sessions; told = m.told ++ fault_noted unit line (fault_at f m.sessions) }

-- of a whole log
unfoldable pub sessions_with_frame : Settings → Option ℕ → Frame → ℕ → ToldSessions → ToldSessions
sessions_with_frame s unit f line m = if s.part then m else sessions_with unit f line m
