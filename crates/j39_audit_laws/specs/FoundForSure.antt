-- What is found for certain in a log: what accuses is written, and where no unit moves each frame is some unit's, or nobody's.
use Rattle.std.specs.Prelude.{◌≡◌, ◌⊎◌, ℕ, true, false, List, ◌++◌, Option, Some}
use Rattle.std.specs.List.{slice_get}
use Rattle.j39_id.specs.Addresses.{is_address}
use Rattle.j39_id.specs.FrameMeaning.{name_in}
use Rattle.j39_id.specs.Lines.{Line, lines}
use Rattle.j39_id.specs.Name.{is_arbitrary}
use Rattle.j39_id.specs.declared.frame.Frame.{Frame}
use Rattle.j39_network.specs.PlannedUnits.{units_of}
use Rattle.j39_network.specs.Staying.{StaysBeside}
use Rattle.j39_network.specs.declared.plan.Plan.{Plan}
use Rattle.j39_network.specs.declared.plan.unit_plan.UnitPlan.{UnitPlan}
use Rattle.j39_follow.specs.Who.{unit_of_name}
use Rattle.j39_stream.specs.declared.verdict.Verdict.{Verdict}
use Rattle.j39_stream.specs.declared.verdict.Verdict.TheVariants.{Findings}
use Rattle.j39_tp.specs.declared.packet.Packet.{Packet}
use Rattle.j39_audit.specs.AuditPasts.{AuditPast, AuditsLines, nothing_read}
use Rattle.j39_audit.specs.AuditText.{IsAuditedLog, accusing_line, look_at, mark_at}
use Rattle.j39_audit.specs.Claiming.{HeardClaims}
use Rattle.j39_audit.specs.Looking.{is_claim}
use Rattle.j39_audit.specs.Settings.{AreMoving, Settings}
use Rattle.j39_audit.specs.declared.mark.Mark.{Mark}
use Rattle.j39_audit.specs.declared.mark.Word.TheVariants.{Nobody as NobodyThere, Unsure}
use Rattle.j39_audit.specs.declared.senders.SureSender.TheVariants.{Unit as OfUnit}
use Rattle.j39_audit.specs.declared.tally.Occurrences.{Occurrences}
use Rattle.j39_audit_laws.specs.FoundLines.{IsAccusing, IsFoundAt, IsFrameAt, IsSentFrom, IsReportedAt}

-- ---- what is found is written

-- the text has the line of a mark of which this is reported
pub record IsWrittenIn (plan : Plan) (text : List ℕ) (m : Mark) (t : Occurrences) : Type 0 where
  pub front : List ℕ
  pub behind : List ℕ
  pub row : text ≡ front ++ (accusing_line plan m t ++ behind)

-- of each frame, and each line with an identifier of 11 bits, for which a word is: the text has its line, with how many lines have it and the
-- first of them, and the verdict is that there are findings
abbrev pub FoundAreWritten : Type 0
FoundAreWritten = (s : Settings) (log text : List ℕ) (verdict : Verdict) → IsAuditedLog s log text verdict
    → (number : ℕ) (m : Mark) → IsAccusing m.word → IsFoundAt s (lines log) number m
    → (verdict ≡ Findings) × ((t : Occurrences) × IsReportedAt s (lines log) m t × IsWrittenIn s.plan text m t)

-- ---- where no unit moves

-- this is the unit's planned address
pub record IsPlannedAt (plan : Plan) (u a : ℕ) : Type 0 where
  pub unit : UnitPlan
  pub unit_is : slice_get plan.units.items u ≡ Some unit
  pub address : unit.address ≡ a

-- no unit may move, no two are planned at one address, and no units come that aren't planned
pub record HasFixedUnits (plan : Plan) : Type 0 where
  pub still : (u : ℕ) (unit : UnitPlan) → slice_get plan.units.items u ≡ Some unit → is_arbitrary unit.name ≡ true
      → StaysBeside plan.strangers (units_of plan) u
  pub apart : (u v a : ℕ) → IsPlannedAt plan u a → IsPlannedAt plan v a → u ≡ v
  pub no_strangers : plan.strangers ≡ 0

-- each claim is one of a unit of the plan, of its own address
abbrev pub ClaimsArePlanned : Settings → List Line → Type 0
ClaimsArePlanned s log = (number : ℕ) (claims : HeardClaims) (f : Frame) (packet : Option Packet) → IsFrameAt s log number claims f packet
    → is_claim f ≡ true → (u : ℕ) × (unit_of_name s.plan (name_in f) ≡ Some u) × IsPlannedAt s.plan u f.ident.sa

-- the frame counts for the unit that is planned at its source, or it is nobody's, where none is planned there, and that is found
abbrev pub IsCountedOrNobodys : Settings → List Line → ℕ → HeardClaims → Frame → Type 0
IsCountedOrNobodys s log number claims f =
    ((u : ℕ) × IsPlannedAt s.plan u f.ident.sa × IsSentFrom s claims f (OfUnit u))
    ⊎ (((u : ℕ) → ¬ IsPlannedAt s.plan u f.ident.sa) × IsFoundAt s log number (mark_at NobodyThere f.ident.sa 0))

-- each frame from an address that isn't a claim
abbrev pub NoneIsUnsure : Type 0
NoneIsUnsure = (s : Settings) (log : List Line) → AreMoving s.plan s.moving → HasFixedUnits s.plan → ClaimsArePlanned s log
    → (number : ℕ) (claims : HeardClaims) (f : Frame) (packet : Option Packet) → IsFrameAt s log number claims f packet
    → is_claim f ≡ false → is_address f.ident.sa ≡ true → IsCountedOrNobodys s log number claims f

-- and so none is reported as unsure
abbrev pub UnsureIsNone : Type 0
UnsureIsNone = (s : Settings) (log : List Line) (end : AuditPast) → AreMoving s.plan s.moving → HasFixedUnits s.plan → ClaimsArePlanned s log
    → AuditsLines s nothing_read log end → (look_at end (mark_at Unsure 0 0)).times ≡ 0
