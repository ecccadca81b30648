-- The text that the read command writes for a plan and a log.
use Rattle.std.specs.Prelude.{◌≡◌, ℕ, ◌+◌, ◌⊎◌, List, [], ◌∷◌, ◌++◌, length, All, codes, Some, None, Option}
use Rattle.j39_id.specs.FrameLine.{Spells, HasLineFault}
use Rattle.j39_id.specs.Lines.{Line, Short, Long, lines}
use Rattle.j39_id.specs.declared.frame.Frame.{Frame}
use Rattle.j39_id.specs.declared.ident.Ident.{Ident}
use Rattle.j39_id.specs.declared.line_error.LineError.{LineError}
use Rattle.j39_id.specs.declared.line_error.LineError.TheVariants.{Empty, ShortIdent}
use Rattle.j39_search.specs.ListPlaces.{ValueAt}
use Rattle.j39_network.specs.PlannedGroups.{IsSendable, IsFirstRefused}
use Rattle.j39_network.specs.declared.plan.Plan.{Plan}
use Rattle.j39_tp.specs.Carried.{Carried}
use Rattle.j39_tp.specs.declared.packet.Packet.{Packet}
use Rattle.j39_text.specs.Labels.{group_label}
use Rattle.j39_text.specs.Texts.{field}
use Rattle.j39_log.specs.LogFrames.{IsHeardAs, planned_group, planned}
use Rattle.j39_log.specs.LogPairs.{Seen, heard}
use Rattle.j39_log.specs.NamedReports.{named_report}
use Rattle.j39_stream.specs.declared.verdict.Verdict.{Verdict}
use Rattle.j39_stream.specs.declared.verdict.Verdict.TheVariants.{Done, Findings, Refused, Unreadable}

-- ---- a frame

-- the report of these bytes as the group at this place of the plan; nothing where none is planned
abbrev pub IsGroupReport : Plan → Option ℕ → Ident → List ℕ → List ℕ → Type 0
IsGroupReport plan None i bytes text = text ≡ []
IsGroupReport plan (Some g) i bytes text = ValueAt (λ group. text ≡ named_report plan group i bytes) plan.groups.items g

-- the list of packets carries no message at this place
abbrev pub CarriesNone : List Packet → ℕ → Type 0
CarriesNone h place = (pgn : ℕ) (message : List ℕ) → ¬ Carried h place pgn message

-- what is written at the last packet of a list: the report of the message that the list carries there
abbrev pub IsMessageText : Plan → List Packet → ℕ → Ident → List ℕ → Type 0
IsMessageText plan h place i text =
    ((pgn : ℕ) × (message : List ℕ) × Carried h place pgn message × IsGroupReport plan (planned plan pgn message) i message text)
    ⊎ (CarriesNone h place × (text ≡ []))

-- the packets that the pair of a packet's addresses heard before it
abbrev pub heard_before : List Seen → Ident → List Packet
heard_before before i = heard i.sa i.ps before

-- what is written at a frame, after these: the report of its group, or of the message that its packet completes
abbrev pub IsFrameReport : Plan → List Seen → Frame → Option Packet → List ℕ → Type 0
IsFrameReport plan before f None text = IsGroupReport plan (planned_group plan f) f.ident f.payload.items text
IsFrameReport plan before f (Some p) text =
    IsMessageText plan (heard_before before f.ident ++ p ∷ []) (length (heard_before before f.ident)) f.ident text

-- ---- a log

-- what came so far: the frames, and how many lines were skipped and bad
pub record Past : Type 0 where
  pub seen : List Seen
  pub skipped : ℕ
  pub bad : ℕ

abbrev pub nothing_yet : Past
nothing_yet = record { seen = []; skipped = 0; bad = 0 }

abbrev pub with_frame : Past → Frame → Option Packet → Past
with_frame past f packet = record past { seen = past.seen ++ record { frame = f; packet = packet } ∷ [] }

abbrev pub with_bad : Past → Past
with_bad past = record past { bad = past.bad + 1 }

-- a line that spells no frame counts as bad; one without a word isn't counted, and one of an 11-bit identifier is skipped
abbrev pub passed_over : LineError → Past → Past
passed_over Empty past = past
passed_over ShortIdent past = record past { skipped = past.skipped + 1 }
passed_over _ past = with_bad past

-- from what came so far a frame leads to this, and this is written at it
abbrev pub ReadsFrame : Plan → Past → Frame → Past → List ℕ → Type 0
ReadsFrame plan past f next text =
    (packet : Option Packet) × IsHeardAs plan f packet × IsFrameReport plan past.seen f packet text × (next ≡ with_frame past f packet)

-- so does a line: as the frame that it spells, or it is passed over
abbrev pub ReadsLine : Plan → Past → Line → Past → List ℕ → Type 0
ReadsLine plan past (Short bytes) next text =
    ((f : Frame) × Spells bytes f × ReadsFrame plan past f next text)
    ⊎ ((e : LineError) × HasLineFault bytes e × (next ≡ passed_over e past) × (text ≡ []))
ReadsLine plan past Long next text = (next ≡ with_bad past) × (text ≡ [])

-- so do all lines, one after another
abbrev pub ReadsLines : Plan → Past → List Line → Past → List ℕ → Type 0
ReadsLines plan past [] end text = (end ≡ past) × (text ≡ [])
ReadsLines plan past (line ∷ rest) end text =
    (next : Past) × (front : List ℕ) × (back : List ℕ) × ReadsLine plan past line next front
    × ReadsLines plan next rest end back × (text ≡ front ++ back)

unfoldable pub counts_line : ℕ → ℕ → ℕ → List ℕ
counts_line frames skipped bad =
    field (codes "frames ") frames ++ (field (codes " skipped ") skipped ++ (field (codes " bad ") bad ++ 10 ∷ []))

abbrev pub count_line : Past → List ℕ
count_line past = counts_line (length past.seen) past.skipped past.bad

-- what is written of a log: what its lines report, and how many lines there were of each sort
pub record IsLogText (plan : Plan) (log text : List ℕ) : Type 0 where
  pub past : Past
  pub reports : List ℕ
  pub read : ReadsLines plan nothing_yet (lines log) past reports
  pub text_is : text ≡ reports ++ count_line past

-- ---- a plan

unfoldable pub refused_plan_line : Plan → ℕ → List ℕ
refused_plan_line plan g = codes "refused plan BadGroup " ++ (group_label plan g ++ 10 ∷ [])

-- the line of a plan that is refused by this group, with the verdict
abbrev pub IsRefused : Plan → ℕ → List ℕ → Verdict → Type 0
IsRefused plan g text verdict = (text ≡ refused_plan_line plan g) × (verdict ≡ Refused)

-- what is written for a plan and a log, with the verdict; of the log of a refused plan nothing is read
abbrev pub IsReadText : Plan → List ℕ → List ℕ → Verdict → Type 0
IsReadText plan log text Done = All IsSendable plan.groups.items × IsLogText plan log text
IsReadText plan log text Refused = (g : ℕ) × IsFirstRefused plan.groups.items g × (text ≡ refused_plan_line plan g) × (log ≡ [])
IsReadText plan log text Findings = ⊥
IsReadText plan log text Unreadable = ⊥

-- ---- a law

-- for a plan and a log there is one text, and one verdict
abbrev pub LogHasOneText : Type 0
LogHasOneText = (plan : Plan) (log text other : List ℕ) (verdict outcome : Verdict)
    → IsReadText plan log text verdict → IsReadText plan log other outcome → (text ≡ other) × (verdict ≡ outcome)
