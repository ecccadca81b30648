-- The text that the frame command writes for a line.
use Rattle.std.specs.Prelude.{◌≡◌, ℕ, ◌==◌, ◌||◌, if◌then◌else◌, List, [], ◌∷◌, ◌++◌, codes, decimal}
use Rattle.std.specs.Int.{w64, to_be_bytes}
use Rattle.hex.specs.Hex.{encode_upper}
use Rattle.std.specs.List.{before_first}
use Rattle.j39_id.specs.Addresses.{global_address}
use Rattle.j39_id.specs.Ident.{pgn_of}
use Rattle.j39_id.specs.Name.{fields_of}
use Rattle.j39_id.specs.Pgn.{is_pdu2}
use Rattle.j39_id.specs.FrameLine.{Spells, HasLineFault, canon}
use Rattle.j39_id.specs.FrameMeaning.{cannot_claim, claims_address, name_in, requested_group, requests_group}
use Rattle.j39_id.specs.Lines.{is_line_feed}
use Rattle.j39_id.specs.declared.name_fields.NameFields.{NameFields}
use Rattle.j39_id.specs.declared.ident.Ident.{Ident}
use Rattle.j39_id.specs.declared.frame.Frame.{Frame}
use Rattle.j39_id.specs.declared.line_error.LineError.{LineError}
use Rattle.j39_id.specs.declared.line_error.LineError.TheVariants.{Empty, NoHash, ShortIdent, BadIdent, TooLong, BadData}
use Rattle.j39_text.specs.Texts.{field}
use Rattle.j39_stream.specs.declared.verdict.Verdict.{Verdict}
use Rattle.j39_stream.specs.declared.verdict.Verdict.TheVariants.{Done, Findings, Refused, Unreadable}

-- a frame of a group that names no destination, or to the global address, goes to all
unfoldable pub destination_text : Ident → List ℕ
destination_text i = if is_pdu2 (pgn_of i) || i.ps == global_address then codes "all" else decimal i.ps

-- a frame of the extended data page belongs to another protocol
unfoldable pub page_text : Ident → List ℕ
page_text i = if i.edp == 1 then codes " other" else []

unfoldable pub route_line : Ident → List ℕ
route_line i =
    field (codes "priority ") i.priority ++ (field (codes " pgn ") (pgn_of i) ++ (field (codes " from ") i.sa
    ++ (codes " to " ++ (destination_text i ++ (page_text i ++ 10 ∷ [])))))

unfoldable pub head_lines : Frame → List ℕ
head_lines f = codes "frame " ++ (canon f ++ (10 ∷ [] ++ route_line f.ident))

-- ---- what a frame says besides its route

-- the fields of a NAME from the lowest up, in three parts
unfoldable pub lower_fields : NameFields → List ℕ
lower_fields f =
    field (codes "identity ") f.identity ++ (field (codes " manufacturer ") f.manufacturer ++ field (codes " ecu ") f.ecu)

unfoldable pub middle_fields : NameFields → List ℕ
middle_fields f =
    field (codes " function_instance ") f.function_instance ++ (field (codes " function ") f.function
    ++ field (codes " reserved ") f.reserved)

unfoldable pub upper_fields : NameFields → List ℕ
upper_fields f =
    field (codes " system ") f.system ++ (field (codes " system_instance ") f.system_instance
    ++ (field (codes " industry ") f.industry ++ field (codes " arbitrary ") f.arbitrary))

unfoldable pub fields_line : NameFields → List ℕ
fields_line f = lower_fields f ++ (middle_fields f ++ (upper_fields f ++ 10 ∷ []))

-- the digits of a NAME, and its fields in a line of their own
unfoldable pub name_lines : ℕ → List ℕ
name_lines n = encode_upper (to_be_bytes w64 n) ++ (10 ∷ [] ++ fields_line (fields_of n))

unfoldable pub claim_lines : Frame → List ℕ
claim_lines f = field (codes "claim ") f.ident.sa ++ (codes " name " ++ name_lines (name_in f))

unfoldable pub cannot_claim_lines : Frame → List ℕ
cannot_claim_lines f = codes "cannot name " ++ name_lines (name_in f)

unfoldable pub request_line : Frame → List ℕ
request_line f = field (codes "request ") (requested_group f) ++ 10 ∷ []

unfoldable pub meaning_lines : Frame → List ℕ
meaning_lines f =
    if claims_address f then claim_lines f
    else if cannot_claim f then cannot_claim_lines f
    else if requests_group f then request_line f
    else []

-- ---- a line

-- all lines of a frame
unfoldable pub frame_lines : Frame → List ℕ
frame_lines f = head_lines f ++ meaning_lines f

abbrev pub cause_text : LineError → List ℕ
cause_text Empty = codes "Empty"
cause_text NoHash = codes "NoHash"
cause_text ShortIdent = codes "ShortIdent"
cause_text BadIdent = codes "BadIdent"
cause_text TooLong = codes "TooLong"
cause_text BadData = codes "BadData"

unfoldable pub refused_frame_line : LineError → List ℕ
refused_frame_line e = codes "refused " ++ (cause_text e ++ 10 ∷ [])

-- what is written for a line, with the verdict
abbrev pub IsFrameText : List ℕ → List ℕ → Verdict → Type 0
IsFrameText line text Done = (f : Frame) × Spells line f × (text ≡ frame_lines f)
IsFrameText line text Unreadable = (e : LineError) × HasLineFault line e × (text ≡ refused_frame_line e)
IsFrameText line text Findings = ⊥
IsFrameText line text Refused = ⊥

-- what is written for an input: of its first line
abbrev pub IsInputText : List ℕ → List ℕ → Verdict → Type 0
IsInputText input text verdict = IsFrameText (before_first is_line_feed input) text verdict

-- ---- a law

-- for a line there is one text, and one verdict
abbrev pub LineHasOneText : Type 0
LineHasOneText = (line text other : List ℕ) (verdict outcome : Verdict)
    → IsFrameText line text verdict → IsFrameText line other outcome → (text ≡ other) × (verdict ≡ outcome)
