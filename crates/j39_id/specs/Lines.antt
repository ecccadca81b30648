-- The lines of a byte stream, and the cases of a cutter that yields them byte by byte.
use Rattle.std.specs.Prelude.{◌≡◌, ℕ, ◌==◌, ◌||◌, ◌&&◌, not, nat_lt, Bool, true, false, if◌then◌else◌, List, [], ◌∷◌, ◌++◌, length, map}
use Rattle.std.specs.List.{slice_split}
use Rattle.j39_id.specs.declared.cut.Cut.{Cut}
use Rattle.j39_id.specs.declared.cut.Cut.TheVariants as cuts

-- the most bytes that a line may have
abbrev pub line_limit : ℕ
line_limit = 8192

abbrev pub is_line_feed : ℕ → Bool
is_line_feed b = b == 10

-- what is reported of a line: its bytes, or that it has more than a line may have
pub data Line : Type 0 where
  Short : List ℕ → Line
  Long : Line

abbrev pub line_of : List ℕ → Line
line_of part = if nat_lt line_limit (length part) then Long else Short part

-- a last part counts if it isn't empty
abbrev pub without_empty_end : List (List ℕ) → List (List ℕ)
without_empty_end [] = []
without_empty_end (part ∷ []) = if nat_lt 0 (length part) then part ∷ [] else []
without_empty_end (part ∷ next ∷ parts) = part ∷ without_empty_end (next ∷ parts)

-- the lines of a text: the parts that line feeds end, and what stands behind the last line feed
unfoldable pub lines : List ℕ → List Line
lines text = map line_of (without_empty_end (slice_split is_line_feed text))

-- ---- a cutter

-- the line that a cutter is in: its bytes so far, at most the limit, and whether it was reported as long
pub record Pending : Type 0 where
  pub held : List ℕ
  pub reported_long : Bool

abbrev pub at_start : Pending
at_start = record { held = []; reported_long = false }

-- what a contract sees of a cutter: the line that it is in, and the line that it gives
pub record CutterParts : Type 0 where
  pub pending : Pending
  pub line : List ℕ

-- the answer to a byte: a line feed ends a line, if it wasn't reported as long; a byte above the limit makes it long
abbrev pub answer_to : Pending → ℕ → Cut
answer_to p b =
    if p.reported_long then cuts.More
    else if is_line_feed b then cuts.Line
    else if length p.held == line_limit then cuts.Long
    else cuts.More

-- the line that a cutter is in behind that byte
abbrev pub behind : Pending → ℕ → Pending
behind p b =
    if is_line_feed b then at_start
    else if p.reported_long || length p.held == line_limit then record { held = p.held; reported_long = true }
    else record { held = p.held ++ b ∷ []; reported_long = false }

-- the answer to the end: a last line that isn't empty, if it wasn't reported as long
abbrev pub answer_to_end : Pending → Cut
answer_to_end p = if not p.reported_long && nat_lt 0 (length p.held) then cuts.Line else cuts.More

-- the line that a cutter gives once it answered so
abbrev pub cutter_line : Cut → Pending → List ℕ
cutter_line cuts.Line p = p.held
cutter_line _ p = []

-- ---- its answers to a text

-- what an answer reports
abbrev pub yields : Cut → List ℕ → List Line
yields cuts.More line = []
yields cuts.Line line = Short line ∷ []
yields cuts.Long line = Long ∷ []

-- what its answers to the bytes of a text report, one byte after another, and the line that it is in then
abbrev pub yielded : Pending → List ℕ → List Line
yielded p [] = []
yielded p (b ∷ bs) = yields (answer_to p b) p.held ++ yielded (behind p b) bs

abbrev pub behind_all : Pending → List ℕ → Pending
behind_all p [] = p
behind_all p (b ∷ bs) = behind_all (behind p b) bs

-- what its answer to the end reports
abbrev pub yielded_at_end : Pending → List Line
yielded_at_end p = yields (answer_to_end p) p.held

-- ---- laws

-- a new cutter reports the lines of each text
abbrev pub YieldsLines : Type 0
YieldsLines = (text : List ℕ) → yielded at_start text ++ yielded_at_end (behind_all at_start text) ≡ lines text

-- a piece after another is reported as both at once
abbrev pub YieldsPieces : Type 0
YieldsPieces = (p : Pending) (front back : List ℕ) → yielded p (front ++ back) ≡ yielded p front ++ yielded (behind_all p front) back

abbrev pub IsBehindPieces : Type 0
IsBehindPieces = (p : Pending) (front back : List ℕ) → behind_all p (front ++ back) ≡ behind_all (behind_all p front) back
