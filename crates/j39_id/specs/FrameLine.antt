-- Frame lines: what spells a frame, the one canonical text, and why a line is refused.
use Rattle.std.specs.Prelude.{◌≡◌, ℕ, ◌-◌, ◌*◌, ◌<◌, ◌≤◌, ◌==◌, ◌||◌, ◌&&◌, nat_lt, Bool, true, false, if◌then◌else◌, List, [], ◌∷◌, ◌++◌, length, slice_index}
use Rattle.std.specs.Prelude.{Option, Some, None, is_none, Result, Ok, Err, is_err}
use Rattle.std.specs.List.{All, AllPass, list_all, position, before_first, after_first}
use Rattle.std.specs.Int.{w32, to_be_bytes, from_be_bytes}
use Rattle.hex.specs.Hex.{decode_of, decode_sized, encode_upper, is_hex_digit}
use Rattle.hex.specs.declared.error.FromHexError.{FromHexError}
use Rattle.j39_id.specs.FirstFault.{first_fault}
use Rattle.j39_id.specs.Ident.{bits, identifier_end}
use Rattle.j39_id.specs.Limits.{frame_bytes}
use Rattle.j39_id.specs.declared.frame.Frame.{Frame}
use Rattle.j39_id.specs.declared.line_error.LineError.{LineError}
use Rattle.j39_id.specs.declared.line_error.LineError.TheVariants.{Empty, NoHash, ShortIdent, BadIdent, TooLong, BadData}

-- a space, a tab or a carriage return parts the words of a line
abbrev pub is_separator : ℕ → Bool
is_separator c = c == 32 || (c == 9 || c == 13)

-- the last word of a line: the line is a front, the word and a back in a row; the word has no separator,
-- the front is empty or ends with one, and the back has nothing else
pub record IsLastWord (line word : List ℕ) : Type 0 where
  pub front : List ℕ
  pub back : List ℕ
  pub row : line ≡ front ++ (word ++ back)
  pub some : 0 < length word
  pub whole : All (λ c. is_separator c ≡ false) word
  pub parted : 0 < length front → is_separator (slice_index front (length front - 1)) ≡ true
  pub blank : AllPass is_separator back

-- the last word of a line, and what stands before it
abbrev pub SplitsLast : List ℕ → List ℕ → List ℕ → Type 0
SplitsLast line front word = (last : IsLastWord line word) × (last.front ≡ front)

-- the number of four bytes, where it is an identifier's
abbrev pub identifier_in_bytes : Result (List ℕ) FromHexError → Option ℕ
identifier_in_bytes (Ok bytes) = if nat_lt (from_be_bytes w32 bytes) identifier_end then Some (from_be_bytes w32 bytes) else None
identifier_in_bytes (Err e) = None

-- the number that eight hex digits stand for, where it is an identifier's
abbrev pub identifier_in : List ℕ → Option ℕ
identifier_in digits = identifier_in_bytes (decode_sized digits 4)

-- the digits that a frame's bytes have room for, two for each
abbrev pub payload_digits : ℕ
payload_digits = 2 * frame_bytes

-- a word is the digits of a number, a hash and two digits for each byte
pub record WordSpells (word : List ℕ) (number : ℕ) (payload : List ℕ) : Type 0 where
  pub digits : List ℕ
  pub rest : List ℕ
  pub parts : word ≡ digits ++ 35 ∷ rest
  pub identifier : identifier_in digits ≡ Some number
  pub room : length rest ≤ payload_digits
  pub bytes : decode_of rest ≡ Ok payload

-- the last word of the line spells the number and the bytes
abbrev pub LineSpells : List ℕ → ℕ → List ℕ → Type 0
LineSpells line number payload = (word : List ℕ) × IsLastWord line word × WordSpells word number payload

-- the line spells the frame
abbrev pub Spells : List ℕ → Frame → Type 0
Spells line f = LineSpells line (bits f.ident) f.payload.items

-- the one text that is printed: the digits of the number, the hash and the digits of the bytes, in capitals
abbrev pub canon_text : ℕ → List ℕ → List ℕ
canon_text number payload = encode_upper (to_be_bytes w32 number) ++ 35 ∷ encode_upper payload

abbrev pub canon : Frame → List ℕ
canon f = canon_text (bits f.ident) f.payload.items

abbrev pub is_hash : ℕ → Bool
is_hash c = c == 35

-- what stands before the first hash of a word, and what stands after it
abbrev pub before_hash : List ℕ → List ℕ
before_hash word = before_first is_hash word

abbrev pub after_hash : List ℕ → List ℕ
after_hash word = after_first is_hash word

-- the refusals of a word in the order in which they are looked for, each with whether it holds
abbrev pub word_faults : List ℕ → List (LineError × Bool)
word_faults word =
    (NoHash, is_none (position is_hash word))
    ∷ (ShortIdent, length (before_hash word) == 3 && list_all is_hex_digit (before_hash word))
    ∷ (BadIdent, is_none (identifier_in (before_hash word)))
    ∷ (TooLong, nat_lt payload_digits (length (after_hash word)))
    ∷ (BadData, is_err (decode_of (after_hash word)))
    ∷ []

abbrev pub IsFirstFault : List ℕ → LineError → Type 0
IsFirstFault word e = first_fault (word_faults word) ≡ Some e

-- the line has no word, or its last word has this fault first
abbrev pub HasLineFault : List ℕ → LineError → Type 0
HasLineFault line Empty = AllPass is_separator line
HasLineFault line e = (word : List ℕ) × IsLastWord line word × IsFirstFault word e

-- ---- laws

-- a line spells at most one frame
abbrev pub SpellsAtMostOne : Type 0
SpellsAtMostOne = (line : List ℕ) (f g : Frame) → Spells line f → Spells line g → f ≡ g

-- a line that spells a frame has no fault
abbrev pub SpelledHasNoFault : Type 0
SpelledHasNoFault = (line : List ℕ) (f : Frame) (e : LineError) → Spells line f → ¬ HasLineFault line e

-- a line has at most one fault
abbrev pub HasAtMostOneFault : Type 0
HasAtMostOneFault = (line : List ℕ) (d e : LineError) → HasLineFault line d → HasLineFault line e → d ≡ e
