-- What a line of a log says beside its frame: the direction behind it, the interface before it, and the time in front.
use Rattle.std.specs.Prelude.{◌≡◌, ◌≢◌, ◌⊎◌, ◌≤◌, ℕ, ◌<◌, ◌+◌, ◌-◌, ◌*◌, ◌==◌, ◌&&◌, nat_lt, not, Bool, true, false, if◌then◌else◌}
use Rattle.std.specs.Prelude.{List, [], ◌∷◌, ◌++◌, length, take, drop, slice_index, slice_range, codes, Option, Some, None}
use Rattle.std.specs.Char.{is_ascii_digit}
use Rattle.std.specs.List.{All, AllPass, list_all, position}
use Rattle.std.specs.Str.Parse.{digits_value}
use Rattle.j39_id.specs.FrameLine.{IsLastWord, Spells, is_separator}
use Rattle.j39_id.specs.declared.frame.Frame.{Frame}

-- the first word of a line: nothing but separators stands before it, and behind it the line ends or is parted
pub record IsFirstWord (line word : List ℕ) : Type 0 where
  pub front : List ℕ
  pub back : List ℕ
  pub row : line ≡ front ++ (word ++ back)
  pub some : 0 < length word
  pub whole : All (λ c. is_separator c ≡ false) word
  pub blank : AllPass is_separator front
  pub parted : 0 < length back → is_separator (slice_index back 0) ≡ true

-- ---- the direction

-- received or transmitted, as loggers append it
abbrev pub IsDirection : List ℕ → Type 0
IsDirection word = (word ≡ codes "R") ⊎ (word ≡ codes "T")

-- the line ends in a word of direction, and this stands before it, with a word in it
pub record EndsInDirection (line front : List ℕ) : Type 0 where
  pub word : List ℕ
  pub last : IsLastWord line word
  pub direction : IsDirection word
  pub front_is : last.front ≡ front
  pub worded : ¬ AllPass is_separator front

-- the part of a line that is read: what stands before a word of direction, else all of it
abbrev pub IsReadPart : List ℕ → List ℕ → Type 0
IsReadPart line part = EndsInDirection line part ⊎ (((front : List ℕ) → ¬ EndsInDirection line front) × (part ≡ line))

-- ---- the time

-- a digit or a point
abbrev pub IsOfTime : ℕ → Type 0
IsOfTime c = ((48 ≤ c) × (c ≤ 57)) ⊎ (c ≡ 46)

-- a time: 1 to 30 digits and points in parentheses
pub record IsTime (word : List ℕ) : Type 0 where
  pub digits : List ℕ
  pub row : word ≡ 40 ∷ (digits ++ 41 ∷ [])
  pub some : 1 ≤ length digits
  pub room : length digits ≤ 30
  pub sort : All IsOfTime digits

-- the first word of the line is this time
abbrev pub BeginsWithTime : List ℕ → List ℕ → Type 0
BeginsWithTime line word = IsFirstWord line word × IsTime word

-- what is printed of the time of a line
abbrev pub IsTimeText : List ℕ → List ℕ → Type 0
IsTimeText line text =
    BeginsWithTime line text ⊎ (((word : List ℕ) → ¬ BeginsWithTime line word) × (text ≡ codes "-"))

-- ---- the time as a number

-- 1 to 12 digits of whole seconds
abbrev pub are_seconds : List ℕ → Bool
are_seconds digits = nat_lt 0 (length digits) && (nat_lt (length digits) 13 && list_all is_ascii_digit digits)

-- one decimal or more
abbrev pub are_decimals : List ℕ → Bool
are_decimals digits = nat_lt 0 (length digits) && list_all is_ascii_digit digits

-- in microseconds; decimals behind the sixth are passed over
abbrev pub microseconds : List ℕ → List ℕ → ℕ
microseconds whole decimals = digits_value 10 whole * 1000000 + digits_value 10 (take 6 (decimals ++ codes "000000"))

-- of whole seconds, or of whole seconds and decimals, with a point between them
abbrev pub time_with_point : List ℕ → Option ℕ → Option ℕ
time_with_point digits None = if are_seconds digits then Some (microseconds digits []) else None
time_with_point digits (Some point) =
    if are_seconds (take point digits) && are_decimals (drop (point + 1) digits)
    then Some (microseconds (take point digits) (drop (point + 1) digits)) else None

-- the time of a line in microseconds, by what is printed of it, if it is a number of seconds
unfoldable pub moment_of : List ℕ → Option ℕ
moment_of text =
    let digits = slice_range text 1 (length text - 1) in
    time_with_point digits (position (λ c. c == 46) digits)

-- ---- the interface

-- the word before the last word of the part that is read, where it isn't a time
pub record IsInterface (part interface : List ℕ) : Type 0 where
  pub word : List ℕ
  pub last : IsLastWord part word
  pub before : IsLastWord last.front interface
  pub other : ¬ IsTime interface

-- the part that is read names this interface, or none
abbrev pub NamesInterface : List ℕ → Option (List ℕ) → Type 0
NamesInterface part (Some interface) = IsInterface part interface
NamesInterface part None = (interface : List ℕ) → ¬ IsInterface part interface

-- this stands in the line as a word, parted from what is beside it
pub record HasWord (line word : List ℕ) : Type 0 where
  pub front : List ℕ
  pub back : List ℕ
  pub row : line ≡ front ++ (word ++ back)
  pub begins : 0 < length front → is_separator (slice_index front (length front - 1)) ≡ true
  pub ends : 0 < length back → is_separator (slice_index back 0) ≡ true

-- none but the last word has a '#'
abbrev pub IsMarkedLast : List ℕ → Type 0
IsMarkedLast part = (word : List ℕ) (last : IsLastWord part word) → list_all (λ c. not (c == 35)) last.front ≡ true

-- a line that spells no frame looks like one of another interface: a time stands first, none of its words is the log's interface, and
-- none but the last has a '#'
pub record LooksElsewhere (log part : List ℕ) : Type 0 where
  pub time : List ℕ
  pub timed : BeginsWithTime part time
  pub other : ¬ HasWord part log
  pub marked : IsMarkedLast part

-- a line is elsewhere that names another interface than the log's, where it spells a frame or looks like one of another interface;
-- before the log has one no line is
abbrev pub IsElsewhere : Option (List ℕ) → List ℕ → Option (List ℕ) → Type 0
IsElsewhere (Some log) part (Some line) = (line ≢ log) × (((f : Frame) × Spells part f) ⊎ LooksElsewhere log part)
IsElsewhere _ part _ = ⊥

-- the interface of the log behind a line that was read as a frame: the first that one names
abbrev pub interface_behind : Option (List ℕ) → Option (List ℕ) → Option (List ℕ)
interface_behind (Some log) line = Some log
interface_behind None line = line
