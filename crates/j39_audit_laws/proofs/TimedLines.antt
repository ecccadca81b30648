-- Lines of a log that have a time and a frame, and no interface: they are read as this frame, and as no other.
use Rattle.std.proofs.Common.{◌≡◌, ℕ, ◌+◌, ◌-◌, ◌<◌, ◌≤◌, true, false, Bool, List, [], ◌∷◌, ◌++◌, append_assoc, length, slice_index, codes, All, Option, Some}
use Rattle.std.proofs.Common.{None, refl, sym, ap, ◌∙◌}
use Rattle.std.proofs.Common.{subst, inl, inr, arith, if◌then◌else◌, is_none}
use Rattle.std.proofs.lemmas.List.{length-append}
use Rattle.std.proofs.lemmas.List.Elements.{All-cons, All-nil, All-weaker}
use Rattle.std.proofs.lemmas.List.Sums.{AllPass-from_list_all}
use Rattle.std.proofs.lemmas.Bool.{and_parts, eqb-true, false≢true, leb-true, or_cases}
use Rattle.std.specs.List.{list_all}
use Rattle.std.specs.Prelude.{◌&&◌, ◌||◌, ◌==◌, nat_le, not}
use Rattle.std.proofs.lemmas.Option.{same_Some}
use Rattle.j39_id.specs.FrameLine.{IsLastWord, Spells, WordSpells, is_separator}
use Rattle.j39_id.specs.Ident.{bits}
use Rattle.j39_id.specs.declared.frame.Frame.{Frame}
use Rattle.j39_id.proofs.LineLaws.{identifier_digits, one_spelled, same_last_word}
use Rattle.j39_follow.specs.LogLines.{EndsInDirection, IsElsewhere, IsFirstWord, IsOfTime, IsReadPart, IsTime, IsTimeText, NamesInterface, moment_of}
use Rattle.j39_follow.proofs.Lines.Splitting.{one_split}
use Rattle.j39_follow.proofs.OneText.{one_part, one_time}
use Rattle.j39_network.specs.declared.plan.Plan.{Plan}
use Rattle.j39_network.specs.declared.plan.timing.Timing.{Timing}
use Rattle.j39_audit.specs.Breaks.{clock_time, line_time}

-- ---- a time as it is written

-- what the proofs ask of one
pub record IsWrittenTime (text : List ℕ) (time : ℕ) : Type 0 where
  pub is_time : IsTime text
  pub some : 0 < length text
  pub whole : All (λ c. is_separator c ≡ false) text
  pub parted : is_separator (slice_index (text ++ 32 ∷ []) (length (text ++ 32 ∷ []) - 1)) ≡ true
  pub moment : moment_of text ≡ Some time
  pub few : clock_time (Some time) ≡ Some time

-- ---- a line

module _ (text : List ℕ) (time : ℕ) (is : IsWrittenTime text time) (frame : Frame) (word : List ℕ)
    (spells : WordSpells word (bits frame.ident) frame.payload.items)
    (some : 0 < length word) (whole : All (λ c. is_separator c ≡ false) word) where
  abbrev front : List ℕ
  front = text ++ 32 ∷ []

  abbrev pub timed_line : List ℕ
  timed_line = front ++ (word ++ [])

  abbrev last : IsLastWord timed_line word
  last = record {
    front = front;
    back = [];
    row = refl;
    some = some;
    whole = whole;
    parted = λ _. is.parted;
    blank = λ k d below. absurd (omega arith);
  }

  pub spelled : Spells timed_line frame
  spelled = (word, last, spells)

  -- ---- its time

  row_of : timed_line ≡ [] ++ (text ++ (32 ∷ (word ++ [])))
  row_of = append_assoc text (32 ∷ []) (word ++ [])

  first_word : IsFirstWord timed_line text
  first_word = record {
    front = [];
    back = 32 ∷ (word ++ []);
    row = row_of;
    some = is.some;
    whole = is.whole;
    blank = λ k d below. absurd (omega arith);
    parted = λ _. refl;
  }

  pub time_text : IsTimeText timed_line text
  time_text = inl (first_word, is.is_time)

  pub only_time : (other : List ℕ) → IsTimeText timed_line other → other ≡ text
  only_time other its = one_time timed_line other text its time_text

  -- ---- it has no direction, and no interface

  -- the word has nine letters or more
  long_word : 9 ≤ length word
  long_word =
      let eight = (identifier_digits spells.digits (bits frame.ident) spells.identifier).0 in
      let parts : length word ≡ length spells.digits + length (35 ∷ spells.rest) = ap length spells.parts ∙ length-append spells.digits (35 ∷ spells.rest) in
      omega (arith, eight, parts)

  no_direction : (before : List ℕ) → EndsInDirection timed_line before → ⊥
  no_direction before ends =
      let same : word ≡ ends.word = same_last_word timed_line word ends.word last ends.last in
      elim ends.direction [
        | inl received ↦ let one : length word ≡ 1 = ap length (same ∙ received) in let long = long_word in omega (arith, one, long)
        | inr sent ↦ let one : length word ≡ 1 = ap length (same ∙ sent) in let long = long_word in omega (arith, one, long)
      ]

  pub read_part : IsReadPart timed_line timed_line
  read_part = inr (no_direction, refl)

  pub only_part : (part : List ℕ) → IsReadPart timed_line part → part ≡ timed_line
  only_part part its = one_part timed_line part timed_line its read_part

  time_last : IsLastWord front text
  time_last = record {
    front = [];
    back = 32 ∷ [];
    row = refl;
    some = is.some;
    whole = is.whole;
    parted = λ before. absurd (omega (arith, before));
    blank = separator_alone;
  }
    where
      separator_alone : All (λ c. is_separator c ≡ true) (32 ∷ [])
      separator_alone = All-cons (λ c. is_separator c ≡ true) 32 [] refl (All-nil (λ c. is_separator c ≡ true))

  pub no_interface : NamesInterface timed_line None
  no_interface interface names =
      let same : names.last.front ≡ front = (one_split timed_line names.last.front names.word front word (names.last, refl) (last, refl)).0 in
      let before : IsLastWord front interface = subst (λ (f : List ℕ). IsLastWord f interface) same names.before in
      names.other (subst IsTime (same_last_word front text interface time_last before) is.is_time)

  -- ---- it is read so

  pub only_frame : (part : List ℕ) (f : Frame) → IsReadPart timed_line part → Spells part f → f ≡ frame
  only_frame part f its spells_f =
      one_spelled timed_line f frame (subst (λ (l : List ℕ). Spells l f) (only_part part its) spells_f) spelled

-- a line that names no interface isn't elsewhere
pub not_elsewhere : (log : Option (List ℕ)) (part : List ℕ) → IsElsewhere log part None → ⊥
not_elsewhere None part is = is
not_elsewhere (Some log) part is = is

-- ---- the number that a time is

pub line_time_is : (plan : Plan) (timing : Timing) (text : List ℕ) (time : ℕ) → plan.timing ≡ Some timing → IsWrittenTime text time
    → line_time plan text ≡ Some time
line_time_is plan timing text time timed is =
    ap (λ (o : Option Timing). if is_none o then None else clock_time (moment_of text)) timed ∙ (ap clock_time is.moment ∙ is.few)

pub only_line_time : (plan : Plan) (timing : Timing) (text : List ℕ) (time other : ℕ) → plan.timing ≡ Some timing → IsWrittenTime text time
    → line_time plan text ≡ Some other → other ≡ time
only_line_time plan timing text time other timed is at = same_Some other time (sym at ∙ line_time_is plan timing text time timed is)

-- ---- the times of two lines

abbrev pub second_text : List ℕ
second_text = codes "(1.000000)"

abbrev pub later_text : List ℕ
later_text = codes "(1.990000)"

is_time_letter : ℕ → Bool
is_time_letter c = (nat_le 48 c && nat_le c 57) || c == 46

time_letter : (c : ℕ) → is_time_letter c ≡ true → IsOfTime c
unfolding is_time_letter
time_letter c is = elim (or_cases (nat_le 48 c && nat_le c 57) (c == 46) is) [
  | inl digit ↦ let parts = and_parts (nat_le 48 c) (nat_le c 57) digit in inl (leb-true 48 c parts.0, leb-true c 57 parts.1)
  | inr point ↦ inr (eqb-true c 46 point)
]

isnt : (b : Bool) → not b ≡ true → b ≡ false
isnt true is = absurd (false≢true is)
isnt false is = refl

-- what its tests say of a time
written : (digits : List ℕ) (time : ℕ) → list_all is_time_letter digits ≡ true → 1 ≤ length digits → length digits ≤ 30
    → list_all (λ c. not (is_separator c)) (40 ∷ (digits ++ 41 ∷ [])) ≡ true
    → is_separator (slice_index ((40 ∷ (digits ++ 41 ∷ [])) ++ 32 ∷ []) (length ((40 ∷ (digits ++ 41 ∷ [])) ++ 32 ∷ []) - 1)) ≡ true
    → moment_of (40 ∷ (digits ++ 41 ∷ [])) ≡ Some time → clock_time (Some time) ≡ Some time → IsWrittenTime (40 ∷ (digits ++ 41 ∷ [])) time
written digits time letters some room plain parted moment few = record {
  is_time = record {
    digits = digits;
    row = refl;
    some = some;
    room = room;
    sort = All-weaker (λ c. is_time_letter c ≡ true) IsOfTime time_letter digits (AllPass-from_list_all is_time_letter digits letters);
  };
  some = omega arith;
  whole = All-weaker (λ c. not (is_separator c) ≡ true) (λ c. is_separator c ≡ false) (λ c is. isnt (is_separator c) is) (40 ∷ (digits ++ 41 ∷ []))
      (AllPass-from_list_all (λ c. not (is_separator c)) (40 ∷ (digits ++ 41 ∷ [])) plain);
  parted = parted;
  moment = moment;
  few = few;
}

pub second_written : IsWrittenTime second_text 1000000
unfolding moment_of is_time_letter
second_written = written (codes "1.000000") 1000000 refl (omega arith) (omega arith) refl refl refl refl

pub later_written : IsWrittenTime later_text 1990000
unfolding moment_of is_time_letter
later_written = written (codes "1.990000") 1990000 refl (omega arith) (omega arith) refl refl refl refl
